-- The two stores tell one story: no statement differs from an earlier one, and no split reuses an id.
use Rattle.std.proofs.Common.{◌≡◌, ◌∙◌, refl, sym, ap, subst, ℕ, zero, suc, ◌+◌, ◌-◌, ◌*◌, ◌<◌, ◌≤◌, ◌==◌, arith, true, false, cond, ◌&&◌, ◌||◌, not, List, [], ◌∷◌, ◌++◌, map, take, ◌⊎◌, inl, inr}
use Rattle.std.specs.Prelude.{None, Option, Some, slice_get}
use Rattle.std.specs.List.{AllByRecursion, find, flat_map, list_any}
use Rattle.std.specs.Option.{option_map}
use Rattle.std.proofs.lemmas.Bool.{and_from, and_left, and_parts, and_right, cases_eq, eq-eqb, eqb-true, ne_eqb, or_from}
use Rattle.std.proofs.lemmas.Option.{slice_get-map}
use Rattle.rs_entry.specs.declared.entry.Carried.{Carried}
use Rattle.rs_entry.specs.declared.entry.Entry.{Entry}
use Rattle.rs_entry.specs.declared.input.Log.{Log}
use Rattle.rs_entry.specs.declared.law_fault.Statement.{Statement}
use Rattle.rs_entry.specs.declared.law_fault.Statement.TheVariants as said
use Rattle.rs_entry.specs.Entries.{entry_of}
use Rattle.rs_entry.specs.Equality.{same_carried, same_entries}
use Rattle.rs_store.specs.Stores.{first_some}
use Rattle.rs_part.proofs.Members.{among_all, among_find}
use Rattle.rs_check.specs.Laws.{Named, differ_fault, differ_law, first_reused, ids_said, is_id, is_named, is_reused, names_in, naming, overlap_law, reused_at, reused_id, reused_in, reused_law}
use Rattle.rs_check.specs.Statements.{Stated, differ_from, entry_stated, first_differ, is_about, log_stated, of_boot, of_carried, same_statements, stated, store_stated}
use Rattle.rs_gen.specs.declared.kept.Kept.{Kept}
use Rattle.rs_gen.specs.declared.kept.Kept.TheVariants as shares
use Rattle.rs_gen.specs.Rounds.{child, child_entries, main_entries}
use Rattle.rs_gen.specs.Inputs.{child_log, kept, made_of, main_log, rounds_of, store_of, whole}
use Rattle.rs_gen.proofs.Lists.{all_append, all_flat, all_rounds, all_take}
use Rattle.rs_gen.proofs.SameSelf.{carried_self, entry_self}
use Rattle.rs_gen.proofs.StoreParts.{main_entry, pieces}

-- ---- what is told

-- the entry of a region at an index: region 1's, or one of the region that round t splits off
data Line (n region index : ℕ) (e : Entry) : Type 0 where
  Main : region ≡ 1 → slice_get (main_log n).entries (index - 6) ≡ Some e → Line n region index e
  Child : (t : ℕ) → region ≡ child t → slice_get (map entry_of (child_entries n t)) (index - 6) ≡ Some e → Line n region index e

-- each statement says what is told, at an index from 6 on; a bootstrap region is region 1
abbrev Says : ℕ → ℕ → ℕ → Statement → Type 0
Says n region index (said.Boot b) = (index ≡ 0) × (b ≡ whole)
Says n region index (said.Entry e) = (6 ≤ index) × Line n region index e
Says n region index (said.Carried c) = (6 ≤ index) × ((t : ℕ) × (region ≡ child t) × (slice_get (child_entries n t) (index - 6) ≡ Some c))

-- a split names the round's region, at its own place
abbrev Splits : ℕ → ℕ → List ℕ → Type 0
Splits region index ids = (ids ≡ []) ⊎ ((t : ℕ) × (ids ≡ child t ∷ []) × (region ≡ 1) × (index ≡ 7 + 4 * t))

record Fits (n : ℕ) (s : Stated) : Type 0 where
  says : Says n s.region s.index s.what
  splits : Splits s.region s.index (ids_said s.what)

-- ---- each statement fits

module _ (n id : ℕ) where
  main_line : (t j i : ℕ) (e : Entry) → t < rounds_of n → j < 4 → i ≡ 6 + 4 * t + j → slice_get (main_entries n t) j ≡ Some e → Line n 1 i e
  main_line t j i e here below at is = Main refl (let place : i - 6 ≡ 4 * t + j = omega arith in ap (slice_get (main_log n).entries) place ∙ (main_entry n t j here below ∙ is))

  abbrev EntryFits : ℕ → Entry → Type 0
  EntryFits region e = AllByRecursion (Fits n) (entry_stated id region e)

  abbrev LogFits : Log → Type 0
  LogFits log = AllByRecursion (Fits n) (log_stated id log)

  carried_fit : (t : ℕ) → AllByRecursion (Fits n) (map (of_carried id (child t)) (child_entries n t))
  carried_fit t = (
    record { says = (omega arith, (t, refl, refl)); splits = inl refl },
    (
      record { says = (omega arith, (t, refl, refl)); splits = inl refl },
      (record { says = (omega arith, (t, refl, refl)); splits = inl refl }, tt),
    ),
  )

  main_fits : (t : ℕ) → t < rounds_of n → AllByRecursion (EntryFits 1) (main_entries n t)
  main_fits t here = (
    (record { says = (omega arith, main_line t 0 (6 + 4 * t) _ here (omega arith) (omega arith) refl); splits = inl refl }, tt),
    (
      (record { says = (omega arith, main_line t 1 (7 + 4 * t) _ here (omega arith) (omega arith) refl); splits = inr (t, refl, refl, refl) }, tt),
      (
        (record { says = (omega arith, main_line t 2 (8 + 4 * t) _ here (omega arith) (omega arith) refl); splits = inl refl }, tt),
        ((record { says = (omega arith, main_line t 3 (9 + 4 * t) _ here (omega arith) (omega arith) refl); splits = inl refl }, carried_fit t), tt),
      ),
    ),
  )

  child_fits : (t : ℕ) → AllByRecursion (EntryFits (child t)) (map entry_of (child_entries n t))
  child_fits t = (
    (record { says = (omega arith, Child t refl refl); splits = inl refl }, tt),
    (
      (record { says = (omega arith, Child t refl refl); splits = inl refl }, tt),
      ((record { says = (omega arith, Child t refl refl); splits = inl refl }, tt), tt),
    ),
  )

  piece_fits : (t k : ℕ) → AllByRecursion LogFits (child_log n t k)
  piece_fits t zero = tt
  piece_fits t (suc k) = (
    all_flat (EntryFits (child t)) (Fits n) (entry_stated id (child t)) (λ x p. p) (take (suc k) (map entry_of (child_entries n t)))
        (all_take (EntryFits (child t)) (suc k) (map entry_of (child_entries n t)) (child_fits t)),
    tt,
  )

  store_fits : (share : Kept) → AllByRecursion (Fits n) (store_stated (store_of n id share))
  store_fits share =
      all_append (Fits n) (map (of_boot id) (whole ∷ [])) (flat_map (log_stated id) (store_of n id share).logs)
      (record { says = (refl, refl); splits = inl refl }, tt)
      (all_flat LogFits (Fits n) (log_stated id) (λ x p. p) (store_of n id share).logs (
        all_flat (EntryFits 1) (Fits n) (entry_stated id 1) (λ x p. p) (main_log n).entries (all_rounds (EntryFits 1) (main_entries n) 0 (rounds_of n) (λ t h. main_fits t (omega arith))),
        all_rounds LogFits (pieces n share) 0 (rounds_of n) (λ t h. piece_fits t (kept share n t)),
      ))

all_fit : (n : ℕ) → AllByRecursion (Fits n) (stated (made_of n))
all_fit n =
    all_append (Fits n) (store_stated (store_of n 1 shares.All)) (store_stated (store_of n 2 shares.Few) ++ []) (store_fits n 1 shares.All)
    (all_append (Fits n) (store_stated (store_of n 2 shares.Few)) [] (store_fits n 2 shares.Few) tt)

-- ---- no two statements differ

one_line : (n region index : ℕ) (e f : Entry) → Line n region index e → Line n region index f → e ≡ f
one_line n region index e f (Main p a) (Main q b) = cc (sym a ∙ b)
one_line n region index e f (Main p a) (Child t q b) = absurd (omega arith)
one_line n region index e f (Child t p a) (Main q b) = absurd (omega arith)
one_line n region index e f (Child t p a) (Child u q b) = (let same : t ≡ u = omega arith in cc (sym a ∙ (ap (λ v. slice_get (map entry_of (child_entries n v)) (index - 6)) same ∙ b)))

carried_line : (n region index t : ℕ) (c : Carried) → region ≡ child t → slice_get (child_entries n t) (index - 6) ≡ Some c → Line n region index (entry_of c)
carried_line n region index t c of is = Child t of (slice_get-map entry_of (child_entries n t) (index - 6) ∙ ap (option_map entry_of) is)

same_said : (n region index : ℕ) (a b : Statement) → Says n region index a → Says n region index b → same_statements a b ≡ true
same_said n region index (said.Boot a) (said.Boot b) p q = ap (λ z. same_statements (said.Boot z) (said.Boot b)) p.1 ∙ ap (λ z. same_statements (said.Boot whole) (said.Boot z)) q.1
same_said n region index (said.Boot a) (said.Entry b) p q = absurd (let x : index ≡ 0 = p.0 in let y : 6 ≤ index = q.0 in omega arith)
same_said n region index (said.Boot a) (said.Carried b) p q = absurd (let x : index ≡ 0 = p.0 in let y : 6 ≤ index = q.0 in omega arith)
same_said n region index (said.Entry a) (said.Boot b) p q = absurd (let x : index ≡ 0 = q.0 in let y : 6 ≤ index = p.0 in omega arith)
same_said n region index (said.Carried a) (said.Boot b) p q = absurd (let x : index ≡ 0 = q.0 in let y : 6 ≤ index = p.0 in omega arith)
same_said n region index (said.Entry a) (said.Entry b) p q = ap (same_entries a) (sym (one_line n region index a b p.1 q.1)) ∙ entry_self a
same_said n region index (said.Entry a) (said.Carried b) p q =
    ap (λ z. same_entries z a) (one_line n region index (entry_of b) a (carried_line n region index q.1.0 b q.1.1 q.1.2) p.1) ∙ entry_self a
same_said n region index (said.Carried a) (said.Entry b) p q =
    ap (λ z. same_entries z b) (one_line n region index (entry_of a) b (carried_line n region index p.1.0 a p.1.1 p.1.2) q.1) ∙ entry_self b
same_said n region index (said.Carried a) (said.Carried b) p q =
    let x : region ≡ child p.1.0 = p.1.1 in
    let y : region ≡ child q.1.0 = q.1.1 in
    let same : p.1.0 ≡ q.1.0 = omega arith in
    let one : a ≡ b = cc (sym p.1.2 ∙ (ap (λ v. slice_get (child_entries n v) (index - 6)) same ∙ q.1.2)) in
    ap (same_carried a) (sym one) ∙ carried_self a

no_differ : (n : ℕ) (before rest : List Stated) → AllByRecursion (Fits n) before → AllByRecursion (Fits n) rest → first_differ before rest ≡ None
no_differ n before [] a b = refl
no_differ n before (s ∷ rest) a b =
    ap (λ o. first_some o (first_differ (before ++ s ∷ []) rest)) (go (find (is_about s.region s.index) before) refl)
    ∙ no_differ n (before ++ s ∷ []) rest (all_append (Fits n) before (s ∷ []) a (b.0, tt)) b.1
  where
    go : (o : Option Stated) → find (is_about s.region s.index) before ≡ o → differ_from (find (is_about s.region s.index) before) s ≡ None
    go None e = ap (λ o. differ_from o s) e
    go (Some t) e =
        let w = among_find (is_about s.region s.index) before t e in
        let p = and_parts (t.region == s.region) (t.index == s.index) w.1 in
        let fits : Fits n t = among_all (Fits n) t before a w.0 in
        let one : Says n s.region t.index t.what = subst (λ r. Says n r t.index t.what) (eqb-true t.region s.region p.0) fits.says in
        let two : Says n s.region s.index t.what = subst (λ i. Says n s.region i t.what) (eqb-true t.index s.index p.1) one in
        ap (λ o. differ_from o s) e ∙ ap (λ z. cond z None (Some (t, s))) (same_said n s.region s.index t.what s.what two b.0.says)

-- ---- no split reuses an id

abbrev NamedSo : Named → Type 0
NamedSo x = (t : ℕ) × (x ≡ record { id = child t; region = 1; index = 7 + 4 * t })

other_name : (t region index : ℕ) (x : Named) → region ≡ 1 → index ≡ 7 + 4 * t → NamedSo x → is_named (child t) region index x ≡ false
other_name t region index x r i so = ap (is_named (child t) region index) so.1 ∙ elim (cases_eq so.0 t) [
  | inl same ↦ and_right (child so.0 == child t) (not ((1 == region) && (7 + 4 * so.0 == index))) (ap not (and_from (1 == region) (7 + 4 * so.0 == index) (eq-eqb 1 region (sym r)) (eq-eqb (7 + 4 * so.0) index (omega (arith, same, i)))))
  | inr ne ↦ and_left (child so.0 == child t) (not ((1 == region) && (7 + 4 * so.0 == index))) (ne_eqb (child so.0) (child t) (λ e. ne (omega (arith, e))))
]

no_name : (t region index : ℕ) → region ≡ 1 → index ≡ 7 + 4 * t → (named : List Named) → AllByRecursion NamedSo named → list_any (is_named (child t) region index) named ≡ false
no_name t region index r i [] all = refl
no_name t region index r i (x ∷ xs) all = or_from (is_named (child t) region index x) (list_any (is_named (child t) region index) xs) (other_name t region index x r i all.0) (no_name t region index r i xs all.1)

abbrev boot_ids : List ℕ
boot_ids = 1 ∷ 1 ∷ []

module _ (s : Stated) (named : List Named) (all : AllByRecursion NamedSo named) where
  fresh : (t : ℕ) → s.region ≡ 1 → s.index ≡ 7 + 4 * t → is_reused boot_ids named s.region s.index [] (child t) ≡ false
  fresh t r i = or_from (list_any (is_id (child t)) boot_ids) (list_any (is_id (child t)) [] || list_any (is_named (child t) s.region s.index) named)
      (ap (λ b. b || (b || false)) (ne_eqb 1 (child t) (λ e. omega arith)))
      (no_name t s.region s.index r i named all)

  none_reused : Splits s.region s.index (ids_said s.what) → reused_in boot_ids named s ≡ None
  none_reused (inl e) = ap (λ ids. reused_at s (reused_id boot_ids named s.region s.index [] ids)) e
  none_reused (inr w) =
      ap (λ ids. reused_at s (reused_id boot_ids named s.region s.index [] ids)) w.1
      ∙ ap (λ b. reused_at s (cond b (Some (child w.0)) None)) (fresh w.0 w.2 w.3)

names_so : (s : Stated) → Splits s.region s.index (ids_said s.what) → AllByRecursion NamedSo (names_in s)
names_so s (inl e) = subst (λ ids. AllByRecursion NamedSo (map (naming s.region s.index) ids)) (sym e) tt
names_so s (inr w) =
    subst (λ ids. AllByRecursion NamedSo (map (naming s.region s.index) ids)) (sym w.1)
    ((w.0, ap (λ r. record { id = child w.0; region = r; index = s.index }) w.2 ∙ ap (λ i. record { id = child w.0; region = 1; index = i }) w.3), tt)

no_reuse : (n : ℕ) (named : List Named) (rest : List Stated) → AllByRecursion NamedSo named → AllByRecursion (Fits n) rest → first_reused boot_ids named rest ≡ None
no_reuse n named [] a b = refl
no_reuse n named (s ∷ rest) a b =
    ap (λ o. first_some o (first_reused boot_ids (named ++ names_in s) rest)) (none_reused s named a b.0.splits)
    ∙ no_reuse n (named ++ names_in s) rest (all_append NamedSo named (names_in s) a (names_so s b.0.splits)) b.1

-- ---- the laws

pub none_differs : (n : ℕ) → differ_law (made_of n) ≡ None
none_differs n = ap (option_map differ_fault) (no_differ n [] (stated (made_of n)) tt (all_fit n))

pub none_overlaps : (n : ℕ) → overlap_law (made_of n) ≡ None
none_overlaps n = refl

pub none_is_reused : (n : ℕ) → reused_law (made_of n) ≡ None
none_is_reused n = no_reuse n [] (stated (made_of n)) tt (all_fit n)
