-- Where no two statements differ, what a store takes, and what its logs have, are the lines of the script.
use Rattle.std.proofs.Common.{◌≡◌, ℕ, ◌+◌, ◌-◌, ◌≤◌, ◌==◌, Bool, true, false, if◌then◌else◌, List, [], ◌∷◌, ◌++◌, map, Option, Some, None, refl, ap, sym, ◌∙◌, arith, ◌⊎◌, subst, inl, inr, append_assoc}
use Rattle.std.specs.List.{find, flat_map}
use Rattle.std.proofs.lemmas.Bool.{and_from, eq-eqb}
use Rattle.rs_entry.specs.Entries.{entry_of}
use Rattle.rs_entry.specs.declared.entry.Body.{Body}
use Rattle.rs_entry.specs.declared.entry.Body.TheVariants as body
use Rattle.rs_entry.specs.declared.entry.Carried.{Carried}
use Rattle.rs_entry.specs.declared.entry.Entry.{Entry}
use Rattle.rs_entry.specs.declared.input.Log.{Log}
use Rattle.rs_entry.specs.declared.input.Store.{Store}
use Rattle.rs_entry.specs.declared.input.Input.{Input}
use Rattle.rs_entry.specs.WellFormed.{WellFormed}
use Rattle.rs_entry.specs.declared.law_fault.Statement.{Statement}
use Rattle.rs_entry.specs.declared.law_fault.Statement.TheVariants as said
use Rattle.rs_store.specs.Stores.{Applied, ids_of, next, own, own_next}
use Rattle.rs_store.specs.declared.regions.Made.{Made}
use Rattle.rs_part.specs.Counting.{IsAmong}
use Rattle.rs_part.proofs.Known.{Brought, brought, next_cases, own_among}
use Rattle.rs_part.proofs.Members.{among_right, among_map, among_flat, among_get}
use Rattle.rs_check.specs.Statements.{Stated, stated, store_stated, log_stated, entry_stated, carried_stated, of_boot, of_carried, is_about, differ_from, first_differ, same_statements}
use Rattle.rs_check.specs.Scripts.{script_of, line_by, entry_said}
use Rattle.rs_check.proofs.Finding.{find_front, find_behind, both_none}
use Rattle.rs_check.proofs.SameEntries.{entries_are, carried_are}
use Rattle.rs_check.proofs.WholeStores.{numbered}

-- ---- the first statement about the same

-- the two statements are one, or the test finds them the same
abbrev pub Same : Statement → Statement → Type 0
Same a b = (a ≡ b) ⊎ (same_statements a b ≡ true)

abbrev differ_by : Bool → Stated → Stated → Option (Stated × Stated)
differ_by b t s = if b then None else Some (t, s)

about_itself : (s : Stated) → is_about s.region s.index s ≡ true
about_itself s = and_from (s.region == s.region) (s.index == s.index) (eq-eqb s.region s.region refl) (eq-eqb s.index s.index refl)

-- where no statement differs, the first about the same says the same
pub first_said : (xs before : List Stated) → first_differ before xs ≡ None → (s : Stated) → IsAmong s xs
    → (t : Stated) × (find (is_about s.region s.index) (before ++ xs) ≡ Some t) × Same t.what s.what
first_said [] before h s i = absurd i
first_said (x ∷ xs) before h s (inr i) =
    let parts = both_none (differ_from (find (is_about x.region x.index) before) x) (first_differ (before ++ x ∷ []) xs) h in
    let w = first_said xs (before ++ x ∷ []) parts.1 s i in
    (w.0, ap (find (is_about s.region s.index)) (sym (append_assoc before (x ∷ []) xs)) ∙ w.1, w.2)
first_said (x ∷ xs) before h s (inl i) = go (find (is_about s.region s.index) before) refl where
  fine : differ_from (find (is_about x.region x.index) before) x ≡ None
  fine = (both_none (differ_from (find (is_about x.region x.index) before) x) (first_differ (before ++ x ∷ []) xs) h).0

  here : find (is_about s.region s.index) (x ∷ xs) ≡ Some x
  here = rw (subst (λ (z : Stated). is_about s.region s.index z ≡ true) i (about_itself s)) refl

  same : (t : Stated) (b : Bool) → same_statements t.what x.what ≡ b → differ_by b t x ≡ None → same_statements t.what s.what ≡ true
  same t true b k = ap (λ (z : Stated). same_statements t.what z.what) i ∙ b
  same t false b k = absurd cc

  go : (o : Option Stated) → find (is_about s.region s.index) before ≡ o → (t : Stated) × (find (is_about s.region s.index) (before ++ x ∷ xs) ≡ Some t) × Same t.what s.what
  go None o = (x, find_behind (is_about s.region s.index) before (x ∷ xs) o ∙ here, inl (ap (λ (z : Stated). z.what) (sym i)))
  go (Some t) o =
      let k : differ_from (Some t) x ≡ None = subst (λ (z : Option Stated). differ_from z x ≡ None) (ap (λ (z : Stated). find (is_about z.region z.index) before) (sym i) ∙ o) fine in
      (t, find_front (is_about s.region s.index) before (x ∷ xs) t o, inr (same t (same_statements t.what x.what) refl k))

same_entry : (a b : Statement) (e : Entry) → Same a b → entry_said b ≡ Some e → entry_said a ≡ Some e
same_entry a b e (inl h) k = ap entry_said h ∙ k
same_entry (said.Entry a) (said.Entry b) e (inr h) k = ap Some (entries_are a b h) ∙ k
same_entry (said.Entry a) (said.Carried b) e (inr h) k = ap Some (sym (entries_are (entry_of b) a h)) ∙ k
same_entry (said.Carried a) (said.Entry b) e (inr h) k = ap Some (entries_are (entry_of a) b h) ∙ k
same_entry (said.Carried a) (said.Carried b) e (inr h) k = ap (λ (z : Carried). Some (entry_of z)) (carried_are a b h) ∙ k
same_entry (said.Boot a) (said.Boot b) e (inr h) k = absurd cc
same_entry (said.Boot a) (said.Entry b) e (inr h) k = absurd cc
same_entry (said.Boot a) (said.Carried b) e (inr h) k = absurd cc
same_entry (said.Entry a) (said.Boot b) e (inr h) k = absurd cc
same_entry (said.Carried a) (said.Boot b) e (inr h) k = absurd cc

-- the entry of a statement is the script's line about the same
said_line : (input : Input) → first_differ [] (stated input) ≡ None → (s : Stated) (e : Entry) → IsAmong s (stated input) → entry_said s.what ≡ Some e
    → (script_of input).line s.region s.index ≡ Some e
said_line input fine s e i k =
    let w = first_said (stated input) [] fine s i in
    ap line_by w.1 ∙ same_entry w.0.what s.what e w.2 k

-- ---- what a store states

abbrev of_entry : ℕ → ℕ → Entry → Stated
of_entry store region e = record { store = store; region = region; index = e.index; what = said.Entry e }

log_said : (store : Store) (log : Log) (y : Entry) (s : Stated) → IsAmong log store.logs → IsAmong y log.entries → IsAmong s (entry_stated store.id log.region y) → IsAmong s (store_stated store)
log_said store log y s a b i =
    among_right s (map (of_boot store.id) store.regions) (flat_map (log_stated store.id) store.logs)
    (among_flat (log_stated store.id) s log store.logs (among_flat (entry_stated store.id log.region) s y log.entries i b) a)

entry_among : (store : Store) (log : Log) (e : Entry) → IsAmong log store.logs → IsAmong e log.entries → IsAmong (of_entry store.id log.region e) (store_stated store)
entry_among store log e a b = log_said store log e (of_entry store.id log.region e) a b (inl refl)

carried_among : (store : Store) (log : Log) (y : Entry) (q c : ℕ) (l : List Carried) (x : Carried) → IsAmong log store.logs → IsAmong y log.entries → y.body ≡ body.Commit q c l → IsAmong x l
    → IsAmong (of_carried store.id q x) (store_stated store)
carried_among store log y q c l x a b is i =
    log_said store log y (of_carried store.id q x) a b
    (inr (subst (λ (z : Body). IsAmong (of_carried store.id q x) (carried_stated store.id z)) (sym is) (among_map (of_carried store.id q) x l i)))

-- ---- what a store takes

module _ (input : Input) (well : WellFormed input) (store : Store) (among : IsAmong store input.stores) (fine : first_differ [] (stated input) ≡ None) where
  stated_in : (s : Stated) → IsAmong s (store_stated store) → IsAmong s (stated input)
  stated_in s a = among_flat store_stated s store input.stores a among

  -- the store's own next entry
  pub own_told : (id i : ℕ) (e : Entry) → 5 ≤ i → own_next (own store id) i ≡ Some e → (script_of input).line id (i + 1) ≡ Some e
  own_told id i e five h =
      let w = own_among store.logs id i e h in
      let at : e.index ≡ i + 1 = (let n : e.index ≡ (i - 5) + 6 = numbered input well store among id (i - 5) e h in omega arith) in
      ap (λ z. (script_of input).line z (i + 1)) (sym w.2)
      ∙ (ap (λ z. (script_of input).line w.0.region z) (sym at)
      ∙ said_line input fine (of_entry store.id w.0.region e) e (stated_in (of_entry store.id w.0.region e) (entry_among store w.0 e w.1 (among_get w.0.entries (i - 5) e w.3))) refl)

  -- an entry that a commit of the store's logs carries
  pub carried_told : (log : Log) (y : Entry) (q c : ℕ) (l : List Carried) (x : Carried) → IsAmong log store.logs → IsAmong y log.entries → y.body ≡ body.Commit q c l → IsAmong x l
      → (script_of input).line q x.index ≡ Some (entry_of x)
  carried_told log y q c l x a b is i =
      said_line input fine (of_carried store.id q x) (entry_of x) (stated_in (of_carried store.id q x) (carried_among store log y q c l x a b is i)) refl

  -- an entry that the own entry of another region carries
  brought_told : (id index : ℕ) (e : Entry) → Brought store id index e → (script_of input).line id index ≡ Some e
  brought_told id index e b =
      let w = own_among store.logs b.target b.place b.by b.stood in
      let y : IsAmong b.by w.0.entries = among_get w.0.entries (b.place - 5) b.by w.3 in
      ap (λ z. (script_of input).line z index) (sym b.source)
      ∙ (ap (λ z. (script_of input).line b.merge.source z) (sym b.at)
      ∙ (carried_told w.0 b.by b.merge.source b.merge.commit b.merge.carried b.carried w.1 y b.body b.among ∙ ap Some b.same))

  -- a store's next entry is the script's
  pub next_told : (g : Applied) (id : ℕ) (r : Made) (e : Entry) → 5 ≤ r.applied → next store g id r ≡ Some e → (script_of input).line id (r.applied + 1) ≡ Some e
  next_told g id r e five h =
      elim (next_cases store g id r e h) [
        | inl o ↦ own_told id r.applied e five o
        | inr c ↦ brought_told id (r.applied + 1) e (brought store g id (r.applied + 1) e (ids_of store) c)
      ]
