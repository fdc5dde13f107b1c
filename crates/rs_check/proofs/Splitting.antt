-- Where no id is used again, the script has each split's new regions as split off by it.
use Rattle.std.proofs.Common.{◌≡◌, ℕ, ◌==◌, true, false, ◌||◌, List, [], ◌∷◌, map, Option, Some, None, refl, ap, sym, ◌∙◌, subst, ◌⊎◌, inl, inr}
use Rattle.std.specs.List.{find, flat_map, list_any}
use Rattle.std.proofs.lemmas.Bool.{and_parts, or_right, eqb-true, eq-eqb}
use Rattle.rs_entry.specs.Entries.{body_of, entry_of}
use Rattle.rs_entry.specs.declared.entry.Body.{Body}
use Rattle.rs_entry.specs.declared.entry.Body.TheVariants as body
use Rattle.rs_entry.specs.declared.entry.CarriedBody.{CarriedBody}
use Rattle.rs_entry.specs.declared.entry.CarriedBody.TheVariants as carried
use Rattle.rs_entry.specs.declared.entry.Entry.{Entry}
use Rattle.rs_entry.specs.declared.entry.Side.{Side}
use Rattle.rs_entry.specs.declared.input.Boot.{Boot}
use Rattle.rs_entry.specs.declared.input.Log.{Log}
use Rattle.rs_entry.specs.declared.input.Store.{Store}
use Rattle.rs_entry.specs.declared.input.Input.{Input}
use Rattle.rs_entry.specs.declared.law_fault.Statement.{Statement}
use Rattle.rs_entry.specs.declared.law_fault.Statement.TheVariants as said
use Rattle.rs_entry.specs.WellFormed.{WellFormed}
use Rattle.rs_store.specs.Stores.{ids_in}
use Rattle.rs_part.specs.Counting.{IsAmong}
use Rattle.rs_part.specs.Ranges.{EachOther}
use Rattle.rs_part.specs.Scripts.{SplitOff}
use Rattle.rs_part.specs.Telling.{Tells}
use Rattle.rs_part.proofs.Members.{among_find}
use Rattle.rs_check.specs.Laws.{boots, is_id, ids_said, reused_law}
use Rattle.rs_check.specs.Statements.{Stated, stated, is_about, first_differ, store_stated, log_stated, entry_stated, carried_stated, of_boot, of_carried}
use Rattle.rs_check.specs.Scripts.{script_of, line_by, entry_said, names, birth_by, split_birth}
use Rattle.rs_check.proofs.Finding.{all_in, from_append, from_map, from_flat, or_none}
use Rattle.rs_check.proofs.SplitIds.{split_differs, not_boot, first_names}
use Rattle.rs_check.proofs.Telling.{next_told}
use Rattle.rs_check.proofs.WholeStores.{split_even}

abbrev boot_ids : Input → List ℕ
boot_ids input = map (λ b. b.region) (boots input)

any_in : (x : ℕ) (xs : List ℕ) → IsAmong x xs → list_any (is_id x) xs ≡ true
any_in x [] h = absurd h
any_in x (y ∷ xs) (inl h) = ap (λ z. z || list_any (is_id x) xs) (eq-eqb y x (sym h))
any_in x (y ∷ xs) (inr h) = or_right (y == x) (list_any (is_id x) xs) (any_in x xs h)

no_boot : (id : ℕ) (bs : List Boot) → list_any (is_id id) (map (λ b. b.region) bs) ≡ false → find (λ b. b.region == id) bs ≡ None
no_boot id [] e = refl
no_boot id (b ∷ bs) e =
    let w = or_none (b.region == id) (list_any (is_id id) (map (λ (x : Boot). x.region) bs)) e in
    rw w.0 (no_boot id bs w.1)

carried_no_split : (b : CarriedBody) (side : Side) (ids : List ℕ) (keys : List (List ℕ)) → body_of b ≡ body.Split side ids keys → ⊥
carried_no_split carried.Empty side ids keys e = cc e
carried_no_split (carried.Write ops) side ids keys e = cc e
carried_no_split (carried.Prepare t) side ids keys e = cc e

-- a statement of a split is of an own entry
split_is_own : (a : Statement) (e : Entry) (side : Side) (ids : List ℕ) (keys : List (List ℕ)) → entry_said a ≡ Some e → e.body ≡ body.Split side ids keys → a ≡ said.Entry e
split_is_own (said.Boot b) e side ids keys h is = absurd cc
split_is_own (said.Entry x) e side ids keys h is = (let same : x ≡ e = cc in ap said.Entry same)
split_is_own (said.Carried c) e side ids keys h is =
    let same : entry_of c ≡ e = cc in
    absurd (carried_no_split c.body side ids keys (ap (λ (z : Entry). z.body) same ∙ is))

-- the entry of a statement stands in a log
record Stands (input : Input) (e : Entry) : Type 0 where
  pub store : Store
  pub log : Log
  pub is_store : IsAmong store input.stores
  pub is_log : IsAmong log store.logs
  pub is_entry : IsAmong e log.entries

-- what is carried is no own entry
not_carried : (s : Stated) (e : Entry) → s.what ≡ said.Entry e → (store : ℕ) (b : Body) → IsAmong s (carried_stated store b) → ⊥
not_carried s e is store (body.Commit q c l) i = let w = from_map (of_carried store q) s l i in cc (is, ap (λ (z : Stated). z.what) w.2)
not_carried s e is store body.Empty i = i
not_carried s e is store (body.Write ops) i = i
not_carried s e is store (body.Split side ids keys) i = i
not_carried s e is store (body.Prepare target) i = i
not_carried s e is store (body.Rollback commit) i = i
not_carried s e is store (body.Conf c) i = i

entry_stands : (input : Input) (store : Store) (log : Log) (y e : Entry) (s : Stated) → IsAmong store input.stores → IsAmong log store.logs → IsAmong y log.entries
    → s.what ≡ said.Entry e → IsAmong s (entry_stated store.id log.region y) → Stands input e
entry_stands input store log y e s j k m is (inl p) =
    let same : y ≡ e = cc (is, ap (λ (z : Stated). z.what) p) in
    record { store = store; log = log; is_store = j; is_log = k; is_entry = subst (λ (z : Entry). IsAmong z log.entries) same m }
entry_stands input store log y e s j k m is (inr p) = absurd (not_carried s e is store.id y.body p)

own_stands : (input : Input) (s : Stated) (e : Entry) → IsAmong s (stated input) → s.what ≡ said.Entry e → Stands input e
own_stands input s e i is =
    let a = from_flat store_stated s input.stores i in
    go a.0 a.1 (from_append s (map (of_boot a.0.id) a.0.regions) (flat_map (log_stated a.0.id) a.0.logs) a.2) where
      go : (store : Store) → IsAmong store input.stores → IsAmong s (map (of_boot store.id) store.regions) ⊎ IsAmong s (flat_map (log_stated store.id) store.logs) → Stands input e
      go store j (inl b) = let w = from_map (of_boot store.id) s store.regions b in absurd (cc (is, ap (λ (z : Stated). z.what) w.2))
      go store j (inr b) =
          let l = from_flat (log_stated store.id) s store.logs b in
          let y = from_flat (entry_stated store.id l.0.region) s l.0.entries l.2 in
          entry_stands input store l.0 y.0 e s j l.1 y.1 is y.2

-- a split of the script is stated, and stands in a log
record SplitStated (input : Input) (id index : ℕ) (e : Entry) (ids : List ℕ) : Type 0 where
  pub s : Stated
  pub among : IsAmong s (stated input)
  pub region : s.region ≡ id
  pub at : s.index ≡ index
  pub named : ids_said s.what ≡ ids
  pub stands : Stands input e

split_stated : (input : Input) (id index : ℕ) (e : Entry) (side : Side) (ids : List ℕ) (keys : List (List ℕ)) → (script_of input).line id index ≡ Some e → e.body ≡ body.Split side ids keys
    → SplitStated input id index e ids
split_stated input id index e side ids keys l is = go (find (is_about id index) (stated input)) refl l where
  go : (o : Option Stated) → find (is_about id index) (stated input) ≡ o → line_by o ≡ Some e → SplitStated input id index e ids
  go None o l = absurd cc
  go (Some s) o l =
      let w = among_find (is_about id index) (stated input) s o in
      let both = and_parts (s.region == id) (s.index == index) w.1 in
      let own : s.what ≡ said.Entry e = split_is_own s.what e side ids keys l is in
      record {
        s = s;
        among = w.0;
        region = eqb-true s.region id both.0;
        at = eqb-true s.index index both.1;
        named = ap ids_said own ∙ ap ids_in is;
        stands = own_stands input s e w.0 own;
      }

module _ (input : Input) (reused : reused_law input ≡ None) where
  -- an id of a split begins as split off by it
  child_birth : (id index : ℕ) (e : Entry) (ids : List ℕ) → SplitStated input id index e ids → (child : ℕ) → IsAmong child ids → (script_of input).birth child ≡ SplitOff id index
  child_birth id index e ids s child h =
      let named : names child s.s ≡ true = ap (list_any (is_id child)) s.named ∙ any_in child ids h in
      let t = first_names (boot_ids input) (stated input) [] reused s.s s.among child named in
      let none : find (λ b. b.region == child) (boots input) ≡ None = no_boot child (boots input) (not_boot (boot_ids input) (stated input) reused s.s s.among child named) in
      ap (λ o. birth_by o (find (names child) (stated input))) none
      ∙ (ap split_birth t.1 ∙ (ap (λ y. SplitOff y t.0.index) (t.2 ∙ s.region) ∙ ap (SplitOff id) (t.3 ∙ s.at)))

-- where no statement differs and no id is used again, the script tells each store
pub tells_of : (input : Input) → WellFormed input → first_differ [] (stated input) ≡ None → reused_law input ≡ None
    → (store : Store) → IsAmong store input.stores → Tells (script_of input) store
tells_of input well fine reused store i = record {
  says = next_told input well store i fine;
  parents = λ id index e side ids keys l is. (let s = split_stated input id index e side ids keys l is in
      all_in (λ child. (script_of input).birth child ≡ SplitOff id index) ids (child_birth input reused id index e ids s));
  distinct = λ id index e side ids keys l is. (let s = split_stated input id index e side ids keys l is in
      subst EachOther s.named (split_differs (boot_ids input) (stated input) reused s.s s.among));
  lengths = λ id index e side ids keys l is. (let s = (split_stated input id index e side ids keys l is).stands in
      split_even input well s.store s.is_store s.log s.is_log e s.is_entry side ids keys is);
}
