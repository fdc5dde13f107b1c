-- What the entries and the bootstrap regions of a well-formed input are.
use Rattle.std.proofs.Common.{◌≡◌, ℕ, zero, suc, ◌+◌, ◌<◌, ◌==◌, true, List, [], ◌∷◌, map, length, Option, Some, None, IfSome, refl, ap, sym, ◌∙◌, ◌⊎◌, inl, inr, subst, arith, slice_get}
use Rattle.std.specs.List.{find, AllByRecursion}
use Rattle.rs_key.specs.Ranges.{is_range}
use Rattle.rs_key.proofs.RangeLaws.{key_is_key}
use Rattle.rs_entry.specs.declared.entry.Body.TheVariants as body
use Rattle.rs_entry.specs.declared.entry.Entry.{Entry}
use Rattle.rs_entry.specs.declared.entry.Side.{Side}
use Rattle.rs_entry.specs.declared.input.Boot.{Boot}
use Rattle.rs_entry.specs.declared.input.Log.{Log}
use Rattle.rs_entry.specs.declared.input.Store.{Store}
use Rattle.rs_entry.specs.declared.input.Input.{Input}
use Rattle.rs_entry.specs.WellFormed.{WellFormed, Rising, IsStore, IsBoot, IsBody, IsKey, AreEntries}
use Rattle.rs_store.specs.Stores.{own, entries_of}
use Rattle.rs_part.specs.Counting.{IsAmong}
use Rattle.rs_part.specs.Ranges.{EachId}
use Rattle.rs_part.specs.Telling.{boot_states}
use Rattle.rs_part.proofs.Members.{among_find, among_all}
use Rattle.rs_check.specs.Overlaps.{IsBound}

is_store : (input : Input) → WellFormed input → (store : Store) → IsAmong store input.stores → IsStore input.version store
is_store input w store i = among_all (IsStore input.version) store input.stores w.stores i

-- ---- entries

entry_index : (version n : ℕ) (es : List Entry) → AreEntries version n es → (k : ℕ) (e : Entry) → slice_get es k ≡ Some e → e.index ≡ k + n
entry_index version n [] h k e g = absurd cc
entry_index version n (x ∷ xs) h zero e g = let same : x ≡ e = cc in ap (λ (z : Entry). z.index) (sym same) ∙ (h.0 ∙ omega arith)
entry_index version n (x ∷ xs) h (suc k) e g = entry_index version (n + 1) xs h.4 k e g ∙ omega arith

-- each log's entries have the indexes 6, 7, 8 and so on
pub numbered : (input : Input) → WellFormed input → (store : Store) → IsAmong store input.stores → (id k : ℕ) (e : Entry) → slice_get (own store id) k ≡ Some e → e.index ≡ k + 6
numbered input w store i id k e h = go (find (λ log. log.region == id) store.logs) refl h where
  go : (o : Option Log) → find (λ log. log.region == id) store.logs ≡ o → slice_get (entries_of o) k ≡ Some e → e.index ≡ k + 6
  go None o h = absurd cc
  go (Some log) o h =
      let found = among_find (λ log. log.region == id) store.logs log o in
      let entries : AreEntries input.version 6 log.entries = among_all (λ (l : Log). AreEntries input.version 6 l.entries) log store.logs (is_store input w store i).3 found.0 in
      entry_index input.version 6 log.entries entries k e h

entry_body : (version n : ℕ) (es : List Entry) → AreEntries version n es → (e : Entry) → IsAmong e es → IsBody version e.body
entry_body version n [] h e i = absurd i
entry_body version n (x ∷ xs) h e (inl same) = subst (λ (z : Entry). IsBody version z.body) (sym same) h.3
entry_body version n (x ∷ xs) h e (inr later) = entry_body version (n + 1) xs h.4 e later

-- a split of a log has as many ids as keys
pub split_even : (input : Input) → WellFormed input → (store : Store) → IsAmong store input.stores → (log : Log) → IsAmong log store.logs → (e : Entry) → IsAmong e log.entries
    → (side : Side) (ids : List ℕ) (keys : List (List ℕ)) → e.body ≡ body.Split side ids keys → length ids ≡ length keys
split_even input w store i log j e k side ids keys is =
    let entries : AreEntries input.version 6 log.entries = among_all (λ (l : Log). AreEntries input.version 6 l.entries) log store.logs (is_store input w store i).3 j in
    let formed : IsBody input.version (body.Split side ids keys) = subst (IsBody input.version) is (entry_body input.version 6 log.entries entries e k) in
    formed.2

-- ---- bootstrap regions

above : (low : ℕ) (bs : List Boot) → Rising low (map (λ b. b.region) bs) → (id : ℕ) → (id < low) ⊎ (id ≡ low) → AllByRecursion (λ t. id ≡ t.region → ⊥) (boot_states bs)
above low [] h id le = tt
above low (b ∷ bs) h id le = ((λ same. omega (arith, h.0, le, same)), above b.region bs h.2 id (inl (omega (arith, h.0, le))))

each_id : (low : ℕ) (bs : List Boot) → Rising low (map (λ b. b.region) bs) → EachId (boot_states bs)
each_id low [] h = tt
each_id low (b ∷ bs) h = (above b.region bs h.2 b.region (inr refl), each_id b.region bs h.2)

bound_of : (bound : Option (List ℕ)) → IfSome bound IsKey → IsBound bound
bound_of None h = tt
bound_of (Some k) h = key_is_key k h.0

-- no two bootstrap regions of a store have one id
pub boot_ids_differ : (input : Input) → WellFormed input → (store : Store) → IsAmong store input.stores → EachId (boot_states store.regions)
boot_ids_differ input w store i = each_id 0 store.regions (is_store input w store i).0

boot_shapes : (version : ℕ) (bs : List Boot) → AllByRecursion (IsBoot version) bs → AllByRecursion (λ s. is_range s.range.start s.range.end ≡ true) (boot_states bs)
boot_shapes version [] h = tt
boot_shapes version (b ∷ bs) h = (h.0.0.2, boot_shapes version bs h.1)

-- each of them has a range
pub boot_ranges : (input : Input) → WellFormed input → (store : Store) → IsAmong store input.stores → AllByRecursion (λ s. is_range s.range.start s.range.end ≡ true) (boot_states store.regions)
boot_ranges input w store i = boot_shapes input.version store.regions (is_store input w store i).1

-- the start of a bootstrap region, where it has one, is a key
pub boot_start : (input : Input) → WellFormed input → (store : Store) → IsAmong store input.stores → (b : Boot) → IsAmong b store.regions → IsBound b.range.start
boot_start input w store i b j =
    let is : IsBoot input.version b = among_all (IsBoot input.version) b store.regions (is_store input w store i).1 j in
    bound_of b.range.start is.0.0
