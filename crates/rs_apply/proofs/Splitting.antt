-- The parts of a map that is split, and the regions that they make.
use Rattle.std.proofs.Common.{◌≡◌, ℕ, suc, ◌+◌, ◌<◌, Bool, true, false, cond, List, [], ◌∷◌, ◌++◌, map, Option, Some, None, refl, ap, sym, ◌∙◌, arith, subst, length}
use Rattle.std.specs.List.{AllByRecursion, zip}
use Rattle.std.specs.Prelude.{option_to_list}
use Rattle.std.specs.Option.{IsSome}
use Rattle.rs_key.specs.Ranges.{Bounds, holds, cut, cut_from}
use Rattle.rs_key.specs.Epochs.{after_split}
use Rattle.rs_key.specs.declared.epoch.Epoch.{Epoch}
use Rattle.rs_entry.specs.declared.entry.Body.TheVariants as body
use Rattle.rs_entry.specs.declared.entry.Entry.{Entry}
use Rattle.rs_entry.specs.declared.entry.Side.{Side}
use Rattle.rs_entry.specs.declared.entry.Side.TheVariants as sides
use Rattle.rs_entry.specs.declared.input.Input.{Input}
use Rattle.rs_entry.specs.declared.outcome.Reply.TheVariants as reply
use Rattle.rs_region.specs.Reshapings.{split_kept, split_new, new_region, kept_range, new_ranges, last_of}
use Rattle.rs_region.specs.Verdicts.{verdict}
use Rattle.rs_region.specs.declared.state.RegionState.{RegionState}
use Rattle.rs_region.specs.declared.verdict.Verdict.TheVariants as verdicts
use Rattle.rs_part.specs.Items.{Items, kept_items}
use Rattle.rs_part.specs.Parts.{Part}
use Rattle.rs_msg.specs.Cuts.{IsKept, AreKept}
use Rattle.rs_msg.specs.Maps.{Writes, items_at}
use Rattle.rs_check.specs.Lawfulness.{Born, PlanLaws}
use Rattle.rs_check.specs.Values.{part_at}
use Rattle.rs_msg.specs.Held.{IsHeld}
use Rattle.rs_apply.specs.Births.{AreBorn, IsBorn, IsKeeping}
use Rattle.rs_apply.specs.Steps.{HasNext, IsNext}
use Rattle.rs_apply.proofs.NextParts.{Seen, mine, after, is_accepted, shown}

-- the maps have what the items are in the first ranges
abbrev pub AreFront : Items → List Bounds → List Writes → Type 0
AreFront items ranges [] = Unit {0}
AreFront items [] (m ∷ maps) = ⊥
AreFront items (r ∷ ranges) (m ∷ maps) = IsKept items r m × AreFront items ranges maps

module _ (items : Items) where
  front : (rs : List Bounds) (ms : List Writes) → AreKept items rs ms → AreFront items rs ms
  front [] [] h = tt
  front [] (m ∷ ms) h = absurd h
  front (r ∷ rs) [] h = absurd h
  front (r ∷ rs) (m ∷ ms) h = (h.0, front rs ms h.1)

  right_one : (r : Bounds) (rs : List Bounds) (rest : List Writes) (m : Writes) → AreKept items rs (rest ++ m ∷ []) → IsKept items (last_of r rs) m
  right_one r [] [] m h = absurd h
  right_one r [] (n ∷ rest) m h = absurd h
  right_one r (x ∷ []) [] m h = h.0
  right_one r (x ∷ y ∷ ys) [] m h = absurd h.1
  right_one r (x ∷ xs) (n ∷ rest) m h = right_one x xs rest m h.1

  right_rest : (rs : List Bounds) (rest : List Writes) (m : Writes) → AreKept items rs (rest ++ m ∷ []) → AreFront items rs rest
  right_rest rs [] m h = tt
  right_rest [] (n ∷ rest) m h = absurd h
  right_rest (r ∷ rs) (n ∷ rest) m h = (h.0, right_rest rs rest m h.1)

  pub keep_one : (side : Side) (r : Bounds) (rs : List Bounds) (all : List Writes) (m : Writes) (rest : List Writes) → AreKept items rs all → IsKeeping side all m rest → IsKept items (kept_range side r rs) m
  keep_one sides.Right r rs all m rest h e = right_one r rs rest m (subst (λ l. AreKept items rs l) e h)
  keep_one sides.Left r [] all m rest h e = absurd (subst (λ l. AreKept items [] l) e h)
  keep_one sides.Left r (x ∷ xs) all m rest h e = (subst (λ l. AreKept items (x ∷ xs) l) e h).0

  keep_rest : (side : Side) (rs : List Bounds) (all : List Writes) (m : Writes) (rest : List Writes) → AreKept items rs all → IsKeeping side all m rest → AreFront items (new_ranges side rs) rest
  keep_rest sides.Right rs all m rest h e = right_rest rs rest m (subst (λ l. AreKept items rs l) e h)
  keep_rest sides.Left [] all m rest h e = absurd (subst (λ l. AreKept items [] l) e h)
  keep_rest sides.Left (x ∷ xs) all m rest h e = front xs rest (subst (λ l. AreKept items (x ∷ xs) l) e h).1

  same_length : (rs : List Bounds) (ms : List Writes) → AreKept items rs ms → length rs ≡ length ms
  same_length [] [] h = refl
  same_length [] (m ∷ ms) h = absurd h
  same_length (r ∷ rs) [] h = absurd h
  same_length (r ∷ rs) (m ∷ ms) h = ap suc (same_length rs ms h.1)

cut_length : (start end : Option (List ℕ)) (ks : List (List ℕ)) → length (cut_from start end ks) ≡ suc (length ks)
cut_length start end [] = refl
cut_length start end (k ∷ ks) = ap suc (cut_length (Some k) end ks)

push_length : {A : Type 0} (xs : List A) (x : A) → length (xs ++ x ∷ []) ≡ suc (length xs)
push_length [] x = refl
push_length (y ∷ xs) x = ap suc (push_length xs x)

keeping_length : (side : Side) (all : List Writes) (m : Writes) (rest : List Writes) → IsKeeping side all m rest → length all ≡ suc (length rest)
keeping_length sides.Right all m rest e = ap length e ∙ push_length rest m
keeping_length sides.Left all m rest e = ap length e

pub some_parts : (items : Items) (r : Bounds) (ks : List (List ℕ)) → AreKept items (cut r ks) [] → ⊥
some_parts items r [] h = h
some_parts items r (k ∷ ks) h = h

module _ (input : Input) (a index : ℕ) (v : Part) (epoch : Epoch) (peers : List ℕ) where
  -- the new regions begin with their shares of the map
  born : (items : Items) → ((q : List ℕ) → v.items q ≡ items q) → (ids : List ℕ) (rs : List Bounds) (ms : List Writes) → AllByRecursion (Born input a index v) (map (new_region epoch peers) (zip ids rs)) → length ms ≡ length ids → AreFront items rs ms
      → AreBorn input a (map (new_region epoch peers) (zip ids rs)) ms
  born items same [] rs ms laws n h = tt
  born items same (id ∷ ids) [] ms laws n h = tt
  born items same (id ∷ ids) (r ∷ rs) [] laws n h = absurd (omega (arith, n))
  born items same (id ∷ ids) (r ∷ rs) (m ∷ ms) laws n h =
      let b = laws.0 in (
        record {
          b = b.b;
          placed = b.placed;
          held = shown (part_at input b.b 5) (new_region epoch peers (id, r)) m (record { state = new_region epoch peers (id, r); items = kept_items r v.items }) b.part refl
              (λ q. ap (λ l. cond (holds r q) l []) (same q) ∙ sym (h.0 q));
        },
        born items same ids rs ms laws.1 (omega (arith, n)) h.1,
      )

module _ (input : Input) (laws : PlanLaws input) (a i : ℕ) (e : Entry) (there : HasNext input a i e) (s : RegionState) (m : Writes) (held : IsHeld input a i s m) (accept : verdict s e ≡ verdicts.Accept)
    (side : Side) (ids : List ℕ) (keys : List (List ℕ)) (is : e.body ≡ body.Split side ids keys) where
  abbrev v : Seen (part_at input a i) s m
  v = mine input laws a i e there s m held

  -- all that the map has lies in the region's range
  pub whole : IsKept (items_at m) s.range m
  whole q = go (holds s.range q) refl
    where
      go : (b : Bool) → holds s.range q ≡ b → items_at m q ≡ cond (holds s.range q) (items_at m q) []
      go true f = sym (ap (λ b. cond b (items_at m q) []) f)
      go false f =
          sym (v.items q) ∙ laws.inside a i v.part q there.below v.is (ap (λ z. holds z.range q) v.state ∙ f) ∙ sym (ap (λ b. cond b (items_at m q) []) f)

  pub even : length ids ≡ length keys
  even = laws.even a (i + 1) e side ids keys there.below there.entry is

  pub split_next : (all : List Writes) (m' : Writes) (rest : List Writes) (s' : RegionState) → AreKept (items_at m) (cut s.range keys) all → IsKeeping side all m' rest → s' ≡ split_kept s side keys → IsNext input a i s' m' (reply.Done s'.epoch.version ∷ [])
  split_next all m' rest s' parts keeping state =
      after input laws a i e there s m held accept (body.Split side ids keys) (record { state = split_kept v.part.state side keys; items = kept_items (split_kept v.part.state side keys).range v.part.items }) s' m' is refl
      (ap (λ z. split_kept z side keys) v.state ∙ sym state)
      (λ q. ap (λ z. cond (holds (split_kept z side keys).range q) (v.part.items q) []) v.state ∙ ap (λ l. cond (holds (split_kept s side keys).range q) l []) (v.items q)
      ∙ sym (keep_one (items_at m) side s.range (cut s.range keys) all m' rest parts keeping q))

  pub split_born : (all : List Writes) (m' : Writes) (rest : List Writes) (states : List RegionState) → AreKept (items_at m) (cut s.range keys) all → IsKeeping side all m' rest → states ≡ split_new s side ids keys → AreBorn input a states rest
  split_born all m' rest states parts keeping made =
      let one = same_length (items_at m) (cut s.range keys) all parts in
      let two = keeping_length side all m' rest keeping in
      let three = cut_length s.range.start s.range.end keys in
      let law = laws.births a i v.part e side ids keys there.below (is_accepted input laws a i e there s m held accept) is in
      subst (λ l. AreBorn input a l rest) (sym made)
      (born input a (i + 1) v.part (after_split s.epoch (length keys)) s.peers (items_at m) v.items ids (new_ranges side (cut s.range keys)) rest
      (subst (λ z. AllByRecursion (Born input a (i + 1) v.part) (split_new z side ids keys)) v.state law) (omega (arith, even, one, two, three))
      (keep_rest (items_at m) side (cut s.range keys) all m' rest parts keeping))

-- ---- one after another

pub next_born : (input : Input) (a : ℕ) (s : RegionState) (states : List RegionState) (ms ns : List Writes) (m : Option Writes) → ms ≡ option_to_list m ++ ns → (0 < length ms → IsSome m) → AreBorn input a (s ∷ states) ms
    → IsBorn input a s m × AreBorn input a states ns
next_born input a s states [] ns m f q born = absurd born
next_born input a s states (y ∷ ys) ns None f q born = absurd (cc (q (omega arith)))
next_born input a s states (y ∷ ys) ns (Some m) f q born = subst (λ l. AreBorn input a (s ∷ states) l) f born
