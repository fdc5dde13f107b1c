-- How a bootstrap region begins.
use Rattle.std.proofs.Common.{◌≡◌, ℕ, zero, suc, ◌==◌, Bool, true, false, cond, List, [], ◌∷◌, map, Option, Some, None, refl, ap, sym, ◌∙◌}
use Rattle.std.specs.List.{find}
use Rattle.std.proofs.lemmas.Bool.{eqb-true, eqb-false}
use Rattle.rs_key.specs.Ranges.{holds}
use Rattle.rs_entry.specs.declared.input.Boot.{Boot}
use Rattle.rs_entry.specs.declared.input.Input.{Input}
use Rattle.rs_entry.specs.declared.input.Store.{Store}
use Rattle.rs_entry.specs.declared.outcome.Item.{Item}
use Rattle.rs_region.specs.Reshapings.{boot}
use Rattle.rs_region.specs.declared.state.RegionState.{RegionState}
use Rattle.rs_store.specs.declared.regions.Made.{Made}
use Rattle.rs_store.specs.declared.regions.Origin.TheVariants as origins
use Rattle.rs_store.specs.Stores.{Stepped, Went, born, entries_in, first_some, no_regions, opening, then_advance, with_regions}
use Rattle.rs_part.specs.Items.{items_in, no_items}
use Rattle.rs_part.specs.Parts.{Part, at, first_part, part_if, part_when}
use Rattle.rs_msg.specs.Maps.{Writes, HasItems}
use Rattle.rs_check.specs.Values.{part_at, part_in, part_on, region_of, store_at}
use Rattle.rs_msg.specs.Held.{IsHeld}
use Rattle.rs_apply.specs.Findings.{boot_in, boot_of}
use Rattle.rs_apply.proofs.NextParts.{shown}

turned : (a b : ℕ) → (a == b) ≡ (b == a)
turned a b = go (a == b) (b == a) refl refl
  where
    go : (x y : Bool) → (a == b) ≡ x → (b == a) ≡ y → x ≡ y
    go true true e f = refl
    go false false e f = refl
    go true false e f = let k = eqb-true a b e in absurd (eqb-false b a f (sym k))
    go false true e f = let k = eqb-true b a f in absurd (eqb-false a b e (sym k))

abbrev made_from : Boot → Option Made
made_from b = Some (born (boot b.region b.range b.peers) origins.Boot)

abbrev all_made : List Boot → ℕ → Option Made
all_made boots = with_regions no_regions (map (λ x. boot x.region x.range x.peers) boots) origins.Boot

found_boot : (boots : List Boot) (id : ℕ) (b : Boot) → find (λ x. x.region == id) boots ≡ Some b → all_made boots id ≡ made_from b
found_boot [] id b h = absurd (cc h)
found_boot (x ∷ xs) id b h = go (x.region == id) refl (found_boot xs id b)
  where
    go : (t : Bool) → (x.region == id) ≡ t → (find (λ y. y.region == id) xs ≡ Some b → all_made xs id ≡ made_from b) → cond (id == x.region) (made_from x) (all_made xs id) ≡ made_from b
    go true e more =
        let same : Some x ≡ Some b = sym (ap (λ t. cond t (Some x) (find (λ y. y.region == id) xs)) e) ∙ h in
        let is : x ≡ b = cc same in
        ap (λ t. cond t (made_from x) (all_made xs id)) (turned id x.region ∙ e) ∙ ap made_from is
    go false e more = ap (λ t. cond t (made_from x) (all_made xs id)) (turned id x.region ∙ e) ∙ more (sym (ap (λ t. cond t (Some x) (find (λ y. y.region == id) xs)) e) ∙ h)

at_first : (store : Store) (id n : ℕ) (s : Stepped) (v : Part) → part_when id 5 s ≡ Some v → first_part store id 5 n s ≡ Some v
at_first store id zero s v h = h
at_first store id (suc n) s v h = ap (λ o. first_some o (first_part store id 5 n (then_advance store s))) h

abbrev opened : Boot → Part
opened b = record { state = boot b.region b.range b.peers; items = items_in b.range [] }

boot_part : (store : Store) (id : ℕ) (b : Boot) → find (λ x. x.region == id) store.regions ≡ Some b → at store id 5 ≡ Some (opened b)
unfolding at
boot_part store id b h = at_first store id (entries_in store) (Went (opening store)) (opened b) (ap (part_if 5 (opening store)) (found_boot store.regions id b h))

nothing_in : (b : Bool) → ◌≡◌ {A = List Item} (cond b [] []) []
nothing_in true = refl
nothing_in false = refl

on_boot : (input : Input) (a : ℕ) (o : Option Store) (b : Boot) → store_at input a ≡ o → boot_in o (region_of input a) ≡ Some b → part_at input a 5 ≡ Some (opened b)
unfolding part_on
on_boot input a None b e h = absurd (cc h)
on_boot input a (Some s) b e h = ap (λ o. part_in o (region_of input a) 5) e ∙ boot_part s (region_of input a) b h

pub held_at_start : (input : Input) (a : ℕ) (b : Boot) (s : RegionState) (m : Writes) → boot_of input a ≡ Some b → s ≡ boot b.region b.range b.peers → HasItems m no_items → IsHeld input a 5 s m
held_at_start input a b s m found state items =
    shown (part_at input a 5) s m (opened b) (on_boot input a (store_at input a) b refl found) (sym state) (λ key. nothing_in (holds b.range key) ∙ sym (items key))
