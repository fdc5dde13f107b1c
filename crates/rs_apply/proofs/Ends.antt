-- How a region that is merged away ends.
use Rattle.std.proofs.Common.{◌≡◌, ℕ, ◌<◌, Some, ap, sym, ◌∙◌}
use Rattle.rs_entry.specs.declared.input.Input.{Input}
use Rattle.rs_entry.specs.declared.outcome.Mode.TheVariants as mode
use Rattle.rs_region.specs.declared.state.RegionState.{RegionState}
use Rattle.rs_msg.specs.Maps.{Writes}
use Rattle.rs_check.specs.Lawfulness.{PlanLaws}
use Rattle.rs_check.specs.Plans.{address_of, ends_of, stop_of}
use Rattle.rs_check.specs.Values.{count_of, part_at, part_on, region_of}
use Rattle.rs_msg.specs.Held.{IsHeld}
use Rattle.rs_apply.proofs.Commits.{on_store}
use Rattle.rs_apply.proofs.NextParts.{seen}

-- two addresses of the same ids have the same parts
same_parts : (input : Input) (a b i : ℕ) → (address_of input b).0 ≡ (address_of input a).0 → (address_of input b).1 ≡ (address_of input a).1 → part_at input b i ≡ part_at input a i
same_parts input a b i store region = ap (λ r. part_on input b r i) region ∙ on_store input a b (region_of input a) i store

pub merging_at_stop : (input : Input) (laws : PlanLaws input) (a target : ℕ) (s : RegionState) (m : Writes) → a < count_of input → ends_of input a ≡ mode.Merged target → IsHeld input a (stop_of input a) s m → s.mode ≡ mode.Merging target (stop_of input a)
merging_at_stop input laws a target s m below ends held =
    let there = laws.merged a target below ends in
    let source = laws.merges there.b there.i there.part there.entry (region_of input a) (stop_of input a) there.carried there.placed.within there.accepted there.body in
    let store = ap (λ p. p.0) source.placed.address ∙ ap (λ p. p.0) there.placed.address in
    let region = ap (λ p. p.1) source.placed.address in
    let v = seen (part_at input a (stop_of input a)) s m held in
    let same : Some source.part ≡ Some v.part = sym source.is_part ∙ same_parts input a source.b (stop_of input a) store region ∙ v.is in
    let one : source.part ≡ v.part = cc same in
    ap (λ z. z.mode) (sym v.state) ∙ ap (λ p. p.state.mode) (sym one) ∙ source.merging ∙ ap (λ r. mode.Merging r (stop_of input a)) (ap (λ p. p.1) there.placed.address)
