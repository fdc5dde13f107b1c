-- Which modes go on, and which keep their range.
use Rattle.std.proofs.Common.{◌≡◌, ℕ, ◌==◌, true, false, not, List, refl, ap, ◌⊎◌, inl, inr}
use Rattle.std.proofs.lemmas.Bool.{and_parts, eqb-true, not-true}
use Rattle.rs_entry.specs.declared.entry.Entry.{Entry}
use Rattle.rs_entry.specs.declared.outcome.Mode.{Mode}
use Rattle.rs_entry.specs.declared.outcome.Mode.TheVariants as mode
use Rattle.rs_region.specs.declared.state.RegionState.{RegionState}
use Rattle.rs_store.specs.Stores.{goes_on, is_live, is_paused, is_prepared_for, is_unmerged}
use Rattle.rs_part.specs.Parts.{mode_before, unmarked}

-- what is live is unmerged
pub live_unmerged : (m : Mode) → is_live m ≡ true → is_unmerged m ≡ true
live_unmerged mode.Normal e = refl
live_unmerged (mode.Merging target commit) e = refl
live_unmerged (mode.Merged target) e = absurd cc
live_unmerged mode.Removed e = absurd cc

-- what is unmerged is live, or was removed
pub unmerged_cases : (m : Mode) → is_unmerged m ≡ true → (is_live m ≡ true) ⊎ (m ≡ mode.Removed)
unmerged_cases mode.Normal e = inl refl
unmerged_cases (mode.Merging target commit) e = inl refl
unmerged_cases (mode.Merged target) e = absurd cc
unmerged_cases mode.Removed e = inr refl

live_before : (m : Mode) → is_live m ≡ true → mode_before m ≡ m
live_before mode.Normal e = refl
live_before (mode.Merging target commit) e = refl
live_before (mode.Merged target) e = absurd cc
live_before mode.Removed e = absurd cc

-- a live region has no mark
pub live_unmarked : (s : RegionState) → is_live s.mode ≡ true → unmarked s ≡ s
live_unmarked s e = ap (λ (m : Mode). record { region = s.region; epoch = s.epoch; range = s.range; peers = s.peers; mode = m }) (live_before s.mode e)

-- what goes on is live
pub goes_live : (log : List Entry) (s : RegionState) → goes_on log s ≡ true → is_live s.mode ≡ true
goes_live log s e = (and_parts (is_live s.mode) (not (is_paused log s)) e).0

-- and not paused
pub goes_awake : (log : List Entry) (s : RegionState) → goes_on log s ≡ true → is_paused log s ≡ false
goes_awake log s e = not-true (is_paused log s) (and_parts (is_live s.mode) (not (is_paused log s)) e).1

-- what is prepared for a merge is merging
pub prepared_mode : (target commit : ℕ) (m : Mode) → is_prepared_for target commit m ≡ true → m ≡ mode.Merging target commit
prepared_mode target commit (mode.Merging t c) e =
    let h : ((t == target) ≡ true) × ((c == commit) ≡ true) = and_parts (t == target) (c == commit) e in
    cc (eqb-true t target h.0, eqb-true c commit h.1)
prepared_mode target commit mode.Normal e = absurd cc
prepared_mode target commit (mode.Merged t) e = absurd cc
prepared_mode target commit mode.Removed e = absurd cc
