-- Worked cases of what devices over memory do.
use Rattle.std.proofs.Common.{◌≡◌, ℕ, ◌-◌, ◌^◌, List, [], ◌∷◌, refl}
use Rattle.rs_base.specs.Counts.{one_more}
use Rattle.rs_base.specs.Memory.{SourceState, SinkState, given_of, accepted_of, assured_of}

-- three bytes are left, and two come in a call
abbrev source : SourceState
source = record { left = 97 ∷ 98 ∷ 99 ∷ []; most = 2; fails = 5 ∷ []; calls = 0; faults = 0 }

-- two of five bytes are taken, and at most two go in a call
abbrev sink : List ℕ → SinkState
sink fails = record { taken = 97 ∷ 98 ∷ []; room = 5; most = 2; fails = fails; calls = 1; faults = 0 }

counts_rise : one_more 0 ≡ 1
counts_rise = refl

counts_stand : one_more (2 ^ 64 - 1) ≡ 2 ^ 64 - 1
counts_stand = refl

gives_what_it_may : given_of source 4096 ≡ 2
gives_what_it_may = refl

gives_what_fits : given_of source 1 ≡ 1
gives_what_fits = refl

gives_what_is_left : given_of (record source { most = 9 }) 4096 ≡ 3
gives_what_is_left = refl

takes_what_it_may : accepted_of (sink []) 44 ≡ 2
takes_what_it_may = refl

takes_what_has_room : accepted_of (record (sink []) { most = 9 }) 44 ≡ 3
takes_what_has_room = refl

is_sure_of_its_room : assured_of (sink []) ≡ 3
is_sure_of_its_room = refl

is_sure_of_nothing : assured_of (sink (7 ∷ [])) ≡ 0
is_sure_of_nothing = refl
