-- A round's regions, and that they accept the round's entries.
use Rattle.std.proofs.Common.{◌≡◌, ◌∙◌, refl, ap, ℕ, ◌≤◌, arith, true, cond, ◌&&◌, not, List, [], ◌∷◌, inl, inr}
use Rattle.std.specs.Prelude.{None, Some, position}
use Rattle.std.proofs.lemmas.Bool.{cases_lt, eq-eqb, lt-ltb, le-ltb}
use Rattle.rs_key.specs.Ranges.{Bounds, is_from, is_next_to}
use Rattle.rs_entry.specs.declared.entry.Body.TheVariants as body
use Rattle.rs_entry.specs.declared.entry.Op.{Op}
use Rattle.rs_entry.specs.declared.entry.Side.TheVariants as side
use Rattle.rs_entry.specs.declared.outcome.Mode.TheVariants as mode
use Rattle.rs_region.specs.declared.state.RegionState.{RegionState}
use Rattle.rs_region.specs.declared.verdict.Verdict.TheVariants as verdicts
use Rattle.rs_region.specs.Verdicts.{is_outside, verdict, write_verdict}
use Rattle.rs_gen.specs.Rounds.{child, child_entries, cut, entry_at, first_write, high, last_write, low, main_write, second_write}
use Rattle.rs_gen.proofs.Bytes.{low_below}

-- ---- regions

abbrev pub all_keys : Bounds
all_keys = record { start = None; end = None }

abbrev pub from_cut : ℕ → ℕ → Bounds
from_cut n t = record { start = Some (cut n t ∷ []); end = None }

abbrev pub to_cut : ℕ → ℕ → Bounds
to_cut n t = record { start = None; end = Some (cut n t ∷ []) }

abbrev pub main_at : ℕ → Bounds → RegionState
main_at version range = record { region = 1; epoch = record { conf_ver = 1; version = version }; range = range; peers = []; mode = mode.Normal }

abbrev pub child_at : ℕ → ℕ → ℕ → RegionState
child_at n t version = record { region = child t; epoch = record { conf_ver = 1; version = version }; range = to_cut n t; peers = []; mode = mode.Normal }

-- ---- keys

from_one : (start key : ℕ) → start ≤ key → is_from (Some (start ∷ [])) (key ∷ []) ≡ true
from_one start key above = elim (cases_lt start key) [
  | inl less ↦ rw (lt-ltb start key less) refl
  | inr more ↦ (let same : start ≡ key = omega arith in rw (le-ltb start key more, eq-eqb start key same) refl)
]

-- ---- verdicts

abbrev writes_well : Bounds → List Op → Type 0
writes_well range ops = write_verdict (position (is_outside range) ops) ≡ verdicts.Accept

high_inside : (n t : ℕ) → writes_well (from_cut n t) (last_write n t)
high_inside n t = ap (λ b. write_verdict (position (λ (o : Op). not (b && true)) (last_write n t))) (from_one (cut n t) (high n t 10) (omega arith))

first_inside : (n t : ℕ) → writes_well (to_cut n t) (first_write n t)
first_inside n t = rw (lt-ltb (low n t 5) (cut n t) (low_below n t 5), lt-ltb (low n t 7) (cut n t) (low_below n t 7)) refl

second_inside : (n t : ℕ) → writes_well (to_cut n t) (second_write n t)
second_inside n t = rw (lt-ltb (low n t 8) (cut n t) (low_below n t 8)) refl

pub main_accepts : (n t v i : ℕ) → verdict (main_at v all_keys) (entry_at i v (body.Write (main_write n t))) ≡ verdicts.Accept
main_accepts n t v i = ap (λ b. cond b verdicts.Accept verdicts.Stale) (eq-eqb v v refl)

pub split_accepts : (n t v i : ℕ) → verdict (main_at v all_keys) (entry_at i v (body.Split side.Right (child t ∷ []) ((cut n t ∷ []) ∷ []))) ≡ verdicts.Accept
split_accepts n t v i = ap (λ b. cond b verdicts.Accept verdicts.Stale) (eq-eqb v v refl)

pub last_accepts : (n t v i : ℕ) → verdict (main_at v (from_cut n t)) (entry_at i v (body.Write (last_write n t))) ≡ verdicts.Accept
last_accepts n t v i = ap (λ b. cond b (write_verdict (position (is_outside (from_cut n t)) (last_write n t))) verdicts.Stale) (eq-eqb v v refl) ∙ high_inside n t

pub commit_accepts : (n t v i : ℕ) → verdict (main_at v (from_cut n t)) (entry_at i v (body.Commit (child t) 8 (child_entries n t))) ≡ verdicts.Accept
commit_accepts n t v i = ap (λ b. cond (b && true) verdicts.Accept verdicts.Stale) (eq-eqb v v refl)

pub first_accepts : (n t v : ℕ) → verdict (child_at n t v) (entry_at 6 v (body.Write (first_write n t))) ≡ verdicts.Accept
first_accepts n t v = ap (λ b. cond b (write_verdict (position (is_outside (to_cut n t)) (first_write n t))) verdicts.Stale) (eq-eqb v v refl) ∙ first_inside n t

pub second_accepts : (n t v : ℕ) → verdict (child_at n t v) (entry_at 7 v (body.Write (second_write n t))) ≡ verdicts.Accept
second_accepts n t v = ap (λ b. cond b (write_verdict (position (is_outside (to_cut n t)) (second_write n t))) verdicts.Stale) (eq-eqb v v refl) ∙ second_inside n t

pub prepare_accepts : (n t v : ℕ) → verdict (child_at n t v) (entry_at 8 v (body.Prepare 1)) ≡ verdicts.Accept
prepare_accepts n t v = ap (λ b. cond (b && true) verdicts.Accept verdicts.Stale) (eq-eqb v v refl)

-- the two parts are next to each other
pub parts_meet : (n t : ℕ) → is_next_to (from_cut n t) (to_cut n t) ≡ true
parts_meet n t = ap (λ b. b && true) (eq-eqb (cut n t) (cut n t) refl)
