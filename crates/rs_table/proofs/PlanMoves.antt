-- What holds of the tables of all cuts of a lawful plan's store.
use Rattle.std.proofs.Common.{◌≡◌, ℕ, zero, suc, ◌+◌, ◌≤◌, ◌<◌, ◌^◌, List, [], ◌∷◌, length, Some, None, refl, ap, arith, subst, inl, inr}
use Rattle.std.specs.Prelude.{slice_get}
use Rattle.std.proofs.lemmas.Bool.{cases_lt}
use Rattle.rs_entry.specs.WellFormed.{WellFormed}
use Rattle.rs_entry.specs.declared.entry.Entry.{Entry}
use Rattle.rs_entry.specs.declared.input.Input.{Input}
use Rattle.rs_region.specs.declared.state.RegionState.{RegionState}
use Rattle.rs_check.specs.declared.rows.Row.{Row}
use Rattle.rs_check.specs.Laws.{check}
use Rattle.rs_check.specs.Plans.{address_of, reshapings_in, reshapings_of, rows_of}
use Rattle.rs_check.specs.Values.{count_of, region_of}
use Rattle.rs_table.specs.Changes.{changes, with_states}
use Rattle.rs_table.specs.Cuts.{Cut, entry_of_nth, index_after}
use Rattle.rs_table.specs.Moves.{IsNext, Moves, raised}
use Rattle.rs_table.specs.Rows.{IsTable, state_of}
use Rattle.rs_table.proofs.Between.{laws}
use Rattle.rs_table.proofs.Greatest.{is_greatest}
use Rattle.rs_table.proofs.Moving.{r}
use Rattle.rs_table.proofs.Openings.{opens}
use Rattle.rs_table.proofs.PlanReshapings.{few_of}
use Rattle.rs_table.proofs.StepTables.{is_ready, is_there, moved_table}
use Rattle.rs_table.proofs.WholeCuts.{grown_is_next, stuck_is_full}

few : (input : Input) → WellFormed input → check input ≡ None → (a : ℕ) → length (reshapings_of input a) < 2 ^ 62
few input well lawful a = elim (cases_lt a (count_of input)) [
  | inl lt ↦ (let l = few_of input well lawful a lt in let e = (laws input well lawful).ends_below a lt in omega (arith, l, e))
  | inr ge ↦ (let n : length (reshapings_of input a) ≡ 0 = ap (λ o. length (reshapings_in o)) (past (rows_of input) a ge) in omega (arith, n))
] where
  past : (xs : List Row) (k : ℕ) → length xs ≤ k → slice_get xs k ≡ None
  past [] k h = refl
  past (x ∷ xs) zero h = absurd (omega arith)
  past (x ∷ xs) (suc k) h = past xs k (omega arith)

moved : (input : Input) (well : WellFormed input) (lawful : check input ≡ None) (place : ℕ) (n : Cut) (a : ℕ) (rows : List RegionState) (s : RegionState) (e : Entry) → IsNext input place n a → IsTable input place n rows
    → state_of rows (region_of input a) ≡ Some s → entry_of_nth input a (n a + 1) ≡ Some e
    → IsTable input place (raised n a) (with_states (changes (address_of input a).0 (index_after input a (n a + 1)) rows s e.body) rows)
moved input well lawful place n a rows s e next table hs he =
    let x = r input well lawful place n a next in
    let one : x.v.state ≡ s = cc (is_there input well lawful place n a rows next table, hs) in
    let two : x.e ≡ e = cc (x.entry, he) in
    subst (λ (z : RegionState). IsTable input place (raised n a) (with_states (changes (address_of input a).0 (index_after input a (n a + 1)) rows z e.body) rows)) one
    (subst (λ (z : Entry). IsTable input place (raised n a) (with_states (changes (address_of input a).0 (index_after input a (n a + 1)) rows x.v.state z.body) rows)) two
    (moved_table input well lawful place n a rows next table))

pub plan_moves : (input : Input) (place : ℕ) → WellFormed input → check input ≡ None → Moves input place
plan_moves input place well lawful = record {
  few = few input well lawful;
  opens = opens input well lawful place;
  there = λ n a rows next table. (
    (r input well lawful place n a next).v.state,
    (r input well lawful place n a next).e,
    is_there input well lawful place n a rows next table,
    (r input well lawful place n a next).entry,
    is_ready input well lawful place n a rows next table,
  );
  moves = moved input well lawful place;
  greatest = λ told n known cut all stuck. is_greatest input well lawful place told n cut all stuck;
  full = stuck_is_full input well lawful place;
  only = grown_is_next input well lawful place;
}
