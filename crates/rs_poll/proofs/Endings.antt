-- What a visit was, from how the turn was settled.
use Rattle.std.proofs.Common.{◌≡◌, ℕ, ◌+◌, ◌-◌, ◌≤◌, ⊎_elim, inl, inr, List, [], ◌∷◌, ◌++◌, Result, arith, subst, sym, ◌∙◌}
use Rattle.std.proofs.lemmas.List.{append-nil}
use Rattle.std.specs.Prelude.{MatchResult}
use Rattle.std.specs.declared.result.Result.TheVariants.{Ok, Err}
use Rattle.rs_rows.specs.declared.no_memory.NoMemory.{NoMemory}
use Rattle.rs_mailbox.specs.declared.view.Deed.{Deed}
use Rattle.rs_poll.specs.Counts.{RoseBy}
use Rattle.rs_poll.specs.declared.handler.More.{More}
use Rattle.rs_poll.specs.declared.worked.Visited.{Visited}
use Rattle.rs_poll.specs.declared.worked.Visited.TheVariants.{Turned, Gone}
use Rattle.rs_poll.specs.Visits.{Abandons, GivesUp, Handles, Quits, Settles, Visits, took}

-- memory was refused after the machine was taken
pub gave_up : (batch before handled : ℕ) → before ≤ handled → handled ≤ before + batch → (xs us ys : List Deed) → us ≡ took xs before → Quits handled us ys → GivesUp batch xs ys
gave_up batch before handled from to xs us ys is quits =
    let is_sum : handled ≡ before + (handled - before) = omega (arith, from) in
    let counted = subst (λ (h : ℕ). Quits h us ys) is_sum quits in
    (before, handled - before, omega (arith, to), subst (λ (u : List Deed). Quits (before + (handled - before)) u ys) is counted)

module _ (batch from to : ℕ) (asked : More) (address before : ℕ) (ps qs : List ℕ) (xs ys : List Deed) where
  abbrev Settled : Result Visited NoMemory → More → ℕ → List ℕ → List Deed → Type 0
  Settled r more handled os us = MatchResult r (λ v. Settles more handled address v os qs us ys) (λ e. Abandons handled us ys)

  after_take : (messages : ℕ) → Handles batch from to messages → (r : Result Visited NoMemory) → Settled r asked (before + messages) ps (took xs before)
      → MatchResult r (λ v. Visits (Handles batch from to) asked address v ps qs xs ys) (λ e. GivesUp batch xs ys)
  after_take n handles (Ok Turned) s = ⊎_elim (λ rests. inl (before, n, handles, rests)) (λ comes. inr ((before, n, handles, comes.0), ([], comes.1 ∙ sym (append-nil (ps ++ address ∷ []))))) s
  after_take n handles (Ok Gone) s = inr (before, n, handles, s)
  after_take n handles (Err e) s = (before, n, handles.0, inl s)

  pub settled : (handled : ℕ) → handled ≤ before + batch → (messages : ℕ) × (handled ≡ before + messages) × RoseBy messages from to
      → (more : More) → asked ≡ more → (us : List Deed) → us ≡ took xs before → (os : List ℕ) → os ≡ ps → (r : Result Visited NoMemory) → Settled r more handled os us
      → MatchResult r (λ v. Visits (Handles batch from to) asked address v ps qs xs ys) (λ e. GivesUp batch xs ys)
  settled handled most (n, is_sum, rose) more answer us is os same r s =
      let counted = subst (λ (h : ℕ). Settled r more h os us) is_sum s in
      let told = subst (λ (m : More). Settled r m (before + n) os us) (sym answer) counted in
      let taken = subst (λ (u : List Deed). Settled r asked (before + n) os u) is told in
      after_take n (omega (arith, most, is_sum), rose) r (subst (λ (l : List ℕ). Settled r asked (before + n) l (took xs before)) same taken)
