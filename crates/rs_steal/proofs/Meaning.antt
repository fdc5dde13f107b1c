-- What the rule of a deque means.
use Rattle.std.proofs.Common.{◌≡◌, ℕ, ◌≤◌, List, length, take, drop, length-append, append-nil, sym, ap, ◌∙◌, arith}
use Rattle.std.proofs.Math.Seq.{drop-append_seam, take-append_seam}
use mathlib.Core.Option.{some}
use lib.ListN.{get_elem?}
use Rattle.rs_steal.specs.declared.deque_rule.DequeView.{DequeView}
use Rattle.rs_steal.specs.Rule.{of, IsShared, WasEmpty}
use Rattle.rs_steal.specs.Turn.{LeftInTurn}
use Rattle.rs_steal.proofs.Onces.{takers_within, took_all}
use Rattle.rs_steal.proofs.Shares.{below_length}

pub in_turn : (items : List ℕ) (views : List DequeView) (v : DequeView) → IsShared items views → get_elem? views 0 ≡ some v → LeftInTurn items views v.pushed
in_turn items views v h at = let whole = h.owner v at in let n = length h.gone in record {
  left = n;
  takers = h.takers;
  within = let a = ap length whole in let b = length-append h.gone items in omega (arith, a, b);
  rest = sym (ap (drop n) whole ∙ drop-append_seam h.gone items);
  tagged = h.tagged;
  passes = takers_within (length views) h.takers h.gone h.tagged h.later;
  each = λ p u e. (h.each p u e).0 ∙ ap (of p h.takers) (sym (ap (take n) whole ∙ take-append_seam h.gone items));
}

-- where the deque has one pass alone, an empty deque means that it popped all that it pushed
pub alone : (v : DequeView) → WasEmpty v → v.count ≡ 1 → v.popped ≡ v.pushed
alone v w one =
    let views = w.0 in let port = w.1 in let h = w.2 in let at = w.3 in
    let here = h.each port v at in
    let short : length views ≤ 1 = let a = h.few in let b = here.2 in omega (arith, a, b, one) in
    let first : port ≡ 0 = let a = below_length views port v at in omega (arith, a, short) in
    let within = takers_within (length views) h.takers h.gone h.tagged h.later in
    here.0 ∙ ap (λ p. of p h.takers h.gone) first
    ∙ took_all h.takers h.gone h.tagged (λ k d less. let a = within k d less in omega (arith, a, short))
    ∙ sym (append-nil h.gone) ∙ sym (h.owner v (ap (get_elem? views) (sym first) ∙ at))
