use Rattle.std.proofs.Common.{rules, arith, ◌≡◌, ◌+◌, ◌<◌, ◌∙◌, ◌⊎◌, ◌++◌, ◌∷◌, [], ap, sym, subst, true, ℕ}
use Rattle.rs_check.specs.Values.{count_of}
use Rattle.rs_table.specs.Cuts.{Cut, IsIn}
use Rattle.rs_table.specs.CutViews.{cut_of, input_of, place_of}
use Rattle.rs_table.specs.Moves.{raised}
use Rattle.rs_table.specs.Tellings.{has, is_among, left_below, may_grow, waiters}
use Rattle.rs_table.proofs.Cutting.{known_next, left_falls, raised_in, raised_same, work_more}
use Rattle.rs_table.proofs.cut.Growing.step.Goals as goal

pub returns-clause-falls : goal.returns-clause-falls
returns-clause-falls c =
    let s = c.args.self.now in
    let t = c.take.new.self in
    let more = (known_next (input_of s.cut) (place_of s.cut) (has s.told) (cut_of s.cut) c.args.a c.requires.grows s.known).1 in
    let fall = left_falls (input_of s.cut) (place_of s.cut) (cut_of s.cut) c.args.a (count_of (input_of s.cut)) c.requires.below more in
    subst (λ p. left_below p.now (place_of t.cut) (cut_of t.cut) (count_of p.now) < left_below (input_of s.cut) (place_of s.cut) (cut_of s.cut) (count_of (input_of s.cut))) (sym c.in_ok-take.ensures.plan)
    (subst (λ p. left_below (input_of s.cut) p (cut_of t.cut) (count_of (input_of s.cut)) < left_below (input_of s.cut) (place_of s.cut) (cut_of s.cut) (count_of (input_of s.cut))) (sym c.in_ok-take.ensures.place)
    (subst (λ (n : Cut). left_below (input_of s.cut) (place_of s.cut) n (count_of (input_of s.cut)) < left_below (input_of s.cut) (place_of s.cut) (cut_of s.cut) (count_of (input_of s.cut))) (sym c.in_ok-take.ensures.ok) fall))

pub returns-clause-all : goal.returns-clause-all
returns-clause-all c x grows =
    let s = c.args.self.now in
    let t = c.take.new.self in
    let ns : cut_of t.cut ≡ raised (cut_of s.cut) c.args.a = c.in_ok-take.ensures.ok in
    let nth : c.covered-nth.result ≡ cut_of s.cut c.args.a + 1 = c.covered-nth.ensures ∙ (ap (λ (n : Cut). n c.args.a) ns ∙ raised_same (cut_of s.cut) c.args.a) in
    let pushed : c.push.new.self.items ≡ c.args.work.now.items ++ c.args.a ∷ [] = search rules in
    let got : c.get.result.now ≡ waiters t.waits c.args.a (cut_of s.cut c.args.a + 1) = c.get.ensures ∙ ap (waiters t.waits c.args.a) nth in
    let items : c.extend_from_slice.new.self.items ≡ (c.args.work.now.items ++ c.args.a ∷ []) ++ waiters t.waits c.args.a (cut_of s.cut c.args.a + 1) =
    c.in_ok-extend_from_slice.ensures.items ∙ (ap (λ xs. xs ++ c.get.result.now) pushed ∙ ap (λ ys. (c.args.work.now.items ++ c.args.a ∷ []) ++ ys) got) in
    let was : may_grow (input_of t.cut) (has t.told) (raised (cut_of s.cut) c.args.a) x ≡ true = subst (λ (n : Cut). may_grow (input_of t.cut) (has t.told) n x ≡ true) ns grows in
    let all : (y : ℕ) → may_grow (input_of t.cut) (has t.told) (cut_of s.cut) y ≡ true → (y ≡ c.args.a) ⊎ (is_among y c.args.work.now.items ≡ true) =
    λ y g. c.requires.all y (subst (λ p. may_grow p.now (has s.told) (cut_of s.cut) y ≡ true) c.in_ok-take.ensures.plan (subst (λ d. may_grow (input_of t.cut) (has d) (cut_of s.cut) y ≡ true) c.in_ok-take.ensures.told g)) in
    subst (λ xs. is_among x xs ≡ true) (sym items) (work_more (input_of t.cut) (place_of t.cut) (has t.told) (cut_of s.cut) (waiters t.waits) c.args.a c.args.work.now.items t.known t.waiting all x was)

pub returns-clause-more : goal.returns-clause-more
returns-clause-more c =
    let s = c.args.self.now in
    subst (λ (n : Cut). IsIn (cut_of s.cut) n) (sym c.in_ok-take.ensures.ok) (raised_in (cut_of s.cut) c.args.a)

pub returns-in_err-take-clause-more : goal.returns-in_err-take-clause-more
returns-in_err-take-clause-more c =
    let s = c.args.self.now in
    subst (λ (n : Cut). IsIn (cut_of s.cut) n) (sym c.in_err-take.ensures.err) (λ b. omega arith)

pub returns-in_err-push-clause-more : goal.returns-in_err-push-clause-more
returns-in_err-push-clause-more c =
    let s = c.args.self.now in
    subst (λ (n : Cut). IsIn (cut_of s.cut) n) (sym c.in_ok-take.ensures.ok) (raised_in (cut_of s.cut) c.args.a)

pub returns-in_err-extend_from_slice-clause-more : goal.returns-in_err-extend_from_slice-clause-more
returns-in_err-extend_from_slice-clause-more c =
    let s = c.args.self.now in
    subst (λ (n : Cut). IsIn (cut_of s.cut) n) (sym c.in_ok-take.ensures.ok) (raised_in (cut_of s.cut) c.args.a)
