use Rattle.std.proofs.Common.{rules, ◌≡◌, ◌∙◌, ap, true, false, cond, Bool, List, ℕ, ◌++◌, ◌∷◌, [], refl, Option, Some, None}
use Rattle.std.proofs.lemmas.Bool.{and_parts, eqb-true}
use Rattle.std.specs.Prelude.{◌==◌}
use Rattle.std.specs.BTreeMap.{get}
use Rattle.std.specs.Ordering.{nat_cmp, ordering_then}
use Rattle.rs_table.proofs.Pairs.{pair_test}
use Rattle.rs_table.specs.Tellings.{is_this, or_nil}
use Rattle.rs_table.proofs.waiters.Waiters.add.Goals as goal

-- what stands there, and the new one behind it
added : (f : ℕ → ℕ → Option (List ℕ)) (r m x a n : ℕ) (t : Bool) → is_this r m a n ≡ t
    → or_nil (cond t (Some (or_nil (f r m) ++ x ∷ [])) (cond t None (f a n))) ≡ cond t (or_nil (f a n) ++ x ∷ []) (or_nil (f a n))
added f r m x a n true e =
    let h = and_parts (r == a) (m == n) e in
    ap (λ z. or_nil (f z m) ++ x ∷ []) (eqb-true r a h.0) ∙ ap (λ z. or_nil (f a z) ++ x ∷ []) (eqb-true m n h.1)
added f r m x a n false e = refl

pub returns : goal.returns
returns c a n =
    let f : ℕ → ℕ → Option (List ℕ) = λ a n. get (λ x y. ordering_then (nat_cmp x.0 y.0) (nat_cmp x.1 y.1)) c.args.self.now.by (a, n) in
    let t = is_this c.args.need.0 c.args.need.1 a n in
    let test = pair_test c.args.need.0 c.args.need.1 a n in
    let rows : c.push.new.self ≡ or_nil (f c.args.need.0 c.args.need.1) ++ c.args.x ∷ [] = search rules in
    ap or_nil (c.in_ok-old.ensures.updates.0 (a, n)
    ∙ (ap (λ b. cond b (Some c.push.new.self) (get (λ x y. ordering_then (nat_cmp x.0 y.0) (nat_cmp x.1 y.1)) c.remove.new.self (a, n))) test
    ∙ (ap (λ o. cond t (Some c.push.new.self) o) (c.remove.ensures.updates.0 (a, n) ∙ ap (λ b. cond b None (f a n)) test)
    ∙ ap (λ xs. cond t (Some xs) (cond t None (f a n))) rows)))
    ∙ added f c.args.need.0 c.args.need.1 c.args.x a n t refl
