-- Each push, each pop and each new pass keeps the rule.
use Rattle.std.proofs.Common.{◌≡◌, ◌≢◌, ℕ, zero, suc, ◌<◌, ◌⊎◌, true, true≢false, All, List, [], ◌∷◌, length, set, sym, refl, ap, ◌∙◌, subst, ⊎_elim, arith}
use Rattle.std.proofs.lemmas.List.Elements.{All-push}
use mathlib.Core.Option.{some, some-injective, some-ne-none}
use lib.ListN.{get_elem?}
use Rattle.atomic_table.proofs.Lists.{at_set, at_snoc}
use Rattle.crossbeam_queue.specs.Fifo.{Pushes, Pops, Learns, Forks}
use Rattle.rs_mailbox.specs.declared.ticket.Ticket.{Ticket}
use Rattle.rs_router.specs.declared.queue_rule.Line.{Line}
use Rattle.rs_router.specs.Lines.{line, pushes, pops, founder, member, IsBounded, Saw}

abbrev is_empty : List Ticket → Type 0
is_empty [] = Unit {0}
is_empty (x ∷ xs) = ⊥

below_length : {A : Type 0} (l : List A) (i : ℕ) (a : A) → get_elem? l i ≡ some a → i < length l
below_length [] i a e = absurd (some-ne-none a (sym e))
below_length (x ∷ xs) zero a e = omega arith
below_length (x ∷ xs) (suc i) a e = let r = below_length xs i a e in omega arith

stays : (b : ℕ) (views : List Line) (pass : ℕ) (v w : Line) → ((p : ℕ) (u : Line) → get_elem? views p ≡ some u → u.bound ≡ b) → get_elem? views pass ≡ some v → w.bound ≡ v.bound → (p : ℕ) (u : Line) → get_elem? (set views pass w) p ≡ some u → u.bound ≡ b
stays b views pass v w h at same p u e = ⊎_elim (λ t. ap (λ (y : Line). y.bound) (sym t.1) ∙ same ∙ h pass v at) (λ t. h p u t.1) (at_set views pass p w u e)

-- a view of pass 0 after a change that leaves `fresh`, before it
was_fresh : (views : List Line) (pass : ℕ) (v w u : Line) → get_elem? views pass ≡ some v → w.fresh ≡ v.fresh → get_elem? (set views pass w) 0 ≡ some u → u.fresh ≡ true → (y : Line) × (get_elem? views 0 ≡ some y) × (y.fresh ≡ true)
was_fresh views pass v w u at same e f = ⊎_elim (λ t. (v, ap (get_elem? views) t.0 ∙ at, sym same ∙ ap (λ (y : Line). y.fresh) t.1 ∙ f)) (λ t. (u, t.1, f)) (at_set views pass 0 w u e)

each_first : (p : ℕ) (v : Line) → get_elem? (line true 0 [] [] ∷ []) p ≡ some v → v.bound ≡ 0
each_first zero v e = ap (λ (u : Line). u.bound) (sym (some-injective (line true 0 [] []) v e))
each_first (suc p) v e = absurd (some-ne-none v (sym e))

pub begins : IsBounded [] (line true 0 [] [] ∷ [])
begins = record {
  bound = 0;
  each = each_first;
  fresh = λ v e f. (refl, refl, refl);
  below = λ k d less. absurd (omega arith);
}

pub pushing : (n pass : ℕ) (v : Line) (x : Ticket) → x.address < v.bound → Pushes IsBounded n pass v x (λ w. w ≡ pushes v x.address)
pushing n pass v x small items views room h at = (
  pushes v x.address,
  record {
    bound = h.bound;
    each = stays h.bound views pass v (pushes v x.address) h.each at refl;
    fresh = λ u e f. let y = was_fresh views pass v (pushes v x.address) u at refl e f in let z = (h.fresh y.0 y.1 y.2).0 in let b = h.each pass v at in absurd (omega (arith, z, b, small));
    below = All-push (λ (y : Ticket). y.address < h.bound) items x h.below (subst (λ (b : ℕ). x.address < b) (h.each pass v at) small);
  },
  refl,
)

pub popping : (pass : ℕ) (v : Line) → Pops IsBounded pass v (λ x w. (w ≡ pops v x.address) × (x.address < v.bound))
popping pass v x items views h at = (
  pops v x.address,
  record {
    bound = h.bound;
    each = stays h.bound views pass v (pops v x.address) h.each at refl;
    fresh = λ u e f. let y = was_fresh views pass v (pops v x.address) u at refl e f in absurd (subst is_empty (sym (h.fresh y.0 y.1 y.2).1) tt);
    below = λ k d less. h.below (suc k) d (omega arith);
  },
  (refl, subst (λ (b : ℕ). x.address < b) (sym (h.each pass v at)) (h.below 0 x (omega arith))),
)

pub learning : (pass : ℕ) (v : Line) → Learns IsBounded pass v (λ items. Saw items v)
learning pass v items views h at = (views, pass, h, at)

-- pass 0 makes one more pass, and so gives the queue its bound where it had none
pub founds : (pass : ℕ) (v : Line) (b : ℕ) → pass ≡ 0 → (v.fresh ≡ true) ⊎ (v.bound ≡ b) → Forks IsBounded pass v (founder b v) (member b)
founds pass v b is fits items views h at = let l : List Line = set views pass (founder b v) in
    let first = ap (get_elem? views) (sym is) ∙ at in
    let others : (j : ℕ) (u : Line) → j ≢ pass → get_elem? views j ≡ some u → u.bound ≡ b = λ j u ne e. ⊎_elim (λ (new : v.fresh ≡ true). let o = (h.fresh v first new).2 in let q = below_length views j u e in absurd (ne (omega arith)))
    (λ (old : v.bound ≡ b). h.each j u e ∙ sym (h.each pass v at) ∙ old) fits in record {
      bound = b;
      each = λ p u e. ⊎_elim (λ a. ⊎_elim (λ t. ap (λ (y : Line). y.bound) (sym t.1)) (λ t. others p u t.0 t.1) (at_set views pass p (founder b v) u a)) (λ same. ap (λ (y : Line). y.bound) (sym same)) (at_snoc l (member b) u p e);
      fresh = λ u e f. ⊎_elim (λ a. ⊎_elim (λ t. absurd (true≢false (sym (ap (λ (y : Line). y.fresh) t.1 ∙ f)))) (λ t. absurd (t.0 (sym is))) (at_set views pass 0 (founder b v) u a)) (λ same. absurd (true≢false (sym (ap (λ (y : Line). y.fresh) same ∙ f)))) (at_snoc l (member b) u 0 e);
      below = ⊎_elim (λ (new : v.fresh ≡ true). subst (All (λ (x : Ticket). x.address < b)) (sym (h.fresh v first new).1) (λ k d less. absurd (omega arith)))
          (λ (old : v.bound ≡ b). subst (λ (n : ℕ). All (λ (x : Ticket). x.address < n) items) (sym (h.each pass v at) ∙ old) h.below) fits;
    }
