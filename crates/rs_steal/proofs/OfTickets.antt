-- The laws of the rule, of tickets by their addresses.
use Rattle.std.proofs.Common.{◌≡◌, ℕ, true, false, ◌<◌, ◌≤◌, List, [], ◌∷◌, ◌++◌, set, refl, sym, ap, subst, arith}
use Rattle.std.proofs.lemmas.List.{length-map}
use Rattle.crossbeam_deque.specs.Tasks.{Pushes, Takes, FindsFew, Forks}
use Rattle.rs_mailbox.specs.declared.ticket.Ticket.{Ticket}
use Rattle.rs_steal.specs.declared.deque_rule.DequeView.{DequeView}
use Rattle.rs_steal.specs.Rule.{addresses, Holds, IsShared, founder, member, made_another, PutIn, TakenOut, WasEmpty}
use Rattle.rs_steal.proofs.Shares.{pushing, taking, finding_few, founds, joins}

joined : (xs ys : List Ticket) → addresses (xs ++ ys) ≡ addresses xs ++ addresses ys
joined [] ys = refl
joined (x ∷ xs) ys = ap (λ (l : List ℕ). x.address ∷ l) (joined xs ys)

pub pushing_ticket : (port : ℕ) (v : DequeView) (x : Ticket) → port ≡ 0 → x.address < v.bound → Pushes Holds port v (x ∷ []) (PutIn v (x.address ∷ []))
pushing_ticket port v x is small items views h at =
    let p = pushing port v x.address is small (addresses items) views h at in
    (p.0, subst (λ (l : List ℕ). IsShared l (set views port p.0)) (sym (joined items (x ∷ []))) p.1, p.2)

pub taking_tickets : (port : ℕ) (v : DequeView) → Takes Holds port v 1 (λ xs w. TakenOut v (addresses xs) w)
taking_tickets port v xs items views some_leave few h at =
    let n = length-map xs (λ (t : Ticket). t.address) in
    taking port v (addresses xs) (addresses items) views (omega (arith, n, some_leave)) (omega (arith, n, few)) (subst (λ (l : List ℕ). IsShared l views) (joined xs items) h) at

pub finding_few_tickets : (most port : ℕ) (v : DequeView) → most ≡ 0 → FindsFew Holds most port v (WasEmpty v)
finding_few_tickets most port v none items views few h at =
    finding_few most port v none (addresses items) views (omega (arith, length-map items (λ (t : Ticket). t.address), few)) h at

pub founding_tickets : (port : ℕ) (v : DequeView) (b n : ℕ) → port ≡ 0 → v.fresh ≡ true → 2 ≤ n → Forks Holds port v (founder b n v) (member b n)
founding_tickets port v b n is new room items views h at = founds port v b n is new room (addresses items) views h at

pub joining_tickets : (port : ℕ) (v : DequeView) → port ≡ 0 → v.fresh ≡ false → v.made < v.count → Forks Holds port v (made_another v) (member v.bound v.count)
joining_tickets port v is old room items views h at = joins port v is old room (addresses items) views h at
