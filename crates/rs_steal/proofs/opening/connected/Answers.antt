use Rattle.std.proofs.Common.{rules, ◌≡◌, ◌<◌, ◌+◌, ◌++◌, [], ◌∷◌, All, length, length-append, map, take, drop, get_or, sym, subst, ap, ◌∙◌, arith}
use Rattle.std.proofs.lemmas.List.{length-map, map-append}
use Rattle.std.proofs.lemmas.List.Elements.{All-push}
use Rattle.rs_steal.specs.Thieves.{deque_of}
use Rattle.rs_steal.specs.Deques.{own_deque, placed, from_place}
use Rattle.rs_steal.specs.Opening.{IsFresh}
use Rattle.rs_steal.proofs.Places.{headed, drop_next, take_next, at_place, InPlaces, in_places_push, round}
use Rattle.rs_steal.proofs.opening.connected.Goals as goal

pub loop-place-preserved : goal.loop-place-preserved
loop-place-preserved c =
    let i = c.loop-place.invariant in
    let n = c.loop-place.place in
    let ids = map own_deque c.args.waiting.items in
    let p = c.remove-pass.result in
    let rest = c.remove-pass.new.self.items in
    let later = c.in_ok-add_thieves.ensures in
    let before = c.in_ok-add_thieves-2.ensures in
    let old = c.loop-place.done.items in
    let done = c.add_thieves-in-loop-place.new.others.items in
    let q = c.with_thieves.result in
    let made = c.with_thieves.ensures in
    let grown = c.in_ok-push.ensures.items in
    let some_wait : 0 < length c.loop-place.waiting.items = search rules in
    let split = headed c.loop-place.waiting.items p some_wait c.remove-pass.ensures.value ∙ ap (λ l. p ∷ l) (sym c.remove-pass.ensures.items) in
    let cut = sym (ap (map own_deque) split) ∙ i.2 in
    let own_is : own_deque q ≡ own_deque p = ap (λ x. get_or x.1 0 0) made.placed in
    let long = ap length before.placed in
    let seen = length-map done placed in
    let seen_old = length-map old placed in
    let ring = before.deques ∙ ap (λ l. l ++ map own_deque old) (later.deques ∙ ap (λ l. map deque_of l ++ map own_deque rest) c.new-thieves.ensures.items) in
    let turn = ap (λ l. own_deque p ∷ l) ring ∙ ap (λ l. l ++ map own_deque old) cut ∙ ap (λ l. drop n ids ++ l) i.3 in
    let at_end : length (map placed done) ≡ n = omega (arith, long, seen_old, i.1) in
    let address = (subst (All (IsFresh c.args.addresses c.args.passes n)) split i.4 0 p (omega arith)).1 in (
      (let a = ap length later.own in let b = length-map c.add_thieves.new.others.items own_deque in let d = length-map rest own_deque in let e = ap length split in omega (arith, a, b, d, e, i.0)),
      (let a = ap length grown in let b = length-append done (q ∷ []) in omega (arith, a, b, seen, at_end)),
      later.own ∙ drop_next n ids (own_deque p) (map own_deque rest) cut,
      ap (map own_deque) grown ∙ map-append own_deque done (q ∷ []) ∙ ap (λ l. l ++ own_deque q ∷ []) (before.own ∙ i.3)
          ∙ ap (λ d. take n ids ++ d ∷ []) own_is ∙ take_next n ids (own_deque p) (map own_deque rest) cut,
      later.fresh,
      subst (All (IsFresh c.args.addresses c.args.passes (n + 1))) (sym grown)
          (All-push (IsFresh c.args.addresses c.args.passes (n + 1)) done q before.fresh (subst (λ a. IsFresh a c.args.passes (n + 1) q) address made.fresh)),
      subst (λ l. InPlaces ids (map placed l)) (sym grown) (subst (InPlaces ids) (sym (map-append placed done (q ∷ [])))
          (in_places_push ids (map placed done) (placed q) (subst (InPlaces ids) (sym before.placed) i.6)
          (made.placed ∙ ap (at_place n) turn ∙ ap (λ m. at_place m (from_place m ids)) (sym at_end)))),
    )

pub returns-clause-round : goal.returns-clause-round
returns-clause-round c =
    let i = c.loop-place.invariant in
    let all : c.loop-place.place ≡ c.args.passes = search rules in
    round c.loop-place.place (map own_deque c.args.waiting.items) c.loop-place.done.items (length-map c.args.waiting.items own_deque ∙ c.requires.passes ∙ sym all) i.3 i.6
