use Rattle.std.proofs.Common.{rules, ◌≡◌, ◌∙◌, ap, ◌<◌, length, refl, sym, subst, arith}
use Rattle.std.specs.Prelude.{Some, None, slice_get}
use Rattle.rs_store.specs.Places.{Places, with_place, known}
use Rattle.rs_check.specs.Statements.{Stated, at_place, pair_of}
use Rattle.rs_check.proofs.DifferSteps.{Placed, placed_below, slice_here, places_put, places_kept, far_new, far_same, far_differs}
use Rattle.rs_check.proofs.differ.first_differ.Goals as goal

pub loop-place-init : goal.loop-place-init
loop-place-init c = record {
  placed = record {
    places = λ r i. ap (λ m. at_place c.args.all.now (m r i)) c.new-firsts.ensures;
    below = λ r i k h. let e = ap (λ m. m r i) c.new-firsts.ensures in absurd cc;
  };
  so_far = refl;
}

pub offset_bounds-all-first : goal.offset_bounds-all-first
offset_bounds-all-first c =
    let p = subst (λ (m : Places). Placed c.args.all.now m c.loop-place.place) (sym c.in_ok-turn_to.ensures.known) c.loop-place.invariant.placed in
    let below : c.in-Some.first < c.loop-place.place = p.below c.said.inside.region c.said.inside.index c.in-Some.first (sym c.in-Some.ensures) in
    let lt : c.in-Some.first < length c.args.all.now = omega arith in
    search rules

pub bounds-all-first : goal.bounds-all-first
bounds-all-first c =
    let p = subst (λ (m : Places). Placed c.args.all.now m c.loop-place.place) (sym c.in_ok-turn_to.ensures.known) c.loop-place.invariant.placed in
    let below : c.in-Some.first < c.loop-place.place = p.below c.said.inside.region c.said.inside.index c.in-Some.first (sym c.in-Some.ensures) in
    omega arith

pub returns-then-not-same : goal.returns-then-not-same
returns-then-not-same c =
    let f = known c.turn_to.new.self in
    let p = subst (λ (m : Places). Placed c.args.all.now m c.loop-place.place) (sym c.in_ok-turn_to.ensures.known) c.loop-place.invariant.placed in
    let lt : c.loop-place.place < length c.args.all.now = c.loop-place-test.true in
    let here : slice_get c.args.all.now c.loop-place.place ≡ Some c.index-all-place.result = slice_here c.args.all.now c.loop-place.place c.index-all-place.result lt c.index-all-place.is in
    let k : f c.index-all-place.result.region c.index-all-place.result.index ≡ Some c.in-Some.first =
    subst (λ (s : Stated). known c.turn_to.new.self s.region s.index ≡ Some c.in-Some.first) c.said.view_is (sym c.in-Some.ensures) in
    let below : c.in-Some.first < length c.args.all.now = omega (arith, p.below c.index-all-place.result.region c.index-all-place.result.index c.in-Some.first k) in
    let there : slice_get c.args.all.now c.in-Some.first ≡ Some c.index-all-first.result = slice_here c.args.all.now c.in-Some.first c.index-all-first.result below c.index-all-first.is in
    ap (λ o. pair_of o (slice_get c.args.all.now c.loop-place.place)) there
    ∙ (ap (pair_of (Some c.index-all-first.result)) here
    ∙ sym (c.loop-place.invariant.so_far
    ∙ far_differs c.args.all.now f c.loop-place.place c.index-all-place.result here p.places
    c.index-all-first.result (ap (at_place c.args.all.now) k ∙ there) (sym c.if-not-same.ensures)))

pub loop-place-preserved : goal.loop-place-preserved
loop-place-preserved c =
    let f = known c.turn_to.new.self in
    let p = subst (λ (m : Places). Placed c.args.all.now m c.loop-place.place) (sym c.in_ok-turn_to.ensures.known) c.loop-place.invariant.placed in
    let lt : c.loop-place.place < length c.args.all.now = c.loop-place-test.true in
    let here : slice_get c.args.all.now c.loop-place.place ≡ Some c.index-all-place.result = slice_here c.args.all.now c.loop-place.place c.index-all-place.result lt c.index-all-place.is in
    let k : f c.index-all-place.result.region c.index-all-place.result.index ≡ Some c.in-Some.first =
    subst (λ (s : Stated). known c.turn_to.new.self s.region s.index ≡ Some c.in-Some.first) c.said.view_is (sym c.in-Some.ensures) in
    let below : c.in-Some.first < length c.args.all.now = omega (arith, p.below c.index-all-place.result.region c.index-all-place.result.index c.in-Some.first k) in
    let there : at_place c.args.all.now (f c.index-all-place.result.region c.index-all-place.result.index) ≡ Some c.index-all-first.result =
    ap (at_place c.args.all.now) k ∙ slice_here c.args.all.now c.in-Some.first c.index-all-first.result below c.index-all-first.is in
    record {
      placed = record {
        places = places_kept c.args.all.now f c.loop-place.place c.index-all-place.result here p.places c.index-all-first.result there;
        below = λ r i n h. omega (arith, p.below r i n h);
      };
      so_far = c.loop-place.invariant.so_far ∙ far_same c.args.all.now f c.loop-place.place c.index-all-place.result here p.places c.index-all-first.result there (sym c.if-not-same.ensures);
    }

pub loop-place-preserved-in-None : goal.loop-place-preserved-in-None
loop-place-preserved-in-None c =
    let f = known c.turn_to.new.self in
    let p = subst (λ (m : Places). Placed c.args.all.now m c.loop-place.place) (sym c.in_ok-turn_to.ensures.known) c.loop-place.invariant.placed in
    let lt : c.loop-place.place < length c.args.all.now = c.loop-place-test.true in
    let here : slice_get c.args.all.now c.loop-place.place ≡ Some c.index-all-place.result = slice_here c.args.all.now c.loop-place.place c.index-all-place.result lt c.index-all-place.is in
    let k : f c.index-all-place.result.region c.index-all-place.result.index ≡ None =
    subst (λ (s : Stated). known c.turn_to.new.self s.region s.index ≡ None) c.said.view_is (sym c.in-None.ensures) in
    let put : known c.put.new.self ≡ with_place f c.index-all-place.result.region c.index-all-place.result.index c.loop-place.place =
    subst (λ (s : Stated). known c.put.new.self ≡ with_place (known c.turn_to.new.self) s.region s.index c.loop-place.place) c.said.view_is c.in_ok-put-in-None.ensures in
    record {
      placed = record {
        places = λ r i. ap (λ (m : Places). at_place c.args.all.now (m r i)) put
            ∙ places_put c.args.all.now f c.loop-place.place c.index-all-place.result here p.places k r i;
        below = λ r i n h. placed_below f c.index-all-place.result.region c.index-all-place.result.index c.loop-place.place p.below r i n
            (sym (ap (λ (m : Places). m r i) put) ∙ h);
      };
      so_far = c.loop-place.invariant.so_far ∙ far_new c.args.all.now f c.loop-place.place c.index-all-place.result here p.places k;
    }
