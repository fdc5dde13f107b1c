use Rattle.std.proofs.Common.{◌≡◌, ◌∙◌, sym, ap, subst, ℕ, ◌+◌, ◌≤◌, ◌<◌, arith, true, false, List, length, take, slice_index_or, map, ◌++◌}
use Rattle.std.specs.Prelude.{None, option_to_list}
use Rattle.std.proofs.lemmas.List.{length-take-le}
use Rattle.std.proofs.Math.Seq.{take-length}
use Rattle.rs_entry.specs.declared.input.Store.{Store}
use Rattle.rs_entry.specs.declared.outcome.ReplyLine.{ReplyLine}
use Rattle.rs_store.specs.declared.walk.Advance.{Advance}
use Rattle.rs_store.specs.Runs.{bare}
use Rattle.rs_store.specs.Stores.{ByRegion, Went, Broke, Wrote, entries_in, is_ready, least_ready, opening, replied, step}
use Rattle.rs_store.specs.Walks.{Goes, IsOneOn, Keeps, gained, made_by, store_of}
use Rattle.rs_part.specs.Orders.{follow}
use Rattle.rs_fold.specs.Ordered.{EndsSo}
use Rattle.rs_history.specs.Outcomes.{reply_line}
use Rattle.rs_fold.proofs.OrderSteps.{few_steps, goes_at, order_unfinished, region_at, room_at, stops_at, whole_at}
use Rattle.rs_fold.proofs.in_order.run_in_order.Goals as goal

pub is_ready-requires-clause-few : goal.is_ready-requires-clause-few
is_ready-requires-clause-few c =
    let long : length (take c.loop-place.place c.args.order.now) ≡ c.loop-place.place = length-take-le c.loop-place.place c.args.order.now (omega (arith, c.loop-place-test.true)) in
    let fits : length (take c.loop-place.place c.args.order.now) ≤ entries_in c.args.store.now =
    few_steps c.args.store.now c.requires.scripted c.requires.lawful (take c.loop-place.place c.args.order.now) (made_by c.loop-place.walk) c.loop-place.writes c.loop-place.replies.items c.loop-place.invariant.so_far in
    omega (arith, long, fits, c.loop-place.invariant.taken, c.requires.formed.few)

pub returns-then-not-is_ready-clause-value : goal.returns-then-not-is_ready-clause-value
returns-then-not-is_ready-clause-value c =
    let waits : is_ready c.args.store.now (bare (made_by c.loop-place.walk)) (slice_index_or c.args.order.now c.loop-place.place 0) ≡ false =
    ap (λ (s : Store). is_ready s (bare (made_by c.loop-place.walk)) (slice_index_or c.args.order.now c.loop-place.place 0)) (sym c.loop-place.invariant.store) ∙ (sym c.is_ready.ensures ∙ c.if-not-is_ready.true) in
    stops_at c.args.store.now c.requires.scripted c.requires.lawful c.args.order.now c.loop-place.place (slice_index_or c.args.order.now c.loop-place.place 0) c.loop-place-test.true
    (region_at c.args.order.now c.loop-place.place c.loop-place-test.true)
    (made_by c.loop-place.walk) c.loop-place.writes c.loop-place.replies.items c.loop-place.invariant.so_far waits

pub take-requires-clause-few : goal.take-requires-clause-few
take-requires-clause-few c =
    let ready : is_ready c.args.store.now (bare (made_by c.loop-place.walk)) (slice_index_or c.args.order.now c.loop-place.place 0) ≡ true =
    ap (λ (s : Store). is_ready s (bare (made_by c.loop-place.walk)) (slice_index_or c.args.order.now c.loop-place.place 0)) (sym c.loop-place.invariant.store) ∙ (sym c.is_ready.ensures ∙ c.if-not-is_ready.false) in
    let room : c.loop-place.place < entries_in c.args.store.now =
    room_at c.args.store.now c.requires.scripted c.requires.lawful c.args.order.now c.loop-place.place (slice_index_or c.args.order.now c.loop-place.place 0) c.loop-place-test.true
    (region_at c.args.order.now c.loop-place.place c.loop-place-test.true)
    (made_by c.loop-place.walk) c.loop-place.writes c.loop-place.replies.items c.loop-place.invariant.so_far ready in
    let same : entries_in (store_of c.loop-place.walk) ≡ entries_in c.args.store.now = ap entries_in c.loop-place.invariant.store in
    omega (arith, room, same, c.loop-place.invariant.taken)

pub unreachable-requires : goal.unreachable-requires
unreachable-requires c =
    subst (λ (a : Advance). Goes (step (store_of c.loop-place.walk) (bare (made_by c.loop-place.walk)) (slice_index_or c.args.order.now c.loop-place.place 0)) (made_by c.take.new.self) a) c.in-Rests.is c.in_ok-effect.ensures.goes

pub unreachable-requires-in-Broke : goal.unreachable-requires-in-Broke
unreachable-requires-in-Broke c =
    let ready : is_ready c.args.store.now (bare (made_by c.loop-place.walk)) (slice_index_or c.args.order.now c.loop-place.place 0) ≡ true =
    ap (λ (s : Store). is_ready s (bare (made_by c.loop-place.walk)) (slice_index_or c.args.order.now c.loop-place.place 0)) (sym c.loop-place.invariant.store) ∙ (sym c.is_ready.ensures ∙ c.if-not-is_ready.false) in
    let broke : step c.args.store.now (bare (made_by c.loop-place.walk)) (slice_index_or c.args.order.now c.loop-place.place 0) ≡ Broke c.in-Broke.field-0 =
    subst (λ (s : Store). step s (bare (made_by c.loop-place.walk)) (slice_index_or c.args.order.now c.loop-place.place 0) ≡ Broke c.in-Broke.field-0) c.loop-place.invariant.store
    (subst (λ (a : Advance). Goes (step (store_of c.loop-place.walk) (bare (made_by c.loop-place.walk)) (slice_index_or c.args.order.now c.loop-place.place 0)) (made_by c.take.new.self) a) c.in-Broke.is c.in_ok-effect.ensures.goes) in
    whole_at c.args.store.now c.requires.scripted c.requires.lawful c.args.order.now c.loop-place.place (slice_index_or c.args.order.now c.loop-place.place 0) c.loop-place-test.true
    (region_at c.args.order.now c.loop-place.place c.loop-place-test.true)
    (made_by c.loop-place.walk) c.loop-place.writes c.loop-place.replies.items c.loop-place.invariant.so_far c.in-Broke.field-0 ready broke

pub loop-place-preserved : goal.loop-place-preserved
loop-place-preserved c =
    let ready : is_ready c.args.store.now (bare (made_by c.loop-place.walk)) (slice_index_or c.args.order.now c.loop-place.place 0) ≡ true =
    ap (λ (s : Store). is_ready s (bare (made_by c.loop-place.walk)) (slice_index_or c.args.order.now c.loop-place.place 0)) (sym c.loop-place.invariant.store) ∙ (sym c.is_ready.ensures ∙ c.if-not-is_ready.false) in
    let keeps : IsOneOn c.loop-place.walk c.take.new.self = subst (λ (a : Advance). Keeps c.loop-place.walk c.take.new.self a) c.in-Took.is c.in_ok-effect.ensures.walk in
    let went : step c.args.store.now (bare (made_by c.loop-place.walk)) (slice_index_or c.args.order.now c.loop-place.place 0) ≡ Went (gained (made_by c.take.new.self) c.in-Took.effect) =
    subst (λ (s : Store). step s (bare (made_by c.loop-place.walk)) (slice_index_or c.args.order.now c.loop-place.place 0) ≡ Went (gained (made_by c.take.new.self) c.in-Took.effect)) c.loop-place.invariant.store
    (subst (λ (a : Advance). Goes (step (store_of c.loop-place.walk) (bare (made_by c.loop-place.walk)) (slice_index_or c.args.order.now c.loop-place.place 0)) (made_by c.take.new.self) a) c.in-Took.is c.in_ok-effect.ensures.goes) in
    let on = goes_at c.args.store.now c.requires.scripted c.requires.lawful c.args.order.now c.loop-place.place (slice_index_or c.args.order.now c.loop-place.place 0) c.loop-place-test.true
    (region_at c.args.order.now c.loop-place.place c.loop-place-test.true)
    (made_by c.loop-place.walk) c.loop-place.writes c.loop-place.replies.items c.loop-place.invariant.so_far (made_by c.take.new.self) c.in-Took.effect ready went in
    record {
      walk = keeps.walk;
      store = keeps.store ∙ c.loop-place.invariant.store;
      taken = keeps.taken ∙ ap (λ (n : ℕ). n + 1) c.loop-place.invariant.taken;
      so_far =
          subst (λ (ys : List ReplyLine). EndsSo (follow c.args.store.now 1 (take (c.loop-place.place + 1) c.args.order.now) (opening c.args.store.now)) (made_by c.take.new.self) c.record.new.self ys) (sym c.in_ok-record_reply-in-Took.ensures)
          (subst (λ (ws : List Wrote). EndsSo (follow c.args.store.now 1 (take (c.loop-place.place + 1) c.args.order.now) (opening c.args.store.now)) (made_by c.take.new.self) ws (c.loop-place.replies.items ++ map reply_line (replied c.in-Took.effect.region c.in-Took.effect.index (option_to_list c.in-Took.effect.reply)))) (sym c.in_ok-record-in-Took.ensures) on);
    }

pub least_ready-requires-clause-few : goal.least_ready-requires-clause-few
least_ready-requires-clause-few c =
    let end : c.loop-place.place ≡ length c.args.order.now = omega (arith, c.loop-place-test.false, c.loop-place.auto.place-end) in
    let long : length (take c.loop-place.place c.args.order.now) ≡ c.loop-place.place = length-take-le c.loop-place.place c.args.order.now (omega (arith, end)) in
    let fits : length (take c.loop-place.place c.args.order.now) ≤ entries_in c.args.store.now =
    few_steps c.args.store.now c.requires.scripted c.requires.lawful (take c.loop-place.place c.args.order.now) (made_by c.loop-place.walk) c.loop-place.writes c.loop-place.replies.items c.loop-place.invariant.so_far in
    omega (arith, long, fits, c.loop-place.invariant.taken, c.requires.formed.few)

pub returns-in-Some-clause-value : goal.returns-in-Some-clause-value
returns-in-Some-clause-value c =
    let end : c.loop-place.place ≡ length c.args.order.now = omega (arith, c.loop-place-test.false, c.loop-place.auto.place-end) in
    let all : take c.loop-place.place c.args.order.now ≡ c.args.order.now = ap (λ n. take n c.args.order.now) end ∙ take-length c.args.order.now in
    order_unfinished c.args.store.now c.requires.scripted c.requires.lawful c.args.order.now (made_by c.loop-place.walk) c.loop-place.writes c.loop-place.replies.items c.in-Some.region
    (subst (λ xs. EndsSo (follow c.args.store.now 1 xs (opening c.args.store.now)) (made_by c.loop-place.walk) c.loop-place.writes c.loop-place.replies.items) all c.loop-place.invariant.so_far)
    (ap (λ (s : Store). least_ready s (bare (made_by c.loop-place.walk))) (sym c.loop-place.invariant.store) ∙ sym c.in-Some.ensures.ready)

pub returns-clause-value : goal.returns-clause-value
returns-clause-value c =
    let end : c.loop-place.place ≡ length c.args.order.now = omega (arith, c.loop-place-test.false, c.loop-place.auto.place-end) in
    let all : take c.loop-place.place c.args.order.now ≡ c.args.order.now = ap (λ n. take n c.args.order.now) end ∙ take-length c.args.order.now in
    let so : EndsSo (follow c.args.store.now 1 c.args.order.now (opening c.args.store.now)) (made_by c.loop-place.walk) c.loop-place.writes c.loop-place.replies.items =
    subst (λ xs. EndsSo (follow c.args.store.now 1 xs (opening c.args.store.now)) (made_by c.loop-place.walk) c.loop-place.writes c.loop-place.replies.items) all c.loop-place.invariant.so_far in
    let none : least_ready c.args.store.now (bare (made_by c.loop-place.walk)) ≡ None =
    ap (λ (s : Store). least_ready s (bare (made_by c.loop-place.walk))) (sym c.loop-place.invariant.store) ∙ sym c.in_default.ensures.ready in
    subst (λ (f : ByRegion). EndsSo (follow c.args.store.now 1 c.args.order.now (opening c.args.store.now)) f c.loop-place.writes c.loop-place.replies.items × (least_ready c.args.store.now (bare f) ≡ None))
    (sym (c.finish.ensures.regions ∙ c.in_default.ensures.made)) (so, none)
