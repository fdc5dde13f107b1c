use Rattle.std.proofs.Common.{◌≡◌, ◌∙◌, sym, ap, subst, ℕ, suc, ◌+◌, ◌<◌, ◌≤◌, arith, List, map, ◌++◌}
use Rattle.std.specs.Prelude.{None, option_to_list}
use Rattle.rs_entry.specs.declared.input.Store.{Store}
use Rattle.rs_entry.specs.declared.outcome.ReplyLine.{ReplyLine}
use Rattle.rs_store.specs.declared.walk.Advance.{Advance}
use Rattle.rs_store.specs.Runs.{bare}
use Rattle.rs_store.specs.Stores.{ByRegion, Wrote, Went, Broke, after, last, least_ready, advance, entries_in, wrote, replied}
use Rattle.rs_store.specs.Walks.{Leads, Keeps, IsOneOn, made_by, store_of, gained}
use Rattle.rs_fold.specs.Ends.{WentSo}
use Rattle.rs_history.specs.Outcomes.{reply_line}
use Rattle.rs_fold.proofs.EndLaws.{went_on, went_last, never_breaks}
use Rattle.rs_fold.proofs.run.run_to_end.Goals as goal

pub returns-in-Rests-clause-value : goal.returns-in-Rests-clause-value
returns-in-Rests-clause-value c =
    let most : c.most-place-end.result ≡ entries_in c.args.store.now = c.most-place-end.ensures ∙ ap entries_in c.in_ok-walk.ensures.store in
    let within : c.loop-place.place ≤ entries_in c.args.store.now = omega (arith, most) in
    let none : least_ready c.args.store.now (bare (made_by c.loop-place.walk)) ≡ None =
    subst (λ (s : Store). least_ready s (bare (made_by c.loop-place.walk)) ≡ None) c.loop-place.invariant.store
    (subst (λ (a : Advance). Leads (store_of c.loop-place.walk) (made_by c.loop-place.walk) (made_by c.advance.new.self) a) c.in-Rests.is c.in_ok-effect.ensures.leads) in
    let stays : c.advance.new.self ≡ c.loop-place.walk =
    subst (λ (a : Advance). Keeps c.loop-place.walk c.advance.new.self a) c.in-Rests.is c.in_ok-effect.ensures.walk in
    subst (λ (f : ByRegion). WentSo (last c.args.store.now) f c.loop-place.writes c.loop-place.replies.items)
    (sym (c.finish.ensures.regions ∙ ap made_by stays))
    (went_last c.args.store.now c.loop-place.place (made_by c.loop-place.walk) c.loop-place.writes c.loop-place.replies.items within c.loop-place.invariant.so_far none)

pub unreachable-requires : goal.unreachable-requires
unreachable-requires c =
    let most : c.most-place-end.result ≡ entries_in c.args.store.now = c.most-place-end.ensures ∙ ap entries_in c.in_ok-walk.ensures.store in
    let within : c.loop-place.place < entries_in c.args.store.now = omega (arith, most) in
    let broke : advance c.args.store.now (bare (made_by c.loop-place.walk)) ≡ Broke c.in-Broke.field-0 =
    subst (λ (s : Store). advance s (bare (made_by c.loop-place.walk)) ≡ Broke c.in-Broke.field-0) c.loop-place.invariant.store
    (subst (λ (a : Advance). Leads (store_of c.loop-place.walk) (made_by c.loop-place.walk) (made_by c.advance.new.self) a) c.in-Broke.is c.in_ok-effect.ensures.leads) in
    never_breaks c.args.store.now c.loop-place.place (made_by c.loop-place.walk) c.loop-place.writes c.loop-place.replies.items c.in-Broke.field-0 within c.loop-place.invariant.so_far broke c.requires.lawful

pub loop-place-preserved : goal.loop-place-preserved
loop-place-preserved c =
    let one : suc c.loop-place.place ≡ c.loop-place.place + 1 = omega arith in
    let keeps : IsOneOn c.loop-place.walk c.advance.new.self =
    subst (λ (a : Advance). Keeps c.loop-place.walk c.advance.new.self a) c.in-Took.is c.in_ok-effect.ensures.walk in
    let took : advance c.args.store.now (bare (made_by c.loop-place.walk)) ≡ Went (gained (made_by c.advance.new.self) c.in-Took.effect) =
    subst (λ (s : Store). advance s (bare (made_by c.loop-place.walk)) ≡ Went (gained (made_by c.advance.new.self) c.in-Took.effect)) c.loop-place.invariant.store
    (subst (λ (a : Advance). Leads (store_of c.loop-place.walk) (made_by c.loop-place.walk) (made_by c.advance.new.self) a) c.in-Took.is c.in_ok-effect.ensures.leads) in
    let on : WentSo (after c.args.store.now (c.loop-place.place + 1)) (made_by c.advance.new.self) (c.loop-place.writes ++ map (wrote c.in-Took.effect.region c.in-Took.effect.index) c.in-Took.effect.ops.now) (c.loop-place.replies.items ++ map reply_line (replied c.in-Took.effect.region c.in-Took.effect.index (option_to_list c.in-Took.effect.reply))) =
    subst (λ (n : ℕ). WentSo (after c.args.store.now n) (made_by c.advance.new.self) (c.loop-place.writes ++ map (wrote c.in-Took.effect.region c.in-Took.effect.index) c.in-Took.effect.ops.now) (c.loop-place.replies.items ++ map reply_line (replied c.in-Took.effect.region c.in-Took.effect.index (option_to_list c.in-Took.effect.reply)))) one
    (went_on c.args.store.now c.loop-place.place (made_by c.loop-place.walk) (made_by c.advance.new.self) c.loop-place.writes c.loop-place.replies.items c.in-Took.effect c.loop-place.invariant.so_far took) in
    record {
      walk = keeps.walk;
      store = keeps.store ∙ c.loop-place.invariant.store;
      taken = keeps.taken ∙ ap (λ (n : ℕ). n + 1) c.loop-place.invariant.taken;
      so_far =
          subst (λ (ys : List ReplyLine). WentSo (after c.args.store.now (c.loop-place.place + 1)) (made_by c.advance.new.self) c.record.new.self ys) (sym c.in_ok-record_reply-in-Took.ensures)
          (subst (λ (ws : List Wrote). WentSo (after c.args.store.now (c.loop-place.place + 1)) (made_by c.advance.new.self) ws (c.loop-place.replies.items ++ map reply_line (replied c.in-Took.effect.region c.in-Took.effect.index (option_to_list c.in-Took.effect.reply)))) (sym c.in_ok-record-in-Took.ensures) on);
    }

pub returns-clause-value : goal.returns-clause-value
returns-clause-value c =
    let most : c.most-place-end.result ≡ entries_in c.args.store.now = c.most-place-end.ensures ∙ ap entries_in c.in_ok-walk.ensures.store in
    let end : c.loop-place.place ≡ entries_in c.args.store.now = omega (arith, most) in
    subst (λ (f : ByRegion). WentSo (last c.args.store.now) f c.loop-place.writes c.loop-place.replies.items) (sym c.finish-2.ensures.regions)
    (subst (λ (n : ℕ). WentSo (after c.args.store.now n) (made_by c.loop-place.walk) c.loop-place.writes c.loop-place.replies.items) end c.loop-place.invariant.so_far)
