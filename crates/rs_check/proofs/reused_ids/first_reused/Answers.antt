use Rattle.std.proofs.Common.{◌<◌, ◌+◌, ◌∙◌, ap, sym, length, ◌≡◌, get_or, subst, ℕ, List, [], take, drop, refl}
use Rattle.std.specs.Prelude.{Some, None, map}
use Rattle.std.specs.List.{flat_map, list_any}
use Rattle.rs_entry.specs.declared.input.Boot.{Boot}
use Rattle.rs_store.specs.Stores.{first_some}
use Rattle.rs_check.specs.Statements.{Stated, said_of}
use Rattle.rs_check.specs.Laws.{is_named, names_in, ids_said, reused_id, reused_at, first_reused}
use Rattle.rs_check.specs.Namings.{namings, Namings, with_namings, is_other, reused_by}
use Rattle.rs_check.proofs.LawSteps.{same_reused, reused_far, named_here, names_more, free_of}
use Rattle.rs_check.proofs.reused_ids.first_reused.Goals as goal

pub loop-said-init : goal.loop-said-init
loop-said-init c = record {
  named = λ id r x. ap (λ (f : Namings). is_other r x (f id)) c.new-names.ensures;
  so_far = refl;
}

pub returns-in-Some : goal.returns-in-Some
returns-in-Some c =
    let lt : c.loop-said.said-index < length c.args.all.now = c.loop-said-test.true in
    let s : Stated = record { store = c.said.inside.store; region = c.said.inside.region; index = c.said.inside.index; what = said_of c.said.inside.what } in
    let here : s ≡ get_or c.args.all.now c.loop-said.said-index s = subst (λ (x : Stated). x ≡ get_or c.args.all.now c.loop-said.said-index x) (sym c.said.view_is) c.said-item.is in
    let bs : List ℕ = map (λ (b : Boot). b.region) c.args.roots.now in
    let found : reused_id bs (flat_map names_in (take c.loop-said.said-index c.args.all.now)) s.region s.index [] (ids_said s.what) ≡ Some c.in-Some.id =
    sym (same_reused bs (namings c.in_ok-boots.boots) c.in_ok-boots.ensures (flat_map names_in (take c.loop-said.said-index c.args.all.now)) (namings c.loop-said.names) s.region s.index c.loop-said.invariant.named [] (ids_said s.what))
    ∙ (ap (reused_by (namings c.in_ok-boots.boots) (namings c.loop-said.names) s.region s.index []) (sym c.ids_said-ids.ensures) ∙ sym c.in-Some.ensures) in
    sym (c.loop-said.invariant.so_far
    ∙ (reused_far bs c.args.all.now c.loop-said.said-index s lt here
    ∙ ap (λ o. first_some (reused_at s o) (first_reused bs (flat_map names_in (take (c.loop-said.said-index + 1) c.args.all.now)) (drop (c.loop-said.said-index + 1) c.args.all.now))) found))

pub loop-said-preserved : goal.loop-said-preserved
loop-said-preserved c =
    let lt : c.loop-said.said-index < length c.args.all.now = c.loop-said-test.true in
    let s : Stated = record { store = c.said.inside.store; region = c.said.inside.region; index = c.said.inside.index; what = said_of c.said.inside.what } in
    let here : s ≡ get_or c.args.all.now c.loop-said.said-index s = subst (λ (x : Stated). x ≡ get_or c.args.all.now c.loop-said.said-index x) (sym c.said.view_is) c.said-item.is in
    let bs : List ℕ = map (λ (b : Boot). b.region) c.args.roots.now in
    let by : reused_by (namings c.in_ok-boots.boots) (namings c.loop-said.names) s.region s.index [] (ids_said s.what) ≡ None =
    ap (reused_by (namings c.in_ok-boots.boots) (namings c.loop-said.names) s.region s.index []) (sym c.ids_said-ids.ensures) ∙ sym c.in_default.ensures in
    let found : reused_id bs (flat_map names_in (take c.loop-said.said-index c.args.all.now)) s.region s.index [] (ids_said s.what) ≡ None =
    sym (same_reused bs (namings c.in_ok-boots.boots) c.in_ok-boots.ensures (flat_map names_in (take c.loop-said.said-index c.args.all.now)) (namings c.loop-said.names) s.region s.index c.loop-said.invariant.named [] (ids_said s.what)) ∙ by in
    let put : namings c.put_all.new.names ≡ with_namings (namings c.loop-said.names) s.region s.index (ids_said s.what) =
    c.in_ok-put_all.ensures ∙ ap (with_namings (namings c.loop-said.names) s.region s.index) c.ids_said-ids.ensures in
    record {
      named = λ id r x. ap (λ (f : Namings). is_other r x (f id)) put
          ∙ (names_more (ids_said s.what) (flat_map names_in (take c.loop-said.said-index c.args.all.now)) (namings c.loop-said.names) s.region s.index
          (free_of (namings c.in_ok-boots.boots) (namings c.loop-said.names) s.region s.index [] (ids_said s.what) by) c.loop-said.invariant.named id r x
          ∙ ap (list_any (is_named id r x)) (sym (named_here c.args.all.now c.loop-said.said-index s lt here)));
      so_far = c.loop-said.invariant.so_far
          ∙ (reused_far bs c.args.all.now c.loop-said.said-index s lt here
          ∙ ap (λ o. first_some (reused_at s o) (first_reused bs (flat_map names_in (take (c.loop-said.said-index + 1) c.args.all.now)) (drop (c.loop-said.said-index + 1) c.args.all.now))) found);
    }
