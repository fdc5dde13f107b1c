use Rattle.std.proofs.Common.{rules, ◌<◌, ◌+◌, ◌++◌, [], ◌∷◌, All, length, length-set, map, take, sym, subst, ap, ◌∙◌, append_assoc, arith}
use Rattle.std.proofs.lemmas.List.{map-append}
use Rattle.std.proofs.lemmas.List.Elements.{All-push, AllWithin-more_set}
use Rattle.crossbeam_deque.specs.Handles.{view}
use Rattle.rs_steal.specs.declared.thief.Thief.{Thief}
use Rattle.rs_steal.specs.Thieves.{deque_of, views_of}
use Rattle.rs_steal.specs.Deques.{own_deque, placed}
use Rattle.rs_steal.specs.Opening.{IsGuest, IsFresh}
use Rattle.rs_steal.proofs.Rounds.{kept}
use Rattle.rs_steal.proofs.Places.{after_kept, take_seen}
use Rattle.rs_steal.proofs.opening.add_thieves.Goals as goal

pub loop-k-preserved : goal.loop-k-preserved
loop-k-preserved c =
    let i = c.loop-k.invariant in
    let rows = c.loop-k.others.items in
    let first = c.args.others.now.items in
    let k = c.loop-k.k in
    let p = c.index_mut.result.now in
    let at = c.index_mut.ensures.value in
    let less : k < length rows = search rules in
    let fresh = IsFresh c.args.addresses c.args.passes c.args.place in
    let was = subst fresh (sym at) (i.4 k p (omega arith) less) in
    let t = c.in_ok-thief.thief in
    let told = c.in_ok-thief.ensures.thief in
    let grown = c.in_ok-push.ensures.items in
    let same = c.thief_of.ensures.deque in (
      length-set rows k _ ∙ i.0,
      kept own_deque rows first k p _ i.1 at (ap (λ d. d.0.0) same),
      kept placed rows first k p _ i.2 at (ap (λ d. (p.place, d.0.0 ∷ map deque_of p.thieves.items)) same),
      AllWithin-more_set rows k _ less (IsFresh c.args.addresses c.args.passes (c.args.place + 1)) i.3 (c.thief_of.ensures.own, was.1, was.2, was.3),
      after_kept fresh rows k _ i.4,
      subst (λ l. All (IsGuest c.args.addresses) (views_of l)) (sym grown)
          (subst (All (IsGuest c.args.addresses)) (sym (map-append (λ (u : Thief). view u.pass) c.loop-k.thieves.items (t ∷ [])))
          (All-push (IsGuest c.args.addresses) (views_of c.loop-k.thieves.items) (view t.pass) i.5 told.0)),
      ap (map deque_of) grown ∙ map-append deque_of c.loop-k.thieves.items (t ∷ [])
          ∙ ap (λ l. l ++ deque_of t ∷ []) i.6
          ∙ append_assoc (map deque_of c.args.thieves.now.items) (take k (map own_deque first)) (deque_of t ∷ [])
          ∙ ap (λ d. map deque_of c.args.thieves.now.items ++ (take k (map own_deque first) ++ d ∷ [])) (ap (λ d. d.0.0) told.1)
          ∙ ap (λ l. map deque_of c.args.thieves.now.items ++ l) (take_seen own_deque rows k p (map own_deque first) less at i.1),
    )
