use Rattle.std.proofs.Common.{rules, ◌≡◌, ◌<◌, ◌≤◌, ◌+◌, ◌-◌, ◌++◌, ◌∷◌, [], ℕ, suc, true, ap, sym, ◌∙◌, arith, subst, length, drop, slice_index_or, slice_set}
use Rattle.std.proofs.lemmas.Result.{on_err_weaker, on_ok_weaker}
use Rattle.rs_msg.specs.Maps.{AreParts, StartsRise, HasItems, begins_by, items_at, with_writes, written}
use Rattle.rs_msg.proofs.Noting.{first_apart, first_items, more_writes, part_apart, part_items, still_some}
use Rattle.rs_msg.proofs.Parted.{AreAbove, seen_above, seen_begins, set_same, starts_rise}
use Rattle.rs_msg.proofs.Results.{either_way}
use Rattle.rs_msg.proofs.map.Map.note_one.Goals as goal

pub parts_to-place-requires : goal.parts_to-place-requires
parts_to-place-requires c = subst (λ l. StartsRise l) (sym c.as_slice.ensures.value) (starts_rise c.self.inside.first c.self.inside.parts.items c.self.invariant.0)

pub index_mut-requires : goal.index_mut-requires
index_mut-requires c = omega (arith, c.parts_to-place.ensures.bound, c.as_slice.ensures.len, c.if-place-eq0.false)

above_all : (c : goal.After-push) → AreAbove c.new-write.result.key c.self.inside.parts.items
above_all c =
    subst (λ n. AreAbove c.new-write.result.key (drop n c.self.inside.parts.items)) c.if-place-eq0.true
    (seen_above c.key.result.now c.new-write.result.key c.as_slice.result.now c.self.inside.parts.items c.parts_to-place.result c.key.ensures c.as_slice.ensures.value c.parts_to-place.ensures.point.1)

pub invariant_of-self : goal.invariant_of-self
invariant_of-self c =
    either_way c.push.result (λ f. AreParts f c.self.inside.parts.items) c.self.inside.first (c.self.inside.first ++ c.new-write.result ∷ []) c.push.new.self c.push.ensures.ok c.push.ensures.err c.self.invariant
    (first_apart c.self.inside.first c.self.inside.parts.items c.new-write.result c.self.invariant.0 (above_all c), λ some. still_some c.self.inside.first c.new-write.result)

pub returns-then-place-eq0-clause-ok : goal.returns-then-place-eq0-clause-ok
returns-then-place-eq0-clause-ok c =
    on_ok_weaker c.push.result
    (λ is q. ap (λ f. items_at (written f c.self.inside.parts.items) q) is
    ∙ first_items c.self.inside.first c.self.inside.parts.items c.new-write.result c.self.invariant.0 (above_all c) q
    ∙ ap (λ m. with_writes (items_at m) (c.new-write.result ∷ []) q) c.self.view_is ∙ ap (λ w. with_writes (items_at c.args.self.now) (w ∷ []) q) c.new-write.ensures)
    c.push.ensures.ok

pub returns-then-place-eq0-clause-err : goal.returns-then-place-eq0-clause-err
returns-then-place-eq0-clause-err c = on_err_weaker c.push.result (λ is. ap (λ f. written f c.self.inside.parts.items) is ∙ c.self.view_is) c.push.ensures.err

module _ (c : goal.After-self-1) where
  abbrev at : ℕ
  at = c.parts_to-place.result - 1

  there : at < length c.self.inside.parts.items
  there = omega (arith, c.parts_to-place.ensures.bound, ap length c.as_slice.ensures.value, c.if-place-eq0.false)

  next : suc at ≡ c.parts_to-place.result
  next = omega (arith, c.if-place-eq0.false)

  begins : begins_by c.new-write.result.key c.index_mut.result.now ≡ true
  begins =
      seen_begins c.key.result.now c.new-write.result.key c.as_slice.result.now c.self.inside.parts.items c.parts_to-place.result at c.index_mut.result.now c.key.ensures c.as_slice.ensures.value c.parts_to-place.ensures.point.0
      (omega (arith, next)) c.index_mut.ensures.value

  above : AreAbove c.new-write.result.key (drop (suc at) c.self.inside.parts.items)
  above =
      subst (λ n. AreAbove c.new-write.result.key (drop n c.self.inside.parts.items)) (sym next)
      (seen_above c.key.result.now c.new-write.result.key c.as_slice.result.now c.self.inside.parts.items c.parts_to-place.result c.key.ensures c.as_slice.ensures.value c.parts_to-place.ensures.point.1)

  same : slice_set c.self.inside.parts.items at c.index_mut.result.now ≡ c.self.inside.parts.items
  same = set_same c.self.inside.parts.items at c.index_mut.result.now c.index_mut.ensures.value

pub invariant_of-self-else-place-eq0 : goal.invariant_of-self-else-place-eq0
invariant_of-self-else-place-eq0 c =
    (either_way c.push-else-place-eq0.result
    (λ f. AreParts c.self.inside.first (slice_set c.self.inside.parts.items (at c) (record { start = c.index_mut.result.now.start; writes = f })))
    c.index_mut.result.now.writes (c.index_mut.result.now.writes ++ c.new-write.result ∷ []) c.push-else-place-eq0.new.self c.push-else-place-eq0.ensures.ok c.push-else-place-eq0.ensures.err
    (subst (λ l. AreParts c.self.inside.first l) (sym (same c)) c.self.invariant) (
      part_apart c.new-write.result c.index_mut.result.now (begins c) c.self.inside.first c.self.inside.parts.items (at c) (there c) c.self.invariant.0 c.index_mut.ensures.value (above c),
      λ some. c.self.invariant.1 (omega (arith, there c)),
    ))

pub returns-else-place-eq0-clause-ok : goal.returns-else-place-eq0-clause-ok
returns-else-place-eq0-clause-ok c =
    on_ok_weaker c.push-else-place-eq0.result
    (λ is q. ap (λ f. items_at (written c.self.inside.first (slice_set c.self.inside.parts.items (at c) (record { start = c.index_mut.result.now.start; writes = f }))) q) is
    ∙ part_items c.new-write.result c.index_mut.result.now (begins c) c.self.inside.first c.self.inside.parts.items (at c) (there c) c.self.invariant.0 c.index_mut.ensures.value (above c) q
    ∙ ap (λ m. with_writes (items_at m) (c.new-write.result ∷ []) q) c.self.view_is ∙ ap (λ w. with_writes (items_at c.args.self.now) (w ∷ []) q) c.new-write.ensures)
    c.push-else-place-eq0.ensures.ok

pub returns-else-place-eq0-clause-err : goal.returns-else-place-eq0-clause-err
returns-else-place-eq0-clause-err c =
    on_err_weaker c.push-else-place-eq0.result
    (λ is. ap (λ f. written c.self.inside.first (slice_set c.self.inside.parts.items (at c) (record { start = c.index_mut.result.now.start; writes = f }))) is ∙ ap (written c.self.inside.first) (same c) ∙ c.self.view_is)
    c.push-else-place-eq0.ensures.err
