-- How a store begins, and that what is made stays made.
use Rattle.std.proofs.Common.{◌≡◌, ℕ, ◌+◌, ◌≤◌, Bool, true, false, cond, List, [], ◌∷◌, Some, refl, ap, sym, ◌∙◌, arith, subst, inl, inr}
use mathlib.Core.Path.{fun_ext}
use Rattle.std.specs.List.{AllByRecursion}
use Rattle.std.proofs.lemmas.Bool.{cases_eq}
use Rattle.rs_key.specs.Ranges.{Bounds, holds, is_range}
use Rattle.rs_entry.specs.declared.input.Boot.{Boot}
use Rattle.rs_entry.specs.declared.input.Store.{Store}
use Rattle.rs_entry.specs.declared.outcome.Item.{Item}
use Rattle.rs_entry.specs.declared.outcome.Mode.TheVariants as mode
use Rattle.rs_region.specs.Reshapings.{boot}
use Rattle.rs_region.proofs.CutParts.{all_map}
use Rattle.rs_store.specs.declared.regions.Made.{Made}
use Rattle.rs_store.specs.declared.regions.Origin.TheVariants as origins
use Rattle.rs_store.specs.Stores.{Applied, no_regions, opening}
use Rattle.rs_part.specs.Effects.{Below, Stepping}
use Rattle.rs_part.specs.Items.{items_in}
use Rattle.rs_part.specs.Orders.{End, IsDone, follow}
use Rattle.rs_part.specs.Scripts.{Opened, Script, begun, found}
use Rattle.rs_part.specs.Settled.{Settled}
use Rattle.rs_part.specs.Sound.{Sound}
use Rattle.rs_part.specs.Telling.{Begins, Tells, boot_states}
use Rattle.rs_part.proofs.Following.{Keeps, order_keeps}
use Rattle.rs_part.proofs.Meeting.{orders_meet, stepping}
use Rattle.rs_part.proofs.Orders.{step_sound}
use Rattle.rs_part.proofs.Regions.{regions_all, same_region}
use Rattle.rs_part.proofs.Sound.{New, sound_new}

-- ---- the start

abbrev nothing : Applied
nothing = record { region = no_regions; writes = []; replies = [] }

nothing_sound : (script : Script) (store : Store) → Sound script store nothing
nothing_sound script store = record {
  since = λ id r e. absurd cc;
  named = λ id r e. absurd cc;
  shaped = λ id r e. absurd cc;
  apart = λ a b r s n e f l m. absurd cc;
  parts = λ id r e l. absurd cc;
  marked = λ id r e m. absurd cc;
  unmarked = λ id k r e l at w. absurd cc;
  rests = λ id r t c e m p. absurd cc;
  makers = λ id r p i e o. absurd cc;
}

nothing_in : (range : Bounds) (key : List ℕ) → [] ≡ items_in range [] key
nothing_in range key = go (holds range key)
  where
    go : (b : Bool) → ◌≡◌ {A = List Item} [] (cond b [] [])
    go true = refl
    go false = refl

-- what a store has at its start is sound
pub opening_sound : (script : Script) (store : Store) → Begins script store → Sound script store (opening store)
opening_sound script store begins =
    sound_new script store nothing (nothing_sound script store) origins.Boot (boot_states store.regions) (news store.regions begins.births begins.shapes) begins.ids begins.apart
  where
    one : (b : Boot) → script.birth b.region ≡ Opened b.range b.peers → is_range b.range.start b.range.end ≡ true → New script nothing (boot b.region b.range b.peers)
    one b o shape = record {
      fresh = refl;
      normal = refl;
      shaped = shape;
      others = λ x t e l. absurd cc;
      part = (1, ap (begun script (found script 0) b.region) o ∙ ap (λ f. Some (record { state = boot b.region b.range b.peers; items = f })) (fun_ext (nothing_in b.range)));
      makers = λ parent index w. absurd (cc (o, w));
    }

    news : (bs : List Boot) → AllByRecursion (λ s. script.birth s.region ≡ Opened s.range s.peers) (boot_states bs) → AllByRecursion (λ s. is_range s.range.start s.range.end ≡ true) (boot_states bs)
        → AllByRecursion (New script nothing) (boot_states bs)
    news [] a b = tt
    news (x ∷ bs) a b = (one x a.0 b.0, news bs a.1 b.1)

boots_normal : (bs : List Boot) → AllByRecursion (λ s. s.mode ≡ mode.Normal) (boot_states bs)
boots_normal [] = tt
boots_normal (b ∷ bs) = (refl, boots_normal bs)

-- at the start each region is as it was booted
pub opening_normal : (store : Store) (x : ℕ) (r : Made) → (opening store).region x ≡ Some r → (r.applied ≡ 5) × (r.state.mode ≡ mode.Normal)
opening_normal store x r e = regions_all (λ y z. (z.applied ≡ 5) × (z.state.mode ≡ mode.Normal)) no_regions origins.Boot (boot_states store.regions)
    (all_map (λ s. s.mode ≡ mode.Normal) (λ s. (5 ≡ 5) × (s.mode ≡ mode.Normal)) (λ s n. (refl, n)) (boot_states store.regions) (boots_normal store.regions))
    (λ y z w. absurd cc) x r e

-- so nothing is merged, and nothing applied
pub opening_settled : (script : Script) (store : Store) → Settled script store (opening store)
opening_settled script store = record {
  ended = λ x r t e m. absurd (cc (m, (opening_normal store x r e).1));
  merged = λ t r k q c here le w. absurd (let a : r.applied ≡ 5 = (opening_normal store t r here).0 in let y : 5 ≤ k = w.past in omega arith);
  merger = λ x r t e m. absurd (cc (m, (opening_normal store x r e).1));
  once = λ t r q c j k here lj lk a b. absurd (let w : r.applied ≡ 5 = (opening_normal store t r here).0 in let y : 5 ≤ j = a.past in omega arith);
  children = λ p r k v e side ids keys here five le part line is a. absurd (let w : r.applied ≡ 5 = (opening_normal store p r here).0 in omega arith);
}

-- ---- what is made stays made

-- one step keeps what is made, and no applied index falls
step_grows : (script : Script) (store : Store) (g k : Applied) (id : ℕ) → Stepping script store g id k → Below g k
step_grows script store g k id w x s p = elim (cases_eq x id) [
  | inl q ↦ (let one : s ≡ w.r = same_region (g.region x) (g.region id) s w.r p (ap g.region q) w.here in
      let up : w.effect.mine.0.applied ≡ w.r.applied + 1 = w.effect.mine.2 in
      (w.effect.mine.0, ap k.region q ∙ w.effect.mine.1, subst (λ z. z.applied ≤ w.effect.mine.0.applied) (sym one) (omega arith)))
  | inr ne ↦ elim (w.effect.others x s ne p) [
    | inl h ↦ (s, h, omega arith)
    | inr h ↦ (h.0, h.1, subst (λ z. s.applied ≤ z.applied) (sym h.2.now) (omega arith))
  ]
]

below_trans : (f g h : Applied) → Below f g → Below g h → Below f h
below_trans f g h a b x s p =
    let m = a x s p in
    let n = b x m.0 m.1 in
    let l : s.applied ≤ m.0.applied = m.2 in
    let u : m.0.applied ≤ n.0.applied = n.2 in
    (n.0, n.1, omega arith)

-- nor in an order
pub order_grows : (script : Script) (store : Store) → Tells script store → (order : List ℕ) (place : ℕ) (g h : Applied) → Sound script store g → follow store place order g ≡ End h → Below g h
order_grows script store tells order place g h sound e = (order_keeps store (λ k. Sound script store k × Below g k) keeps order place g h (sound, (λ x s p. (s, p, omega arith))) e).1
  where
    keeps : Keeps store (λ k. Sound script store k × Below g k)
    keeps j k id ready st was =
        (step_sound script store tells j was.0 id k ready st, below_trans g j k was.1 (step_grows script store j k id (stepping script store tells j was.0 id k ready st)))

-- two orders of a store that run until nothing is ready end with the same regions at the same indexes
pub lawful_orders_meet : (script : Script) (store : Store) → Tells script store → Begins script store
    → (one other : List ℕ) (h k : Applied) → follow store 1 one (opening store) ≡ End h → IsDone store h → follow store 1 other (opening store) ≡ End k → IsDone store k → Below h k × Below k h
lawful_orders_meet script store tells begins one other h k to_h done_h to_k done_k =
    let sound = opening_sound script store begins in
    orders_meet script store tells (opening store) sound (opening_settled script store) one other h k to_h done_h to_k done_k
    (order_grows script store tells one 1 (opening store) h sound to_h)
    (order_grows script store tells other 1 (opening store) k sound to_k)
