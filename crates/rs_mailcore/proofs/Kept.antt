-- Each step, enabled, gives a moment that is lawful and in sender order.
use Rattle.std.proofs.Common.{◌≡◌, ◌≢◌, ℕ, zero, suc, ◌+◌, ◌^◌, ◌*◌, ◌<◌, ◌≤◌, ◌==◌, Bool, true, false, leb, All, List, [], ◌∷◌, map, length, length-set, slice_set, slice_index_or, sym, refl, ap, ◌∙◌, subst, ⊎_elim, ne_eqb, IsTrue, ◌↔◌, arith}
use Rattle.std.proofs.lemmas.Bool.{false≢true}
use mathlib.Core.Option.{some, some-injective, some-ne-none}
use lib.ListN.{get_elem?}
use Rattle.rs_mailcore.specs.declared.thread.Phase.{Phase}
use Rattle.rs_mailcore.specs.declared.thread.Phase.TheVariants.{Calm, Notifying, Holding, Releasing}
use Rattle.rs_mailcore.specs.declared.thread.Stance.{Stance}
use Rattle.rs_mailcore.specs.declared.letter.Place.{Place}
use Rattle.rs_mailcore.specs.declared.letter.Place.TheVariants.{Home, With, Given}
use Rattle.rs_mailcore.specs.declared.letter.Letter.{Letter}
use Rattle.rs_mailcore.specs.declared.thread.Thread.{Thread}
use Rattle.rs_mailcore.specs.declared.step.Step.{Step}
use Rattle.rs_mailcore.specs.declared.step.Step.TheVariants.{Announce, Notify, Take, Release, Recheck, Retake, Close, Look, Reschedule, Push, Pop}
use Rattle.rs_mailcore.specs.Words.{stance, announcements}
use Rattle.rs_mailcore.specs.Moment.{Moment, pick, restanced, raise_taken, popped, goes, hands_out, after, Enabled}
use Rattle.rs_mailcore.specs.Lawful.{IsLawful, InSenderOrder, numbers, counting, pushes, stance_of}
use Rattle.std.proofs.lemmas.List.{length-map}
use Rattle.rs_mailcore.proofs.Lists.{at_set}
use Rattle.rs_mailcore.proofs.Steps as lawful
use Rattle.rs_mailcore.proofs.Orders as order
use Rattle.rs_mailcore.specs.Keeping.{IsSound, MayStep, Steps}

pub at_below : {A : Type 0} (l : List A) (i : ℕ) (a : A) → get_elem? l i ≡ some a → i < length l
at_below [] i a e = absurd (some-ne-none a (sym e))
at_below (x ∷ xs) zero a e = omega arith
at_below (x ∷ xs) (suc i) a e = let r = at_below xs i a e in omega arith

pub at_index : {A : Type 0} (l : List A) (i : ℕ) (d : A) → i < length l → get_elem? l i ≡ some (slice_index_or l i d)
at_index [] i d less = absurd (omega arith)
at_index (x ∷ xs) zero d less = refl
at_index (x ∷ xs) (suc i) d less = at_index xs i d (omega arith)

pub raised_set : (l : List Thread) (s : ℕ) (x : Thread) → get_elem? l s ≡ some x → slice_set l s (record x { taken = x.taken + 1 }) ≡ raise_taken l s
raised_set [] s x e = refl
raised_set (y ∷ ys) zero x e = ap (λ (z : Thread). record z { taken = z.taken + 1 } ∷ ys) (sym (some-injective y x e))
raised_set (y ∷ ys) (suc s) x e = ap (λ (r : List Thread). y ∷ r) (raised_set ys s x e)

module _ {M : Type 0} (m : Moment M) (i : ℕ) (x : Thread) (at : get_elem? m.threads i ≡ some x) (o : InSenderOrder m) where
  -- a step that leaves the queue and the counts of pushed and taken messages
  goes_in_order : (word : ℕ) (place : Place) (announced : ℕ) (phase : Phase) (own remembered : ℕ) → InSenderOrder (goes m i x word place announced phase own remembered)
  goes_in_order word place announced phase own remembered = let w : Thread = restanced x phase own remembered in (
    (λ s y e. ⊎_elim (λ t. subst (λ (z : ℕ × Thread). (k : ℕ) × (numbers z.0 m.queue ≡ counting (z.1.taken + 1) k) × (z.1.taken + k ≡ z.1.pushed)) (λ k. (sym t.0 k, t.1 k)) (o.0 i x at)) (λ t. o.0 s y t.1) (at_set m.threads i s w y e)),
    subst (λ n. All (λ (l : Letter M). l.sender < n) m.queue) (sym (length-set m.threads i w)) o.1,
  )

  either : (b : Bool) (n k : Moment M) → InSenderOrder n → InSenderOrder k → InSenderOrder (pick b n k)
  either true n k a c = a
  either false n k a c = c

  in_order : (s : Step M) → InSenderOrder (after m i x s)
  in_order Announce = goes_in_order m.word m.place (m.announced + 1) Notifying (x.stance.announced + 1) x.stance.remembered
  in_order Notify = goes_in_order (pick (m.word == 1) 0 m.word) m.place m.announced Calm x.stance.announced x.stance.remembered
  in_order Take = either (m.word == 0) (goes m i x 3 (With i) m.announced Holding x.stance.announced m.handled) m (goes_in_order 3 (With i) m.announced Holding x.stance.announced m.handled) o
  in_order Release = either (m.word == 3) (goes m i x 1 Home m.announced Releasing x.stance.announced m.handled) (goes m i x m.word Given m.announced Calm x.stance.announced m.handled) (goes_in_order 1 Home m.announced Releasing x.stance.announced m.handled) (goes_in_order m.word Given m.announced Calm x.stance.announced m.handled)
  in_order Recheck = either (leb m.announced x.stance.remembered) (goes m i x m.word m.place m.announced Calm x.stance.announced x.stance.remembered) m (goes_in_order m.word m.place m.announced Calm x.stance.announced x.stance.remembered) o
  in_order Retake = either (m.word == 1) (goes m i x 3 (With i) m.announced Holding x.stance.announced m.handled) (goes m i x m.word m.place m.announced Calm x.stance.announced x.stance.remembered) (goes_in_order 3 (With i) m.announced Holding x.stance.announced m.handled) (goes_in_order m.word m.place m.announced Calm x.stance.announced x.stance.remembered)
  in_order Close = o
  in_order Look = o
  in_order Reschedule = either (m.word == 3) (goes m i x 0 Home m.announced Calm x.stance.announced m.handled) (goes m i x m.word Given m.announced Calm x.stance.announced m.handled) (goes_in_order 0 Home m.announced Calm x.stance.announced m.handled) (goes_in_order m.word Given m.announced Calm x.stance.announced m.handled)
  in_order (Push message) = order.push m i x message at o (at_below m.threads i x at)
  in_order Pop = order.pop m m.queue refl o

  stays_lawful : (s : Step M) → IsLawful m → Enabled x s → IsLawful (after m i x s)
  stays_lawful Announce l on = lawful.announce m l i x at on
  stays_lawful Notify l on = lawful.notify m l i x at on
  stays_lawful Take l on = lawful.take m l i x at on
  stays_lawful Release l on = lawful.release m l i x at on
  stays_lawful Recheck l on = lawful.recheck m l i x at on
  stays_lawful Retake l on = lawful.retake m l i x at on
  stays_lawful Close l on = lawful.close m l i x at on
  stays_lawful Look l on = lawful.look m l i x at on
  stays_lawful Reschedule l on = lawful.reschedule m l i x at on
  stays_lawful (Push message) l on = lawful.push m l i x at message on
  stays_lawful Pop l on = lawful.pop m l i x at m.queue refl on

module _ {M : Type 0} (m : Moment M) (i : ℕ) (x : Thread) (e : m.word ≡ 2) where
  other : (n : ℕ) → n ≢ 2 → (m.word == n) ≡ false
  other n ne = ne_eqb m.word n (λ f. ne (sym f ∙ e))

  both : (b : Bool) (n k : Moment M) → n.word ≡ 2 → k.word ≡ 2 → (pick b n k).word ≡ 2
  both true n k f g = f
  both false n k f g = g

  popped_word : (q : List (Letter M)) → (popped m q).word ≡ m.word
  popped_word [] = refl
  popped_word (a ∷ rest) = refl

  stays_dropped : (s : Step M) → (after m i x s).word ≡ 2
  stays_dropped Announce = e
  stays_dropped Notify = ap (λ b. pick b 0 m.word) (other 1 (omega arith)) ∙ e
  stays_dropped Take = ap (λ b. (pick b (goes m i x 3 (With i) m.announced Holding x.stance.announced m.handled) m).word) (other 0 (omega arith)) ∙ e
  stays_dropped Release = ap (λ b. (pick b (goes m i x 1 Home m.announced Releasing x.stance.announced m.handled) (hands_out m i x)).word) (other 3 (omega arith)) ∙ e
  stays_dropped Recheck = both (leb m.announced x.stance.remembered) (goes m i x m.word m.place m.announced Calm x.stance.announced x.stance.remembered) m e e
  stays_dropped Retake = ap (λ b. (pick b (goes m i x 3 (With i) m.announced Holding x.stance.announced m.handled) (goes m i x m.word m.place m.announced Calm x.stance.announced x.stance.remembered)).word) (other 1 (omega arith)) ∙ e
  stays_dropped Close = refl
  stays_dropped Look = e
  stays_dropped Reschedule = ap (λ b. (pick b (goes m i x 0 Home m.announced Calm x.stance.announced m.handled) (hands_out m i x)).word) (other 3 (omega arith)) ∙ e
  stays_dropped (Push message) = e
  stays_dropped Pop = popped_word m.queue ∙ e

-- what the code did is the step function's, so all that is sound stays so
pub kept : {M : Type 0} (m n : Moment M) (i : ℕ) (s : Step M) → IsSound m → MayStep m i s → (w : Thread) → get_elem? m.threads i ≡ some w → n ≡ after m i w s → Steps m i s n
kept m n i s l e w at is = let on : Enabled w s = subst (λ (z : Thread). Enabled z s) (some-injective e.0 w (sym e.1 ∙ at)) e.2 in
    ((w, at, is), (subst IsLawful (sym is) (stays_lawful m i w at l.1 s l.0 on), subst InSenderOrder (sym is) (in_order m i w at l.1 s)), λ dropped. ap (λ (k : Moment _). k.word) is ∙ stays_dropped m i w dropped s)

module _ {M : Type 0} (n a k : Moment M) where
  pub if_yes : (b : Bool) → b ≡ true → n ≡ a → n ≡ pick b a k
  if_yes b is e = e ∙ sym (ap (λ (c : Bool). pick c a k) is)

  pub if_no : (b : Bool) → b ≡ false → n ≡ k → n ≡ pick b a k
  if_no b is e = e ∙ sym (ap (λ (c : Bool). pick c a k) is)

-- a count of at most 4,096 numbers of at most 2^50 each
pub few_announced : (l : List Stance) → ((i : ℕ) (x : Stance) → get_elem? l i ≡ some x → x.announced ≤ 2 ^ 50) → announcements l ≤ length l * 2 ^ 50
few_announced [] h = omega arith
few_announced (x ∷ xs) h = let a = h 0 x refl in let r = few_announced xs (λ i y e. h (suc i) y e) in omega arith

pub few_pushed : (l : List Thread) → ((i : ℕ) (x : Thread) → get_elem? l i ≡ some x → x.pushed ≤ 2 ^ 50 + 1) → pushes l ≤ length l * (2 ^ 50 + 1)
few_pushed [] h = omega arith
few_pushed (x ∷ xs) h = let a = h 0 x refl in let r = few_pushed xs (λ i y e. h (suc i) y e) in omega arith

module _ {M : Type 0} (m : Moment M) (l : IsLawful m) where
  pub announced_small : m.announced ≤ 4096 * 2 ^ 50
  announced_small = let c = l.tidy.counted in let f = few_announced (map stance_of m.threads) l.tidy.bounded in let n = length-map m.threads stance_of in let k = l.few in omega arith

  pub handled_small : m.handled ≤ 4096 * (2 ^ 50 + 1)
  handled_small = let a = l.adds_up in let k = l.few in
      let f = few_pushed m.threads (λ i x e. let b = l.tidy.bounded i x.stance (lawful.at_map stance_of m.threads i x e) in ⊎_elim (λ (t : x.pushed ≡ x.stance.announced). let r : x.pushed ≤ 2 ^ 50 + 1 = omega arith in r) (λ t. let u = t.0 in let r : x.pushed ≤ 2 ^ 50 + 1 = omega arith in r) (l.in_step i x e)) in omega arith

module _ {M : Type 0} (m : Moment M) where
  pub front_sender : InSenderOrder m → (a : Letter M) (rest : List (Letter M)) → m.queue ≡ a ∷ rest → (x : Thread) × (get_elem? m.threads a.sender ≡ some x)
  front_sender o a rest is = let d : Thread = record { stance = stance Calm 0 0; pushed = 0; taken = 0 } in
      (slice_index_or m.threads a.sender d, at_index m.threads a.sender d (subst (λ q. All (λ (l : Letter M). l.sender < length m.threads) q) is o.1 0 a (omega arith)))

  pub pops : (n : Moment M) (a : Letter M) (rest : List (Letter M)) → m.queue ≡ a ∷ rest → (x : Thread) → get_elem? m.threads a.sender ≡ some x
      → n ≡ record m { handled = m.handled + 1; queue = rest; threads = slice_set m.threads a.sender (record x { taken = x.taken + 1 }) } → n ≡ popped m m.queue
  pops n a rest is x at e = e ∙ ap (λ (l : List Thread). record m { handled = m.handled + 1; queue = rest; threads = l }) (raised_set m.threads a.sender x at) ∙ sym (ap (popped m) is)

  -- what was taken of a sender's messages is not above what it pushed
  pub taken_small : IsLawful m → InSenderOrder m → (s : ℕ) (x : Thread) → get_elem? m.threads s ≡ some x → x.taken ≤ 2 ^ 50 + 1
  taken_small l o s x e = let h = o.0 s x e in let t = h.2 in let b = l.tidy.bounded s x.stance (lawful.at_map stance_of m.threads s x e) in
      ⊎_elim (λ (t : x.pushed ≡ x.stance.announced). let r : x.taken ≤ 2 ^ 50 + 1 = omega arith in r) (λ t. let u = t.0 in let r : x.taken ≤ 2 ^ 50 + 1 = omega arith in r) (l.in_step s x e)

module _ {M : Type 0} (m : Moment M) (i : ℕ) where
  pub there : i < length m.threads → (x : Thread) × (get_elem? m.threads i ≡ some x)
  there less = let d : Thread = record { stance = stance Calm 0 0; pushed = 0; taken = 0 } in (slice_index_or m.threads i d, at_index m.threads i d less)

  -- whether the thread at i may make the step
  pub may_at : (s : Step M) (x : Thread) → get_elem? m.threads i ≡ some x → (b : Bool) → (IsTrue b ↔ Enabled x s) → IsTrue b ↔ MayStep m i s
  may_at s x at b k = ((λ t. (x, at, k.0 t)), (λ may. k.1 (subst (λ (y : Thread). Enabled y s) (some-injective may.0 x (sym may.1 ∙ at)) may.2)))

  pub may_not : (s : Step M) → length m.threads ≤ i → IsTrue false ↔ MayStep m i s
  may_not s le = ((λ t. absurd (false≢true t)), (λ may. let less = at_below m.threads i may.0 may.1 in absurd (omega arith)))
