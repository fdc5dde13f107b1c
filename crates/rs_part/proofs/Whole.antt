-- After any steps a store holds its keys once, what was written lies in them, and the replies are the script's.
use Rattle.std.proofs.Common.{◌≡◌, ℕ, suc, ◌+◌, ◌-◌, ◌≤◌, ◌==◌, Bool, true, false, List, [], ◌++◌, Option, Some, None, refl, ap, sym, ◌∙◌, arith, ◌⊎◌, subst, inl, inr, append-nil}
use Rattle.std.proofs.lemmas.List.Elements.{filter-append}
use Rattle.std.proofs.lemmas.Bool.{cases_eq}
use Rattle.rs_key.specs.Ranges.{holds}
use Rattle.rs_entry.specs.declared.input.Store.{Store}
use Rattle.rs_entry.specs.declared.outcome.Reply.{Reply}
use Rattle.rs_region.specs.Verdicts.{verdict}
use Rattle.rs_store.specs.declared.regions.Made.{Made}
use Rattle.rs_store.specs.Stores.{Applied, Went, is_unmerged, opening, replied, reply_to, step}
use Rattle.rs_part.specs.Effects.{Stepping}
use Rattle.rs_part.specs.Held.{Held}
use Rattle.rs_part.specs.Items.{history_of}
use Rattle.rs_part.specs.Orders.{End, follow}
use Rattle.rs_part.specs.Parts.{part_of}
use Rattle.rs_part.specs.Scripts.{IsPart, Script}
use Rattle.rs_part.specs.Sound.{Sound}
use Rattle.rs_part.specs.Telling.{Begins, Tells}
use Rattle.rs_part.specs.Whole.{Answer, Answers, Invariant, Leaves, Whole, replies_of}
use Rattle.rs_part.proofs.Following.{Keeps, order_keeps}
use Rattle.rs_part.proofs.Items.{history_append, no_history}
use Rattle.rs_part.proofs.Known.{opening_known, step_known}
use Rattle.rs_part.proofs.Leaving.{stepping_leaves}
use Rattle.rs_part.proofs.Meeting.{stepping}
use Rattle.rs_part.proofs.Modes.{live_unmarked, live_unmerged}
use Rattle.rs_part.proofs.Opening.{opening_normal, opening_settled, opening_sound}
use Rattle.rs_part.proofs.Orders.{step_sound}
use Rattle.rs_part.proofs.Regions.{same_region}
use Rattle.rs_part.proofs.Replies.{replied_mine, replied_other, reply_unmarked}
use Rattle.rs_part.proofs.Settled.{step_settled}

-- at the start
pub opening_whole : (script : Script) (store : Store) → Whole script store (opening store)
opening_whole script store = record {
  known = opening_known store;
  keys = λ key. (λ h. h, λ h. h);
  kept = λ key. inl refl;
  answered = λ x r e.
      (let z : r.applied ≡ 5 = (opening_normal store x r e).0 in
      let y : r.applied - 5 ≡ 0 = omega arith in
      subst (λ n. Answers script x n []) (sym y) refl);
  silent = λ x n. refl;
}

module _ (script : Script) (store : Store) (tells : Tells script store) (g k : Applied) (sound : Sound script store g) (sound_k : Sound script store k) (whole : Whole script store g)
    (id : ℕ) (w : Stepping script store g id k) (st : step store g id ≡ Went k) where
  does : Leaves g id w.r w.e k
  does = stepping_leaves script store tells g k sound id w st

  same_mine : w.effect.mine.0 ≡ does.n
  same_mine = same_region (k.region id) (k.region id) w.effect.mine.0 does.n w.effect.mine.1 refl does.now

  up : does.n.applied ≡ w.r.applied + 1
  up = ap (λ z. z.applied) (sym same_mine) ∙ w.effect.mine.2

  abbrev answer : List Reply
  answer = reply_to (verdict w.r.state w.e) w.e.body does.n.state

  more : (x : ℕ) → replies_of k.replies x ≡ replies_of g.replies x ++ replies_of (replied id does.n.applied answer) x
  more x = ap (λ z. replies_of z x) does.replies ∙ filter-append (λ y. x == y.region) g.replies (replied id does.n.applied answer)

  same_replies : (x : ℕ) → (x ≡ id → ⊥) → replies_of k.replies x ≡ replies_of g.replies x
  same_replies x ne = more x ∙ (ap (λ z. replies_of g.replies x ++ z) (replied_other id does.n.applied answer x ne) ∙ append-nil (replies_of g.replies x))

  step_kept : (key : List ℕ) → (history_of k.writes key ≡ []) ⊎ Held k key
  step_kept key = go (holds w.r.state.range key) refl
    where
      go : (b : Bool) → holds w.r.state.range key ≡ b → (history_of k.writes key ≡ []) ⊎ Held k key
      go true b = inr ((does.keys key).0 (record { id = id; r = w.r; here = w.here; unmerged = live_unmerged w.r.state.mode w.live; has = b }))
      go false b =
          elim (whole.kept key) [
            | inl e ↦ inl (ap (λ z. history_of z key) does.writes
                ∙ (history_append g.writes does.new key ∙ (ap (λ z. z ++ history_of does.new key) e ∙ no_history w.r.state.range does.new key does.within b)))
            | inr h ↦ inr ((does.keys key).0 h)
          ]

  -- the reply to the entry of this step
  one_answer : Answer script id w.r.applied (replies_of g.replies id) (replies_of k.replies id)
  one_answer = record {
    part = part_of g w.r;
    entry = w.e;
    next = part_of k does.n;
    is_part = sound.parts id w.r w.here (live_unmerged w.r.state.mode w.live);
    line = w.told;
    is_next = subst (λ i. IsPart script id i (part_of k does.n)) up (sound_k.parts id does.n does.now (ap (λ z. is_unmerged z.state.mode) (sym same_mine) ∙ w.effect.mine.3));
    reply = more id
        ∙ (ap (λ z. replies_of g.replies id ++ z) (replied_mine id does.n.applied answer)
        ∙ (ap (λ i. replies_of g.replies id ++ replied id i answer) up
        ∙ (ap (λ z. replies_of g.replies id ++ replied id (w.r.applied + 1) z) (reply_unmarked (verdict w.r.state w.e) w.e.body does.n.state)
        ∙ ap (λ z. replies_of g.replies id ++ replied id (w.r.applied + 1) (reply_to (verdict z w.e) w.e.body (part_of k does.n).state)) (sym (live_unmarked w.r.state w.live)))));
  }

  mine_answered : (r : Made) → k.region id ≡ Some r → Answers script id (r.applied - 5) (replies_of k.replies id)
  mine_answered r made =
      let five : 5 ≤ w.r.applied = sound.since id w.r w.here in
      let at : r.applied ≡ does.n.applied = ap (λ z. z.applied) (same_region (k.region id) (k.region id) r does.n made refl does.now) in
      let to : does.n.applied ≡ w.r.applied + 1 = up in
      let next : r.applied - 5 ≡ suc (w.r.applied - 5) = omega arith in
      let back : w.r.applied ≡ (w.r.applied - 5) + 5 = omega arith in
      subst (λ n. Answers script id n (replies_of k.replies id)) (sym next)
      (replies_of g.replies id, whole.answered id w.r w.here, subst (λ i. Answer script id i (replies_of g.replies id) (replies_of k.replies id)) back one_answer)

  other_answered : (x : ℕ) (r : Made) → (x ≡ id → ⊥) → k.region x ≡ Some r → (o : Option Made) → g.region x ≡ o → Answers script x (r.applied - 5) (replies_of k.replies x)
  other_answered x r ne made None none =
      let z : r.applied ≡ 5 = (w.effect.new x r ne made none).0 in
      let y : r.applied - 5 ≡ 0 = omega arith in
      subst (λ n. Answers script x n (replies_of k.replies x)) (sym y) (same_replies x ne ∙ whole.silent x none)
  other_answered x r ne made (Some u) some =
      let same : u.applied ≡ r.applied =
      elim (w.effect.others x u ne some) [
        | inl h ↦ ap (λ z. z.applied) (same_region (k.region x) (k.region x) u r h refl made)
        | inr h ↦ sym (ap (λ z. z.applied) h.2.now) ∙ ap (λ z. z.applied) (same_region (k.region x) (k.region x) h.0 r h.1 refl made)
      ] in
      subst (Answers script x (r.applied - 5)) (sym (same_replies x ne)) (subst (λ n. Answers script x (n - 5) (replies_of g.replies x)) same (whole.answered x u some))

  step_answered : (x : ℕ) (r : Made) → k.region x ≡ Some r → Answers script x (r.applied - 5) (replies_of k.replies x)
  step_answered x r made =
      elim (cases_eq x id) [
        | inl p ↦ subst (λ y. Answers script y (r.applied - 5) (replies_of k.replies y)) (sym p) (mine_answered r (ap k.region (sym p) ∙ made))
        | inr ne ↦ other_answered x r ne made (g.region x) refl
      ]

  step_silent : (x : ℕ) → k.region x ≡ None → replies_of k.replies x ≡ []
  step_silent x none =
      elim (cases_eq x id) [
        | inl p ↦ absurd (cc (none, ap k.region p, w.effect.mine.1))
        | inr ne ↦ same_replies x ne ∙ whole.silent x (unmade ne (g.region x) refl)
      ]
    where
      unmade : (x ≡ id → ⊥) → (o : Option Made) → g.region x ≡ o → g.region x ≡ None
      unmade ne None o = o
      unmade ne (Some u) o = elim (w.effect.others x u ne o) [ inl h ↦ absurd (cc (none, h)) | inr h ↦ absurd (cc (none, h.1)) ]

  -- and after each step
  pub step_whole : Whole script store k
  step_whole = record {
    known = step_known script store g k id w whole.known;
    keys = λ key. (λ h. (does.keys key).0 ((whole.keys key).0 h), λ h. (whole.keys key).1 ((does.keys key).1 h));
    kept = step_kept;
    answered = step_answered;
    silent = step_silent;
  }

-- ---- all that holds after any steps

pub opening_invariant : (script : Script) (store : Store) → Begins script store → Invariant script store (opening store)
opening_invariant script store begins = record {
  sound = opening_sound script store begins;
  settled = opening_settled script store;
  whole = opening_whole script store;
}

pub step_invariant : (script : Script) (store : Store) → Tells script store → Keeps store (Invariant script store)
step_invariant script store tells g k id ready st inv =
    let w = stepping script store tells g inv.sound id k ready st in
    let sound = step_sound script store tells g inv.sound id k ready st in
    record {
      sound = sound;
      settled = step_settled script store g inv.sound inv.settled id w.r w.here w.live w.e w.told k w.effect;
      whole = step_whole script store tells g k inv.sound sound inv.whole id w st;
    }

pub order_invariant : (script : Script) (store : Store) → Tells script store → Begins script store → (order : List ℕ) (h : Applied)
    → follow store 1 order (opening store) ≡ End h → Invariant script store h
order_invariant script store tells begins order h e =
    order_keeps store (Invariant script store) (step_invariant script store tells) order 1 (opening store) h (opening_invariant script store begins) e
