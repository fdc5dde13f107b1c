-- What a visit leaves at one station, seen in the steps of all stations but those of sending.
use Rattle.std.proofs.Common.{◌≡◌, ℕ, ◌+◌, ◌<◌, ◌≤◌, ⊎_elim, inl, inr, true, List, [], ◌∷◌, ◌++◌, map, length, get_or, set, refl, sym, ap, ◌∙◌, subst}
use Rattle.std.proofs.lemmas.List.{length-map, map-set}
use Rattle.std.proofs.lemmas.List.Elements.{filter-append}
use Rattle.std.proofs.Math.ListN as listn
use Rattle.std.specs.Prelude.{MatchResult, Result}
use Rattle.std.specs.declared.result.Result.TheVariants.{Ok, Err}
use Rattle.rs_rows.specs.declared.no_memory.NoMemory.{NoMemory}
use Rattle.rs_mailbox.specs.declared.view.Deed.{Deed}
use Rattle.rs_mailbox.specs.declared.view.Kind.TheVariants.{Take, Release, Recheck, Retake, Close, Reschedule}
use Rattle.rs_mailbox.specs.Steps.{deed}
use Rattle.rs_router.specs.Desks.{ChangesAt}
use Rattle.rs_router.specs.Lists.{Adds, SameBag, StartsWith}
use Rattle.rs_router.specs.Turns.{turning, is_turning}
use Rattle.rs_router.proofs.Prefixes.{starts_then}
use Rattle.rs_poll.specs.declared.handler.More.{More}
use Rattle.rs_poll.specs.declared.handler.More.TheVariants.{Yes, No}
use Rattle.rs_poll.specs.declared.worked.Visited.{Visited}
use Rattle.rs_poll.specs.declared.worked.Visited.TheVariants.{Turned, Gone}
use Rattle.rs_poll.specs.Visits.{step, took, rechecked, Rests, AtOnce, AfterRelease, RunsAgain, Reschedules, Drops, Handles, Takes, Turns, Leaves, Abandons, Quits, GivesUp, Visits}

module _ {A B : Type 0} where
  pub changes_map : (f : A → B) (R : A → A → Type 0) (Q : B → B → Type 0) (i : ℕ) (xs ys : List A) → ((x y : A) → R x y → Q (f x) (f y)) → ChangesAt i R xs ys → ChangesAt i Q (map f xs) (map f ys)
  changes_map f R Q i xs ys on c = (
    f c.0,
    f c.1,
    subst (λ (n : ℕ). i < n) (sym (length-map xs f)) c.2,
    ap f c.3 ∙ sym (listn.get_or-map f xs i c.0),
    ap (map f) c.4 ∙ map-set f xs i c.1,
    on c.0 c.1 c.5,
  )

kept : (xs : List Deed) (d : Deed) → is_turning d.kind ≡ true → turning (step xs d) ≡ step (turning xs) d
kept xs d turns = filter-append (λ (e : Deed). is_turning e.kind) xs (d ∷ []) ∙ ap (λ zs. turning xs ++ zs) (rw turns refl)

kept_then : (xs ys zs : List Deed) (d : Deed) → is_turning d.kind ≡ true → ys ≡ step xs d → turning xs ≡ zs → turning ys ≡ step zs d
kept_then xs ys zs d turns is before = ap turning is ∙ kept xs d turns ∙ ap (λ us. step us d) before

kept_rechecked : (xs : List Deed) (handled announced : ℕ) → turning (rechecked xs handled announced) ≡ rechecked (turning xs) handled announced
kept_rechecked xs h a = kept_then (step xs (deed Release 3 h)) (rechecked xs h a) (step (turning xs) (deed Release 3 h)) (deed Recheck a 0) refl refl (kept xs (deed Release 3 h) refl)

rests : (more : More) (handled : ℕ) (xs ys : List Deed) → Rests more handled xs ys → Rests more handled (turning xs) (turning ys)
rests Yes h xs ys r = absurd r
rests No h xs ys r = ⊎_elim
    (λ s. inl (s.0, s.1, ap turning s.2 ∙ kept_rechecked xs h s.0))
    (λ s. inr (s.0, s.1, s.2, s.3, kept_then (rechecked xs h s.0) ys (rechecked (turning xs) h s.0) (deed Retake s.1 0) refl s.4 (kept_rechecked xs h s.0)))
    r

at_once : (word handled : ℕ) (xs ys : List Deed) → AtOnce word handled xs ys → AtOnce word handled (turning xs) (turning ys)
at_once word h xs ys s = kept_then xs ys (turning xs) (deed Reschedule word h) refl s refl

after_release : (word handled : ℕ) (xs ys : List Deed) → AfterRelease word handled xs ys → AfterRelease word handled (turning xs) (turning ys)
after_release word h xs ys s =
    let again = step (rechecked xs h s.0) (deed Retake 1 s.1) in
    let same : turning again ≡ step (rechecked (turning xs) h s.0) (deed Retake 1 s.1) = kept_then (rechecked xs h s.0) again (rechecked (turning xs) h s.0) (deed Retake 1 s.1) refl refl (kept_rechecked xs h s.0) in
    (s.0, s.1, s.2, kept_then again ys (step (rechecked (turning xs) h s.0) (deed Retake 1 s.1)) (deed Reschedule word s.1) refl s.3 same)

runs_again : (more : More) (word handled : ℕ) (xs ys : List Deed) → RunsAgain more word handled xs ys → RunsAgain more word handled (turning xs) (turning ys)
runs_again Yes word h xs ys s = at_once word h xs ys s
runs_again No word h xs ys s = after_release word h xs ys s

reschedules : (word handled : ℕ) (xs ys : List Deed) → Reschedules word handled xs ys → Reschedules word handled (turning xs) (turning ys)
reschedules word h xs ys r = ⊎_elim (λ s. inl (at_once word h xs ys s)) (λ s. inr (after_release word h xs ys s)) r

drops : (more : More) (handled : ℕ) (xs ys : List Deed) → Drops more handled xs ys → Drops more handled (turning xs) (turning ys)
drops Yes h xs ys r = at_once 2 h xs ys r
drops No h xs ys r = ⊎_elim (λ s. inl (kept_then xs ys (turning xs) (deed Release 2 h) refl s refl)) (λ s. inr (after_release 2 h xs ys s)) r

abandons : (handled : ℕ) (xs ys : List Deed) → Abandons handled xs ys → Abandons handled (turning xs) (turning ys)
abandons h xs ys s =
    let closed = step s.0 (deed Close s.1 s.2) in
    let same : turning closed ≡ step (turning s.0) (deed Close s.1 s.2) = kept_then s.0 closed (turning s.0) (deed Close s.1 s.2) refl refl refl in
    (turning s.0, s.1, s.2, reschedules 3 h xs s.0 s.3, kept_then closed ys (step (turning s.0) (deed Close s.1 s.2)) (deed Take 2 0) refl s.4 same)

module _ (P : ℕ → Type 0) where
  takes : (R : ℕ → List Deed → List Deed → Type 0) → ((handled : ℕ) (xs ys : List Deed) → R handled xs ys → R handled (turning xs) (turning ys)) → (xs ys : List Deed) → Takes P R xs ys → Takes P R (turning xs) (turning ys)
  takes R on xs ys t = (t.0, t.1, t.2, subst (λ (us : List Deed). R (t.0 + t.1) us (turning ys)) (kept xs (deed Take 0 t.0) refl) (on (t.0 + t.1) (took xs t.0) ys t.3))

  pub visits_turning : (more : More) (address : ℕ) (v : Visited) (ps qs : List ℕ) (xs ys : List Deed) → Visits P more address v ps qs xs ys → Visits P more address v ps qs (turning xs) (turning ys)
  visits_turning more address Turned ps qs xs ys v = ⊎_elim (λ s. inl (takes (Rests more) (rests more) xs ys s)) (λ s. inr (takes (RunsAgain more 3) (runs_again more 3) xs ys s.0, s.1)) v
  visits_turning more address Gone ps qs xs ys v = ⊎_elim (λ s. inl (s.0, s.1, s.2, kept_then xs ys (turning xs) (deed Take s.0 0) refl s.3 refl)) (λ s. inr (takes (Drops more) (drops more) xs ys s)) v

pub quits_turning : (batch : ℕ) (xs ys : List Deed) → GivesUp batch xs ys → GivesUp batch (turning xs) (turning ys)
quits_turning batch xs ys g = takes (λ n. n ≤ batch) Quits (λ h us ws q. ⊎_elim (λ s. inl (abandons h us ws s)) (λ s. inr (reschedules 2 h us ws s)) q) xs ys g

-- the list goes on after the visit
pub turns_on : (P : ℕ → Type 0) (more : More) (address : ℕ) (ps qs rs : List ℕ) (xs ys : List Deed) → StartsWith rs qs → Turns P more address ps qs xs ys → Turns P more address ps rs xs ys
turns_on P more address ps qs rs xs ys on v = ⊎_elim inl (λ s. inr (s.0, starts_then (ps ++ address ∷ []) qs rs s.1 on)) v

module _ {A : Type 0} (deeds_of : A → List Deed) (batch : ℕ) (P : ℕ → Type 0) (more : More) (ps qs : List ℕ) (ss : List A) (i : ℕ) (s t : A) (within : i < length ss) (at_s : s ≡ get_or ss i s) where
  abbrev of : List A → List (List Deed)
  of xs = map (λ x. turning (deeds_of x)) xs

  changed : (R : List Deed → List Deed → Type 0) → R (turning (deeds_of s)) (turning (deeds_of t)) → ChangesAt i R (of ss) (of (set ss i t))
  changed R r = changes_map (λ x. turning (deeds_of x)) (λ x y. R (turning (deeds_of x)) (turning (deeds_of y))) R i ss (set ss i t) (λ x y k. k) (s, t, within, at_s, refl, r)

  abbrev Seen : Result Visited NoMemory → ℕ → Type 0
  Seen r a = MatchResult r (λ v. Visits P more a v ps qs (deeds_of s) (deeds_of t)) (λ e. GivesUp batch (deeds_of s) (deeds_of t))

  abbrev Changed : Result Visited NoMemory → ℕ → Type 0
  Changed r a = MatchResult r (λ v. ChangesAt a (Visits P more a v ps qs) (of ss) (of (set ss i t))) (λ e. ChangesAt a (GivesUp batch) (of ss) (of (set ss i t)))

  at_index : (r : Result Visited NoMemory) → Seen r i → Changed r i
  at_index (Ok v) h = changed (Visits P more i v ps qs) (visits_turning P more i v ps qs (deeds_of s) (deeds_of t) h)
  at_index (Err e) h = changed (GivesUp batch) (quits_turning batch (deeds_of s) (deeds_of t) h)

  -- the mailbox's address and the place are the ticket's address
  pub visited_at : (a b : ℕ) → a ≡ i → i ≡ b → (r : Result Visited NoMemory) → Seen r a → Changed r b
  visited_at a b here there r h = subst (Changed r) there (at_index r (subst (Seen r) here h))

module _ (batch from to sent : ℕ) (handles : sent ≡ to) (asked now : More) (asks : now ≡ asked) (a b : ℕ) (same : a ≡ b) (ps qs rs : List ℕ) (xss yss zss : List (List Deed)) (stays : zss ≡ yss) where
  abbrev After : (ℕ → More → ℕ → List Deed → List Deed → Type 0) → ℕ → More → ℕ → List (List Deed) → Type 0
  After R h more n l = ChangesAt n (R h more n) xss l

  after : (R : ℕ → More → ℕ → List Deed → List Deed → Type 0) → After R to asked b yss → After R sent now a zss
  after R c =
      subst (λ (h : ℕ). After R h now a zss) (sym handles)
      (subst (λ (m : More). After R to m a zss) (sym asks)
      (subst (λ (n : ℕ). After R to asked n zss) (sym same)
      (subst (After R to asked b) (sym stays) c)))

  -- a turn, and then sending
  pub turned : StartsWith rs qs → ChangesAt b (Turns (Handles batch from to) asked b ps qs) xss yss → ChangesAt a (Turns (Handles batch from sent) now a ps rs) xss zss
  turned on c = after (λ h more n. Turns (Handles batch from h) more n ps rs) (c.0, c.1, c.2, c.3, c.4, turns_on (Handles batch from to) asked b ps qs rs c.0 c.1 on c.5)

  pub left : ChangesAt b (Leaves (Handles batch from to) asked) xss yss → ChangesAt a (Leaves (Handles batch from sent) now) xss zss
  left c = after (λ h more n. Leaves (Handles batch from h) more) c

pub adds_then : (a x : ℕ) (xs ys zs ws : List ℕ) → a ≡ x → Adds x xs ys → SameBag ys zs → SameBag zs ws → Adds a xs ws
adds_then a x xs ys zs ws same adds more most = subst (λ (n : ℕ). Adds n xs ws) (sym same) (λ y. most y ∙ more y ∙ adds y)
