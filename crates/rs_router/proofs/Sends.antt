-- What follows from how a message was routed.
use Rattle.std.proofs.Common.{◌≡◌, ℕ, ⊎_elim, false, List, [], ◌∷◌, ◌++◌, refl, sym, ◌∙◌, ap, Result}
use Rattle.std.specs.declared.option.Option.TheVariants.{Some, None}
use Rattle.std.specs.declared.result.Result.TheVariants.{Ok, Err}
use Rattle.std.proofs.lemmas.List.{append-nil}
use Rattle.std.proofs.lemmas.List.Elements.{filter-append}
use Rattle.rs_mailbox.specs.declared.view.View.{View}
use Rattle.rs_mailbox.specs.declared.view.Deed.{Deed}
use Rattle.rs_mailbox.specs.declared.view.Kind.TheVariants.{Announce, Notify, Look}
use Rattle.rs_mailbox.specs.declared.trail.Trail.{Trail}
use Rattle.rs_mailbox.specs.declared.outcomes.Closed as closing
use Rattle.rs_mailbox.specs.declared.outcomes.Closed.TheVariants as gone
use Rattle.rs_mailbox.specs.Mail.{Shuts, looked, told}
use Rattle.rs_mailbox.specs.Steps.{deed}
use Rattle.rs_router.specs.declared.route_error.RouteError.{RouteError}
use Rattle.rs_router.specs.declared.route_error.RouteError.TheVariants.{Closed, NoMemory, Spent}
use Rattle.rs_router.specs.Lists.{StartsWith}
use Rattle.rs_router.specs.Routes.{Routes, Grows, OnOpen, ShutsOnce}
use Rattle.rs_router.specs.Turns.{turning, is_turning}

pub grows_only : (address found : ℕ) (ps qs : List ℕ) → Grows address found ps qs → StartsWith qs ps
grows_only address found ps qs g = ⊎_elim (λ one. (address ∷ [], one.1)) (λ none. ([], none.1 ∙ sym (append-nil ps))) g

one_sent : (ds : List Deed) (d : Deed) → is_turning d.kind ≡ false → turning (ds ++ d ∷ []) ≡ turning ds
one_sent ds d sent = filter-append (λ (e : Deed). is_turning e.kind) ds (d ∷ []) ∙ ap (λ xs. turning ds ++ xs) (rw sent refl) ∙ append-nil (turning ds)

module _ {N : Type 0} where
  look_turns : (v w : View N) (word : ℕ) → w ≡ looked v word → turning w.deeds ≡ turning v.deeds
  look_turns v w word is = ap (λ (u : View N). turning u.deeds) is ∙ one_sent v.deeds (deed Look word 0) refl

  told_turns : (v w : View N) (word before found : ℕ) → w ≡ told v word before found → turning w.deeds ≡ turning v.deeds
  told_turns v w word before found is = ap (λ (u : View N). turning u.deeds) is
      ∙ one_sent ((v.deeds ++ deed Look word 0 ∷ []) ++ deed Announce before 0 ∷ []) (deed Notify found 0) refl
      ∙ one_sent (v.deeds ++ deed Look word 0 ∷ []) (deed Announce before 0) refl
      ∙ one_sent v.deeds (deed Look word 0) refl

  pub shut_once : {F : Type 0} (v w : View N) (c : closing.Closed F) → Shuts v c w → ShutsOnce v w
  shut_once v w (gone.Machine x) s = (s.0, s.1, s.3)
  shut_once v w gone.Elsewhere s = (3, 0, s)
  shut_once v w gone.Already s = (2, 0, s)

module _ {N P M : Type 0} where
  -- a send that closes nothing takes and gives back nothing either
  pub routed_turns : (address : ℕ) (v w : View N) (t u : Trail P M) (ps qs : List ℕ) (x : M) (r : Result (Unit {0}) (RouteError M)) → Routes address v t ps x r w u qs → OnOpen r (turning w.deeds ≡ turning v.deeds)
  routed_turns address v w t u ps qs x (Ok _) h = told_turns v w h.0 h.1 h.2 h.4
  routed_turns address v w t u ps qs x (Err (Closed y)) h = look_turns v w 2 h.0.1
  routed_turns address v w t u ps qs x (Err (NoMemory (Some y))) h = look_turns v w h.0.1.0 h.0.1.2
  routed_turns address v w t u ps qs x (Err (NoMemory None)) h = tt
  routed_turns address v w t u ps qs x (Err (Spent y)) h = look_turns v w h.0.1.0 h.0.1.2

  pub routed_grows : (address : ℕ) (v w : View N) (t u : Trail P M) (ps qs : List ℕ) (x : M) (r : Result (Unit {0}) (RouteError M)) → Routes address v t ps x r w u qs → StartsWith qs ps
  routed_grows address v w t u ps qs x (Ok _) h = grows_only address h.2 ps qs h.6
  routed_grows address v w t u ps qs x (Err e) h = ([], h.1 ∙ sym (append-nil ps))

pub on_open : {M A B : Type 0} (r : Result (Unit {0}) (RouteError M)) → (A → B) → OnOpen r A → OnOpen r B
on_open (Ok _) f a = f a
on_open (Err (Closed y)) f a = f a
on_open (Err (NoMemory (Some y))) f a = f a
on_open (Err (NoMemory None)) f a = tt
on_open (Err (Spent y)) f a = f a
