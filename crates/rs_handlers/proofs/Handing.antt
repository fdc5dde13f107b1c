-- What a send leaves of what the stations know.
use Rattle.std.proofs.Common.{◌∙◌, ℕ, ◌<◌, List, [], ◌∷◌, Result, Ok, Err, inl, inr, refl, sym, ap, subst}
use Rattle.std.proofs.lemmas.List.{get_or-map, length-map, map-set}
use Rattle.rs_mailcore.specs.declared.named.Named.{Ghosts}
use Rattle.rs_mailcore.specs.declared.named.Fsm as fsm
use Rattle.rs_mailbox.specs.declared.station.Station.{Station}
use Rattle.rs_poll.specs.Handing.{Hands, HandsAll, Known, all_known, known}
use Rattle.rs_mailbox.specs.declared.trail.Trail.{Trail}
use Rattle.rs_mailbox.specs.declared.view.View.{View}
use Rattle.rs_mailbox.specs.declared.contents.ContentsName.{ContentsName}
use Rattle.rs_router.specs.Desks.{ChangesAt}
use Rattle.rs_router.specs.Routes.{OnOpen, Routes}
use Rattle.rs_router.specs.declared.route_error.RouteError.{RouteError}
use Rattle.rs_router.specs.declared.route_error.RouteError.TheVariants.{Closed, NoMemory, Spent}
use Rattle.rs_handlers.specs.Routes.{HadMemory}

module _ {F M P : Type 0} {d : fsm.Ghosts F M P} {n : Ghosts F P} {k : Ghosts M P} where
  -- a station changed, and so did what it knows
  pub known_changes : (i : ℕ) (R : Station F M P d n k → Station F M P d n k → Type 0) (Q : Known P M → Known P M → Type 0) → ((s t : Station F M P d n k) → R s t → Q (known s) (known t)) → (ss ts : List (Station F M P d n k)) → ChangesAt i R ss ts → ChangesAt i Q (all_known ss) (all_known ts)
  known_changes i R Q h ss ts (s, t, below, old, new, r) = (
    known s,
    known t,
    subst (λ m. i < m) (sym (length-map ss known)) below,
    ap known old ∙ sym (get_or-map known ss i s (known s) below),
    ap all_known new ∙ map-set known ss i t,
    h s t r,
  )

module _ {P M : Type 0} where
  -- a router that had memory pushed the message, or refused it
  pub hands_by : (address : ℕ) (v : View (ContentsName P M P)) (t : Trail P M) (ps : List ℕ) (x : M) (r : Result (Unit {0}) (RouteError M)) (w : View (ContentsName P M P)) (u : Trail P M) (qs : List ℕ) → HadMemory r → Routes address v t ps x r w u qs → Hands x (v, t) (w, u)
  hands_by address v t ps x (Ok k) w u qs h (word, before, found, was_open, looks, pushed, grown) = inl (word, before, found, was_open, looks, pushed)
  hands_by address v t ps x (Err (Closed y)) w u qs h ((same, looks, still), grown) = inr (2, inl refl, looks, still)
  hands_by address v t ps x (Err (NoMemory y)) w u qs h r = absurd h
  hands_by address v t ps x (Err (Spent y)) w u qs h ((same, (word, was_open, looks), still, spent), grown) = inr (word, inr spent, looks, still)

module _ {P M : Type 0} where
  pub hands_none : (ps : List (Known P M)) → HandsAll [] ps ps
  unfolding HandsAll
  hands_none ps = refl

  pub hands_first : (sent : ℕ × M) (rest : List (ℕ × M)) (ps rs qs : List (Known P M)) → ChangesAt sent.0 (Hands sent.1) ps rs → HandsAll rest rs qs → HandsAll (sent ∷ rest) ps qs
  unfolding HandsAll
  hands_first sent rest ps rs qs first others = (rs, first, others)

pub routes_open : {M : Type 0} (r : Result (Unit {0}) (RouteError M)) (Q : Type 0) → HadMemory r → OnOpen r Q → Q
routes_open (Ok k) Q h q = q
routes_open (Err (Closed y)) Q h q = q
routes_open (Err (NoMemory y)) Q h q = absurd h
routes_open (Err (Spent y)) Q h q = q
