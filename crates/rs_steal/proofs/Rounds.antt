-- A round over the thieves, and what all of them took.
use Rattle.std.proofs.Common.{◌≡◌, ◌==◌, ℕ, zero, suc, ◌+◌, ◌<◌, cond, eqb, Bool, All, List, [], ◌∷◌, ◌++◌, length, map, get_or, set, slice_set, sym, refl, ap, ◌∙◌, subst, ⊎_elim, arith, eq-eqb, ne_eqb}
use Rattle.std.specs.List.{AllWithin}
use Rattle.std.proofs.lemmas.Bool.{cases_eq}
use Rattle.std.proofs.lemmas.List.{length-map, get_or-map, map-set}
use Rattle.std.proofs.lemmas.List.Sums.{sum_by-append}
use lib.Seq.{map-set_same}
use lib.ListN as listn
use Rattle.crossbeam_deque.specs.Handles.{view}
use Rattle.rs_router.specs.Lists.{times, Adds}
use Rattle.rs_steal.specs.declared.deque_rule.DequeView.{DequeView}
use Rattle.rs_steal.specs.declared.thief.Thief.{Thief}
use Rattle.rs_steal.specs.Rule.{gets, TakenOut, WasEmpty}
use Rattle.rs_steal.specs.Thieves.{views_of, Stole}
use Rattle.rs_steal.specs.Once.{all_popped}
use Rattle.rs_steal.specs.declared.steal_pass.StealPass.{StealPass}
use Rattle.rs_steal.specs.Opening.{IsGuest, IsFresh, IsNew}

-- a write of one place that leaves what is seen of it
pub kept : {A B : Type 0} (f : A → B) (xs ys : List A) (i : ℕ) (x y : A) → map f xs ≡ map f ys → x ≡ get_or xs i x → f y ≡ f x → map f (slice_set xs i y) ≡ map f ys
kept f xs ys i x y same at equal = map-set_same f xs i y x (equal ∙ ap f at) ∙ same

there : (ts us : List Thief) (k : ℕ) (t : Thief) → views_of ts ≡ views_of us → t ≡ get_or ts k t → view t.pass ≡ get_or (views_of us) k (view t.pass)
there ts us k t same at = ap (λ (u : Thief). view u.pass) at ∙ sym (listn.get_or-map (λ (u : Thief). view u.pass) ts k t) ∙ ap (λ l. get_or l k (view t.pass)) same

pub stole_at : (x : ℕ) (ts us : List Thief) (k : ℕ) (t t' : Thief) → views_of ts ≡ views_of us → k < length ts → t ≡ get_or ts k t → TakenOut (view t.pass) (x ∷ []) (view t'.pass) → AllWithin WasEmpty (views_of us) 0 k → Stole x (views_of us) (views_of (slice_set ts k t'))
stole_at x ts us k t t' same within at taken before = (
  k,
  view t.pass,
  view t'.pass,
  (let a = length-map ts (λ (u : Thief). view u.pass) in let b = ap length same in omega arith),
  there ts us k t same at,
  map-set (λ (u : Thief). view u.pass) ts k t' ∙ ap (λ l. set l k (view t'.pass)) same,
  taken,
  before,
)

pub emptied : (ts us : List Thief) (k : ℕ) (t : Thief) → views_of ts ≡ views_of us → k < length ts → t ≡ get_or ts k t → WasEmpty (view t.pass)
    → AllWithin WasEmpty (views_of us) 0 k → AllWithin WasEmpty (views_of us) 0 (k + 1)
emptied ts us k t same within at empty before j d low less = ⊎_elim
    (λ is. subst (λ n. WasEmpty (get_or (views_of us) n d)) (sym is) (subst WasEmpty (sym (sym (ap (λ l. get_or l k d) same) ∙ get_or-map (λ (u : Thief). view u.pass) ts k t d within ∙ sym (ap (λ (u : Thief). view u.pass) at))) empty))
    (λ ne. before j d low (omega (arith, ne, less))) (cases_eq j k)

times-append : (y : ℕ) (xs ys : List ℕ) → times y (xs ++ ys) ≡ times y xs + times y ys
times-append y xs ys = sum_by-append (λ x. cond (x == y) 1 0) xs ys

either_way : (x y : ℕ) → cond {A = ℕ} (eqb x y) 1 0 ≡ cond (eqb y x) 1 0
either_way x y = let put = λ (b : Bool). cond {A = ℕ} b 1 0 in ⊎_elim (λ (e : x ≡ y). ap put (eq-eqb x y e) ∙ sym (ap put (eq-eqb y x (sym e))))
    (λ (ne : x ≡ y → ⊥). ap put (ne_eqb x y ne) ∙ sym (ap put (ne_eqb y x (λ e. ne (sym e))))) (cases_eq x y)

one : (x y : ℕ) → times y (x ∷ []) ≡ cond (eqb y x) 1 0
one x y = let e = either_way x y in omega (arith, e)

adds_set : (x : ℕ) (vs : List DequeView) (k : ℕ) (v w : DequeView) → k < length vs → v ≡ get_or vs k v → w ≡ gets v (x ∷ []) → Adds x (all_popped vs) (all_popped (set vs k w))
adds_set x [] k v w less at is y = absurd (omega arith)
adds_set x (u ∷ us) zero v w less at is y =
    let a = times-append y w.popped (all_popped us) in let b = times-append y u.popped (all_popped us) in let c = times-append y u.popped (x ∷ []) in
    let e : times y w.popped ≡ times y (u.popped ++ x ∷ []) = ap (λ (t : DequeView). times y t.popped) is ∙ ap (λ (t : DequeView). times y (t.popped ++ x ∷ [])) at in let o = one x y in omega (arith, a, b, c, e, o)
adds_set x (u ∷ us) (suc k) v w less at is y =
    let r = adds_set x us k v w (omega arith) at is y in let a = times-append y u.popped (all_popped (set us k w)) in let b = times-append y u.popped (all_popped us) in omega (arith, r, a, b)

-- what one thief took joins what this pass took
pub took : (x n : ℕ) (vs ws : List DequeView) (own : List ℕ) → Stole x vs ws → All (λ v. v.bound ≡ n) vs → (x < n) × Adds x (own ++ all_popped vs) (own ++ all_popped ws)
took x n vs ws own s bounded = let k = s.0 in let v = s.1 in let taken = s.6 in (
  (let a = bounded k v s.3 in let b : v.bound ≡ n = ap (λ (t : DequeView). t.bound) s.4 ∙ a in let c = taken.1 0 x (omega arith) in omega (arith, b, c)),
  λ y. let r = subst (λ (zs : List DequeView). Adds x (all_popped vs) (all_popped zs)) (sym s.5) (adds_set x vs k v s.2 s.3 s.4 taken.0) y in let a = times-append y own (all_popped ws) in let b = times-append y own (all_popped vs) in omega (arith, r, a, b),
)

within_later : (u : DequeView) (vs : List DequeView) (k : ℕ) → WasEmpty u → AllWithin WasEmpty vs 0 k → AllWithin WasEmpty (u ∷ vs) 0 (suc k)
within_later u vs k empty before zero d low less = empty
within_later u vs k empty before (suc j) d low less = before j d (omega arith) (omega (arith, less))

-- the first deque was found empty, and the ticket came from a later one
pub stole_later : (x : ℕ) (u : DequeView) (vs ws : List DequeView) → WasEmpty u → Stole x vs ws → Stole x (u ∷ vs) (u ∷ ws)
stole_later x u vs ws empty s = (suc s.0, s.1, s.2, (let a = s.3 in omega arith), s.4, ap (λ l. u ∷ l) s.5, s.6, within_later u vs s.0 empty s.7)

pub stole_first : (x : ℕ) (v w : DequeView) (vs : List DequeView) → TakenOut v (x ∷ []) w → Stole x (v ∷ vs) (w ∷ vs)
stole_first x v w vs taken = (0, v, w, omega arith, refl, refl, taken, λ j d low less. absurd (omega (arith, low, less)))

pub all_empty : (v : DequeView) (vs : List DequeView) → WasEmpty v → All WasEmpty vs → All WasEmpty (v ∷ vs)
all_empty v vs first others zero d less = first
all_empty v vs first others (suc k) d less = others k d (omega arith)

pub both : {A : Type 0} (v w : A) (vs ws : List A) → v ≡ w → vs ≡ ws → (v ∷ vs) ≡ (w ∷ ws)
both v w vs ws a b = λ i. a i ∷ b i

-- passes that have taken nothing
pub none_popped : (b : ℕ) (vs : List DequeView) → All (IsGuest b) vs → all_popped vs ≡ []
none_popped b [] h = refl
none_popped b (v ∷ vs) h = ap (λ l. l ++ all_popped vs) (h 0 v (omega arith)).1 ∙ none_popped b vs (λ k d less. h (suc k) d (omega arith))

pub fresh_is_new : (b n k : ℕ) (p : StealPass) → IsFresh b n k p → IsNew b p
fresh_is_new b n k p f = (f.1, f.0.6, ap (λ l. l ++ all_popped (views_of p.thieves.items)) f.0.7 ∙ none_popped b (views_of p.thieves.items) f.2, f.3)
