-- A table that has taken a reshaping is of the cut with it.
use Rattle.std.proofs.Common.{◌≡◌, ℕ, ◌+◌, ◌<◌, ◌∙◌, Bool, true, false, List, [], ◌∷◌, ◌++◌, length, refl, ap, sym, arith, Some, None, Option, Ok, Err, Result, MatchResult, fold, replicate, suc, zero}
use mathlib.Core.Path.{fun_ext}
use Rattle.std.specs.Option.{option_to_list}
use Rattle.std.proofs.lemmas.List.{append-nil}
use Rattle.rs_entry.specs.declared.input.Input.{Input}
use Rattle.rs_check.specs.Values.{count_of}
use Rattle.rs_table.specs.declared.cut_table.CutTable.{CutTable}
use Rattle.rs_table.specs.Cuts.{Cut, IsCut, is_on}
use Rattle.rs_table.specs.CutViews.{counts_of, input_of, place_of}
use Rattle.rs_table.specs.Moves.{nothing_covered, raised}
use Rattle.rs_table.specs.Tellings.{numbers}
use Rattle.rs_table.proofs.Cutting.{raised_same}
use Rattle.rs_table.proofs.NeedLists.{on_below}
use Rattle.rs_view.specs.declared.step.Step.{Step}
use Rattle.rs_view.specs.declared.store_cut.StoreCut.{StoreCut}
use Rattle.rs_view.specs.Cuts.{cut_of, empty_cut, stepped}
use Rattle.rs_view.proofs.Rises.{within_fold}
use Rattle.rs_view.proofs.Steps.{one_set, same_list}

abbrev store_cut : Input → ℕ → List ℕ → StoreCut
store_cut i p ns = record { input = i; place = p; counts = ns }

-- a cut grows at an address of the store alone
below_count : (input : Input) (place : ℕ) (n : Cut) (a : ℕ) → IsCut input place (raised n a) → a < count_of input
below_count input place n a cut = go (is_on input place a) refl where
  go : (b : Bool) → is_on input place a ≡ b → a < count_of input
  go true e = on_below input place a e
  go false e = absurd (let z = cut.here a e in let r = raised_same n a in omega (arith, z, r))

module _ (s t : CutTable) (same_plan : t.plan ≡ s.plan) (same_place : place_of t ≡ place_of s) where
  same_length : length (counts_of t) ≡ length (counts_of s)
  same_length = t.sized ∙ (ap (λ p. count_of p.now) same_plan ∙ sym s.sized)

  moved : (ns : List ℕ) → counts_of t ≡ ns → cut_of t ≡ store_cut (input_of s) (place_of s) ns
  moved ns e = ap (λ p. store_cut p.now (place_of t) (counts_of t)) same_plan ∙ (ap (λ k. store_cut (input_of s) k (counts_of t)) same_place ∙ ap (store_cut (input_of s) (place_of s)) e)

  pub took : (step : Step) → IsCut (input_of s) (place_of s) (raised (numbers (counts_of s)) step.address) → numbers (counts_of t) ≡ raised (numbers (counts_of s)) step.address → cut_of t ≡ stepped (cut_of s) step
  took step cut e = moved _ (one_set (counts_of s) (counts_of t) step.address (let b = below_count (input_of s) (place_of s) (numbers (counts_of s)) step.address cut in let l = s.sized in omega (arith, b, l)) same_length e)

  pub stayed : numbers (counts_of t) ≡ numbers (counts_of s) → cut_of t ≡ cut_of s
  stayed e = moved (counts_of s) (same_list (counts_of t) (counts_of s) same_length e)

-- what is ahead of a cut by some steps is of its store
pub of_store : (t : CutTable) (c : StoreCut) (ops : List Step) → cut_of t ≡ fold stepped c ops → (input_of t ≡ c.input) × (place_of t ≡ c.place)
of_store t c ops e = let w = within_fold c ops in (ap (λ (d : StoreCut). d.input) e ∙ w.0, ap (λ (d : StoreCut). d.place) e ∙ w.1)

fold_last : (c : StoreCut) (ops : List Step) (s : Step) → fold stepped c (ops ++ s ∷ []) ≡ stepped (fold stepped c ops) s
fold_last c [] s = refl
fold_last c (x ∷ ops) s = fold_last (stepped c x) ops s

-- one step more is ahead, of what was noted and of what waits
pub one_ahead : (first second third p q : StoreCut) (ops noted after : List Step) (wait : Option Step) (s : Step) → p ≡ fold stepped first ops → second ≡ first → noted ++ option_to_list wait ≡ ops → wait ≡ None
    → q ≡ stepped p s → third ≡ second → after ≡ noted ++ s ∷ [] → q ≡ fold stepped third after
one_ahead first second third p q ops noted after wait s ahead e steps none is f last =
    let same : noted ≡ ops = sym (append-nil noted) ∙ (ap (λ (o : Option Step). noted ++ option_to_list o) (sym none) ∙ steps) in
    is ∙ (ap (λ (c : StoreCut). stepped c s) ahead
    ∙ (sym (fold_last first ops s)
    ∙ (ap (λ (xs : List Step). fold stepped first (xs ++ s ∷ [])) (sym same)
    ∙ (ap (fold stepped first) (sym last) ∙ ap (λ (c : StoreCut). fold stepped c after) (sym (f ∙ e))))))

-- where no step was taken, the same is ahead
pub still_ahead : (first second p q : StoreCut) (ops after : List Step) → p ≡ fold stepped first ops → second ≡ first → after ≡ ops → q ≡ p → q ≡ fold stepped second after
still_ahead first second p q ops after ahead e steps is = is ∙ (ahead ∙ (ap (fold stepped first) (sym steps) ∙ ap (λ (c : StoreCut). fold stepped c after) (sym e)))

-- ---- a new table

zeros : (n i : ℕ) → numbers (replicate n 0) i ≡ 0
zeros zero i = refl
zeros (suc n) zero = refl
zeros (suc n) (suc i) = zeros n i

length_zeros : (n : ℕ) → length {A = ℕ} (replicate n 0) ≡ n
length_zeros zero = refl
length_zeros (suc n) = ap suc (length_zeros n)

pub fresh : (t : CutTable) (input : Input) (place : ℕ) → input_of t ≡ input → place_of t ≡ place → numbers (counts_of t) ≡ nothing_covered → cut_of t ≡ empty_cut input place
fresh t input place of_input of_place none =
    let total : length (counts_of t) ≡ count_of input = t.sized ∙ ap count_of of_input in
    let counts : counts_of t ≡ replicate (count_of input) 0 = same_list (counts_of t) (replicate (count_of input) 0) (total ∙ sym (length_zeros (count_of input))) (none ∙ sym (fun_ext (zeros (count_of input)))) in
    ap (λ i. store_cut i (place_of t) (counts_of t)) of_input ∙ (ap (λ k. store_cut input k (counts_of t)) of_place ∙ ap (store_cut input place) counts)

-- ---- what is published

-- nothing is ahead of what was just published
pub begun : (c d : StoreCut) (ops : List Step) → d ≡ c → ops ≡ [] → d ≡ fold stepped c (ops ++ option_to_list None)
begun c d ops e none = e ∙ ap (λ (xs : List Step). fold stepped c (xs ++ [])) (sym none)

-- after the writer has shown the steps of its log, or has failed to
pub shown : {X E : Type 0} (r : Result X E) (s t : CutTable) (ops rest : List Step) (v w : Option StoreCut) → v ≡ Some (cut_of s)
    → MatchResult r (λ _. (cut_of t ≡ fold stepped (cut_of s) ops) × (rest ≡ []) × (w ≡ Some (cut_of t))) (λ _. (t ≡ s) × (rest ≡ ops) × (w ≡ v))
    → (fold stepped (cut_of t) rest ≡ fold stepped (cut_of s) ops) × (w ≡ Some (cut_of t)) × (input_of t ≡ input_of s) × (place_of t ≡ place_of s)
shown (Ok x) s t ops rest v w is h = let o = of_store t (cut_of s) ops h.0 in (ap (fold stepped (cut_of t)) h.1 ∙ h.0, h.2, o.0, o.1)
shown (Err e) s t ops rest v w is h = (
  ap (λ (u : CutTable). fold stepped (cut_of u) rest) h.0 ∙ ap (fold stepped (cut_of s)) h.1,
  h.2 ∙ is ∙ ap (λ (u : CutTable). Some (cut_of u)) (sym h.0),
  ap (λ (u : CutTable). input_of u) h.0,
  ap (λ (u : CutTable). place_of u) h.0,
)

-- what was ahead still is, where nothing waits
pub after_show : (first mid new p : StoreCut) (ops noted rest : List Step) (wait : Option Step) → p ≡ fold stepped first ops → mid ≡ first → noted ++ option_to_list wait ≡ ops → wait ≡ None
    → fold stepped new rest ≡ fold stepped mid noted → p ≡ fold stepped new (rest ++ option_to_list wait)
after_show first mid new p ops noted rest wait ahead same steps none showed =
    let bare : (xs : List Step) → xs ++ option_to_list wait ≡ xs = λ xs. ap (λ (o : Option Step). xs ++ option_to_list o) none ∙ append-nil xs in
    ahead
    ∙ (ap (fold stepped first) (sym steps ∙ bare noted)
    ∙ (ap (λ (c : StoreCut). fold stepped c noted) (sym same)
    ∙ (sym showed ∙ ap (fold stepped new) (sym (bare rest)))))
