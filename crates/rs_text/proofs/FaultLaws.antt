-- What a first fault says of the lines before it, and of all texts with the same lines up to it.
use Rattle.rs_text.specs.declared.error.TextError.TheVariants as texts
use Rattle.std.proofs.Common.{◌≡◌, ℕ, ◌+◌, ◌<◌, ◌≤◌, Bool, true, false, cond, eqb, List, [], ◌∷◌, ◌++◌, length, Option, Some, None, Result, Ok, Err, refl, sym, ap, subst, ◌∙◌, inl, inr, arith}
use Rattle.rs_entry.specs.declared.input.Input.{Input}
use Rattle.rs_text.specs.declared.progress.Progress.{Progress}
use Rattle.rs_field.specs.declared.fault.TextKind.{TextKind}
use Rattle.rs_field.specs.declared.fault.TextKind.TheVariants.{BadLine, BadHeader, NoEnd}
use Rattle.rs_field.specs.Lines.{parts_of, fields_of}
use Rattle.rs_text.specs.Reading.{Fault, GivesText, at_line, header_of, at_header, input_of, last_line, read_from, read_parts, read_text}
use Rattle.rs_text.specs.Steps.{step, start}
use Rattle.rs_text.specs.Grammar.{Belongs}
use Rattle.rs_text.specs.FirstFault.{IsFaultless, NoneBelongs, NoneBefore}
use Rattle.rs_text.specs.declared.error.TextError.{TextError}
use Rattle.rs_text.proofs.OnlyTexts.{only}

same_line : (n m : ℕ) (k kind : TextKind) (r : Result Input Fault) → r ≡ Err (n, k) → r ≡ Err (m, kind) → n ≡ m
same_line n m k kind r h e =
    let a : Fault = (n, k) in
    let b : Fault = (m, kind) in
    let same : a ≡ b = cc in
    ap (λ (f : Fault). f.0) same

last_late : (n m : ℕ) (p : Progress) (last : List ℕ) (kind : TextKind) → last_line n p last ≡ Err (m, kind) → n ≤ m
unfolding last_line
last_late n m p last kind e = go (eqb (length last) 0) p.ended e where
  go : (t u : Bool) → cond {A = Result Input Fault} t (cond {A = Result Input Fault} u (Ok (input_of p)) (Err (n, NoEnd))) (Err (n, BadLine)) ≡ Err (m, kind) → n ≤ m
  go true true e = absurd cc
  go true false e = omega (arith, same_line n m NoEnd kind (Err (n, NoEnd)) refl e)
  go false u e = omega (arith, same_line n m BadLine kind (Err (n, BadLine)) refl e)

-- what was read of a line, and what follows it
at_late : (n m : ℕ) (r : Result Progress TextKind) (f : Progress → Result Input Fault) (kind : TextKind) → at_line n r f ≡ Err (m, kind) → ((q : Progress) → f q ≡ Err (m, kind) → n + 1 ≤ m) → n ≤ m
at_late n m (Ok q) f kind e h = omega (arith, h q e)
at_late n m (Err k) f kind e h = omega (arith, same_line n m k kind (Err (n, k)) refl e)

late : (parts : List (List ℕ)) (n m : ℕ) (p : Progress) (kind : TextKind) → read_from n p parts ≡ Err (m, kind) → n ≤ m
unfolding read_from
late [] n m p kind e = omega (arith, same_line n m NoEnd kind (Err (n, NoEnd)) refl e)
late (last ∷ []) n m p kind e = last_late n m p last kind e
late (line ∷ next ∷ more) n m p kind e = at_late n m (step p (fields_of line)) (λ q. read_from (n + 1) q (next ∷ more)) kind e (λ q h. late (next ∷ more) (n + 1) m q kind h)

at_both : (n : ℕ) (r : Result Progress TextKind) (f g : Progress → Result Input Fault) (z : Fault) → at_line n r f ≡ Err z → ((q : Progress) → f q ≡ Err z → g q ≡ Err z) → at_line n r g ≡ Err z
at_both n (Ok q) f g z e h = h q e
at_both n (Err k) f g z e h = e

stays : (front : List (List ℕ)) (n m : ℕ) (p : Progress) (kind : TextKind) (a b : List ℕ) (ts us : List (List ℕ)) → read_from n p (front ++ a ∷ ts) ≡ Err (m, kind) → m < n + length front → read_from n p (front ++ b ∷ us) ≡ Err (m, kind)
unfolding read_from
stays [] n m p kind a b ts us e lt = absurd (omega (arith, late (a ∷ ts) n m p kind e))
stays (f ∷ []) n m p kind a b ts us e lt =
    at_both n (step p (fields_of f)) (λ q. read_from (n + 1) q (a ∷ ts)) (λ q. read_from (n + 1) q (b ∷ us)) (m, kind) e (λ q h. stays [] (n + 1) m q kind a b ts us h (omega arith))
stays (f ∷ g ∷ front) n m p kind a b ts us e lt =
    at_both n (step p (fields_of f)) (λ q. read_from (n + 1) q (g ∷ (front ++ a ∷ ts))) (λ q. read_from (n + 1) q (g ∷ (front ++ b ∷ us))) (m, kind) e (λ q h. stays (g ∷ front) (n + 1) m q kind a b ts us h (omega arith))

header_both : (h : Option ℕ) (f g : ℕ → Result Input Fault) (z : Fault) → at_header h f ≡ Err z → ((v : ℕ) → f v ≡ Err z → g v ≡ Err z) → at_header h g ≡ Err z
header_both None f g z e k = e
header_both (Some v) f g z e k = k v e

parts_stay : (line : List ℕ) (front : List (List ℕ)) (m : ℕ) (kind : TextKind) (a b : List ℕ) (ts us : List (List ℕ)) → read_parts (line ∷ (front ++ a ∷ ts)) ≡ Err (m, kind) → m ≤ 1 + length front → read_parts (line ∷ (front ++ b ∷ us)) ≡ Err (m, kind)
unfolding read_parts
parts_stay line [] m kind a b ts us e le =
    header_both (header_of (fields_of line)) (λ v. read_from 2 (start v) (a ∷ ts)) (λ v. read_from 2 (start v) (b ∷ us)) (m, kind) e (λ v h. stays [] 2 m (start v) kind a b ts us h (omega arith))
parts_stay line (f ∷ front) m kind a b ts us e le =
    header_both (header_of (fields_of line)) (λ v. read_from 2 (start v) (f ∷ (front ++ a ∷ ts))) (λ v. read_from 2 (start v) (f ∷ (front ++ b ∷ us))) (m, kind) e (λ v h. stays (f ∷ front) 2 m (start v) kind a b ts us h (omega arith))

-- A text with the same ended lines up to the fault's has the same fault.
pub fault_stays : (t u line : List ℕ) (front : List (List ℕ)) (m : ℕ) (kind : TextKind) (a b : List ℕ) (ts us : List (List ℕ)) → parts_of t ≡ line ∷ (front ++ a ∷ ts) → parts_of u ≡ line ∷ (front ++ b ∷ us) → m ≤ 1 + length front → read_text t ≡ Err (m, kind) → read_text u ≡ Err (m, kind)
unfolding read_text
fault_stays t u line front m kind a b ts us cut_t cut_u le e =
    ap read_parts cut_u ∙ parts_stay line front m kind a b ts us (sym (ap read_parts cut_t) ∙ e) le

-- So nothing that begins with these lines belongs to an input.
pub none_belongs : (t u line : List ℕ) (front : List (List ℕ)) (m : ℕ) (kind : TextKind) (a b : List ℕ) (ts us : List (List ℕ)) → parts_of t ≡ line ∷ (front ++ a ∷ ts) → parts_of u ≡ line ∷ (front ++ b ∷ us) → m ≤ 1 + length front → read_text t ≡ Err (m, kind) → (x : Input) → Belongs u x → ⊥
none_belongs t u line front m kind a b ts us cut_t cut_u le e x h =
    let fault = fault_stays t u line front m kind a b ts us cut_t cut_u le e in
    let read = only u x h in
    absurd cc

-- ---- the lines before the fault

last_faultless : (n m : ℕ) (p : Progress) → m ≡ n → IsFaultless m (last_line n p [])
unfolding last_line
last_faultless n m p e = go p.ended where
  go : (t : Bool) → IsFaultless m (cond {A = Result Input Fault} t (Ok (input_of p)) (Err (n, NoEnd)))
  go true = inr (input_of p, refl)
  go false = inl (ap (λ (k : ℕ). Err (k, NoEnd)) (sym e))

at_faultless : (n m : ℕ) (r : Result Progress TextKind) (f g : Progress → Result Input Fault) (kind : TextKind) → at_line n r f ≡ Err (m, kind) → n < m → ((q : Progress) → f q ≡ Err (m, kind) → IsFaultless m (g q)) → IsFaultless m (at_line n r g)
at_faultless n m (Ok q) f g kind e lt h = h q e
at_faultless n m (Err k) f g kind e lt h = absurd (omega (arith, same_line n m k kind (Err (n, k)) refl e))

before : (front : List (List ℕ)) (n m : ℕ) (p : Progress) (kind : TextKind) (a : List ℕ) (ts : List (List ℕ)) → read_from n p (front ++ a ∷ ts) ≡ Err (m, kind) → m ≡ n + length front → IsFaultless m (read_from n p (front ++ [] ∷ []))
unfolding read_from
before [] n m p kind a ts e at = last_faultless n m p (omega arith)
before (f ∷ []) n m p kind a ts e at =
    at_faultless n m (step p (fields_of f)) (λ q. read_from (n + 1) q (a ∷ ts)) (λ q. read_from (n + 1) q ([] ∷ [])) kind e (omega arith) (λ q h. before [] (n + 1) m q kind a ts h (omega arith))
before (f ∷ g ∷ front) n m p kind a ts e at =
    at_faultless n m (step p (fields_of f)) (λ q. read_from (n + 1) q (g ∷ (front ++ a ∷ ts))) (λ q. read_from (n + 1) q (g ∷ (front ++ [] ∷ []))) kind e (omega arith) (λ q h. before (g ∷ front) (n + 1) m q kind a ts h (omega arith))

header_faultless : (h : Option ℕ) (f g : ℕ → Result Input Fault) (m : ℕ) (kind : TextKind) → at_header h f ≡ Err (m, kind) → 1 < m → ((v : ℕ) → f v ≡ Err (m, kind) → IsFaultless m (g v)) → IsFaultless m (at_header h g)
header_faultless None f g m kind e lt k = absurd (omega (arith, same_line 1 m BadHeader kind (Err (1, BadHeader)) refl e))
header_faultless (Some v) f g m kind e lt k = k v e

parts_before : (line : List ℕ) (front : List (List ℕ)) (m : ℕ) (kind : TextKind) (a : List ℕ) (ts : List (List ℕ)) → read_parts (line ∷ (front ++ a ∷ ts)) ≡ Err (m, kind) → m ≡ 2 + length front → IsFaultless m (read_parts (line ∷ (front ++ [] ∷ [])))
unfolding read_parts
parts_before line [] m kind a ts e at =
    header_faultless (header_of (fields_of line)) (λ v. read_from 2 (start v) (a ∷ ts)) (λ v. read_from 2 (start v) ([] ∷ [])) m kind e (omega arith) (λ v h. before [] 2 m (start v) kind a ts h (omega arith))
parts_before line (f ∷ front) m kind a ts e at =
    header_faultless (header_of (fields_of line)) (λ v. read_from 2 (start v) (f ∷ (front ++ a ∷ ts))) (λ v. read_from 2 (start v) (f ∷ (front ++ [] ∷ []))) m kind e (omega arith) (λ v h. before (f ∷ front) 2 m (start v) kind a ts h (omega arith))

-- The lines before the fault's, as a text of their own, have no fault, but that `end` may be missing after them.
pub none_before : (t u line : List ℕ) (front : List (List ℕ)) (m : ℕ) (kind : TextKind) (a : List ℕ) (ts : List (List ℕ)) → parts_of t ≡ line ∷ (front ++ a ∷ ts) → parts_of u ≡ line ∷ (front ++ [] ∷ []) → m ≡ 2 + length front → read_text t ≡ Err (m, kind) → IsFaultless m (read_text u)
unfolding read_text
none_before t u line front m kind a ts cut_t cut_u at e =
    subst (λ (ps : List (List ℕ)). IsFaultless m (read_parts ps)) (sym cut_u) (parts_before line front m kind a ts (sym (ap read_parts cut_t) ∙ e) at)

-- ---- as clauses

pub none_belongs_given : (r : Result Input TextError) (text : List ℕ) → GivesText r (read_text text) → NoneBelongs text r
none_belongs_given (Ok x) text e = tt
none_belongs_given (Err texts.NoMemory) text e = tt
none_belongs_given (Err (texts.Fault line kind)) text e = λ u s x b. none_belongs text u s.first s.lines line kind s.next s.other s.more s.others s.parts s.other_parts (omega (arith, s.count)) e x b

pub none_before_given : (r : Result Input TextError) (text : List ℕ) → GivesText r (read_text text) → NoneBefore text r
none_before_given (Ok x) text e = tt
none_before_given (Err texts.NoMemory) text e = tt
none_before_given (Err (texts.Fault line kind)) text e = λ u s. none_before text u s.first s.lines line kind s.next s.more s.parts s.parts_before s.count e
