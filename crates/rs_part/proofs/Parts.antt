-- A region has one part at an index, whatever it is found by.
use Rattle.std.proofs.Common.{◌≡◌, ℕ, zero, suc, ◌+◌, ◌-◌, ◌≤◌, Bool, true, false, Option, Some, None, refl, ap, ◌∙◌, arith}
use Rattle.std.specs.Prelude.{leb}
use Rattle.std.proofs.lemmas.Bool.{lt-leb}
use Rattle.rs_entry.specs.declared.entry.Body.{Body}
use Rattle.rs_entry.specs.declared.entry.Body.TheVariants as body
use Rattle.rs_entry.specs.declared.entry.Entry.{Entry}
use Rattle.rs_region.specs.Verdicts.{verdict}
use Rattle.rs_region.specs.declared.verdict.Verdict.{Verdict}
use Rattle.rs_region.specs.declared.verdict.Verdict.TheVariants as verdicts
use Rattle.rs_part.specs.Parts.{Part}
use Rattle.rs_part.specs.Scripts.{Birth, Found, IsPart, Never, Opened, Script, SplitOff, accepted, after_by, after_line, begun, child_of, found, grow_by, with_source}

-- all that the first has found the second has found too
abbrev pub Within : Found → Found → Type 0
Within f g = (id index : ℕ) (v : Part) → f id index ≡ Some v → g id index ≡ Some v

source_within : (id c : ℕ) (v : Part) (a b : Option Part) (w : Part) → ((u : Part) → a ≡ Some u → b ≡ Some u) → with_source id c v a ≡ Some w → with_source id c v b ≡ Some w
source_within id c v None b w h e = absurd cc
source_within id c v (Some u) b w h e = ap (with_source id c v) (h u refl) ∙ e

accepted_within : (f g : Found) → Within f g → (id index : ℕ) (v : Part) (b : Body) (w : Part) → accepted f id index v b ≡ Some w → accepted g id index v b ≡ Some w
accepted_within f g h id index v (body.Commit q c l) w e = source_within id c v (f q c) (g q c) w (h q c) e
accepted_within f g h id index v body.Empty w e = e
accepted_within f g h id index v (body.Write ops) w e = e
accepted_within f g h id index v (body.Split side ids keys) w e = e
accepted_within f g h id index v (body.Prepare t) w e = e
accepted_within f g h id index v (body.Rollback c) w e = e
accepted_within f g h id index v (body.Conf c) w e = e

by_within : (x : Verdict) (f g : Found) → Within f g → (id index : ℕ) (v : Part) (b : Body) (w : Part) → after_by x f id index v b ≡ Some w → after_by x g id index v b ≡ Some w
by_within verdicts.Accept f g h id index v b w e = accepted_within f g h id index v b w e
by_within verdicts.BadRollback f g h id index v b w e = e
by_within verdicts.Empty f g h id index v b w e = e
by_within verdicts.Stale f g h id index v b w e = e
by_within verdicts.Merging f g h id index v b w e = e
by_within (verdicts.Outside p) f g h id index v b w e = e
by_within (verdicts.BadSplit p) f g h id index v b w e = e
by_within verdicts.BadPeer f g h id index v b w e = e

line_within : (f g : Found) → Within f g → (id index : ℕ) (l : Option Entry) (a b : Option Part) (w : Part) → ((u : Part) → a ≡ Some u → b ≡ Some u)
    → after_line f id index l a ≡ Some w → after_line g id index l b ≡ Some w
line_within f g h id index None a b w k e = absurd cc
line_within f g h id index (Some x) None b w k e = absurd cc
line_within f g h id index (Some x) (Some v) b w k e =
    ap (after_line g id index (Some x)) (k v refl) ∙ by_within (verdict v.state x) f g h id index v x.body w e

child_within : (id : ℕ) (l : Option Entry) (a b : Option Part) (w : Part) → ((u : Part) → a ≡ Some u → b ≡ Some u) → child_of id l a ≡ Some w → child_of id l b ≡ Some w
child_within id None a b w k e = absurd cc
child_within id (Some x) None b w k e = absurd cc
child_within id (Some x) (Some v) b w k e = ap (child_of id (Some x)) (k v refl) ∙ e

begun_within : (script : Script) (f g : Found) → Within f g → (id : ℕ) (o : Birth) (w : Part) → begun script f id o ≡ Some w → begun script g id o ≡ Some w
begun_within script f g h id Never w e = e
begun_within script f g h id (Opened range peers) w e = e
begun_within script f g h id (SplitOff p j) w e = child_within id (script.line p j) (f p (j - 1)) (g p (j - 1)) w (h p (j - 1)) e

grow_within : (script : Script) (f g : Found) → Within f g → (b : Bool) (id index : ℕ) (w : Part) → grow_by b script f id index ≡ Some w → grow_by b script g id index ≡ Some w
grow_within script f g h true id index w e = begun_within script f g h id (script.birth id) w e
grow_within script f g h false id index w e =
    line_within f g h id index (script.line id index) (f id (index - 1)) (g id (index - 1)) w (h id (index - 1)) e

found_more : (script : Script) (n : ℕ) → Within (found script n) (found script (suc n))
found_more script zero id index v e = absurd cc
found_more script (suc n) id index v e =
    grow_within script (found script n) (found script (suc n)) (found_more script n) (leb index 5) id index v e

-- what is found stays so in more steps
pub found_later : (script : Script) (n m : ℕ) → Within (found script n) (found script (m + n))
found_later script n zero id index v e =
    let s : 0 + n ≡ n = omega arith in
    ap (λ (x : ℕ). found script x id index) s ∙ e
found_later script n (suc m) id index v e =
    let s : suc m + n ≡ suc (m + n) = omega arith in
    ap (λ (x : ℕ). found script x id index) s ∙ found_more script (m + n) id index v (found_later script n m id index v e)

-- a region has one part at an index
pub one_part : (script : Script) (id index : ℕ) (v w : Part) → IsPart script id index v → IsPart script id index w → v ≡ w
one_part script id index v w a b =
    let x : found script (b.0 + a.0) id index ≡ Some v = found_later script a.0 b.0 id index v a.1 in
    let y : found script (a.0 + b.0) id index ≡ Some w = found_later script b.0 a.0 id index w b.1 in
    let s : a.0 + b.0 ≡ b.0 + a.0 = omega arith in
    cc (x, y, ap (λ (n : ℕ). found script n id index) s)

-- the part at the next index, by the entry there
pub next_part : (script : Script) (id index n : ℕ) (e : Entry) (v w : Part) → 5 ≤ index → script.line id (index + 1) ≡ Some e → found script n id index ≡ Some v
    → after_by (verdict v.state e) (found script n) id (index + 1) v e.body ≡ Some w → IsPart script id (index + 1) w
next_part script id index n e v w le line before after =
    let back : (index + 1) - 1 ≡ index = omega arith in (
      suc n,
      ap (λ (b : Bool). grow_by b script (found script n) id (index + 1)) (lt-leb (index + 1) 5 (omega arith))
          ∙ (ap (λ (l : Option Entry). after_line (found script n) id (index + 1) l (found script n id ((index + 1) - 1))) line
          ∙ (ap (after_line (found script n) id (index + 1) (Some e)) (ap (found script n id) back ∙ before)
          ∙ after)),
    )
