-- Each part of a script is the region's own, and live.
use Rattle.std.proofs.Common.{◌≡◌, ℕ, zero, suc, ◌-◌, ◌==◌, Bool, true, false, List, length, Option, Some, None, refl, ap, sym, ◌∙◌, subst}
use Rattle.std.specs.Prelude.{leb}
use Rattle.std.specs.List.{find, zip}
use Rattle.std.proofs.lemmas.Bool.{eqb-true}
use Rattle.std.proofs.lemmas.Option.{cond_some}
use Rattle.rs_key.specs.Epochs.{after_split}
use Rattle.rs_key.specs.Ranges.{cut}
use Rattle.rs_entry.specs.declared.entry.Body.{Body}
use Rattle.rs_entry.specs.declared.entry.Body.TheVariants as body
use Rattle.rs_entry.specs.declared.entry.Entry.{Entry}
use Rattle.rs_entry.specs.declared.outcome.Mode.TheVariants as mode
use Rattle.rs_region.specs.Reshapings.{new_ranges, split_new}
use Rattle.rs_region.specs.Verdicts.{verdict}
use Rattle.rs_region.specs.declared.state.RegionState.{RegionState}
use Rattle.rs_region.specs.declared.verdict.Verdict.{Verdict}
use Rattle.rs_region.specs.declared.verdict.Verdict.TheVariants as verdicts
use Rattle.rs_store.specs.Stores.{is_accept, is_live}
use Rattle.rs_part.specs.Parts.{Part}
use Rattle.rs_part.specs.Scripts.{Birth, Found, IsPart, Never, Opened, Script, SplitOff, accepted, after_by, after_line, begun, child_by, child_in, child_of, child_with, found, grow_by, joined_part, may_join, with_source}
use Rattle.rs_part.proofs.Cutting.{all_normal}
use Rattle.rs_part.proofs.Members.{among_all, among_find}

-- the part of this region, which is live
pub record IsLivePart (id : ℕ) (v : Part) : Type 0 where
  pub named : v.state.region ≡ id
  pub live : is_live v.state.mode ≡ true

same : {id : ℕ} (u v : Part) → ◌≡◌ {A = Option Part} (Some u) (Some v) → IsLivePart id u → IsLivePart id v
same {id} u v h p =
    let one : u ≡ v = cc in
    subst (IsLivePart id) one p

abbrev AllLive : Found → Type 0
AllLive f = (id index : ℕ) (v : Part) → f id index ≡ Some v → IsLivePart id v

-- ---- births

child_live : (id : ℕ) (u : Part) (ss : List RegionState) (v : Part) → ((s : RegionState) → find (λ t. t.region == id) ss ≡ Some s → (s.region ≡ id) × (s.mode ≡ mode.Normal))
    → (o : Option RegionState) → find (λ t. t.region == id) ss ≡ o → child_with u o ≡ Some v → IsLivePart id v
child_live id u ss v each None o h = absurd cc
child_live id u ss v each (Some s) o h =
    let w = each s o in
    let state : s ≡ v.state = ap (λ z. state_of z) h in
    record { named = ap (λ z. z.region) (sym state) ∙ w.0; live = ap (λ z. is_live z.mode) (sym state) ∙ ap is_live w.1 }
  where
    state_of : Option Part → RegionState
    state_of None = s
    state_of (Some x) = x.state

in_live : (id : ℕ) (u v : Part) (b : Body) → child_in id u b ≡ Some v → IsLivePart id v
in_live id u v (body.Split side ids keys) h =
    child_live id u (split_new u.state side ids keys) v
    (λ s f.
    let w = among_find (λ t. t.region == id) (split_new u.state side ids keys) s f in (
      eqb-true s.region id w.1,
      among_all (λ t. t.mode ≡ mode.Normal) s (split_new u.state side ids keys)
          (all_normal (after_split u.state.epoch (length keys)) u.state.peers (zip ids (new_ranges side (cut u.state.range keys)))) w.0,
    ))
    (find (λ t. t.region == id) (split_new u.state side ids keys)) refl h
in_live id u v body.Empty h = absurd cc
in_live id u v (body.Write ops) h = absurd cc
in_live id u v (body.Prepare target) h = absurd cc
in_live id u v (body.Commit source commit carried) h = absurd cc
in_live id u v (body.Rollback commit) h = absurd cc
in_live id u v (body.Conf c) h = absurd cc

by_live : (id : ℕ) (u v : Part) (b : Body) (accept : Bool) → child_by id u b accept ≡ Some v → IsLivePart id v
by_live id u v b true h = in_live id u v b h
by_live id u v b false h = absurd cc

of_live : (id : ℕ) (l : Option Entry) (o : Option Part) (v : Part) → child_of id l o ≡ Some v → IsLivePart id v
of_live id None o v h = absurd cc
of_live id (Some e) None v h = absurd cc
of_live id (Some e) (Some u) v h = by_live id u v e.body (is_accept (verdict u.state e)) h

begun_live : (script : Script) (f : Found) (id : ℕ) (b : Birth) (v : Part) → begun script f id b ≡ Some v → IsLivePart id v
begun_live script f id Never v h = absurd cc
begun_live script f id (Opened range peers) v h = same _ v h (record { named = refl; live = refl })
begun_live script f id (SplitOff parent index) v h = of_live id (script.line parent index) (f parent (index - 1)) v h

-- ---- entries

module _ (f : Found) (id index : ℕ) (u v : Part) (live : IsLivePart id u) where
  source_live : (commit : ℕ) (o : Option Part) → with_source id commit u o ≡ Some v → IsLivePart id v
  source_live commit None h = absurd cc
  source_live commit (Some q) h =
      let w = cond_some (may_join id commit u q) (joined_part u q) v h in
      subst (IsLivePart id) w.1 (record { named = live.named; live = refl })

  accepted_live : (b : Body) → accepted f id index u b ≡ Some v → IsLivePart id v
  accepted_live body.Empty h = same u v h live
  accepted_live (body.Write ops) h = same _ v h (record { named = live.named; live = live.live })
  accepted_live (body.Split side ids keys) h = same _ v h (record { named = live.named; live = refl })
  accepted_live (body.Prepare target) h = same _ v h (record { named = live.named; live = refl })
  accepted_live (body.Commit source commit carried) h = source_live commit (f source commit) h
  accepted_live (body.Rollback commit) h = same _ v h (record { named = live.named; live = refl })
  accepted_live (body.Conf c) h = same _ v h (record { named = live.named; live = refl })

  after_live : (x : Verdict) (b : Body) → after_by x f id index u b ≡ Some v → IsLivePart id v
  after_live verdicts.Accept b h = accepted_live b h
  after_live verdicts.BadRollback b h = absurd cc
  after_live verdicts.Empty b h = same u v h live
  after_live verdicts.Stale b h = same u v h live
  after_live verdicts.Merging b h = same u v h live
  after_live (verdicts.Outside place) b h = same u v h live
  after_live (verdicts.BadSplit place) b h = same u v h live
  after_live verdicts.BadPeer b h = same u v h live

line_live : (f : Found) (id index : ℕ) (l : Option Entry) (o : Option Part) (v : Part) → ((u : Part) → o ≡ Some u → IsLivePart id u) → after_line f id index l o ≡ Some v → IsLivePart id v
line_live f id index None o v before h = absurd cc
line_live f id index (Some e) None v before h = absurd cc
line_live f id index (Some e) (Some u) v before h = after_live f id index u v (before u refl) (verdict u.state e) e.body h

grown_live : (script : Script) (f : Found) → AllLive f → (b : Bool) (id index : ℕ) (v : Part) → grow_by b script f id index ≡ Some v → IsLivePart id v
grown_live script f all true id index v h = begun_live script f id (script.birth id) v h
grown_live script f all false id index v h = line_live f id index (script.line id index) (f id (index - 1)) v (all id (index - 1)) h

found_live : (script : Script) (n : ℕ) → AllLive (found script n)
found_live script zero id index v h = absurd cc
found_live script (suc n) id index v h = grown_live script (found script n) (found_live script n) (leb index 5) id index v h

-- so each part is
pub part_live : (script : Script) (id index : ℕ) (v : Part) → IsPart script id index v → IsLivePart id v
part_live script id index v p = found_live script p.0 id index v p.1
