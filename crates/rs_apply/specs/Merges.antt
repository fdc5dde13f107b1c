-- The merges that a region's entries commit, and what a machine holds of their sources.
use Rattle.std.specs.Prelude.{zero, suc, ◌++◌, ◌∷◌, [], ◌≡◌, ℕ, ◌+◌, ◌==◌, ◌&&◌, Bool, true, false, List, Option, Some, None, if◌then◌else◌, option_to_list}
use Rattle.std.specs.Borrow.{Bor}
use Rattle.std.specs.List.{list_any}
use Rattle.rs_entry.specs.declared.entry.Body.{Body}
use Rattle.rs_entry.specs.declared.entry.Body.TheVariants as body
use Rattle.rs_entry.specs.declared.entry.Entry.{Entry}
use Rattle.rs_entry.specs.declared.input.Input.{Input}
use Rattle.rs_region.specs.Verdicts.{verdict}
use Rattle.rs_region.specs.declared.verdict.Verdict.{Verdict}
use Rattle.rs_region.specs.declared.verdict.Verdict.TheVariants as verdicts
use Rattle.rs_part.specs.Parts.{Part}
use Rattle.rs_check.specs.declared.plan.Plan.{Plan}
use Rattle.rs_check.specs.Values.{part_at, entry_at, region_of}
use Rattle.rs_msg.specs.declared.closed.Closed.{Closed}
use Rattle.rs_msg.specs.declared.messages.PeerMsg.{PeerMsg}
use Rattle.rs_msg.specs.declared.messages.PeerMsg.TheVariants as peer
use Rattle.rs_apply.specs.Findings.{find_on}
use Rattle.rs_apply.specs.Steps.{each_of}

-- ---- which merges

-- the source of a merge that is committed, and the index of its prepare
abbrev pub merge_in : Verdict → Body → Option (ℕ × ℕ)
merge_in verdicts.Accept (body.Commit source commit carried) = Some (source, commit)
merge_in v b = None

-- the source and the commit's index, if the entry is a commit that the part accepts
abbrev pub merge_of : Option Part → Option Entry → Option (ℕ × ℕ)
merge_of (Some v) (Some e) = merge_in (verdict v.state e) e.body
merge_of v e = None

-- the merge that the entry after the index commits
unfoldable pub merge_at : Input → ℕ → ℕ → Option (ℕ × ℕ)
merge_at input a i = merge_of (part_at input a i) (entry_at input a (i + 1))

-- the merges that the n entries after the index commit
abbrev pub merges_from : Input → ℕ → ℕ → ℕ → List (ℕ × ℕ)
merges_from input a i n = each_of (λ k. option_to_list (merge_at input a k)) i n

-- ---- what is held of them

-- the source at this address has handed over after this prepare
abbrev pub is_of : ℕ → ℕ → Closed → Bool
is_of b commit x = (x.address == b) && (x.commit == commit)

-- the source at the address has handed over its state for the commit
abbrev pub has_closed : List Closed → Option ℕ → ℕ → Bool
has_closed closed None commit = false
has_closed closed (Some b) commit = list_any (is_of b commit) closed

-- the merge, if its source hasn't handed over its state
abbrev pub unheld : Input → ℕ → List Closed → Option (ℕ × ℕ) → Option (ℕ × ℕ)
unheld input a closed None = None
unheld input a closed (Some merge) = if has_closed closed (find_on input a merge.0) merge.1 then None else Some merge

-- the merge that the entry after the index commits, where its source hasn't handed over
unfoldable pub waits_at : Input → ℕ → List Closed → ℕ → Option (ℕ × ℕ)
waits_at input a closed i = unheld input a closed (merge_at input a i)

-- the first of a list that passes, x, is taken out
pub record TakesFirst {A : Type 0} (test : A → Bool) (x : A) (old new : List A) : Type 0 where
  pub before : List A
  pub behind : List A
  pub was : old ≡ before ++ x ∷ behind
  pub is : new ≡ before ++ behind
  pub none : list_any test before ≡ false
  pub passes : test x ≡ true

-- the first state that the source at the address handed over for the commit is taken out of the list
abbrev pub IsWithoutAt : Option ℕ → ℕ → List Closed → List Closed → Type 0
IsWithoutAt None commit old new = new ≡ old
IsWithoutAt (Some b) commit old new = (x : Closed) × TakesFirst (is_of b commit) x old new

-- the list without what was handed over for this merge
abbrev pub IsWithout : Input → ℕ → Option (ℕ × ℕ) → List Closed → List Closed → Type 0
IsWithout input a None old new = new ≡ old
IsWithout input a (Some merge) old new = IsWithoutAt (find_on input a merge.0) merge.1 old new

-- the list without what was handed over for the merges of the n entries after the index
abbrev pub IsWithoutAll : Input → ℕ → ℕ → ℕ → List Closed → List Closed → Type 0
IsWithoutAll input a i zero old new = new ≡ old
IsWithoutAll input a i (suc n) old new = (mid : List Closed) × IsWithoutAll input a i n old mid × IsWithout input a (merge_at input a (i + n)) mid new

-- ---- what is sent

-- the result of the merge, sent to the source's peer if it has an address
abbrev pub to_peer : Bor Plan → ℕ → Option ℕ → List (ℕ × PeerMsg)
to_peer plan a None = []
to_peer plan a (Some b) = (b, peer.MergeResult plan (region_of plan.now a)) ∷ []

-- the message to the source's peer machine that the merge is done
abbrev pub merge_results : Bor Plan → ℕ → Option (ℕ × ℕ) → List (ℕ × PeerMsg)
merge_results plan a None = []
merge_results plan a (Some merge) = to_peer plan a (find_on plan.now a merge.0)

-- the results of the merges that the n entries after the index commit
abbrev pub results_from : Bor Plan → ℕ → ℕ → ℕ → List (ℕ × PeerMsg)
results_from plan a i n = each_of (λ k. merge_results plan a (merge_at plan.now a k)) i n
