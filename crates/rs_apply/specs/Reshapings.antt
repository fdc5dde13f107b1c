-- The entries that reshape a region, and the messages in which they are told.
use Rattle.std.specs.Prelude.{ℕ, ◌+◌, Bool, true, false, ◌&&◌, List, [], ◌∷◌, Option, Some}
use Rattle.std.specs.Borrow.{Bor}
use Rattle.rs_entry.specs.declared.entry.Body.{Body}
use Rattle.rs_entry.specs.declared.entry.Entry.{Entry}
use Rattle.rs_entry.specs.declared.input.Input.{Input}
use Rattle.rs_region.specs.Verdicts.{verdict}
use Rattle.rs_region.specs.declared.verdict.Verdict.{Verdict}
use Rattle.rs_store.specs.Stores.{is_accept, is_reshaping}
use Rattle.rs_part.specs.Parts.{Part}
use Rattle.rs_check.specs.declared.plan.Plan.{Plan}
use Rattle.rs_check.specs.Values.{part_at, entry_at, reshaped_by, store_place}
use Rattle.rs_msg.specs.declared.messages.StoreMsg.{StoreMsg}
use Rattle.rs_msg.specs.declared.messages.StoreMsg.TheVariants as store
use Rattle.rs_apply.specs.Steps.{each_of}

-- an entry with this verdict and body reshapes its region
abbrev pub reshapes_by : Verdict → Body → Bool
reshapes_by v b = is_accept v && is_reshaping b

-- the entry reshapes the part that it is applied to
abbrev pub reshapes_of : Option Part → Option Entry → Bool
reshapes_of (Some v) (Some e) = reshapes_by (verdict v.state e) e.body
reshapes_of v e = false

-- the entry after the index reshapes the region
unfoldable pub reshapes_at : Input → ℕ → ℕ → Bool
reshapes_at input a i = reshapes_of (part_at input a i) (entry_at input a (i + 1))

-- the message to the store's control machine that the nth reshaping is applied, if the entry is one
abbrev pub reshaped_if : Bor Plan → ℕ → ℕ → Bool → List (ℕ × StoreMsg)
reshaped_if plan a nth true = (store_place plan.now a, store.Reshaped plan a nth) ∷ []
reshaped_if plan a nth false = []

-- the messages of the reshapings among the n entries after the index
abbrev pub reshapings_from : Bor Plan → ℕ → ℕ → ℕ → List (ℕ × StoreMsg)
reshapings_from plan a i n = each_of (λ k. reshaped_if plan a (reshaped_by plan.now a (k + 1)) (reshapes_at plan.now a k)) i n
