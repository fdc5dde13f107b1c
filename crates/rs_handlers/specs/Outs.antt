-- What a handler's machines may have to tell.
use Rattle.std.specs.Prelude.{◌≡◌, ◌<◌, List, length, slice_index_or}
use Rattle.std.specs.List.{All}
use Rattle.std.specs.Coded.{Coded-set, le_prop, ×_prop}
use Rattle.rs_entry.specs.declared.input.Input.{Input}
use Rattle.rs_entry.specs.contracts.input.Input.{the_row}
use Rattle.rs_check.specs.Values.{count_of}
use Rattle.rs_apply.specs.Fitting.{Fits, FitsApply, FitsPeer, FitsStore}
use Rattle.rs_msg.specs.Names.{name_of_apply, name_of_peer, name_of_store}
use Rattle.rs_msg.specs.declared.outbox.Outbox.{Outbox}
use Rattle.rs_handlers.specs.declared.control_handler.ControlOut.{ControlOut}

-- places of the plan's stores, and addresses of the plan
abbrev pub FitsControl : Input → ControlOut → Type 0
FitsControl input out = All (λ place. place < length input.stores) out.complete × All (λ address. address < count_of input) out.removed

-- ---- each holds in one way

one_input : (x y : Input) → IsProp (x ≡ y)
one_input x y = Coded-set the_row.coded x y

All_prop : {X : Type 0} (P : X → Type 0) → ((x : X) → IsProp (P x)) → (xs : List X) → IsProp (All P xs)
All_prop P prop xs = λ p q i k d l. prop (slice_index_or xs k d) (p k d l) (q k d l) i

pub Fits_prop : (input : Input) (out : Outbox) → IsProp (Fits input out)
Fits_prop input out = λ p q i. record {
  peers = All_prop (FitsPeer input) (λ x. ×_prop le_prop (one_input (name_of_peer x.1) input)) out.peers p.peers q.peers i;
  applies = All_prop (FitsApply input) (λ x. ×_prop le_prop (one_input (name_of_apply x.1) input)) out.applies p.applies q.applies i;
  stores = All_prop (FitsStore input) (λ x. ×_prop le_prop (one_input (name_of_store x.1) input)) out.stores p.stores q.stores i;
}

pub FitsControl_prop : (input : Input) (out : ControlOut) → IsProp (FitsControl input out)
FitsControl_prop input out = ×_prop (All_prop (λ place. place < length input.stores) (λ place. le_prop) out.complete) (All_prop (λ address. address < count_of input) (λ address. le_prop) out.removed)
