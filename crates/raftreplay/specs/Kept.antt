-- How a command keeps to the answer that is expected of it.
use Rattle.std.specs.Prelude.{◌≡◌, ℕ, ◌<◌, ◌≤◌, true, false, List, [], ◌++◌, length, ◌⊎◌, Option, Some, IfSome, Ok, Err}
use Rattle.std.specs.Io.KnownBytes.{Appends, Keeps}
use Rattle.rs_base.specs.Counts.{Rose}
use Rattle.raftreplay.specs.declared.status.Status.{Status}
use Rattle.raftreplay.specs.declared.status.Status.TheVariants as status
use Rattle.raftreplay.specs.declared.words.Command.{Command}
use Rattle.raftreplay.specs.Statuses.{IsWritten, IsSilent, IsRefusal}
use Rattle.raftreplay.specs.Expected.{Answer, Reading, limit, too_long, answer_of, reads, bytes_for}

-- the sink took a front of the text, where it tells what it took
abbrev pub TookFront : Option (List ℕ) → Option (List ℕ) → List ℕ → Type 0
TookFront old new text = (front rest : List ℕ) × (text ≡ front ++ rest) × Appends old new front

-- this was the answer, and its text was appended
abbrev pub Gave : Answer → Status → Option (List ℕ) → Option (List ℕ) → Type 0
Gave answer given old new = (answer.status ≡ given) × Appends old new answer.text

-- The command ended with the status, where the answer was expected, and what the sink took went from old
-- to new. A failed read and want of memory wrote nothing. A failed write wrote a front of the text. Every
-- other status is the one expected, and all of its text was written.
abbrev pub KeepsTo : Answer → Status → Option (List ℕ) → Option (List ℕ) → Type 0
KeepsTo answer status.ReadFault old new = Keeps old new
KeepsTo answer status.NoMemory old new = Keeps old new
KeepsTo answer status.WriteFault old new = IsWritten answer.status × TookFront old new answer.text
KeepsTo answer given old new = Gave answer given old new

-- the status that was expected, unless memory ran out
abbrev pub IsExpected : Answer → Status → Type 0
IsExpected answer given = (given ≡ answer.status) ⊎ (given ≡ status.NoMemory)

-- ---- what writing did

-- An answer that was expected was to be written, the status was given, and the sink went from one value to
-- the other. A sink tells what it took, and a count of faults.
pub record Wrote {K : Type 0} (taken : K → Option (List ℕ)) (faults : K → ℕ) (answer : Answer) (given : Status) (sink sink_after : K) : Type 0 where
  pub kept : KeepsTo answer given (taken sink) (taken sink_after)
  pub silent : IsSilent given → sink_after ≡ sink
  pub write_fault : given ≡ status.WriteFault → Rose (faults sink) (faults sink_after)
  pub complete : ¬ Rose (faults sink) (faults sink_after) → IsExpected answer given
  pub kept_faults : faults sink ≤ faults sink_after

-- ---- what reading did

-- an answer without a text: a read failed, or memory ran out
abbrev pub IsStopped : Answer → Type 0
IsStopped answer = (answer.text ≡ []) × ((answer.status ≡ status.ReadFault) ⊎ (answer.status ≡ status.NoMemory))

-- more bytes than the limit are refused
abbrev pub RefusesLong : (List ℕ → Reading) → Type 0
RefusesLong reading = (bytes : List ℕ) → limit < length bytes → reading bytes ≡ Err too_long

-- logs are those of the bytes; a refusal is theirs too, unless a read failed or memory ran out
abbrev pub IsOf : Reading → Reading → Type 0
IsOf expected (Ok x) = expected ≡ Ok x
IsOf expected (Err answer) = (expected ≡ Err answer) ⊎ IsStopped answer

-- the source was read to its end
abbrev pub IsWhole : Reading → Type 0
IsWhole (Ok x) = Unit {0}
IsWhole (Err answer) = IsWritten answer.status

-- logs, or a refusal as a command gives one
abbrev pub IsGiven : Reading → Type 0
IsGiven (Ok x) = Unit {0}
IsGiven (Err answer) = IsRefusal answer.status × (IsSilent answer.status → answer.text ≡ [])

-- logs, or a refusal that has a text
abbrev pub IsTold : Reading → Type 0
IsTold (Ok x) = Unit {0}
IsTold (Err answer) = (answer.status ≡ status.Syntax) ⊎ (answer.status ≡ status.Unlawful)

-- a read failed
abbrev pub IsReadFault : Reading → Type 0
IsReadFault (Ok x) = ⊥
IsReadFault (Err answer) = answer.status ≡ status.ReadFault

-- Logs were to be read from bytes in some way, this was given, and the source went from one value to the other.
-- A source tells the bytes left, and a count of faults.
pub record Read {S : Type 0} (left : S → Option (List ℕ)) (faults : S → ℕ) (reading : List ℕ → Reading) (given : Reading) (source source_after : S) : Type 0 where
  pub logs : IfSome (left source) (λ bytes. IsOf (reading bytes) given)
  pub refusal : IsGiven given
  pub to_end : IsWhole given → IfSome (left source) (λ _. left source_after ≡ Some [])
  pub read_fault : IsReadFault given → Rose (faults source) (faults source_after)
  pub kept_faults : faults source ≤ faults source_after

-- ---- what a command did

-- A command ended with the status, its source went from one value to the other, and its sink too.
pub record Obeyed {S K : Type 0} (left : S → Option (List ℕ)) (read_faults : S → ℕ) (taken : K → Option (List ℕ)) (write_faults : K → ℕ)
    (command : Command) (given : Status) (source source_after : S) (sink sink_after : K) : Type 0 where
  pub kept : IfSome (bytes_for (reads command) (left source)) (λ bytes. KeepsTo (answer_of command bytes) given (taken sink) (taken sink_after))
  pub silent : IsSilent given → sink_after ≡ sink
  pub to_end : reads command ≡ true → IsWritten given → IfSome (left source) (λ _. left source_after ≡ Some [])
  pub nothing_read : reads command ≡ false → source_after ≡ source
  -- A failed read, or a failed write, comes only where one failed in this call. Where none did, the status is
  -- the expected one, or memory ran out.
  pub read_fault : given ≡ status.ReadFault → Rose (read_faults source) (read_faults source_after)
  pub write_fault : given ≡ status.WriteFault → Rose (write_faults sink) (write_faults sink_after)
  pub complete : (reads command ≡ true → ¬ Rose (read_faults source) (read_faults source_after)) → ¬ Rose (write_faults sink) (write_faults sink_after)
      → IfSome (bytes_for (reads command) (left source)) (λ bytes. IsExpected (answer_of command bytes) given)
  pub not_usage : given ≡ status.Usage → ⊥
  pub kept_read_faults : read_faults source ≤ read_faults source_after
  pub kept_write_faults : write_faults sink ≤ write_faults sink_after
