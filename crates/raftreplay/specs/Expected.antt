-- The status and the text that each command is to give on each input.
use Rattle.std.specs.Prelude.{ℕ, zero, suc, ◌+◌, ◌-◌, nat_lt, Bool, true, false, if◌then◌else◌, List, [], ◌∷◌, length, sum_by, Option, Some, None, Result, Ok, Err}
use Rattle.rs_field.specs.Forms.{word, number, line_text}
use Rattle.rs_entry.specs.declared.input.Input.{Input}
use Rattle.rs_text.specs.Reading.{Fault, read_text}
use Rattle.rs_entry.specs.declared.outcome.Outcome.{Outcome}
use Rattle.rs_entry.specs.declared.outcome.StoreOutcome.{StoreOutcome}
use Rattle.rs_entry.specs.declared.law_fault.LawFault.{LawFault}
use Rattle.rs_text.specs.FaultTexts.{syntax_text, fault_text}
use Rattle.rs_check.specs.Laws.{check}
use Rattle.rs_check.specs.Plans.{rows_of, stop_of}
use Rattle.rs_text.specs.Logs.{text_of}
use Rattle.rs_bin.specs.Forms.{form_of}
use Rattle.rs_bin.specs.Reading.{read_form}
use Rattle.rs_text.specs.Outcomes.{outcome_text, history_text}
use Rattle.rs_history.specs.Outcomes.{outcome_of}
use Rattle.rs_gen.specs.Inputs.{made_of}
use Rattle.raftreplay.specs.Words.{command_of}
use Rattle.raftreplay.specs.declared.status.Status.{Status}
use Rattle.raftreplay.specs.declared.status.Status.TheVariants as status
use Rattle.raftreplay.specs.declared.words.Command.{Command}
use Rattle.raftreplay.specs.declared.words.Command.TheVariants as commands

-- a status, and what is written with it
pub record Answer : Type 0 where
  pub status : Status
  pub text : List ℕ

-- the greatest length of an input: 64 MiB
abbrev pub limit : ℕ
limit = 67108864

-- ---- how much lawful logs are

-- how many entries the first addresses apply: each applies those from 6 to its stop index
abbrev pub applied_below : Input → ℕ → ℕ
applied_below x zero = 0
applied_below x (suc address) = applied_below x address + (stop_of x address - 5)

-- how many entries all addresses apply
abbrev pub applied_entries : Input → ℕ
applied_entries x = applied_below x (length (rows_of x))

-- `lawful STORES ADDRESSES ENTRIES`
abbrev pub lawful_text : Input → List ℕ
lawful_text x = line_text (word "lawful" ∷ number (length x.stores) ∷ number (length (rows_of x)) ∷ number (applied_entries x) ∷ [])

-- ---- how much an outcome tells of

-- how many regions, over all stores
abbrev pub region_count : Outcome → ℕ
region_count outcome = sum_by (λ s. length s.regions) outcome.stores

-- how many entries the regions of a store applied, the first of which has the index 6
abbrev pub store_entries : StoreOutcome → ℕ
store_entries store = sum_by (λ r. r.applied - 5) store.regions

-- how many entries all stores applied
abbrev pub entry_count : Outcome → ℕ
entry_count outcome = sum_by store_entries outcome.stores

-- how many single writes a store accepted: each is an item of one history
abbrev pub store_writes : StoreOutcome → ℕ
store_writes store = sum_by (λ h. length h.items) store.histories

-- how many writes all stores applied
abbrev pub write_count : Outcome → ℕ
write_count outcome = sum_by store_writes outcome.stores

-- `selftest N equal STORES ADDRESSES ENTRIES WRITES`
abbrev pub counts_text : ℕ → Outcome → List ℕ
counts_text n outcome = line_text (word "selftest" ∷ number n ∷ word "equal" ∷ number (length outcome.stores) ∷ number (region_count outcome) ∷ number (entry_count outcome) ∷ number (write_count outcome) ∷ [])

-- ---- on the bytes that a command reads

-- logs, or the answer that refuses them
abbrev pub Reading : Type 0
Reading = Result Input Answer

-- the answer to more bytes than the limit: nothing is written
abbrev pub too_long : Answer
too_long = record { status = status.TooLong; text = [] }

-- the logs of a text, or the answer to its first fault
abbrev pub of_text : Result Input Fault → Reading
of_text (Ok x) = Ok x
of_text (Err fault) = Err (record { status = status.Syntax; text = syntax_text fault.0 fault.1 })

-- the logs of bytes that are read as a log text, or the answer that refuses them
unfoldable pub text_reading : List ℕ → Reading
text_reading bytes = if nat_lt limit (length bytes) then Err too_long else of_text (read_text bytes)

-- the logs if their check found no fault, or the answer to its first fault
abbrev pub checked : Input → Option LawFault → Reading
checked x (Some fault) = Err (record { status = status.Unlawful; text = fault_text fault })
checked x None = Ok x

-- the logs that were read if they are lawful, or the answer that refuses them
abbrev pub lawful : Reading → Reading
lawful (Ok x) = checked x (check x)
lawful (Err refusal) = Err refusal

-- the lawful logs of bytes that are read as a log text, or the answer that refuses them
unfoldable pub reading_of : List ℕ → Reading
reading_of bytes = lawful (text_reading bytes)

-- `binary OFFSET`
abbrev pub offset_text : ℕ → List ℕ
offset_text offset = line_text (word "binary" ∷ number offset ∷ [])

-- the logs of a binary file, or the answer with the offset of its first fault
abbrev pub of_binary : Result Input ℕ → Reading
of_binary (Ok x) = Ok x
of_binary (Err offset) = Err (record { status = status.Syntax; text = offset_text offset })

-- the logs of bytes that are read as a binary file, or the answer that refuses them
unfoldable pub binary_reading : List ℕ → Reading
binary_reading bytes = if nat_lt limit (length bytes) then Err too_long else of_binary (read_form bytes)

-- ---- answers

-- the answer of a command that succeeded, with this text
abbrev pub done : List ℕ → Answer
done text = record { status = status.Done; text = text }

-- the text for the logs, or the answer that refuses them
abbrev pub answered : (Input → List ℕ) → Reading → Answer
answered text (Ok x) = done (text x)
answered text (Err refusal) = refusal

-- the answer to a log file: the text made of its input, or the fault of its bytes
abbrev pub on_logs : (Input → List ℕ) → List ℕ → Answer
on_logs text bytes = answered text (reading_of bytes)

-- A row for each command: its answer on bytes. The options of a run don't occur in its text.
abbrev pub answer_of : Command → List ℕ → Answer
answer_of commands.Check bytes = on_logs lawful_text bytes
answer_of commands.Fold bytes = on_logs (λ x. outcome_text (outcome_of x)) bytes
answer_of (commands.History key) bytes = on_logs (λ x. history_text (outcome_of x) key) bytes
answer_of (commands.Run options) bytes = on_logs (λ x. outcome_text (outcome_of x)) bytes
answer_of (commands.Gen n) bytes = done (text_of (made_of n))
answer_of (commands.SelfTest n options) bytes = done (counts_text n (outcome_of (made_of n)))
answer_of commands.Pack bytes = answered form_of (text_reading bytes)
answer_of commands.Unpack bytes = answered text_of (binary_reading bytes)

-- ---- on words and bytes

-- the answer of a command; words that are no command are answered by the usage
abbrev pub command_answer : Option Command → List ℕ → Answer
command_answer None bytes = record { status = status.Usage; text = [] }
command_answer (Some c) bytes = answer_of c bytes

-- the answer that is expected on these words and these bytes
abbrev pub expected : List (List ℕ) → List ℕ → Answer
expected words bytes = command_answer (command_of words) bytes

-- ---- which words read

-- whether a command reads its source
abbrev pub reads : Command → Bool
reads commands.Check = true
reads commands.Fold = true
reads (commands.History key) = true
reads (commands.Run options) = true
reads (commands.Gen n) = false
reads (commands.SelfTest n options) = false
reads commands.Pack = true
reads commands.Unpack = true

-- words that are no command read nothing
abbrev pub reads_any : Option Command → Bool
reads_any None = false
reads_any (Some c) = reads c

-- whether the words have their source read
abbrev pub is_read : List (List ℕ) → Bool
is_read words = reads_any (command_of words)

-- The bytes that the answer is about, where they are told: those left in the source. An answer for which
-- nothing is read is the same on all bytes, so no bytes will do.
abbrev pub bytes_for : Bool → Option (List ℕ) → Option (List ℕ)
bytes_for true left = left
bytes_for false left = Some []
