-- From what reading did, and what writing did, to what a command did.
use Rattle.std.proofs.Common.{◌≡◌, ◌∙◌, ℕ, ◌≤◌, true, false, List, [], Option, Some, None, Ok, Err, refl, sym, ap, subst, inl, inr, true≢false}
use Rattle.std.specs.Prelude.{◌⊎◌, IfSome}
use Rattle.rs_base.specs.Counts.{Rose}
use Rattle.rs_entry.specs.declared.input.Input.{Input}
use Rattle.raftreplay.specs.declared.status.Status.{Status}
use Rattle.raftreplay.specs.declared.status.Status.TheVariants as status
use Rattle.raftreplay.specs.declared.words.Command.{Command}
use Rattle.raftreplay.specs.Statuses.{IsWritten, IsSilent, IsRefusal, IsUnread}
use Rattle.raftreplay.specs.Words.{command_of}
use Rattle.raftreplay.specs.Expected.{Answer, Reading, answer_of, answered, bytes_for, command_answer, done, expected, is_read, reads, reads_any}
use Rattle.raftreplay.specs.Kept.{KeepsTo, IsExpected, IsStopped, Wrote, Read, Obeyed}

-- ---- commands that read nothing

pub unread_obeyed : {S K : Type 0} (left : S → Option (List ℕ)) (read_faults : S → ℕ) (taken : K → Option (List ℕ)) (write_faults : K → ℕ)
    (c : Command) (given : Status) (source : S) (sink sink_after : K)
    → reads c ≡ false → IsUnread given → Wrote taken write_faults (answer_of c []) given sink sink_after
    → read_faults source ≤ read_faults source
    → Obeyed left read_faults taken write_faults c given source source sink sink_after
unread_obeyed left read_faults taken write_faults c given source sink sink_after unread own wrote same = record {
  kept = rw unread wrote.kept;
  silent = wrote.silent;
  to_end = λ e. absurd (true≢false (sym e ∙ unread));
  nothing_read = λ _. refl;
  read_fault = λ e. absurd (subst IsUnread e own);
  write_fault = wrote.write_fault;
  complete = λ _ well. rw unread (wrote.complete well);
  not_usage = λ e. subst IsUnread e own;
  kept_read_faults = same;
  kept_write_faults = wrote.kept_faults;
}

-- ---- commands that read logs

-- what holds of each list holds of the one that is there
for_some : {P Q : List ℕ → Type 0} (option : Option (List ℕ)) → ((bytes : List ℕ) → P bytes → Q bytes) → IfSome option P → IfSome option Q
for_some None f p = tt
for_some (Some bytes) f p = f bytes p

-- of a failed read and want of memory every answer says the same
stopped_keeps : (one other : Answer) (given : Status) (old new : Option (List ℕ)) → (given ≡ status.ReadFault) ⊎ (given ≡ status.NoMemory)
    → KeepsTo one given old new → KeepsTo other given old new
stopped_keeps one other given old new (inl e) k = subst (λ g. KeepsTo other g old new) (sym e) (subst (λ g. KeepsTo one g old new) e k)
stopped_keeps one other given old new (inr e) k = subst (λ g. KeepsTo other g old new) (sym e) (subst (λ g. KeepsTo one g old new) e k)

module _ {S K : Type 0} (left : S → Option (List ℕ)) (read_faults : S → ℕ) (taken : K → Option (List ℕ)) (write_faults : K → ℕ)
    (c : Command) (reading : List ℕ → Reading) (text : Input → List ℕ) (is_row : (bytes : List ℕ) → answer_of c bytes ≡ answered text (reading bytes)) (is_read : reads c ≡ true)
    (given : Status) (source source_after : S) (sink sink_after : K) where
  -- logs were given, and their text was written
  pub given_obeyed : (x : Input) → Read left read_faults reading (Ok x) source source_after → IsUnread given
      → Wrote taken write_faults (done (text x)) given sink sink_after
      → Obeyed left read_faults taken write_faults c given source source_after sink sink_after
  given_obeyed x did own wrote =
      let answer : (bytes : List ℕ) → reading bytes ≡ Ok x → done (text x) ≡ answer_of c bytes = λ bytes e. sym (is_row bytes ∙ ap (answered text) e) in
      record {
        kept = rw is_read (for_some (left source) (λ bytes e. subst (λ a. KeepsTo a given (taken sink) (taken sink_after)) (answer bytes e) wrote.kept) did.logs);
        silent = wrote.silent;
        to_end = λ _ _. did.to_end tt;
        nothing_read = λ e. absurd (true≢false (sym is_read ∙ e));
        read_fault = λ e. absurd (subst IsUnread e own);
        write_fault = wrote.write_fault;
        complete = λ _ well. rw is_read (for_some (left source) (λ bytes e. subst (λ a. IsExpected a given) (answer bytes e) (wrote.complete well)) did.logs);
        not_usage = λ e. subst IsUnread e own;
        kept_read_faults = did.kept_faults;
        kept_write_faults = wrote.kept_faults;
      }

  -- an answer refused them, and was written
  pub refused_obeyed : (answer : Answer) → Read left read_faults reading (Err answer) source source_after
      → (given ≡ answer.status) ⊎ (given ≡ status.WriteFault) → (IsSilent answer.status → given ≡ answer.status)
      → Wrote taken write_faults answer given sink sink_after
      → Obeyed left read_faults taken write_faults c given source source_after sink sink_after
  refused_obeyed answer did own quiet wrote = record {
    kept = rw is_read (for_some (left source) keeps did.logs);
    silent = wrote.silent;
    to_end = λ _ whole. did.to_end (written own whole);
    nothing_read = λ e. absurd (true≢false (sym is_read ∙ e));
    read_fault = λ e. did.read_fault (fault own e);
    write_fault = wrote.write_fault;
    complete = λ well_read well_written. rw is_read (for_some (left source) (expected (well_read is_read) well_written) did.logs);
    not_usage = usage own;
    kept_read_faults = did.kept_faults;
    kept_write_faults = wrote.kept_faults;
  } where
    answers : (bytes : List ℕ) → reading bytes ≡ Err answer → answer ≡ answer_of c bytes
    answers bytes e = sym (is_row bytes ∙ ap (answered text) e)

    -- a refusal without a text is given as it is
    stays : (answer.status ≡ status.ReadFault) ⊎ (answer.status ≡ status.NoMemory) → (given ≡ status.ReadFault) ⊎ (given ≡ status.NoMemory)
    stays (inl e) = inl (quiet (subst IsSilent (sym e) tt) ∙ e)
    stays (inr e) = inr (quiet (subst IsSilent (sym e) tt) ∙ e)

    keeps : (bytes : List ℕ) → (reading bytes ≡ Err answer) ⊎ IsStopped answer → KeepsTo (answer_of c bytes) given (taken sink) (taken sink_after)
    keeps bytes (inl e) = subst (λ a. KeepsTo a given (taken sink) (taken sink_after)) (answers bytes e) wrote.kept
    keeps bytes (inr stopped) = stopped_keeps answer (answer_of c bytes) given (taken sink) (taken sink_after) (stays stopped.1) wrote.kept

    written : (given ≡ answer.status) ⊎ (given ≡ status.WriteFault) → IsWritten given → IsWritten answer.status
    written (inl e) whole = subst IsWritten e whole
    written (inr e) whole = absurd (subst IsWritten e whole)

    fault : (given ≡ answer.status) ⊎ (given ≡ status.WriteFault) → given ≡ status.ReadFault → answer.status ≡ status.ReadFault
    fault (inl e) f = sym e ∙ f
    fault (inr e) f = absurd (subst IsUnread (sym e ∙ f) tt)

    usage : (given ≡ answer.status) ⊎ (given ≡ status.WriteFault) → given ≡ status.Usage → ⊥
    usage (inl e) u = subst IsRefusal (sym e ∙ u) did.refusal.0
    usage (inr e) u = subst IsUnread (sym e ∙ u) tt

    unless : (bytes : List ℕ) → ¬ Rose (read_faults source) (read_faults source_after) → (answer.status ≡ status.ReadFault) ⊎ (answer.status ≡ status.NoMemory)
        → IsExpected (answer_of c bytes) given
    unless bytes well (inl e) = absurd (well (did.read_fault e))
    unless bytes well (inr e) = inr (quiet (subst IsSilent (sym e) tt) ∙ e)

    expected : ¬ Rose (read_faults source) (read_faults source_after) → ¬ Rose (write_faults sink) (write_faults sink_after)
        → (bytes : List ℕ) → (reading bytes ≡ Err answer) ⊎ IsStopped answer → IsExpected (answer_of c bytes) given
    expected well_read well_written bytes (inl e) = subst (λ a. IsExpected a given) (answers bytes e) (wrote.complete well_written)
    expected well_read well_written bytes (inr stopped) = unless bytes well_read stopped.1

-- what holds of the command that the words are holds of the words
pub kept_by_words : (words : List (List ℕ)) (command : Command) (found : Option Command) (left : Option (List ℕ)) (given : Status) (old new : Option (List ℕ))
    → found ≡ Some command → found ≡ command_of words
    → IfSome (bytes_for (reads command) left) (λ bytes. KeepsTo (answer_of command bytes) given old new)
    → IfSome (bytes_for (is_read words) left) (λ bytes. KeepsTo (expected words bytes) given old new)
kept_by_words words command found left given old new is told kept =
    subst (λ (it : Option Command). IfSome (bytes_for (reads_any it) left) (λ bytes. KeepsTo (command_answer it bytes) given old new)) (sym is ∙ told) kept
