-- What reading gives: of inputs that are too long, and of those that were read whole.
use Rattle.std.proofs.Common.{◌≡◌, ◌∙◌, ℕ, ◌<◌, ◌≤◌, List, [], length, Option, Some, None, Ok, Err, refl, sym, ap, subst, inl, inr}
use Rattle.std.specs.Prelude.{IfSome}
use Rattle.std.proofs.lemmas.Bool.{lt-ltb}
use Rattle.raftreplay.specs.Statuses.{IsWritten, IsSilent, IsRefusal}
use Rattle.raftreplay.specs.Expected.{Reading, text_reading, reading_of, binary_reading, limit, lawful, too_long}
use Rattle.raftreplay.specs.Kept.{IsOf, IsGiven, IsTold, IsReadFault, Read, RefusesLong}

pub long_text : RefusesLong text_reading
unfolding text_reading
long_text = λ bytes long. rw (lt-ltb limit (length bytes) long) refl

pub long_logs : RefusesLong reading_of
unfolding reading_of
long_logs = λ bytes long. ap lawful (long_text bytes long)

pub long_binary : RefusesLong binary_reading
unfolding binary_reading
long_binary = λ bytes long. rw (lt-ltb limit (length bytes) long) refl

pub long_refused : (reading : List ℕ → Reading) → RefusesLong reading → (left : Option (List ℕ)) → IfSome left (λ bytes. limit < length bytes)
    → IfSome left (λ bytes. IsOf (reading bytes) (Err too_long))
long_refused reading refuses None long = tt
long_refused reading refuses (Some bytes) long = inl (refuses bytes long)

-- ---- what was read whole

of_whole : (reading : List ℕ → Reading) (left : Option (List ℕ)) (items : List ℕ) (given : Reading) → IfSome left (λ bytes. items ≡ bytes) → reading items ≡ given
    → IfSome left (λ bytes. IsOf (reading bytes) given)
of_whole reading None items given all is = tt
of_whole reading (Some bytes) items (Ok x) all is = ap reading (sym all) ∙ is
of_whole reading (Some bytes) items (Err answer) all is = inl (ap reading (sym all) ∙ is)

told_given : (given : Reading) → IsTold given → IsGiven given
told_given (Ok x) told = tt
told_given (Err answer) (inl e) = (subst IsRefusal (sym e) tt, λ silent. absurd (subst IsSilent e silent))
told_given (Err answer) (inr e) = (subst IsRefusal (sym e) tt, λ silent. absurd (subst IsSilent e silent))

told_no_fault : (given : Reading) → IsTold given → IsReadFault given → ⊥
told_no_fault (Ok x) told fault = fault
told_no_fault (Err answer) (inl e) fault = subst IsWritten (sym e ∙ fault) tt
told_no_fault (Err answer) (inr e) fault = subst IsWritten (sym e ∙ fault) tt

pub whole_read : {S : Type 0} (left : S → Option (List ℕ)) (faults : S → ℕ) (reading : List ℕ → Reading) (items : List ℕ) (given : Reading) (source source_after : S)
    → IfSome (left source) (λ bytes. items ≡ bytes) → reading items ≡ given → IsTold given
    → IfSome (left source) (λ _. left source_after ≡ Some []) → faults source ≤ faults source_after
    → Read left faults reading given source source_after
whole_read left faults reading items given source source_after all is told none_left kept = record {
  logs = of_whole reading (left source) items given all is;
  refusal = told_given given told;
  to_end = λ _. none_left;
  read_fault = λ fault. absurd (told_no_fault given told fault);
  kept_faults = kept;
}
