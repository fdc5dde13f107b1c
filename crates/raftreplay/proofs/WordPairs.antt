-- What two words choose, and those behind them.
use Rattle.std.proofs.Common.{◌≡◌, ◌∙◌, ◌≤◌, ◌-◌, List, [], ◌∷◌, length, take, drop, Some, sym, ap, arith, slice_index_or}
use Rattle.std.specs.Prelude.{option_and_then}
use Rattle.std.proofs.lemmas.List.{take_rest}
use Rattle.std.specs.declared.string.String.{String}
use Rattle.std.specs.Global.{Global}
use Rattle.std.specs.String.{string_bytes}
use Rattle.raftreplay.specs.declared.options.Chosen.{Chosen}
use Rattle.raftreplay.specs.Settings.{chosen_by, chosen_with}
use Rattle.raftreplay.specs.Words.{bytes_of}

pub two_words : (chosen more : Chosen) (words : List (String Global)) (name number : String Global) → 2 ≤ length words
    → name ≡ slice_index_or words 0 name → number ≡ slice_index_or words 1 number
    → chosen_with chosen (string_bytes name) (string_bytes number) ≡ Some more
    → chosen_by chosen (bytes_of words) ≡ chosen_by more (bytes_of (take (length words - 2) (drop 2 words)))
two_words chosen more [] name number h a b e = absurd (omega (arith, h))
two_words chosen more (x ∷ []) name number h a b e = absurd (omega (arith, h))
two_words chosen more (x ∷ y ∷ rest) name number h a b e =
    let first : string_bytes name ≡ string_bytes x = ap string_bytes a in
    let second : string_bytes number ≡ string_bytes y = ap string_bytes b in
    let chosen_first : chosen_with chosen (string_bytes x) (string_bytes y) ≡ Some more =
    sym (ap (λ w. chosen_with chosen w (string_bytes number)) first ∙ ap (chosen_with chosen (string_bytes x)) second) ∙ e in
    ap (option_and_then (λ m. chosen_by m (bytes_of rest))) chosen_first
    ∙ sym (ap (λ ws. chosen_by more (bytes_of ws)) (take_rest (x ∷ y ∷ rest) 2))
