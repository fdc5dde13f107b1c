-- The settings of a run, and the words that choose their numbers.
use Rattle.std.specs.Prelude.{ℕ, nat_le, ◌&&◌, List, [], ◌∷◌, codes, Option, Some, None, option_map, option_and_then, unwrap_or, Result, Ok, Err, if◌then◌else◌}
use Rattle.std.specs.Str.{bytes_eq}
use Rattle.rs_field.specs.Fields.{number_of}
use Rattle.rs_field.specs.declared.fault.TextKind.{TextKind}
use Rattle.raftreplay.specs.declared.options.Setting.{Setting}
use Rattle.raftreplay.specs.declared.options.Setting.TheVariants as settings
use Rattle.raftreplay.specs.declared.options.Chosen.{Chosen}

-- ---- numbers

-- the number in decimal digits without sign and without leading zero, at most 9,223,372,036,854,775,807
abbrev pub number_in : Result ℕ TextKind → Option ℕ
number_in (Ok n) = Some n
number_in (Err kind) = None

-- the number that a word spells in decimal, if it is one
abbrev pub number_word : List ℕ → Option ℕ
number_word word = number_in (number_of word)

-- the number, if it is from 1 to the greatest one
abbrev pub up_to : ℕ → ℕ → Option ℕ
up_to most n = if nat_le 1 n && nat_le n most then Some n else None

-- ---- one setting

-- the setting that a word names
abbrev pub setting_of : List ℕ → Option Setting
setting_of word =
    if bytes_eq word (codes "--raft-pollers") then Some settings.RaftPollers
    else if bytes_eq word (codes "--apply-pollers") then Some settings.ApplyPollers
    else if bytes_eq word (codes "--batch") then Some settings.Batch
    else if bytes_eq word (codes "--chunk") then Some settings.Chunk
    else None

-- the greatest number of each setting; the least one is 1
abbrev pub greatest : Setting → ℕ
greatest settings.RaftPollers = 16
greatest settings.ApplyPollers = 16
greatest settings.Batch = 256
greatest settings.Chunk = 65536

-- the number that a word gives a setting
abbrev pub number_for : Setting → List ℕ → Option ℕ
number_for setting word = option_and_then (up_to (greatest setting)) (number_word word)

-- ---- all settings

-- no number is chosen for any setting
abbrev pub unchosen : Chosen
unchosen = record { raft_pollers = None; apply_pollers = None; batch = None; chunk = None }

-- a number is chosen at most once
abbrev pub once : Option ℕ → Chosen → Option Chosen
once None chosen = Some chosen
once (Some before) chosen = None

-- the choice with the number of one more setting
abbrev pub choose : Chosen → Setting → ℕ → Option Chosen
choose chosen settings.RaftPollers n = once chosen.raft_pollers (record chosen { raft_pollers = Some n })
choose chosen settings.ApplyPollers n = once chosen.apply_pollers (record chosen { apply_pollers = Some n })
choose chosen settings.Batch n = once chosen.batch (record chosen { batch = Some n })
choose chosen settings.Chunk n = once chosen.chunk (record chosen { chunk = Some n })

-- the choice with that of two words: the name of a setting and its number
abbrev pub chosen_with : Chosen → List ℕ → List ℕ → Option Chosen
chosen_with chosen name number = option_and_then (λ setting. option_and_then (choose chosen setting) (number_for setting number)) (setting_of name)

-- the choice with that of all words: settings in any order, each at most once, its number as the next word
abbrev pub chosen_by : Chosen → List (List ℕ) → Option Chosen
chosen_by chosen [] = Some chosen
chosen_by chosen (name ∷ []) = None
chosen_by chosen (name ∷ number ∷ words) = option_and_then (λ more. chosen_by more words) (chosen_with chosen name number)

-- the four numbers, each as chosen or by default: raft pollers, apply pollers, batch and chunk
abbrev pub numbers_of : Chosen → ℕ × ℕ × ℕ × ℕ
numbers_of chosen = (unwrap_or chosen.raft_pollers 2, unwrap_or chosen.apply_pollers 2, unwrap_or chosen.batch 64, unwrap_or chosen.chunk 1024)

-- the options that words give
abbrev pub options_of : List (List ℕ) → Option (ℕ × ℕ × ℕ × ℕ)
options_of words = option_map numbers_of (chosen_by unchosen words)
