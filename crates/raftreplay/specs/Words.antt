-- Which words are a command.
use Rattle.std.specs.Prelude.{ℕ, List, [], ◌∷◌, codes, Option, Some, None, option_map, option_and_then, Result, Ok, Err, if◌then◌else◌, map}
use Rattle.std.specs.declared.string.String.{String}
use Rattle.std.specs.Global.{Global}
use Rattle.std.specs.Str.{bytes_eq}
use Rattle.std.specs.String.{string_bytes}
use Rattle.rs_field.specs.declared.fault.TextKind.{TextKind}
use Rattle.rs_field.specs.Fields.{hex_of}
use Rattle.raftreplay.specs.declared.words.Command.{Command}
use Rattle.raftreplay.specs.declared.words.Command.TheVariants as commands
use Rattle.raftreplay.specs.Settings.{number_word, options_of}

-- the bytes of each word
abbrev pub bytes_of : List (String Global) → List (List ℕ)
bytes_of words = map string_bytes words

-- the value, if there is one
abbrev pub value_in : Result (List ℕ) TextKind → Option (List ℕ)
value_in (Ok key) = Some key
value_in (Err kind) = None

-- the key in 2 to 512 hexadecimal digits of either case, an even number of them
abbrev pub key_word : List ℕ → Option (List ℕ)
key_word word = value_in (hex_of 256 word)

-- ---- the words behind a command's name

-- no further word
abbrev pub alone : Command → List (List ℕ) → Option Command
alone command [] = Some command
alone command _ = None

-- `KEY`
abbrev pub with_key : List (List ℕ) → Option Command
with_key (key ∷ []) = option_map commands.History (key_word key)
with_key _ = None

-- options
abbrev pub with_options : List (List ℕ) → Option Command
with_options words = option_map commands.Run (options_of words)

-- `N`
abbrev pub with_number : List (List ℕ) → Option Command
with_number (number ∷ []) = option_map commands.Gen (number_word number)
with_number _ = None

-- `N` and options
abbrev pub with_number_and_options : List (List ℕ) → Option Command
with_number_and_options [] = None
with_number_and_options (number ∷ words) = option_and_then (λ n. option_map (commands.SelfTest n) (options_of words)) (number_word number)

-- ---- commands

-- a row for each name
abbrev pub command_named : List ℕ → List (List ℕ) → Option Command
command_named name words =
    if bytes_eq name (codes "check") then alone commands.Check words
    else if bytes_eq name (codes "fold") then alone commands.Fold words
    else if bytes_eq name (codes "history") then with_key words
    else if bytes_eq name (codes "run") then with_options words
    else if bytes_eq name (codes "gen") then with_number words
    else if bytes_eq name (codes "selftest") then with_number_and_options words
    else if bytes_eq name (codes "pack") then alone commands.Pack words
    else if bytes_eq name (codes "unpack") then alone commands.Unpack words
    else None

-- the command that the words are, if they are any
abbrev pub command_of : List (List ℕ) → Option Command
command_of [] = None
command_of (name ∷ words) = command_named name words
