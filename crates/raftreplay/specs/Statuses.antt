-- The numbers of statuses, and with which of them a text is written.
use Rattle.std.specs.Prelude.{ℕ}
use Rattle.raftreplay.specs.declared.status.Status.{Status}
use Rattle.raftreplay.specs.declared.status.Status.TheVariants as status

-- what the program ends with
abbrev pub number_of : Status → ℕ
number_of status.Done = 0
number_of status.Usage = 1
number_of status.Syntax = 2
number_of status.Unlawful = 3
number_of status.ReadFault = 4
number_of status.WriteFault = 5
number_of status.NoMemory = 6
number_of status.TooLong = 7

-- a status whose text is written whole
abbrev pub IsWritten : Status → Type 0
IsWritten status.Done = Unit {0}
IsWritten status.Syntax = Unit {0}
IsWritten status.Unlawful = Unit {0}
IsWritten _ = ⊥

-- a status with which nothing is written
abbrev pub IsSilent : Status → Type 0
IsSilent status.Usage = Unit {0}
IsSilent status.ReadFault = Unit {0}
IsSilent status.NoMemory = Unit {0}
IsSilent status.TooLong = Unit {0}
IsSilent _ = ⊥

-- a status by which logs are refused
abbrev pub IsRefusal : Status → Type 0
IsRefusal status.Syntax = Unit {0}
IsRefusal status.Unlawful = Unit {0}
IsRefusal status.ReadFault = Unit {0}
IsRefusal status.NoMemory = Unit {0}
IsRefusal status.TooLong = Unit {0}
IsRefusal _ = ⊥

-- a status of a command that reads nothing
abbrev pub IsUnread : Status → Type 0
IsUnread status.Done = Unit {0}
IsUnread status.WriteFault = Unit {0}
IsUnread status.NoMemory = Unit {0}
IsUnread _ = ⊥
