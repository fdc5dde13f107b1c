-- What writing does to a buffer.
use Rattle.std.specs.Prelude.{◌≡◌, ℕ, List, ◌++◌, Result, OnOk}
use Rattle.std.specs.declared.vec.Vec.{Vec}
use Rattle.rs_rows.specs.declared.no_memory.NoMemory.{NoMemory}

-- the bytes were put at the end, unless memory ran out
abbrev pub Appends : {A : Type 0} → Result Unit NoMemory → Vec ℕ A → Vec ℕ A → List ℕ → Type 0
Appends result old new bytes = OnOk result (new.items ≡ old.items ++ bytes)
