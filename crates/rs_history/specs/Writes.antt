-- The order of accepted writes by their keys.
use Rattle.std.specs.Prelude.{ℕ, Bool, not, List}
use Rattle.rs_key.specs.Keys.{is_below as below}
use Rattle.rs_store.specs.Stores.{Wrote}

-- the first write's key is below the second's
abbrev pub key_below : Wrote → Wrote → Bool
key_below a b = below a.key b.key

-- the write's key is below this one
abbrev pub is_below : List ℕ → Wrote → Bool
is_below key w = below w.key key

-- it isn't
abbrev pub isnt_below : List ℕ → Wrote → Bool
isnt_below key w = not (below w.key key)
