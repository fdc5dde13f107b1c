-- The bytes that are held, in place or on the heap.
use Rattle.std.specs.Prelude.{ℕ, List}
use Rattle.rs_key.specs.declared.bytes.Form.{Form}
use Rattle.rs_key.specs.declared.bytes.Form.TheVariants as form

-- the bytes that either form holds
abbrev pub bytes_of : Form → List ℕ
bytes_of (form.Short short) = short
bytes_of (form.Long heap) = heap.value.items
