-- What an answer unfolds to compute readers and writers of fields on a literal.
use Rattle.std.specs.Prelude.{⊤}
use Rattle.std.specs.Fmt.{digits}
use Rattle.hex.specs.Hex.{decode_pairs, encode_with}
use Rattle.rs_field.specs.Lines.{parts_of, fields_of}
use Rattle.rs_field.specs.Fields.{decimal_of, number_of, number_at, id_of, id_at, hex_of, key_at, value_at, bound_at}

unfoldable pub fields_on_literals : ⊤
unfolding digits decode_pairs encode_with parts_of fields_of decimal_of number_of number_at id_of id_at hex_of key_at value_at bound_at
fields_on_literals = tt
