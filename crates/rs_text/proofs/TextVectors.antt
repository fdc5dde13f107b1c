-- Texts that are read, and written again as their canonical text.
use Rattle.std.proofs.Common.{◌≡◌, ℕ, List, ◌++◌, codes, Result, Ok, Err, refl}
use Rattle.rs_entry.specs.declared.input.Input.{Input}
use Rattle.rs_text.specs.Logs.{text_of}
use Rattle.rs_text.specs.Reading.{Fault, read_text}
use Rattle.rs_text.proofs.LongTexts.{times, numbered}
use Rattle.rs_text.proofs.OnLiterals.{texts_on_literals}

abbrev written : Result Input Fault → Result (List ℕ) Fault
written (Ok x) = Ok (text_of x)
written (Err f) = Err f

abbrev no_stores_text : List ℕ
no_stores_text = codes "raftreplay 1\nend\n"

no_stores : written (read_text no_stores_text) ≡ Ok no_stores_text
unfolding texts_on_literals
no_stores = refl

abbrev no_stores_in_version_2_text : List ℕ
no_stores_in_version_2_text = codes "raftreplay 2\nend\n"

no_stores_in_version_2 : written (read_text no_stores_in_version_2_text) ≡ Ok no_stores_in_version_2_text
unfolding texts_on_literals
no_stores_in_version_2 = refl

abbrev a_store_alone_text : List ℕ
a_store_alone_text = codes "raftreplay 1\nstore 1\nend\n"

a_store_alone : written (read_text a_store_alone_text) ≡ Ok a_store_alone_text
unfolding texts_on_literals
a_store_alone = refl

abbrev an_empty_log_text : List ℕ
an_empty_log_text = codes "raftreplay 1\nstore 1\nlog 7\nend\n"

an_empty_log : written (read_text an_empty_log_text) ≡ Ok an_empty_log_text
unfolding texts_on_literals
an_empty_log = refl

abbrev a_split_and_a_merge_text : List ℕ
a_split_and_a_merge_text = codes "raftreplay 1\nstore 1\nregion 1 - -\nlog 1\n6 1 1 empty\n7 1 1 write put 6131 30 put 6d31 31\n8 1 1 write put 7a31 32\n9 1 1 split right 2 6d\n10 1 2 write put 6d32 33 del 7a31\n11 1 1 write put 6132 34\n12 1 2 commit 2 9 2\ncarry 8 1 2 write put 6133 38\ncarry 9 1 2 prepare 1\n13 1 4 write put 6133 39\nlog 2\n6 1 2 empty\n7 1 2 write put 6131 35 put 6132 36\n8 1 2 write put 6133 38\n9 1 2 prepare 1\nstore 2\nregion 1 - -\nlog 1\n6 1 1 empty\n7 1 1 write put 6131 30 put 6d31 31\n8 1 1 write put 7a31 32\n9 1 1 split right 2 6d\n10 1 2 write put 6d32 33 del 7a31\n11 1 1 write put 6132 34\n12 1 2 commit 2 9 2\ncarry 8 1 2 write put 6133 38\ncarry 9 1 2 prepare 1\n13 1 4 write put 6133 39\nlog 2\n6 1 2 empty\n7 1 2 write put 6131 35 put 6132 36\nend\n"

a_split_and_a_merge : written (read_text a_split_and_a_merge_text) ≡ Ok a_split_and_a_merge_text
unfolding texts_on_literals
a_split_and_a_merge = refl

abbrev a_generated_input_text : List ℕ
a_generated_input_text = codes "raftreplay 1\nstore 1\nregion 1 - -\nlog 1\n6 1 1 write put 5b b6 put 11 6c\n7 1 1 split right 2 01\n8 1 2 write put 8f e9\n9 1 2 commit 2 8 3\ncarry 6 1 2 write put 00 22 del 00\ncarry 7 1 2 write put 00 33\ncarry 8 1 2 prepare 1\nlog 2\n6 1 2 write put 00 22 del 00\n7 1 2 write put 00 33\n8 1 2 prepare 1\nstore 2\nregion 1 - -\nlog 1\n6 1 1 write put 5b b6 put 11 6c\n7 1 1 split right 2 01\n8 1 2 write put 8f e9\n9 1 2 commit 2 8 3\ncarry 6 1 2 write put 00 22 del 00\ncarry 7 1 2 write put 00 33\ncarry 8 1 2 prepare 1\nend\n"

a_generated_input : written (read_text a_generated_input_text) ≡ Ok a_generated_input_text
unfolding texts_on_literals
a_generated_input = refl

abbrev every_body_text : List ℕ
every_body_text = codes "raftreplay 2\nstore 3\nregion 2 - 6d 1 3\nregion 4 6d - 3\nlog 2\n6 0 0 empty\n7 9 0 write put 00ff - del 61 put 61 3132\n8 1 1 split right 5 61 6 62\n9 1 1 split left 7 63\n10 1 1 prepare 4\n11 1 1 commit 4 0 0\n12 1 1 commit 4 8 3\ncarry 6 1 1 empty\ncarry 7 1 1 write del 7a\ncarry 8 1 1 prepare 2\n13 1 1 rollback 0\n14 1 1 add 9\n15 1 1 remove 9\nlog 9\nstore 9\nend\n"

every_body : written (read_text every_body_text) ≡ Ok every_body_text
unfolding texts_on_literals
every_body = refl

spelled_otherwise : written (read_text (codes "  raftreplay   1 \n store  3\nregion 7   - 6D \n log 7\n  6 1 1  empty\n7 1 1 write  put aB cD  del Ef\nend  \n")) ≡ Ok (codes "raftreplay 1\nstore 3\nregion 7 - 6d\nlog 7\n6 1 1 empty\n7 1 1 write put ab cd del ef\nend\n")
unfolding texts_on_literals
spelled_otherwise = refl

abbrev greatest_numbers_text : List ℕ
greatest_numbers_text = codes "raftreplay 1\nstore 9223372036854775807\nregion 9223372036854775807 - -\nlog 9223372036854775807\n6 9223372036854775807 9223372036854775807 rollback 9223372036854775807\nend\n"

greatest_numbers : written (read_text greatest_numbers_text) ≡ Ok greatest_numbers_text
unfolding texts_on_literals
greatest_numbers = refl

abbrev longest_key_and_value_text : List ℕ
longest_key_and_value_text = codes "raftreplay 1\nstore 1\nregion 1 - -\nlog 1\n6 1 1 write put " ++ times 512 (codes "f") ++ codes " " ++ times 8192 (codes "0") ++ codes "\nend\n"

longest_key_and_value : written (read_text longest_key_and_value_text) ≡ Ok longest_key_and_value_text
unfolding texts_on_literals
longest_key_and_value = refl

abbrev most_stores_text : List ℕ
most_stores_text = codes "raftreplay 1\n" ++ numbered 64 1 (codes "store ") (codes "\n") ++ codes "end\n"

most_stores : written (read_text most_stores_text) ≡ Ok most_stores_text
unfolding texts_on_literals
most_stores = refl

abbrev most_peers_text : List ℕ
most_peers_text = codes "raftreplay 2\nstore 1\nregion 1 - -" ++ numbered 64 1 (codes " ") (codes "") ++ codes "\nend\n"

most_peers : written (read_text most_peers_text) ≡ Ok most_peers_text
unfolding texts_on_literals
most_peers = refl

abbrev most_operations_text : List ℕ
most_operations_text = codes "raftreplay 1\nstore 1\nlog 1\n6 1 1 write" ++ times 1024 (codes " del 61") ++ codes "\nend\n"

most_operations : written (read_text most_operations_text) ≡ Ok most_operations_text
unfolding texts_on_literals
most_operations = refl

abbrev most_pairs_text : List ℕ
most_pairs_text = codes "raftreplay 1\nstore 1\nlog 1\n6 1 1 split left" ++ times 64 (codes " 2 61") ++ codes "\nend\n"

most_pairs : written (read_text most_pairs_text) ≡ Ok most_pairs_text
unfolding texts_on_literals
most_pairs = refl
