-- The first fault of texts: each kind of fault at each kind of line, in the order in which faults are found.
use Rattle.std.proofs.Common.{◌≡◌, ℕ, zero, suc, ◌+◌, List, [], ◌++◌, codes, Err, refl}
use Rattle.std.specs.Fmt.{decimal}
use Rattle.rs_field.specs.declared.fault.TextKind.TheVariants.{BadHeader, BadLine, BadNumber, BadKey, BadIndex, BadCarry, Limit, NoEnd}
use Rattle.rs_text.specs.Reading.{read_text}
use Rattle.rs_text.proofs.LongTexts.{times, numbered}
use Rattle.rs_text.proofs.OnLiterals.{texts_on_literals}

-- between the first line and the last
abbrev in_1 : List ℕ → List ℕ
in_1 lines = codes "raftreplay 1\n" ++ lines ++ codes "end\n"

abbrev in_2 : List ℕ → List ℕ
in_2 lines = codes "raftreplay 2\n" ++ lines ++ codes "end\n"

-- 64 splits with 64 pairs each: as many as a file may have, in an open log
abbrev splits : ℕ → ℕ → List ℕ
splits zero index = []
splits (suc n) index = decimal index ++ codes " 1 1 split left" ++ times 64 (codes " 2 61") ++ codes "\n" ++ splits n (index + 1)

-- ---- line 1

no_bytes : read_text (codes "") ≡ Err (1, BadHeader)
unfolding texts_on_literals
no_bytes = refl

header_unended : read_text (codes "raftreplay 1") ≡ Err (1, BadHeader)
unfolding texts_on_literals
header_unended = refl

header_version_3 : read_text (codes "raftreplay 3\nend\n") ≡ Err (1, BadHeader)
unfolding texts_on_literals
header_version_3 = refl

header_version_01 : read_text (codes "raftreplay 01\nend\n") ≡ Err (1, BadHeader)
unfolding texts_on_literals
header_version_01 = refl

header_without_version : read_text (codes "raftreplay\nend\n") ≡ Err (1, BadHeader)
unfolding texts_on_literals
header_without_version = refl

header_surplus_field : read_text (codes "raftreplay 1 1\nend\n") ≡ Err (1, BadHeader)
unfolding texts_on_literals
header_surplus_field = refl

header_other_word : read_text (codes "Raftreplay 1\nend\n") ≡ Err (1, BadHeader)
unfolding texts_on_literals
header_other_word = refl

header_carriage_return : read_text (codes "raftreplay 1\r\nend\n") ≡ Err (1, BadHeader)
unfolding texts_on_literals
header_carriage_return = refl

header_empty : read_text (codes "\nraftreplay 1\nend\n") ≡ Err (1, BadHeader)
unfolding texts_on_literals
header_empty = refl

-- ---- any line

line_unended : read_text (codes "raftreplay 1\nstore 1\nregi") ≡ Err (3, BadLine)
unfolding texts_on_literals
line_unended = refl

line_unended_and_right : read_text (codes "raftreplay 1\nstore 1") ≡ Err (2, BadLine)
unfolding texts_on_literals
line_unended_and_right = refl

line_empty : read_text (in_1 (codes "store 1\n\n")) ≡ Err (3, BadLine)
unfolding texts_on_literals
line_empty = refl

line_of_spaces : read_text (in_1 (codes "store 1\n   \n")) ≡ Err (3, BadLine)
unfolding texts_on_literals
line_of_spaces = refl

word_unknown : read_text (in_1 (codes "store 1\nstores 2\n")) ≡ Err (3, BadLine)
unfolding texts_on_literals
word_unknown = refl

word_in_upper_case : read_text (in_1 (codes "store 1\nLOG 1\n")) ≡ Err (3, BadLine)
unfolding texts_on_literals
word_in_upper_case = refl

word_after_tab : read_text (in_1 (codes "store 1\n\tlog 1\n")) ≡ Err (3, BadLine)
unfolding texts_on_literals
word_after_tab = refl

minus_is_no_entry : read_text (in_1 (codes "store 1\nlog 1\n-6 1 1 empty\n")) ≡ Err (4, BadLine)
unfolding texts_on_literals
minus_is_no_entry = refl

first_bad_line_counts : read_text (in_1 (codes "store 1\nlog 0\nlog 0 0\n")) ≡ Err (3, BadNumber)
unfolding texts_on_literals
first_bad_line_counts = refl

-- ---- store ID

store_without_id : read_text (in_1 (codes "store\n")) ≡ Err (2, BadLine)
unfolding texts_on_literals
store_without_id = refl

store_surplus_field : read_text (in_1 (codes "store 1 2\n")) ≡ Err (2, BadLine)
unfolding texts_on_literals
store_surplus_field = refl

store_leading_zero : read_text (in_1 (codes "store 01\n")) ≡ Err (2, BadNumber)
unfolding texts_on_literals
store_leading_zero = refl

store_zero : read_text (in_1 (codes "store 0\n")) ≡ Err (2, BadNumber)
unfolding texts_on_literals
store_zero = refl

store_no_number : read_text (in_1 (codes "store x\n")) ≡ Err (2, BadNumber)
unfolding texts_on_literals
store_no_number = refl

store_signed : read_text (in_1 (codes "store +1\n")) ≡ Err (2, BadNumber)
unfolding texts_on_literals
store_signed = refl

store_carriage_return : read_text (in_1 (codes "store 1\r\n")) ≡ Err (2, BadNumber)
unfolding texts_on_literals
store_carriage_return = refl

store_too_large : read_text (in_1 (codes "store 9223372036854775808\n")) ≡ Err (2, BadNumber)
unfolding texts_on_literals
store_too_large = refl

store_far_too_large : read_text (in_1 (codes "store 18446744073709551617\n")) ≡ Err (2, BadNumber)
unfolding texts_on_literals
store_far_too_large = refl

store_again : read_text (in_1 (codes "store 1\nstore 1\n")) ≡ Err (3, BadLine)
unfolding texts_on_literals
store_again = refl

store_below : read_text (in_1 (codes "store 2\nlog 1\nstore 1\n")) ≡ Err (4, BadLine)
unfolding texts_on_literals
store_below = refl

store_65th : read_text (in_1 (numbered 65 1 (codes "store ") (codes "\n"))) ≡ Err (66, Limit)
unfolding texts_on_literals
store_65th = refl

store_65th_below : read_text (in_1 (numbered 64 1 (codes "store ") (codes "\n") ++ codes "store 1\n")) ≡ Err (66, Limit)
unfolding texts_on_literals
store_65th_below = refl

store_65th_no_number : read_text (in_1 (numbered 64 1 (codes "store ") (codes "\n") ++ codes "store x\n")) ≡ Err (66, BadNumber)
unfolding texts_on_literals
store_65th_no_number = refl

store_bad_id_before_surplus : read_text (in_1 (codes "store 1\nstore 1 x\n")) ≡ Err (3, BadLine)
unfolding texts_on_literals
store_bad_id_before_surplus = refl

-- ---- region ID START END, and PEER .. in version 2

region_before_store : read_text (in_1 (codes "region 1 - -\n")) ≡ Err (2, BadLine)
unfolding texts_on_literals
region_before_store = refl

region_after_log : read_text (in_1 (codes "store 1\nlog 1\nregion 1 - -\n")) ≡ Err (4, BadLine)
unfolding texts_on_literals
region_after_log = refl

region_without_id : read_text (in_1 (codes "store 1\nregion\n")) ≡ Err (3, BadLine)
unfolding texts_on_literals
region_without_id = refl

region_without_start : read_text (in_1 (codes "store 1\nregion 1\n")) ≡ Err (3, BadLine)
unfolding texts_on_literals
region_without_start = refl

region_without_end : read_text (in_1 (codes "store 1\nregion 1 -\n")) ≡ Err (3, BadLine)
unfolding texts_on_literals
region_without_end = refl

region_zero : read_text (in_1 (codes "store 1\nregion 0 - -\n")) ≡ Err (3, BadNumber)
unfolding texts_on_literals
region_zero = refl

region_again : read_text (in_1 (codes "store 1\nregion 1 - 61\nregion 1 61 -\n")) ≡ Err (4, BadLine)
unfolding texts_on_literals
region_again = refl

region_below : read_text (in_1 (codes "store 1\nregion 2 - 61\nregion 1 61 -\n")) ≡ Err (4, BadLine)
unfolding texts_on_literals
region_below = refl

region_odd_digits : read_text (in_1 (codes "store 1\nregion 1 6 -\n")) ≡ Err (3, BadKey)
unfolding texts_on_literals
region_odd_digits = refl

region_no_digit : read_text (in_1 (codes "store 1\nregion 1 6g -\n")) ≡ Err (3, BadKey)
unfolding texts_on_literals
region_no_digit = refl

region_end_no_digits : read_text (in_1 (codes "store 1\nregion 1 - x\n")) ≡ Err (3, BadKey)
unfolding texts_on_literals
region_end_no_digits = refl

region_end_below_start : read_text (in_1 (codes "store 1\nregion 1 6d 61\n")) ≡ Err (3, BadKey)
unfolding texts_on_literals
region_end_below_start = refl

region_end_is_start : read_text (in_1 (codes "store 1\nregion 1 6d 6D\n")) ≡ Err (3, BadKey)
unfolding texts_on_literals
region_end_is_start = refl

region_end_before_start : read_text (in_1 (codes "store 1\nregion 1 6d01 6d\n")) ≡ Err (3, BadKey)
unfolding texts_on_literals
region_end_before_start = refl

region_start_257_bytes : read_text (in_1 (codes "store 1\nregion 1 " ++ times 514 (codes "f") ++ codes " -\n")) ≡ Err (3, Limit)
unfolding texts_on_literals
region_start_257_bytes = refl

region_end_257_bytes : read_text (in_1 (codes "store 1\nregion 1 - " ++ times 514 (codes "f") ++ codes "\n")) ≡ Err (3, Limit)
unfolding texts_on_literals
region_end_257_bytes = refl

region_start_257_bytes_odd : read_text (in_1 (codes "store 1\nregion 1 " ++ times 515 (codes "f") ++ codes " -\n")) ≡ Err (3, BadKey)
unfolding texts_on_literals
region_start_257_bytes_odd = refl

region_surplus_field : read_text (in_1 (codes "store 1\nregion 1 - - 1\n")) ≡ Err (3, BadLine)
unfolding texts_on_literals
region_surplus_field = refl

region_range_before_surplus : read_text (in_1 (codes "store 1\nregion 1 61 61 1\n")) ≡ Err (3, BadKey)
unfolding texts_on_literals
region_range_before_surplus = refl

region_without_peers : read_text (in_2 (codes "store 1\nregion 1 - -\n")) ≡ Err (3, BadLine)
unfolding texts_on_literals
region_without_peers = refl

region_peer_zero : read_text (in_2 (codes "store 1\nregion 1 - - 0\n")) ≡ Err (3, BadNumber)
unfolding texts_on_literals
region_peer_zero = refl

region_peer_no_number : read_text (in_2 (codes "store 1\nregion 1 - - 1 x\n")) ≡ Err (3, BadNumber)
unfolding texts_on_literals
region_peer_no_number = refl

region_peer_again : read_text (in_2 (codes "store 1\nregion 1 - - 2 2\n")) ≡ Err (3, BadLine)
unfolding texts_on_literals
region_peer_again = refl

region_peer_below : read_text (in_2 (codes "store 1\nregion 1 - - 2 1\n")) ≡ Err (3, BadLine)
unfolding texts_on_literals
region_peer_below = refl

region_range_before_peers : read_text (in_2 (codes "store 1\nregion 1 61 61 0\n")) ≡ Err (3, BadKey)
unfolding texts_on_literals
region_range_before_peers = refl

region_65th_peer : read_text (in_2 (codes "store 1\nregion 1 - -" ++ numbered 65 1 (codes " ") (codes "") ++ codes "\n")) ≡ Err (3, Limit)
unfolding texts_on_literals
region_65th_peer = refl

region_65th_peer_below : read_text (in_2 (codes "store 1\nregion 1 - -" ++ numbered 64 1 (codes " ") (codes "") ++ codes " 1\n")) ≡ Err (3, Limit)
unfolding texts_on_literals
region_65th_peer_below = refl

region_65th_peer_no_number : read_text (in_2 (codes "store 1\nregion 1 - -" ++ numbered 64 1 (codes " ") (codes "") ++ codes " x\n")) ≡ Err (3, BadNumber)
unfolding texts_on_literals
region_65th_peer_no_number = refl

region_past_the_total : read_text (in_1 (codes "store 1\nlog 1\n" ++ splits 64 6 ++ codes "store 2\nregion 1 - -\n")) ≡ Err (69, Limit)
unfolding texts_on_literals
region_past_the_total = refl

region_past_the_total_zero : read_text (in_1 (codes "store 1\nlog 1\n" ++ splits 64 6 ++ codes "store 2\nregion 0 - -\n")) ≡ Err (69, BadNumber)
unfolding texts_on_literals
region_past_the_total_zero = refl

-- ---- log ID

log_before_store : read_text (in_1 (codes "log 1\n")) ≡ Err (2, BadLine)
unfolding texts_on_literals
log_before_store = refl

log_without_id : read_text (in_1 (codes "store 1\nlog\n")) ≡ Err (3, BadLine)
unfolding texts_on_literals
log_without_id = refl

log_surplus_field : read_text (in_1 (codes "store 1\nlog 1 2\n")) ≡ Err (3, BadLine)
unfolding texts_on_literals
log_surplus_field = refl

log_zero : read_text (in_1 (codes "store 1\nlog 0\n")) ≡ Err (3, BadNumber)
unfolding texts_on_literals
log_zero = refl

log_again : read_text (in_1 (codes "store 1\nlog 1\nlog 1\n")) ≡ Err (4, BadLine)
unfolding texts_on_literals
log_again = refl

log_below : read_text (in_1 (codes "store 1\nlog 2\nlog 1\n")) ≡ Err (4, BadLine)
unfolding texts_on_literals
log_below = refl

-- ---- INDEX CONF VERSION

entry_before_log : read_text (in_1 (codes "store 1\n6 1 1 empty\n")) ≡ Err (3, BadLine)
unfolding texts_on_literals
entry_before_log = refl

entry_in_next_store : read_text (in_1 (codes "store 1\nlog 1\nstore 2\n6 1 1 empty\n")) ≡ Err (5, BadLine)
unfolding texts_on_literals
entry_in_next_store = refl

entry_index_leading_zero : read_text (in_1 (codes "store 1\nlog 1\n06 1 1 empty\n")) ≡ Err (4, BadNumber)
unfolding texts_on_literals
entry_index_leading_zero = refl

entry_index_no_number : read_text (in_1 (codes "store 1\nlog 1\n6x 1 1 empty\n")) ≡ Err (4, BadNumber)
unfolding texts_on_literals
entry_index_no_number = refl

entry_index_too_large : read_text (in_1 (codes "store 1\nlog 1\n9223372036854775808 1 1 empty\n")) ≡ Err (4, BadNumber)
unfolding texts_on_literals
entry_index_too_large = refl

entry_first_is_5 : read_text (in_1 (codes "store 1\nlog 1\n5 1 1 empty\n")) ≡ Err (4, BadIndex)
unfolding texts_on_literals
entry_first_is_5 = refl

entry_first_is_7 : read_text (in_1 (codes "store 1\nlog 1\n7 1 1 empty\n")) ≡ Err (4, BadIndex)
unfolding texts_on_literals
entry_first_is_7 = refl

entry_again : read_text (in_1 (codes "store 1\nlog 1\n6 1 1 empty\n6 1 1 empty\n")) ≡ Err (5, BadIndex)
unfolding texts_on_literals
entry_again = refl

entry_skipped : read_text (in_1 (codes "store 1\nlog 1\n6 1 1 empty\n8 1 1 empty\n")) ≡ Err (5, BadIndex)
unfolding texts_on_literals
entry_skipped = refl

entry_goes_on_in_next_log : read_text (in_1 (codes "store 1\nlog 1\n6 1 1 empty\nlog 2\n7 1 1 empty\n")) ≡ Err (6, BadIndex)
unfolding texts_on_literals
entry_goes_on_in_next_log = refl

entry_index_before_the_rest : read_text (in_1 (codes "store 1\nlog 1\n7\n")) ≡ Err (4, BadIndex)
unfolding texts_on_literals
entry_index_before_the_rest = refl

entry_without_conf : read_text (in_1 (codes "store 1\nlog 1\n6\n")) ≡ Err (4, BadLine)
unfolding texts_on_literals
entry_without_conf = refl

entry_conf_no_number : read_text (in_1 (codes "store 1\nlog 1\n6 x 1 empty\n")) ≡ Err (4, BadNumber)
unfolding texts_on_literals
entry_conf_no_number = refl

entry_without_version : read_text (in_1 (codes "store 1\nlog 1\n6 1\n")) ≡ Err (4, BadLine)
unfolding texts_on_literals
entry_without_version = refl

entry_version_no_number : read_text (in_1 (codes "store 1\nlog 1\n6 1 01 empty\n")) ≡ Err (4, BadNumber)
unfolding texts_on_literals
entry_version_no_number = refl

entry_without_body : read_text (in_1 (codes "store 1\nlog 1\n6 1 1\n")) ≡ Err (4, BadLine)
unfolding texts_on_literals
entry_without_body = refl

entry_unknown_body : read_text (in_1 (codes "store 1\nlog 1\n6 1 1 merge 2\n")) ≡ Err (4, BadLine)
unfolding texts_on_literals
entry_unknown_body = refl

-- ---- empty

empty_surplus_field : read_text (in_1 (codes "store 1\nlog 1\n6 1 1 empty 1\n")) ≡ Err (4, BadLine)
unfolding texts_on_literals
empty_surplus_field = refl

-- ---- write OP ..

write_without_operation : read_text (in_1 (codes "store 1\nlog 1\n6 1 1 write\n")) ≡ Err (4, BadLine)
unfolding texts_on_literals
write_without_operation = refl

write_unknown_operation : read_text (in_1 (codes "store 1\nlog 1\n6 1 1 write get 61\n")) ≡ Err (4, BadLine)
unfolding texts_on_literals
write_unknown_operation = refl

write_surplus_field : read_text (in_1 (codes "store 1\nlog 1\n6 1 1 write put 61 31 32\n")) ≡ Err (4, BadLine)
unfolding texts_on_literals
write_surplus_field = refl

put_without_key : read_text (in_1 (codes "store 1\nlog 1\n6 1 1 write put\n")) ≡ Err (4, BadLine)
unfolding texts_on_literals
put_without_key = refl

put_without_value : read_text (in_1 (codes "store 1\nlog 1\n6 1 1 write put 61\n")) ≡ Err (4, BadLine)
unfolding texts_on_literals
put_without_value = refl

put_key_no_digits : read_text (in_1 (codes "store 1\nlog 1\n6 1 1 write put 6z 31\n")) ≡ Err (4, BadKey)
unfolding texts_on_literals
put_key_no_digits = refl

put_key_dash : read_text (in_1 (codes "store 1\nlog 1\n6 1 1 write put - 31\n")) ≡ Err (4, BadKey)
unfolding texts_on_literals
put_key_dash = refl

put_value_odd_digits : read_text (in_1 (codes "store 1\nlog 1\n6 1 1 write put 61 3\n")) ≡ Err (4, BadKey)
unfolding texts_on_literals
put_value_odd_digits = refl

put_key_257_bytes : read_text (in_1 (codes "store 1\nlog 1\n6 1 1 write put " ++ times 514 (codes "f") ++ codes " 31\n")) ≡ Err (4, Limit)
unfolding texts_on_literals
put_key_257_bytes = refl

put_value_4097_bytes : read_text (in_1 (codes "store 1\nlog 1\n6 1 1 write put 61 " ++ times 8194 (codes "0") ++ codes "\n")) ≡ Err (4, Limit)
unfolding texts_on_literals
put_value_4097_bytes = refl

put_value_4097_bytes_bad_digit : read_text (in_1 (codes "store 1\nlog 1\n6 1 1 write put 61 " ++ times 8193 (codes "0") ++ codes "x\n")) ≡ Err (4, BadKey)
unfolding texts_on_literals
put_value_4097_bytes_bad_digit = refl

del_without_key : read_text (in_1 (codes "store 1\nlog 1\n6 1 1 write put 61 31 del\n")) ≡ Err (4, BadLine)
unfolding texts_on_literals
del_without_key = refl

del_key_dash : read_text (in_1 (codes "store 1\nlog 1\n6 1 1 write del -\n")) ≡ Err (4, BadKey)
unfolding texts_on_literals
del_key_dash = refl

del_key_257_bytes : read_text (in_1 (codes "store 1\nlog 1\n6 1 1 write del " ++ times 514 (codes "f") ++ codes "\n")) ≡ Err (4, Limit)
unfolding texts_on_literals
del_key_257_bytes = refl

write_1025th_operation : read_text (in_1 (codes "store 1\nlog 1\n6 1 1 write" ++ times 1024 (codes " del 61") ++ codes " put\n")) ≡ Err (4, Limit)
unfolding texts_on_literals
write_1025th_operation = refl

write_1025th_unknown : read_text (in_1 (codes "store 1\nlog 1\n6 1 1 write" ++ times 1024 (codes " del 61") ++ codes " get\n")) ≡ Err (4, BadLine)
unfolding texts_on_literals
write_1025th_unknown = refl

-- ---- split SIDE ID KEY ..

split_without_side : read_text (in_1 (codes "store 1\nlog 1\n6 1 1 split\n")) ≡ Err (4, BadLine)
unfolding texts_on_literals
split_without_side = refl

split_unknown_side : read_text (in_1 (codes "store 1\nlog 1\n6 1 1 split up 2 61\n")) ≡ Err (4, BadLine)
unfolding texts_on_literals
split_unknown_side = refl

split_without_pair : read_text (in_1 (codes "store 1\nlog 1\n6 1 1 split right\n")) ≡ Err (4, BadLine)
unfolding texts_on_literals
split_without_pair = refl

split_without_key : read_text (in_1 (codes "store 1\nlog 1\n6 1 1 split right 2\n")) ≡ Err (4, BadLine)
unfolding texts_on_literals
split_without_key = refl

split_id_zero : read_text (in_1 (codes "store 1\nlog 1\n6 1 1 split left 0 61\n")) ≡ Err (4, BadNumber)
unfolding texts_on_literals
split_id_zero = refl

split_id_no_number : read_text (in_1 (codes "store 1\nlog 1\n6 1 1 split left 2 61 x\n")) ≡ Err (4, BadNumber)
unfolding texts_on_literals
split_id_no_number = refl

split_key_no_digits : read_text (in_1 (codes "store 1\nlog 1\n6 1 1 split left 2 x\n")) ≡ Err (4, BadKey)
unfolding texts_on_literals
split_key_no_digits = refl

split_key_dash : read_text (in_1 (codes "store 1\nlog 1\n6 1 1 split left 2 -\n")) ≡ Err (4, BadKey)
unfolding texts_on_literals
split_key_dash = refl

split_key_257_bytes : read_text (in_1 (codes "store 1\nlog 1\n6 1 1 split left 2 " ++ times 514 (codes "f") ++ codes "\n")) ≡ Err (4, Limit)
unfolding texts_on_literals
split_key_257_bytes = refl

split_65th_pair : read_text (in_1 (codes "store 1\nlog 1\n6 1 1 split left" ++ times 65 (codes " 2 61") ++ codes "\n")) ≡ Err (4, Limit)
unfolding texts_on_literals
split_65th_pair = refl

split_65th_pair_zero : read_text (in_1 (codes "store 1\nlog 1\n6 1 1 split left" ++ times 64 (codes " 2 61") ++ codes " 0\n")) ≡ Err (4, BadNumber)
unfolding texts_on_literals
split_65th_pair_zero = refl

split_65th_pair_without_key : read_text (in_1 (codes "store 1\nlog 1\n6 1 1 split left" ++ times 64 (codes " 2 61") ++ codes " 5\n")) ≡ Err (4, Limit)
unfolding texts_on_literals
split_65th_pair_without_key = refl

split_past_the_total : read_text (in_1 (codes "store 1\nlog 1\n" ++ splits 64 6 ++ codes "70 1 1 split left 2 61\n")) ≡ Err (68, Limit)
unfolding texts_on_literals
split_past_the_total = refl

-- ---- prepare TARGET

prepare_without_target : read_text (in_1 (codes "store 1\nlog 1\n6 1 1 prepare\n")) ≡ Err (4, BadLine)
unfolding texts_on_literals
prepare_without_target = refl

prepare_zero : read_text (in_1 (codes "store 1\nlog 1\n6 1 1 prepare 0\n")) ≡ Err (4, BadNumber)
unfolding texts_on_literals
prepare_zero = refl

prepare_surplus_field : read_text (in_1 (codes "store 1\nlog 1\n6 1 1 prepare 2 3\n")) ≡ Err (4, BadLine)
unfolding texts_on_literals
prepare_surplus_field = refl

-- ---- commit SOURCE COMMIT COUNT

commit_without_source : read_text (in_1 (codes "store 1\nlog 1\n6 1 1 commit\n")) ≡ Err (4, BadLine)
unfolding texts_on_literals
commit_without_source = refl

commit_source_zero : read_text (in_1 (codes "store 1\nlog 1\n6 1 1 commit 0 6 0\n")) ≡ Err (4, BadNumber)
unfolding texts_on_literals
commit_source_zero = refl

commit_without_commit : read_text (in_1 (codes "store 1\nlog 1\n6 1 1 commit 2\n")) ≡ Err (4, BadLine)
unfolding texts_on_literals
commit_without_commit = refl

commit_no_number : read_text (in_1 (codes "store 1\nlog 1\n6 1 1 commit 2 x 0\n")) ≡ Err (4, BadNumber)
unfolding texts_on_literals
commit_no_number = refl

commit_without_count : read_text (in_1 (codes "store 1\nlog 1\n6 1 1 commit 2 6\n")) ≡ Err (4, BadLine)
unfolding texts_on_literals
commit_without_count = refl

commit_count_no_number : read_text (in_1 (codes "store 1\nlog 1\n6 1 1 commit 2 6 00\n")) ≡ Err (4, BadNumber)
unfolding texts_on_literals
commit_count_no_number = refl

commit_count_4097 : read_text (in_1 (codes "store 1\nlog 1\n6 1 1 commit 2 6 4097\n")) ≡ Err (4, Limit)
unfolding texts_on_literals
commit_count_4097 = refl

commit_count_4097_surplus : read_text (in_1 (codes "store 1\nlog 1\n6 1 1 commit 2 6 4097 1\n")) ≡ Err (4, Limit)
unfolding texts_on_literals
commit_count_4097_surplus = refl

commit_first_would_be_5 : read_text (in_1 (codes "store 1\nlog 1\n6 1 1 commit 2 6 2\n")) ≡ Err (4, BadCarry)
unfolding texts_on_literals
commit_first_would_be_5 = refl

commit_first_would_be_5_surplus : read_text (in_1 (codes "store 1\nlog 1\n6 1 1 commit 2 6 2 1\n")) ≡ Err (4, BadCarry)
unfolding texts_on_literals
commit_first_would_be_5_surplus = refl

commit_surplus_field : read_text (in_1 (codes "store 1\nlog 1\n6 1 1 commit 2 6 0 1\n")) ≡ Err (4, BadLine)
unfolding texts_on_literals
commit_surplus_field = refl

-- ---- rollback COMMIT

rollback_without_commit : read_text (in_1 (codes "store 1\nlog 1\n6 1 1 rollback\n")) ≡ Err (4, BadLine)
unfolding texts_on_literals
rollback_without_commit = refl

rollback_no_number : read_text (in_1 (codes "store 1\nlog 1\n6 1 1 rollback x\n")) ≡ Err (4, BadNumber)
unfolding texts_on_literals
rollback_no_number = refl

rollback_surplus_field : read_text (in_1 (codes "store 1\nlog 1\n6 1 1 rollback 6 7\n")) ≡ Err (4, BadLine)
unfolding texts_on_literals
rollback_surplus_field = refl

-- ---- add PEER and remove PEER, in version 2

add_in_version_1 : read_text (in_1 (codes "store 1\nlog 1\n6 1 1 add 2\n")) ≡ Err (4, BadLine)
unfolding texts_on_literals
add_in_version_1 = refl

remove_in_version_1 : read_text (in_1 (codes "store 1\nlog 1\n6 1 1 remove 2\n")) ≡ Err (4, BadLine)
unfolding texts_on_literals
remove_in_version_1 = refl

add_without_peer : read_text (in_2 (codes "store 1\nlog 1\n6 1 1 add\n")) ≡ Err (4, BadLine)
unfolding texts_on_literals
add_without_peer = refl

add_zero : read_text (in_2 (codes "store 1\nlog 1\n6 1 1 add 0\n")) ≡ Err (4, BadNumber)
unfolding texts_on_literals
add_zero = refl

remove_no_number : read_text (in_2 (codes "store 1\nlog 1\n6 1 1 remove x\n")) ≡ Err (4, BadNumber)
unfolding texts_on_literals
remove_no_number = refl

remove_surplus_field : read_text (in_2 (codes "store 1\nlog 1\n6 1 1 remove 2 3\n")) ≡ Err (4, BadLine)
unfolding texts_on_literals
remove_surplus_field = refl

-- ---- carry INDEX CONF VERSION BODY

carry_without_commit : read_text (in_1 (codes "store 1\nlog 1\ncarry 6 1 1 empty\n")) ≡ Err (4, BadLine)
unfolding texts_on_literals
carry_without_commit = refl

carry_after_empty_list : read_text (in_1 (codes "store 1\nlog 1\n6 1 1 commit 2 9 0\ncarry 9 1 1 prepare 1\n")) ≡ Err (5, BadLine)
unfolding texts_on_literals
carry_after_empty_list = refl

carry_missing_entry_instead : read_text (in_1 (codes "store 1\nlog 1\n6 1 1 commit 2 9 3\n7 1 1 empty\n")) ≡ Err (5, BadLine)
unfolding texts_on_literals
carry_missing_entry_instead = refl

carry_missing_end_instead : read_text (in_1 (codes "store 1\nlog 1\n6 1 1 commit 2 9 3\ncarry 7 1 1 empty\n")) ≡ Err (6, BadLine)
unfolding texts_on_literals
carry_missing_end_instead = refl

carry_one_too_many : read_text (in_1 (codes "store 1\nlog 1\n6 1 1 commit 2 9 3\ncarry 7 1 1 empty\ncarry 8 1 1 empty\ncarry 9 1 1 prepare 1\ncarry 10 1 1 prepare 1\n")) ≡ Err (8, BadLine)
unfolding texts_on_literals
carry_one_too_many = refl

carry_without_index : read_text (in_1 (codes "store 1\nlog 1\n6 1 1 commit 2 9 3\ncarry\n")) ≡ Err (5, BadLine)
unfolding texts_on_literals
carry_without_index = refl

carry_index_no_number : read_text (in_1 (codes "store 1\nlog 1\n6 1 1 commit 2 9 3\ncarry 07 1 1 empty\n")) ≡ Err (5, BadNumber)
unfolding texts_on_literals
carry_index_no_number = refl

carry_first_too_low : read_text (in_1 (codes "store 1\nlog 1\n6 1 1 commit 2 9 3\ncarry 6 1 1 empty\n")) ≡ Err (5, BadCarry)
unfolding texts_on_literals
carry_first_too_low = refl

carry_gap : read_text (in_1 (codes "store 1\nlog 1\n6 1 1 commit 2 9 3\ncarry 7 1 1 empty\ncarry 9 1 1 prepare 1\n")) ≡ Err (6, BadCarry)
unfolding texts_on_literals
carry_gap = refl

carry_same_again : read_text (in_1 (codes "store 1\nlog 1\n6 1 1 commit 2 9 3\ncarry 7 1 1 empty\ncarry 7 1 1 empty\n")) ≡ Err (6, BadCarry)
unfolding texts_on_literals
carry_same_again = refl

carry_past_the_commit : read_text (in_1 (codes "store 1\nlog 1\n6 1 1 commit 2 6 1\ncarry 7 1 1 prepare 1\n")) ≡ Err (5, BadCarry)
unfolding texts_on_literals
carry_past_the_commit = refl

carry_index_before_the_rest : read_text (in_1 (codes "store 1\nlog 1\n6 1 1 commit 2 9 3\ncarry 6\n")) ≡ Err (5, BadCarry)
unfolding texts_on_literals
carry_index_before_the_rest = refl

carry_without_conf : read_text (in_1 (codes "store 1\nlog 1\n6 1 1 commit 2 9 3\ncarry 7\n")) ≡ Err (5, BadLine)
unfolding texts_on_literals
carry_without_conf = refl

carry_conf_no_number : read_text (in_1 (codes "store 1\nlog 1\n6 1 1 commit 2 9 3\ncarry 7 x 1 empty\n")) ≡ Err (5, BadNumber)
unfolding texts_on_literals
carry_conf_no_number = refl

carry_version_no_number : read_text (in_1 (codes "store 1\nlog 1\n6 1 1 commit 2 9 3\ncarry 7 1 x empty\n")) ≡ Err (5, BadNumber)
unfolding texts_on_literals
carry_version_no_number = refl

carry_without_body : read_text (in_1 (codes "store 1\nlog 1\n6 1 1 commit 2 9 3\ncarry 7 1 1\n")) ≡ Err (5, BadLine)
unfolding texts_on_literals
carry_without_body = refl

carry_unknown_body : read_text (in_1 (codes "store 1\nlog 1\n6 1 1 commit 2 9 3\ncarry 7 1 1 merge\n")) ≡ Err (5, BadLine)
unfolding texts_on_literals
carry_unknown_body = refl

carry_prepare_too_early : read_text (in_1 (codes "store 1\nlog 1\n6 1 1 commit 2 9 3\ncarry 7 1 1 prepare 1\n")) ≡ Err (5, BadCarry)
unfolding texts_on_literals
carry_prepare_too_early = refl

carry_split : read_text (in_1 (codes "store 1\nlog 1\n6 1 1 commit 2 9 3\ncarry 7 1 1 split x\n")) ≡ Err (5, BadCarry)
unfolding texts_on_literals
carry_split = refl

carry_commit : read_text (in_1 (codes "store 1\nlog 1\n6 1 1 commit 2 9 3\ncarry 7 1 1 commit\n")) ≡ Err (5, BadCarry)
unfolding texts_on_literals
carry_commit = refl

carry_rollback_last : read_text (in_1 (codes "store 1\nlog 1\n6 1 1 commit 2 6 1\ncarry 6 1 1 rollback 5\n")) ≡ Err (5, BadCarry)
unfolding texts_on_literals
carry_rollback_last = refl

carry_empty_last : read_text (in_1 (codes "store 1\nlog 1\n6 1 1 commit 2 6 1\ncarry 6 1 1 empty\n")) ≡ Err (5, BadCarry)
unfolding texts_on_literals
carry_empty_last = refl

carry_write_last : read_text (in_1 (codes "store 1\nlog 1\n6 1 1 commit 2 6 1\ncarry 6 1 1 write\n")) ≡ Err (5, BadCarry)
unfolding texts_on_literals
carry_write_last = refl

carry_unknown_last : read_text (in_1 (codes "store 1\nlog 1\n6 1 1 commit 2 6 1\ncarry 6 1 1 merge\n")) ≡ Err (5, BadLine)
unfolding texts_on_literals
carry_unknown_last = refl

carry_empty_surplus_field : read_text (in_1 (codes "store 1\nlog 1\n6 1 1 commit 2 9 3\ncarry 7 1 1 empty 1\n")) ≡ Err (5, BadLine)
unfolding texts_on_literals
carry_empty_surplus_field = refl

carry_write_bad_key : read_text (in_1 (codes "store 1\nlog 1\n6 1 1 commit 2 9 3\ncarry 7 1 1 write del x\n")) ≡ Err (5, BadKey)
unfolding texts_on_literals
carry_write_bad_key = refl

carry_write_long_key : read_text (in_1 (codes "store 1\nlog 1\n6 1 1 commit 2 9 3\ncarry 7 1 1 write del " ++ times 514 (codes "f") ++ codes "\n")) ≡ Err (5, Limit)
unfolding texts_on_literals
carry_write_long_key = refl

carry_prepare_zero : read_text (in_1 (codes "store 1\nlog 1\n6 1 1 commit 2 6 1\ncarry 6 1 1 prepare 0\n")) ≡ Err (5, BadNumber)
unfolding texts_on_literals
carry_prepare_zero = refl

carry_prepare_surplus_field : read_text (in_1 (codes "store 1\nlog 1\n6 1 1 commit 2 6 1\ncarry 6 1 1 prepare 1 2\n")) ≡ Err (5, BadLine)
unfolding texts_on_literals
carry_prepare_surplus_field = refl

carry_add_in_version_1 : read_text (in_1 (codes "store 1\nlog 1\n6 1 1 commit 2 9 3\ncarry 7 1 1 add 1\n")) ≡ Err (5, BadLine)
unfolding texts_on_literals
carry_add_in_version_1 = refl

carry_add : read_text (in_2 (codes "store 1\nlog 1\n6 1 1 commit 2 9 3\ncarry 7 1 1 add x\n")) ≡ Err (5, BadCarry)
unfolding texts_on_literals
carry_add = refl

carry_remove_last : read_text (in_2 (codes "store 1\nlog 1\n6 1 1 commit 2 6 1\ncarry 6 1 1 remove x\n")) ≡ Err (5, BadCarry)
unfolding texts_on_literals
carry_remove_last = refl

-- ---- end

end_surplus_field : read_text (in_1 (codes "end 1\n")) ≡ Err (2, BadLine)
unfolding texts_on_literals
end_surplus_field = refl

end_missing : read_text (codes "raftreplay 1\nstore 1\n") ≡ Err (3, NoEnd)
unfolding texts_on_literals
end_missing = refl

end_missing_at_once : read_text (codes "raftreplay 1\n") ≡ Err (2, NoEnd)
unfolding texts_on_literals
end_missing_at_once = refl

end_missing_in_carried : read_text (codes "raftreplay 1\nstore 1\nlog 1\n6 1 1 commit 2 6 1\n") ≡ Err (5, NoEnd)
unfolding texts_on_literals
end_missing_in_carried = refl

end_unended : read_text (codes "raftreplay 1\nend") ≡ Err (2, BadLine)
unfolding texts_on_literals
end_unended = refl

line_after_end : read_text (codes "raftreplay 1\nend\nstore 1\n") ≡ Err (3, BadLine)
unfolding texts_on_literals
line_after_end = refl

empty_line_after_end : read_text (codes "raftreplay 1\nend\n\n") ≡ Err (3, BadLine)
unfolding texts_on_literals
empty_line_after_end = refl

bytes_after_end : read_text (codes "raftreplay 1\nend\n ") ≡ Err (3, BadLine)
unfolding texts_on_literals
bytes_after_end = refl

-- ---- worked cases

worked_gap_in_carried_list : read_text (in_1 (codes "store 1\nregion 1 - 6d\nregion 2 6d -\nlog 1\n6 1 1 commit 2 8 2\ncarry 6 1 1 write put 7a 31\ncarry 8 1 1 prepare 1\n")) ≡ Err (7, BadCarry)
unfolding texts_on_literals
worked_gap_in_carried_list = refl

worked_long_key : read_text (in_1 (codes "store 1\nregion 1 - -\nlog 1\n6 1 1 write put " ++ times 514 (codes "f") ++ codes " " ++ times 8192 (codes "0") ++ codes "\n")) ≡ Err (5, Limit)
unfolding texts_on_literals
worked_long_key = refl
