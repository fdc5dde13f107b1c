-- What an answer unfolds to compute the reader and the writers on a literal.
use Rattle.std.specs.Prelude.{⊤}
use Rattle.rs_field.proofs.OnLiterals.{fields_on_literals}
use Rattle.rs_text.specs.Bodies.{op_at, many_at, write_at, side_at, pair_at, split_at, target_at, last_number_at, commit_at, conf_at, peers_at, boot_peers_at, carried_body_at}
use Rattle.rs_text.specs.Steps.{close_log, close_store, store_line, region_line, log_line, index_of, epoch_at, body_at, entry_line, carry_line, free_line, carry_or_bad, line_after, step}
use Rattle.rs_text.specs.Reading.{last_line, read_from, read_parts, read_text}
use Rattle.rs_text.specs.Logs.{lines_of, text_of}
use Rattle.rs_text.specs.Outcomes.{state_forms, outcome_text, history_text}
use Rattle.rs_text.specs.FaultTexts.{syntax_text, fault_text}

unfoldable pub texts_on_literals : ⊤
unfolding fields_on_literals op_at many_at write_at side_at pair_at split_at target_at last_number_at commit_at conf_at peers_at boot_peers_at carried_body_at close_log close_store store_line region_line log_line index_of epoch_at body_at entry_line carry_line free_line carry_or_bad line_after step last_line read_from read_parts read_text lines_of text_of state_forms outcome_text history_text syntax_text fault_text
texts_on_literals = tt
