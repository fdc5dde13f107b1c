-- Births that are sent one after another.
use Rattle.std.proofs.Common.{ℕ, List, [], ◌∷◌, ◌++◌, ap, ◌∙◌}
use Rattle.std.proofs.lemmas.List.{append_assoc}
use Rattle.rs_entry.specs.declared.input.Input.{Input}
use Rattle.rs_region.specs.declared.state.RegionState.{RegionState}
use Rattle.rs_msg.specs.declared.messages.ApplyMsg.{ApplyMsg}
use Rattle.rs_apply.specs.Births.{AreBirths, AddsBirths}

both_births : (input : Input) (a : ℕ) (states more : List RegionState) (ps qs : List (ℕ × ApplyMsg)) → AreBirths input a states ps → AreBirths input a more qs → AreBirths input a (states ++ more) (ps ++ qs)
both_births input a [] more [] qs h k = k
both_births input a [] more (p ∷ ps) qs h k = absurd h
both_births input a (s ∷ states) more [] qs h k = absurd h
both_births input a (s ∷ states) more (p ∷ ps) qs h k = (h.0, h.1, both_births input a states more ps qs h.2 k)

-- births of some regions, and then of others
pub adds_both : (input : Input) (a : ℕ) (states more : List RegionState) (old mid new : List (ℕ × ApplyMsg)) → AddsBirths input a states old mid → AddsBirths input a more mid new → AddsBirths input a (states ++ more) old new
adds_both input a states more old mid new first second =
    record {
      sent = first.sent ++ second.sent;
      is = second.is ∙ ap (λ l. l ++ second.sent) first.is ∙ append_assoc old first.sent second.sent;
      births = both_births input a states more first.sent second.sent first.births second.births;
    }
