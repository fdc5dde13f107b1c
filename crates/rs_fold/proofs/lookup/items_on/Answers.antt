use Rattle.std.proofs.Common.{◌∙◌, sym, ap, List}
use Rattle.std.specs.List.{find}
use Rattle.std.specs.Option.{option_copied, option_map}
use Rattle.rs_key.specs.Keys.{same_bytes}
use Rattle.rs_entry.specs.declared.outcome.KeyHistory.{KeyHistory}
use Rattle.rs_history.specs.Outcomes.{history_at}
use Rattle.rs_fold.proofs.lookup.items_on.Goals as goal

pub returns-in-Some : goal.returns-in-Some
returns-in-Some c =
    c.items_in.ensures
    ∙ ap (λ (hs : List KeyHistory). option_map (λ (h : KeyHistory). h.items) (find (λ h. same_bytes h.key c.args.key.now) hs)) c.as_slice.ensures
    ∙ ap (λ o. history_at (option_copied o) c.args.key.now) (sym c.in-Some.is)
