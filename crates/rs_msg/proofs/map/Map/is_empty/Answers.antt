use Rattle.std.proofs.Common.{◌∙◌, ap, sym, length}
use Rattle.rs_msg.proofs.Parted.{no_writes, some_writes}
use Rattle.rs_msg.proofs.map.Map.is_empty.Goals as goal

pub returns : goal.returns
returns c = (
  λ none. sym c.self.view_is ∙ no_writes c.self.inside.first c.self.inside.parts.items c.self.invariant.1 (c.is_empty.ensures.0 none),
  λ none. c.is_empty.ensures.1 (some_writes c.self.inside.first c.self.inside.parts.items (c.self.view_is ∙ none)),
)
