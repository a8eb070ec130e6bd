use Rattle.vol_layout.proofs.NameLaws.{holds_named, named_holds}
use Rattle.vol_layout.proofs.laws.names_follow_the_rules.Goals as goal

pub returns : goal.returns
returns c geometry image i p k fits = (holds_named geometry image i p k, λ h. named_holds geometry image i p k fits h.0 h.1)
