use Rattle.vol_layout.proofs.BodyLaws.{body_piece}
use Rattle.vol_layout.proofs.laws.bodies_are_blocks.Goals as goal

pub returns : goal.returns
returns c = body_piece
