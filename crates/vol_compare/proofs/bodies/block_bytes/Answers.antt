use Rattle.std.proofs.Common.{◌∙◌, sym}
use Rattle.vol_compare.proofs.BodyDifferences.{found_byte, outside_byte, unfound_byte}
use Rattle.vol_compare.proofs.bodies.block_bytes.Goals as goal

pub returns-in_default-clause-bytes : goal.returns-in_default-clause-bytes
returns-in_default-clause-bytes c = λ r h. c.requires.zeros r h ∙ unfound_byte c.args.file c.args.b r c.requires.fits (sym c.block_at.ensures ∙ c.in_default.is) h

pub returns-then-in_zone-clause-bytes : goal.returns-then-in_zone-clause-bytes
returns-then-in_zone-clause-bytes c = λ r h.
    found_byte c.args.file c.args.b c.in-Some.k r _ (sym c.block_at.ensures ∙ c.in-Some.is) (sym c.in_zone.ensures ∙ c.if-in_zone.true) c.block.ensures.bytes h

pub returns-else-in_zone-clause-bytes : goal.returns-else-in_zone-clause-bytes
returns-else-in_zone-clause-bytes c = λ r h. c.requires.zeros r h
    ∙ outside_byte c.args.file c.args.b c.in-Some.k r (sym c.block_at.ensures ∙ c.in-Some.is) (sym c.in_zone.ensures ∙ c.if-in_zone.false) h
