use Rattle.std.proofs.Common.{◌∙◌, sym}
use Rattle.vol_volume.proofs.AcceptedCalls.{counted}
use Rattle.vol_volume.proofs.apply_records.apply.Goals as goal

pub make-requires-clause-count : goal.make-requires-clause-count
make-requires-clause-count c = c.requires.count ∙ sym (counted c.args.geometry.now c.args.image.now)

pub returns-in-Ok-clause-count : goal.returns-in-Ok-clause-count
returns-in-Ok-clause-count c = c.in-Ok.ensures.performed.counted ∙ counted c.args.geometry.now c.make.new.image
