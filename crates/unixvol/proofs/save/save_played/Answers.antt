use Rattle.std.proofs.Common.{refl}
use Rattle.unixvol.proofs.FileFaults.{after_saving}
use Rattle.unixvol.proofs.save.save_played.Goals as goal

pub returns-then-answer-ne-BAD_FILE : goal.returns-then-answer-ne-BAD_FILE
returns-then-answer-ne-BAD_FILE g c = (
  after_saving _ _ _ _ _ refl c.save_answer.ensures.saved c.save_answer.ensures.fault,
  λ three. absurd (c.if-answer-ne-BAD_FILE.true three),
)
