use Rattle.std.proofs.Common.{subst}
use Rattle.pdp_words.specs.Devices.{LosesFront}
use Rattle.host_files.proofs.pack.read_past.Goals as goal

pub returns-in-Err-clause-unread : goal.returns-in-Err-clause-unread
returns-in-Err-clause-unread g c _ = (
  c.skip.new.source,
  subst (λ known. LosesFront known (g.F.Read.remaining c.skip.new.source.device.reader)) c.noted_reader-source.ensures.bytes c.in-Err.ensures.front,
  c.in-Err.ensures.device,
)
