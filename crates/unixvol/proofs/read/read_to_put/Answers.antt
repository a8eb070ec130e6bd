use Rattle.std.proofs.Common.{◌+◌, ap}
use Rattle.vol_layout.specs.declared.edition.Constants.{Constants}
use Rattle.unixvol.proofs.Given.{put_read}
use Rattle.unixvol.proofs.read.read_to_put.Goals as goal

pub returns-clause-given : goal.returns-clause-given
returns-clause-given g c =
    put_read g.F.Read.remaining c.args.edition _ _ _ _ _ c.unread.ensures.bytes (ap (λ (limits : Constants). limits.greatest + 1) c.constants.ensures)
    c.in_ok-read_more.ensures.given
