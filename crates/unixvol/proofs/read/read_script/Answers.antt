use Rattle.std.proofs.Common.{arith, inl}
use Rattle.unixvol.proofs.Given.{rest_read}
use Rattle.unixvol.proofs.read.read_script.Goals as goal

pub returns-then-not-is_bad-clause-given : goal.returns-then-not-is_bad-clause-given
returns-then-not-is_bad-clause-given g c =
    inl (rest_read g.F.Read.remaining _ _ _ _ _ _ _ _ c.unread.ensures.bytes c.in_ok-front.ensures.given c.in_ok-read_more.ensures.given (omega arith))
