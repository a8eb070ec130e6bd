use Rattle.std.proofs.KnownBytes.{Consumes-trans}
use Rattle.host_files.proofs.volume_front.read_on.Goals as goal

-- the piece for which there was no room was also consumed
pub returns-then-is_err-clause-front : goal.returns-then-is_err-clause-front
returns-then-is_err-clause-front g c = (_, Consumes-trans _ _ _ _ _ c.pieces.invariant.read.1 c.in-Ok.ensures.bytes.0)
