use Rattle.std.proofs.KnownBytes.{Consumes-trans}
use Rattle.pdp_words.proofs.load_image.load_with_capacity.Goals as goal

-- if the image can't grow, the piece just read is lost too
pub returns-then-is_err-clause-front : goal.returns-then-is_err-clause-front
returns-then-is_err-clause-front g c = (_, Consumes-trans _ _ _ _ _ c.pieces.invariant.read c.in-Ok.ensures.bytes.0)
