use Rattle.std.proofs.Common.{◌∙◌, ◌++◌, take, length-append, length-take, arith}
use Rattle.std.proofs.KnownBytes.{Consumes-trans}
use Rattle.host_files.proofs.volume_front.skip.Goals as goal

pub pieces-preserved : goal.pieces-preserved
pieces-preserved g c =
    let lost = c.pieces.invariant.lost in
    let piece = take c.in_ok-count.count c.read.new.buf in
    let read = c.in_ok-count.ensures in
    record {
      lost = (
        lost.0 ++ piece,
        Consumes-trans _ _ _ _ _ lost.1 read.bytes.0,
        omega (arith, length-append lost.0 piece, lost.2, read.bound, c.read.auto.buf, length-take c.min-room.result c.pieces.piece),
      );
      kept = read.kept ∙ c.pieces.invariant.kept;
    }
