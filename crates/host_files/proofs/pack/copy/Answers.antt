use Rattle.std.proofs.Common.{◌++◌, subst, take, length-append, length-take, arith}
use Rattle.std.proofs.KnownBytes.{Appends-trans, Consumes-trans}
use Rattle.std.proofs.lemmas.List.{take-append-le}
use Rattle.std.specs.Io.KnownBytes.{Appends}
use Rattle.host_files.proofs.pack.copy.Goals as goal

pub pieces-preserved : goal.pieces-preserved
pieces-preserved g c =
    let copied = c.pieces.invariant.copied in
    let piece = take c.in-Ok.count c.read.new.buf in
    record {
      copied = (
        copied.0 ++ piece,
        Consumes-trans _ _ _ _ _ copied.1 c.in-Ok.ensures.bytes.0,
        Appends-trans _ _ _ _ _ copied.2 (subst (Appends (g.W.Sink.contents c.pieces.sink) (g.W.Sink.contents c.write_with_holes.new.sink))
            (take-append-le c.in-Ok.count c.read.new.buf _ c.in-Ok.ensures.bound.0) c.in-Ok-write_with_holes.ensures.ok),
        omega (arith, length-append copied.0 piece, copied.3, c.in-Ok.ensures.bound, c.read.auto.buf, length-take c.min-room.result c.pieces.piece),
      );
    }
