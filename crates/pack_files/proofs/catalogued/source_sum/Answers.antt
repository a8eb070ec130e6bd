use Rattle.std.proofs.Common.{◌∙◌, ◌≡◌, ◌≤◌, ◌+◌, ◌++◌, length, subst, take, drop, length-append, length-take, arith}
use Rattle.std.proofs.KnownBytes.{Consumes-trans}
use Rattle.std.proofs.lemmas.List.{take-append-le}
use Rattle.sha2.specs.Hashers.{Holds256}
use Rattle.pack_files.proofs.catalogued.source_sum.Goals as goal

pub pieces-preserved : goal.pieces-preserved
pieces-preserved g c =
    let read = c.pieces.invariant.read in
    let piece = take c.in-Ok.count c.read.new.buf in
    let many : length piece ≡ c.in-Ok.count = omega (arith, c.in-Ok.ensures.bound, length-take c.in-Ok.count c.read.new.buf) in
    let few : c.in-Ok.count ≤ c.pieces.left = omega (arith, c.in-Ok.ensures.bound, c.read.auto.buf, length-take c.min-room.result c.pieces.piece) in
    let len : length (read.0 ++ piece) ≡ length read.0 + length piece = length-append read.0 piece in
    record {
      read = (
        read.0 ++ piece,
        Consumes-trans _ _ _ _ _ read.1 c.in-Ok.ensures.bytes.0,
        subst (λ bytes. Holds256 c.update.new.self (read.0 ++ bytes)) (take-append-le c.in-Ok.count c.read.new.buf _ c.in-Ok.ensures.bound.0)
            (c.update.ensures read.0 read.2),
        omega (arith, read.3),
      );
      working = c.in-Ok.ensures.kept ∙ c.pieces.invariant.working;
    }

pub returns : goal.returns
returns g c =
    let read = c.pieces.invariant.read in (read.0, read.1, omega (arith, read.3), c.finalize.ensures read.0 read.2)
