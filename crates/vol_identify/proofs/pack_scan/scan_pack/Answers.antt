use Rattle.std.proofs.Common.{◌∙◌, ◌≡◌, ◌≤◌, ◌+◌, ◌++◌, length, subst, take, drop, length-append, length-take, arith}
use Rattle.std.proofs.KnownBytes.{Consumes-trans}
use Rattle.std.proofs.lemmas.List.{take-append-le}
use Rattle.vol_identify.specs.Packs.{HasScanned}
use Rattle.vol_identify.proofs.pack_scan.scan_pack.Goals as goal

pub returns-in-Err-clause-front : goal.returns-in-Err-clause-front
returns-in-Err-clause-front g c = (_, Consumes-trans _ _ _ _ _ c.pieces.invariant.given.1 c.in-Ok.ensures.bytes.0)

pub pieces-preserved : goal.pieces-preserved
pieces-preserved g c =
    let given = c.pieces.invariant.given in
    let piece = take c.in-Ok.count c.read.new.buf in
    let many : length piece ≡ c.in-Ok.count = omega (arith, c.in-Ok.ensures.bound, length-take c.in-Ok.count c.read.new.buf) in
    let few : c.in-Ok.count ≤ c.pieces.left = omega (arith, c.in-Ok.ensures.bound, c.read.auto.buf, length-take c.min-room.result c.pieces.piece) in
    let len : length (given.0 ++ piece) ≡ length given.0 + length piece = length-append given.0 piece in
    record {
      given = (
        given.0 ++ piece,
        Consumes-trans _ _ _ _ _ given.1 c.in-Ok.ensures.bytes.0,
        subst (λ bytes. HasScanned (given.0 ++ bytes) c.in-Ok-feed.more)
            (take-append-le c.in-Ok.count c.read.new.buf _ c.in-Ok.ensures.bound.0) (c.in-Ok-feed.ensures.fed given.0 given.2
            (omega (arith, length-take c.in-Ok.count (c.read.new.buf ++ drop c.min-room.result c.pieces.piece), few, given.3, c.pieces.invariant.blocks))),
        omega (arith, given.3),
      );
      blocks = c.in-Ok-feed.ensures.blocks ∙ c.pieces.invariant.blocks;
      working = c.in-Ok.ensures.kept ∙ c.pieces.invariant.working;
    }
