use Rattle.std.proofs.Common.{◌≤◌, arith}
use Rattle.host_files.proofs.Zeros.{writes_piece}
use Rattle.host_files.proofs.holes.write_with_holes.Goals as goal

pub pieces-preserved-in_ok-append_zeros : goal.pieces-preserved-in_ok-append_zeros
pieces-preserved-in_ok-append_zeros g c =
    let up : c.pieces.at ≤ c.min-end.result = omega (arith, c.pieces-test.true) in
    record {
      written = writes_piece (g.W.Sink.contents c.args.sink.now) (g.W.Sink.contents c.pieces.sink) (g.W.Sink.contents c.append_zeros.new.self) c.args.bytes.now
          c.pieces.at c.min-end.result up c.pieces.invariant.written c.in_ok-append_zeros.ensures.ok;
      within = omega arith;
    }

pub pieces-preserved : goal.pieces-preserved
pieces-preserved g c =
    let up : c.pieces.at ≤ c.min-end.result = omega (arith, c.pieces-test.true) in
    record {
      written = writes_piece (g.W.Sink.contents c.args.sink.now) (g.W.Sink.contents c.pieces.sink) (g.W.Sink.contents c.write_all-else-is_zeros.new.sink) c.args.bytes.now
          c.pieces.at c.min-end.result up c.pieces.invariant.written c.in-Ok.ensures.ok;
      within = omega arith;
    }
