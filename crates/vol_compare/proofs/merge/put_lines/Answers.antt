use Rattle.std.proofs.Common.{◌+◌, ◌++◌, drop, map, take, arith}
use Rattle.std.specs.List.{flat_map}
use Rattle.vol_archive.proofs.Outputs.{cut_front, cut_rest, cut_same, handed_on}
use Rattle.vol_compare.specs.Merge.{line_of, pairing_of}
use Rattle.vol_compare.proofs.PairLines.{lines_around}
use Rattle.vol_compare.proofs.merge.put_lines.Goals as goal

pub returns-in_err-some-clause-written : goal.returns-in_err-some-clause-written
returns-in_err-some-clause-written g c =
    let f = pairing_of c.args.times c.args.old.now c.args.new.now in
    let pairs = c.args.pairs.now in
    let k = c.loop-pair.pair-index in
    let before = flat_map line_of (map f (take k pairs)) in
    let now = line_of (f c.pair-item.result) in
    let rest = flat_map line_of (map f (drop (k + 1) pairs)) in
    handed_on _ _ _ _ _ _ c.in_err-some.field-0.0 c.from_residual.ensures
    (cut_same _ _ _ (before ++ (now ++ rest)) (flat_map line_of (map f pairs)) _ (lines_around line_of f pairs k c.pair-item.result (omega arith) c.pair-item.is)
    (cut_rest _ _ _ _ before (now ++ rest) _ c.loop-pair.invariant.written (cut_front _ _ _ now rest _ c.in_err-some.ensures.written)))
