use Rattle.std.proofs.Common.{◌≡◌, not, take, map}
use Rattle.std.specs.Io.KnownBytes.{Appends}
use Rattle.std.specs.List.{flat_map}
use Rattle.vol_dir.specs.Walk.{is_nil}
use Rattle.vol_compare.specs.Merge.{line_of, pairing_of}
use Rattle.vol_compare.proofs.merge.put_lines.Given as goal

-- Invariant: the lines of the pairs so far have been written, and the output has not failed since the start.
abbrev pub invariant-loop-pair : goal.invariant-loop-pair
invariant-loop-pair g l = record {
  written : Appends (g.O.Sink.contents l.initial.output) (g.O.Sink.contents l.output)
      (flat_map line_of (map (pairing_of l.times l.old l.new) (take l.pair-index l.pairs)));
  working : g.O.Sink.failed l.output ≡ g.O.Sink.failed l.initial.output;
  some : l.differs ≡ not (is_nil (flat_map line_of (map (pairing_of l.times l.old l.new) (take l.pair-index l.pairs))));
}
