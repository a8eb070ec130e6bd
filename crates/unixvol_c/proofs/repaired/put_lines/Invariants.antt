use Rattle.std.proofs.Common.{◌≡◌, length, map, take, drop}
use Rattle.unixvol_c.specs.Repaired.{line_of}
use Rattle.unixvol_c.proofs.repaired.put_lines.Given as goal

abbrev pub invariant-loop-i : goal.invariant-loop-i
invariant-loop-i l = record {
  len : length l.into ≡ length l.initial.into;
  front : take l.i l.into ≡ map line_of (take l.i l.lines);
  rest : drop l.i l.into ≡ drop l.i l.initial.into;
}
