use Rattle.std.proofs.Common.{◌≡◌, length, map, take, drop}
use Rattle.unixvol_c.specs.Structs.{entry_of}
use Rattle.unixvol_c.proofs.queries.put_names.Given as goal

abbrev pub invariant-loop-i : goal.invariant-loop-i
invariant-loop-i l = record {
  len : length l.into ≡ length l.initial.into;
  front : take l.i l.into ≡ map entry_of (take l.i l.names);
  rest : drop l.i l.into ≡ drop l.i l.initial.into;
}
