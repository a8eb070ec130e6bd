use Rattle.std.proofs.Common.{◌≡◌, ◌++◌, take}
use Rattle.std.specs.List.{flat_map}
use Rattle.std.specs.String.{string_bytes}
use Rattle.vol_identify.specs.PackTexts.{part_line}
use Rattle.vol_identify.proofs.pack_texts.pack_lines.Given as goal

-- Invariant: the lines of the parts so far follow the first line.
abbrev pub invariant-loop-part : goal.invariant-loop-part
invariant-loop-part l = string_bytes l.lines ≡ string_bytes l.initial.lines ++ flat_map (part_line l.word) (take l.part-index l.parts)
