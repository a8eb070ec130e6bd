use Rattle.std.proofs.Common.{◌≡◌, take}
use Rattle.std.specs.List.{flat_map}
use Rattle.vol_fields.specs.DiffLines.{difference_line}
use Rattle.vol_fields.proofs.diff_lines.diff_text.Given as goal

-- Invariant: the lines of the differences so far have been added.
abbrev pub invariant-loop-difference : goal.invariant-loop-difference
invariant-loop-difference l =
    l.text.items
    ≡ flat_map (difference_line l.old.geometry.now l.old.roles.now l.old.image.now l.new.roles.now l.new.image.now) (take l.difference-index l.difference-items)
