use Rattle.std.proofs.Common.{◌≡◌, ◌++◌, take}
use Rattle.std.specs.List.{flat_map}
use Rattle.vol_dir.specs.Tree.{tree}
use Rattle.vol_listing.specs.Lines.{line_of}
use Rattle.vol_listing.proofs.lines.push_lines.Given as goal

-- Invariant: the lines of the names so far have been added.
abbrev pub invariant-names : goal.invariant-names
invariant-names l = l.text.items ≡ l.initial.text.items ++ flat_map (line_of l.style (tree l.geometry l.image)) (take l.name-index l.names)
