use Rattle.std.proofs.Common.{◌≡◌, ◌++◌, take}
use Rattle.std.specs.List.{flat_map}
use Rattle.vol_dir.specs.Tree.{tree}
use Rattle.vol_listing.specs.Lines.{other_text}
use Rattle.vol_listing.proofs.lines.push_others.Given as goal

-- Invariant: the directories so far have been added.
abbrev pub invariant-places : goal.invariant-places
invariant-places l = l.text.items ≡ l.initial.text.items ++ flat_map (other_text l.style (tree l.geometry l.image)) (take l.place-index l.places)
