use Rattle.std.proofs.Common.{◌≡◌, ◌++◌, take}
use Rattle.std.specs.List.{flat_map}
use Rattle.command_reads.specs.Json.{later_text}
use Rattle.command_reads.proofs.pieces.push_items.Given as goal

-- Invariant: the text of the items so far has been added.
abbrev pub invariant-items : goal.invariant-items
invariant-items g l = l.text.items ≡ l.initial.text.items ++ flat_map (later_text g.T.Shown.shown) (take l.item-index l.items)
