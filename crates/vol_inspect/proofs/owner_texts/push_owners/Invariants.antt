use Rattle.std.proofs.Common.{◌≡◌, ◌++◌, take}
use Rattle.std.specs.List.{flat_map}
use Rattle.std.specs.String.{string_bytes}
use Rattle.vol_inspect.specs.OwnerTexts.{owner_line}
use Rattle.vol_inspect.proofs.owner_texts.push_owners.Given as goal

-- Invariant: the owners so far have been added.
abbrev pub invariant-loop-owner : goal.invariant-loop-owner
invariant-loop-owner l = string_bytes l.text ≡ string_bytes l.initial.text ++ flat_map (owner_line l.b) (take l.owner-index l.owners)
