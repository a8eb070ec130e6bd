use Rattle.std.proofs.Common.{◌≡◌, map, take}
use Rattle.std.specs.List.{flat_map}
use Rattle.field_json.specs.Changes.{difference_data}
use Rattle.field_json.specs.Items.{item_text}
use Rattle.field_json.proofs.changes.difference_items.Given as goal

-- Invariant: the items of the differences so far have been added.
abbrev pub invariant-loop-difference : goal.invariant-loop-difference
invariant-loop-difference l =
    l.items.items
    ≡ flat_map item_text (map (difference_data l.old.geometry.now l.old.roles.now l.old.image.now l.new.roles.now l.new.image.now)
    (take l.difference-index l.difference-items))
