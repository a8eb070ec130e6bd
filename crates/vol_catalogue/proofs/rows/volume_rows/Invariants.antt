use Rattle.std.proofs.Common.{◌≡◌, take}
use Rattle.std.specs.List.{flat_map}
use Rattle.vol_catalogue.specs.Rows.{row_of}
use Rattle.vol_catalogue.proofs.rows.volume_rows.Given as goal

-- Invariant: the text has the rows of the volumes so far.
abbrev pub invariant-volumes : goal.invariant-volumes
invariant-volumes l = l.text.items ≡ flat_map (row_of l.path l.file) (take l.volume-index l.volumes)
