-- The parts of a mounted volume, and the invariant that they keep.
use Rattle.std.specs.Prelude.{◌≡◌}
use Rattle.vol_layout.specs.Geometry.{geometry_of}
use Rattle.vol_dir.specs.Tree.{free_count, shapes}
use Rattle.vol_volume.specs.Volume.{Mounted, IsConsistent}
use Rattle.vol_volume.specs.declared.volume.Parts.{Parts}

-- the volume with these parts (this project)
abbrev pub held : Parts → Mounted
held parts = record {
  edition = parts.geometry.edition;
  image = parts.current;
  base = parts.base.items;
  journal = parts.records.items;
  first = parts.first;
}

-- the invariant of the parts between calls: the geometry is the image's, the volume is consistent, and the count of free blocks is right (this
-- project)
abbrev pub IsKept : Parts → Type 0
IsKept parts =
    (parts.geometry ≡ geometry_of parts.geometry.edition parts.current) × IsConsistent (held parts)
    × (parts.free ≡ free_count parts.geometry (shapes parts.geometry parts.current))
