-- The memory that a handle owns: if it is open, a volume on the heap.
use base.Fml.{Fml, ftrue}
use base.Stored.{Coded}
use denote.RawPtr.{Ptr}
use Rattle.std.specs.Prelude.{Option, None, Some}
use Rattle.std.specs.Coded.{coded_option}
use Rattle.std.specs.Box.Ownership.{box_owns}
use Rattle.std.specs.Global.{Global}
use Rattle.std_heap.specs.contracts.GlobalAllocator.TheImpl.{ghosts}
use Rattle.unixvol_c.specs.contracts.open_volume.OpenVolume.{the_row}

-- nothing, or an open volume on the heap (this project)
abbrev pub held_owns : Global → Ptr → Option the_row.Denot → Fml
held_owns alloc p None = ftrue
held_owns alloc p (Some x) = box_owns (ghosts.dealloc_token alloc) the_row p x

-- the volume of a handle can be stored as a ghost field (this project)
abbrev pub held_coded : Coded (Option the_row.Denot)
held_coded = coded_option the_row.coded
