use base.Shift.{Keyless}
use mir.Raw.{raw}
use denote.Memory.{lone}
use denote.RawPtr.{Ptr}
use denote.Struct.Struct.{exits_of}
use denote.Struct.Owning.{shape, fields, to}
use denote.Param.Send.{IsSend, AllSend, owning_send, struct_send, sendable}
use Rattle.std.proofs.Crossing as heap
use Rattle.std.specs.Prelude.{Option, None, Some}
use Rattle.std.specs.Global.{Global}
use Rattle.std_alloc.proofs.SendSync.{quiet, lies}
use Rattle.std_heap.proofs.Global.TheSendSync as handle
use Rattle.unixvol_c.specs.contracts.open_volume.OpenVolume as Kept
use Rattle.unixvol_c.proofs.open_volume.OpenVolume.TheSendSync.{the_send as kept}
use Rattle.unixvol_c.specs.Held.{held_owns}
use Rattle.unixvol_c.specs.contracts.sealed.Sealed.{the_row, the_type}

-- the volume in a handle has no key of a thread
held_keyless : (alloc : Global) (p : Ptr) (h : Option Kept.the_row.Denot) → Keyless (held_owns alloc p h)
held_keyless alloc p None = tt
held_keyless alloc p (Some x) = (lies Kept.the_row kept p x, heap.frees.frees alloc (raw (lone Kept.the_row.mir)) p)

pub send : IsSend the_row
send =
    let all : AllSend (fields the_type) = (search sendable, (handle.the_field_send, tt)) in
    owning_send the_type all (λ d. held_keyless d.alloc d.ptr d.held) (λ k. quiet (to the_type) (exits_of k (fields the_type)) ((struct_send (shape the_type) all).leaving k))
