-- A `Loose` and a `Sealed` own the same as a box of the same types.
use mir.Syntax.{impl, tnil, dnil}
use mathlib.Core.List.{[]}
use denote.Signature.{Slot, plain}
use Rattle.std_alloc.proofs.BoxSteps.Form.{Bx}
use Rattle.std_heap.specs.contracts.Global as Heap
use Rattle.std_heap.specs.contracts.GlobalAllocator.TheImpl.{ghosts, dict}
use Rattle.std_heap.proofs.Global.TheLaws as heap
use Rattle.unixvol_c.specs.contracts.open_volume.OpenVolume as Kept
use Rattle.unixvol_c.proofs.open_volume.OpenVolume.TheLaws as volume
use Rattle.unixvol_c.specs.contracts.loose.Loose as Loose
use Rattle.unixvol_c.specs.contracts.sealed.Sealed as Sealed

abbrev pub E : Bx
E = record { row = Kept.the_row; laws = volume.the_row_laws; al = record { row = Heap.the_row; laws = heap.the_row_laws; g = ghosts; d = dict; drops = impl [] tnil dnil } }

abbrev pub FromLoose : Slot 0
FromLoose = plain (λ _. Loose.the_row Kept.the_row Heap.the_row ghosts)

abbrev pub FromSeal : Slot 0
FromSeal = plain (λ _. Sealed.the_row)
