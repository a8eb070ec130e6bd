-- Looks at images of which some blocks couldn't be read.
use Rattle.std.proofs.Common.{ℕ, Bool, List, Option, inl, inr, ◌∙◌, sym}
use Rattle.std.specs.Prelude.{Err}
use Rattle.bad_maps.specs.Maps.{ranges_in, ReadsMap}
use Rattle.bad_maps.specs.declared.maps.MapFault.{MapFault}
use Rattle.bad_maps.specs.declared.maps.MapFault.TheVariants as maps
use Rattle.bad_maps.specs.declared.maps.ReadRange.{ReadRange}
use Rattle.vol_layout.specs.declared.edition.Edition.{Edition}
use Rattle.vol_losses.specs.BadImages.{IsUnrescued}
use Rattle.vol_losses.specs.declared.bad_images.RescueFault.{RescueFault}
use Rattle.vol_losses.specs.declared.bad_images.RescueFault.TheVariants as rescues
use Rattle.vol_losses.specs.declared.cut_images.CutFault.TheVariants as cuts
use Rattle.vol_losses.specs.declared.given_sizes.VolumeSizes.{VolumeSizes}
use Rattle.vol_losses.proofs.BadLaws.{rescue_agrees}
use Rattle.vol_rescue.proofs.RightMembers.{archives_right}
use Rattle.command_faults.specs.Streams.{still}
use Rattle.command_faults.specs.declared.fault.Fault.{Fault}
use Rattle.command_reads.proofs.Printed.{told_only}
use Rattle.command_reads.specs.BadLooks.{IsMisreadEnding, IsUnrescuedEnding, TellsMisread, TellsUnrescued}
use Rattle.command_reads.specs.Laws.{BadExportsAreRight}
use Rattle.command_reads.specs.declared.bad_looks.BadMap.{BadMap}
use Rattle.command_reads.proofs.Exported.{told_incomplete, unnoted}

-- an image that isn't rescued was reported, and nothing was printed
pub told_unrescued : (edition : Edition) (ranges : List ReadRange) (at : ℕ) (sizes : Option VolumeSizes) (bytes : List ℕ) (known : Option (List ℕ)) (failed : Bool)
    (why : RescueFault) (status : ℕ) (fault : Option Fault) → IsUnrescued edition ranges at sizes bytes why → IsUnrescuedEnding why status fault
    → TellsUnrescued edition ranges at sizes bytes (still known failed fault) status
told_unrescued edition ranges at sizes bytes known failed (rescues.Cut cuts.NoMemory) status fault cause is = inr (inr (inr (told_only is)))
told_unrescued edition ranges at sizes bytes known failed (rescues.Cut (cuts.TooShort there blocks)) status fault cause is = inl (
  cause.0,
  cause.1,
  cause.2,
  cause.3,
  told_incomplete edition cause.1 known failed (cuts.TooShort there blocks) status fault cause.4 is,
)
told_unrescued edition ranges at sizes bytes known failed (rescues.Sizes wrong) status fault cause (inl is) = inr (inr (inl (
  wrong,
  is.0,
  cause.0,
  cause.1,
  is.2,
  told_only (is.3, is.1),
)))
told_unrescued edition ranges at sizes bytes known failed (rescues.Sizes wrong) status fault cause (inr is) = inr (inr (inr (told_only is)))

-- a map that can't be read was reported, and nothing was printed
pub told_misread : (map : BadMap) (known : Option (List ℕ)) (failed : Bool) (why : MapFault) (status : ℕ) (fault : Option Fault)
    → ReadsMap (ranges_in map.text.items) (Err why) → IsMisreadEnding map.name.now why status fault
    → TellsMisread map (still known failed fault) status
told_misread map known failed maps.NoMemory status fault cause is = inr (told_only is)
told_misread map known failed (maps.Line number flaw) status fault cause (inl is) = inl (
  number,
  flaw,
  is.0,
  cause,
  is.2,
  told_only (is.3, is.1),
)
told_misread map known failed (maps.Line number flaw) status fault cause (inr is) = inr (told_only is)

-- an export without the damaged files is right, whatever the lost blocks held
pub bad_exports_right : BadExportsAreRight
bad_exports_right edition ranges at sizes bytes volume image path lost options start founds notes rescued has fits begins damaged noted =
    unnoted start image lost options founds notes damaged noted
    ∙ sym (archives_right start.geometry lost image volume founds fits
    (rescue_agrees start.geometry edition ranges at sizes bytes volume image lost fits rescued has))
