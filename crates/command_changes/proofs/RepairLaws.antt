-- What `repair` saves is a repaired copy of the image that was read, in which the files that are whole are right.
use Rattle.vol_layout.specs.Geometry.{geometry_of}
use Rattle.vol_losses.proofs.BadLaws.{rescue_agrees}
use Rattle.vol_repair.proofs.LongerCopies.{copied}
use Rattle.vol_repair.specs.Laws.{KeepsRightFiles}
use Rattle.command_changes.specs.Laws.{RepairsAreCopies, RescuedFilesAreRight, RescuesAreCopies}

pub repairs_copied : RepairsAreCopies
repairs_copied edition blocks old new text (longer, longest, (lines, repaired, said)) =
    (lines, copied edition blocks old longer new lines longest repaired, said)

pub rescues_copied : RescuesAreCopies
rescues_copied edition blocks old new text losses lost (longer, longest, (reported, told)) =
    repairs_copied edition blocks old new text (longer, longest, reported)

pub rescued_files : KeepsRightFiles → RescuedFilesAreRight
rescued_files right edition ranges at sizes bytes volume image lost blocks new text losses i rescued has fits reported fitting whole =
    let copy = rescues_copied edition blocks image new text losses lost reported in
    right edition blocks lost image volume new copy.0 i fits
    (rescue_agrees (geometry_of edition image) edition ranges at sizes bytes volume image lost fits rescued has) copy.1 fitting whole
