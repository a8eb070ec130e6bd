use Rattle.std.proofs.Common.{◌∙◌, List, ℕ, ap, map, subst}
use Rattle.pack_lists.specs.Archive.{archive_bytes, filled}
use Rattle.vol_import.specs.Make.{calls_to_make}
use Rattle.vol_volume.specs.Volume.{reads_as}
use Rattle.command_changes.specs.Build.{program_of}
use Rattle.command_changes.specs.Import.{IsUnimported}
use Rattle.command_changes.proofs.Imported.{unimported}
use Rattle.command_changes.proofs.UnbuiltVolumes.{unfilled}
use Rattle.command_changes.proofs.build.build_volume.Goals as goal

pub returns-in-Err-clause-fault : goal.returns-in-Err-clause-fault
returns-in-Err-clause-fault c =
    let edition = c.args.list.volume.sizes.edition in
    let begun = c.in_ok-begun.begun.items in
    unfilled c.args.list.volume c.args.list.root (program_of c.args.list) (map filled c.args.list.members.items) begun c.in_ok-archive.archive.items c.fault_of.result
    c.in_ok-begun.ensures.begun (c.in_ok-archive.ensures ∙ ap (λ members. archive_bytes (map filled members)) c.deref.ensures.value)
    (subst (λ (base : List ℕ). IsUnimported edition begun
    (calls_to_make (reads_as edition begun).tree c.in_ok-archive.archive.items base c.args.list.volume.time) c.fault_of.result) c.as_bytes.ensures.value
    (unimported _ _ _ _ _ c.in-Err.ensures.fault c.fault_of.ensures))
