use Rattle.std.proofs.Common.{codes, drop}
use Rattle.vol_archive.proofs.Outputs.{cut_front, handed_on}
use Rattle.vol_dir.specs.Entries.{slot_count}
use Rattle.command_reads.specs.Slots.{slot_lines}
use Rattle.command_reads.specs.declared.slots.SlotForm.TheVariants as slot_forms
use Rattle.command_reads.proofs.PrintedPieces.{writes_then}
use Rattle.command_reads.proofs.slots.put_items.Goals as goal

pub returns-in_err-put_slots : goal.returns-in_err-put_slots
returns-in_err-put_slots g c =
    let geometry = c.args.geometry.now in
    let image = c.args.image.now in
    let d = c.args.dir in
    handed_on _ _ _ _ _ _ c.in_err-put_slots.field-0.0 c.from_residual.ensures
    (cut_front _ _ _ (drop 1 (slot_lines slot_forms.Item geometry image d 0 (slot_count geometry image d))) (codes "]}\n") _ c.in_err-put_slots.ensures)

pub returns : goal.returns
returns g c =
    let geometry = c.args.geometry.now in
    let image = c.args.image.now in
    let d = c.args.dir in
    writes_then _ _ _ _ _ _ (drop 1 (slot_lines slot_forms.Item geometry image d 0 (slot_count geometry image d))) (codes "]}\n") _ c.in_ok-put_slots.ensures c.put.ensures
