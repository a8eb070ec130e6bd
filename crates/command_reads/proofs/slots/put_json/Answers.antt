use Rattle.std.proofs.Common.{◌++◌, codes, drop, sym}
use Rattle.vol_archive.proofs.Outputs.{cut_front, cut_same, handed_on}
use Rattle.vol_dir.specs.Entries.{slot_count}
use Rattle.command_reads.specs.Slots.{slot_lines, slots_json}
use Rattle.command_reads.specs.declared.slots.SlotForm.TheVariants as slot_forms
use Rattle.command_reads.proofs.PrintedPieces.{writes_same, writes_then}
use Rattle.command_reads.proofs.SlotItems.{slots_whole}
use Rattle.command_reads.proofs.slots.put_json.Goals as goal

pub returns-in_err-put : goal.returns-in_err-put
returns-in_err-put g c =
    let geometry = c.args.geometry.now in
    let image = c.args.image.now in
    let d = c.args.dir in
    let front = codes "{\"format\":1,\"slots\":[" in
    let rest = drop 1 (slot_lines slot_forms.Item geometry image d 0 (slot_count geometry image d)) ++ codes "]}\n" in
    handed_on _ _ _ _ _ _ c.in_err-put.field-0.0 c.from_residual.ensures
    (cut_same _ _ _ (front ++ rest) (slots_json geometry image d) _ (sym (slots_whole geometry image d)) (cut_front _ _ _ front rest _ c.in_err-put.ensures))

pub returns : goal.returns
returns g c =
    let geometry = c.args.geometry.now in
    let image = c.args.image.now in
    let d = c.args.dir in
    let front = codes "{\"format\":1,\"slots\":[" in
    let rest = drop 1 (slot_lines slot_forms.Item geometry image d 0 (slot_count geometry image d)) ++ codes "]}\n" in
    writes_same _ _ _ _ (front ++ rest) (slots_json geometry image d) _ (slots_whole geometry image d)
    (writes_then _ _ _ _ _ _ front rest _ c.in_ok-put.ensures c.put_items.ensures)
