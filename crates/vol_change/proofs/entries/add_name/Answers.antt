use Rattle.std.proofs.Common.{◌∙◌, ◌*◌, ap, sym, None, Some}
use Rattle.vol_layout.specs.BlockPointers.{IsFile}
use Rattle.vol_layout.specs.BlockMaps.{has_places}
use Rattle.vol_layout.specs.declared.mode.Kind.TheVariants as kinds
use Rattle.vol_file.specs.Need.{need}
use Rattle.vol_dir.specs.EntryEdits.{slot_bytes}
use Rattle.vol_dir.specs.Entries.{slots, IsDirectory}
use Rattle.vol_dir.specs.Names.{names_in}
use Rattle.vol_dir.specs.Search.{new_slot}
use Rattle.vol_dir.specs.Tree.{state}
use Rattle.vol_dir.proofs.NewEntries.{adds, length-slot_bytes, new_empty}
use Rattle.vol_dir.proofs.ReadSlots.{slot_is}
use Rattle.vol_judge.proofs.EditedGraphs.{changes_slot}
use Rattle.vol_layout.specs.Body.{body}
use Rattle.vol_file.specs.Changes.{spliced}
use Rattle.vol_change.specs.Ready.{entry_need}
use Rattle.vol_change.proofs.EntryStates.{added_state}
use Rattle.vol_change.proofs.FileGraphs.{directory_beside}
use Rattle.vol_change.proofs.FileRooms.{entry_need_is}
use Rattle.vol_change.proofs.FreeLists.{written_free}
use Rattle.vol_change.proofs.OneNode.{only_file}
use Rattle.vol_change.proofs.UnusedBytes.{file_unused}
use Rattle.vol_change.proofs.WrittenStates.{IsKind, writes_keeps, written_kind}
use Rattle.vol_change.proofs.entries.add_name.Goals as goal

pub returns : goal.returns
returns c =
    let geometry = c.args.geometry.now in
    let old = c.args.image.now in
    let new = c.add_at.new.image in
    let d = c.args.dir in
    let name = c.args.name.now in
    let rules = c.requires.directory.rules in
    let s = new_slot (names_in (slots geometry old d)) in
    let text = slot_bytes name c.args.i in
    let file : IsFile geometry old d = record { first = c.requires.directory.is.first; last = c.requires.directory.is.last; kind = ap has_places c.requires.directory.is.kind } in
    let is : IsDirectory geometry old d = record { first = c.requires.directory.is.first; last = c.requires.directory.is.last; kind = c.requires.directory.is.kind } in
    let at : IsKind geometry old d kinds.Directory = record { first = c.requires.directory.is.first; last = c.requires.directory.is.last; kind = c.requires.directory.is.kind } in
    let writes = c.add_at.ensures.written rules.blocks rules.sound in
    let kind = written_kind geometry old new rules.blocks d (16 * s) text file writes in
    record {
      changed = record {
        keeps = writes_keeps geometry old new d (16 * s) text rules writes;
        makes = added_state geometry old new rules.blocks name d c.args.i at rules.sound.fits c.requires.short writes c.add_at.ensures.names c.add_at.ensures.slots;
        free = written_free geometry old new d (16 * s) (entry_need (state geometry old) d) text rules writes
            (ap (need geometry old d (16 * s)) (length-slot_bytes name c.args.i c.requires.short) ∙ entry_need_is geometry old d at);
        content = λ j first last other. ((only_file geometry old new d rules.sound.fits writes.alone c.requires.directory.is.first).others j first last other).content;
      };
      bytes = writes.body ∙ ap (λ m. spliced (body geometry old d) (16 * m) text) (sym c.requires.slot);
      slot = changes_slot geometry old new d s None (Some (name, c.args.i)) is (kind ∙ c.requires.directory.is.kind) c.add_at.ensures.whole
          (sym (slot_is geometry old d s) ∙ new_empty geometry old d)
          (adds geometry old new rules.blocks name d c.args.i file rules.sound c.requires.directory.slots c.requires.short c.requires.text c.requires.inode
          c.requires.greatest writes);
      beside = directory_beside geometry old new d rules.sound.fits writes.alone c.requires.directory.is.first kind;
      once = c.add_at.ensures.once;
      unused = λ j first last. file_unused geometry old new d j rules.sound.fits writes.alone
          (λ free. absurd (cc (free, c.requires.directory.is.kind))) c.requires.directory.is.first first last;
    }
