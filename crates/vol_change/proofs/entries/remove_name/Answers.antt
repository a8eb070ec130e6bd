use Rattle.std.proofs.Common.{◌∙◌, ◌%◌, ◌*◌, ap, ℕ, [], ◌∷◌, None, sym}
use Rattle.std.specs.Option.{option_map}
use Rattle.vol_layout.specs.BlockPointers.{IsFile}
use Rattle.vol_layout.specs.BlockMaps.{has_places}
use Rattle.vol_layout.specs.declared.mode.Kind.TheVariants as kinds
use Rattle.vol_dir.specs.Entries.{slots, IsDirectory}
use Rattle.vol_dir.specs.Names.{get, names_of}
use Rattle.vol_dir.specs.Search.{slot_named}
use Rattle.vol_dir.proofs.GoneEntries.{removes}
use Rattle.vol_judge.proofs.EditedGraphs.{changes_slot}
use Rattle.vol_layout.specs.Body.{body}
use Rattle.vol_file.specs.Changes.{spliced}
use Rattle.vol_change.proofs.EntryStates.{named_slot, removed_state}
use Rattle.vol_change.proofs.FileGraphs.{directory_beside}
use Rattle.vol_change.proofs.FreeLists.{written_free}
use Rattle.vol_change.proofs.OneNode.{only_file}
use Rattle.vol_change.proofs.UnusedBytes.{file_unused}
use Rattle.vol_change.proofs.WrittenStates.{IsKind, writes_keeps, written_kind}
use Rattle.vol_change.proofs.entries.remove_name.Goals as goal

pub returns : goal.returns
returns c =
    let geometry = c.args.geometry.now in
    let old = c.args.image.now in
    let new = c.remove_at.new.image in
    let d = c.args.dir in
    let name = c.args.name.now in
    let rules = c.requires.directory.rules in
    let s = slot_named name (slots geometry old d) in
    let file : IsFile geometry old d = record { first = c.requires.directory.is.first; last = c.requires.directory.is.last; kind = ap has_places c.requires.directory.is.kind } in
    let is : IsDirectory geometry old d = record { first = c.requires.directory.is.first; last = c.requires.directory.is.last; kind = c.requires.directory.is.kind } in
    let at : IsKind geometry old d kinds.Directory = record { first = c.requires.directory.is.first; last = c.requires.directory.is.last; kind = c.requires.directory.is.kind } in
    let writes = c.remove_at.ensures.written rules.blocks rules.sound in
    let kind = written_kind geometry old new rules.blocks d (16 * s) (0 ∷ (0 ∷ [])) file writes in
    let named = named_slot geometry old name d c.requires.there in
    record {
      changed = record {
        keeps = writes_keeps geometry old new d (16 * s) (0 ∷ (0 ∷ [])) rules writes;
        makes = removed_state geometry old new rules.blocks name d s at rules.sound.fits writes c.remove_at.ensures.none c.remove_at.ensures.size
            c.remove_at.ensures.names c.remove_at.ensures.slots;
        free = written_free geometry old new d (16 * s) 0 (0 ∷ (0 ∷ [])) rules writes c.remove_at.ensures.none;
        content = λ j first last other. ((only_file geometry old new d rules.sound.fits writes.alone c.requires.directory.is.first).others j first last other).content;
      };
      bytes = writes.body ∙ ap (λ m. spliced (body geometry old d) (16 * m) (0 ∷ (0 ∷ []))) (sym c.requires.slot);
      slot = changes_slot geometry old new d s (option_map (λ (i : ℕ). (name, i)) (get (names_of (slots geometry old d)) name)) None is
          (kind ∙ c.requires.directory.is.kind) (ap (λ n. n % 16) c.remove_at.ensures.size ∙ c.requires.directory.slots) named.entry
          (removes geometry old new rules.blocks d s file rules.sound c.requires.directory.slots named.within writes);
      beside = directory_beside geometry old new d rules.sound.fits writes.alone c.requires.directory.is.first kind;
      once = c.remove_at.ensures.once;
      unused = λ j first last. file_unused geometry old new d j rules.sound.fits writes.alone
          (λ free. absurd (cc (free, c.requires.directory.is.kind))) c.requires.directory.is.first first last;
    }
