use Rattle.std.proofs.Common.{◌≡◌, ◌≤◌, ◌∙◌, ap, length, Some, ◌*◌, List, ℕ, arith}
use Rattle.vol_file.specs.Changes.{Writes}
use Rattle.vol_file.specs.Rules.{Rules3To7With}
use Rattle.vol_dir.specs.EntryEdits.{slot_bytes}
use Rattle.vol_dir.specs.Entries.{slots}
use Rattle.vol_dir.specs.Names.{names_of, names_in}
use Rattle.vol_dir.specs.Search.{new_slot}
use Rattle.vol_dir.proofs.Searches.{slots_low}
use Rattle.vol_dir.proofs.NameMaps.{none_held, names_with, names_in_with}
use Rattle.vol_dir.proofs.NewEntries.{adds, new_empty, new_within, once_added, writes_as, length-slot_bytes}
use Rattle.vol_dir.proofs.PutSlots.{Replaces, slots_with, same_slots}
use Rattle.vol_dir.proofs.ReadSlots.{length-slots}
use Rattle.vol_dir.proofs.add_entry.add_at.Goals as goal

pub returns : goal.returns
returns c =
    let geometry = c.args.geometry.now in
    let old = c.args.image.now in
    let new = c.write.new.image in
    let d = c.args.dir in
    let name = c.args.name.now in
    let s = new_slot (names_in (slots geometry old d)) in
    let has = c.requires.sound in
    let text : c.to_bytes.result ≡ slot_bytes name c.args.i =
    c.to_bytes.ensures.bytes ∙ rw (c.new.ensures.inode, c.new.ensures.name) in
    let some : 1 ≤ length c.to_bytes.result =
    let sixteen = length-slot_bytes name c.args.i c.requires.short in omega (arith, ap length text, sixteen) in
    let written : (blocks : List ℕ) → Rules3To7With geometry old blocks → Writes geometry old new d (16 * s) (slot_bytes name c.args.i) blocks = λ blocks sound.
    writes_as geometry old new blocks d (16 * c.args.slot) (16 * s) c.to_bytes.result (slot_bytes name c.args.i) (ap (λ n. 16 * n) c.requires.slot) text
    (c.write.ensures.written some blocks sound) in
    let writes = written has.blocks has.sound in
    let added : Replaces geometry old new d s (Some (name, c.args.i)) =
    adds geometry old new has.blocks name d c.args.i c.requires.file has.sound c.requires.whole c.requires.short c.requires.text c.requires.inode
    c.requires.greatest writes in
    record {
      written = written;
      names = ap names_of (slots_with geometry old new d s (Some (name, c.args.i)) added)
          ∙ names_with (slots geometry old d) s c.args.i name (let len = length-slots geometry old d in let within = new_within geometry old d in omega arith)
          (new_empty geometry old d) (none_held (slots geometry old d) name c.requires.new);
      slots = ap names_in (slots_with geometry old new d s (Some (name, c.args.i)) added) ∙ names_in_with (slots geometry old d) s (Some (name, c.args.i));
      others = λ j other file. same_slots geometry old new j (writes.alone.bodies j other file);
      once = once_added geometry old new name d s c.args.i c.requires.once c.requires.new added;
      whole = let size = writes.size in let sixteen = length-slot_bytes name c.args.i c.requires.short in omega (arith, size, sixteen, c.requires.whole);
      sound = c.write.ensures.sound;
      fits = c.write.ensures.fits;
      file = c.write.ensures.file;
    }

pub overflow_mul-at : goal.overflow_mul-at
overflow_mul-at c =
    let within = new_within c.args.geometry.now c.args.image.now c.args.dir in
    let low = slots_low c.args.geometry.now c.args.image.now c.args.dir in
    omega (arith, within, low, c.requires.slot)
