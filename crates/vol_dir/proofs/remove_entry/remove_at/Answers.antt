use Rattle.std.proofs.Common.{◌/◌, ◌∙◌, sym, subst, ap, None, ◌*◌, List, ℕ, arith, [], ◌∷◌}
use Rattle.vol_file.specs.Changes.{Writes}
use Rattle.vol_file.specs.Need.{need}
use Rattle.vol_file.specs.Rules.{Rules3To7With}
use Rattle.vol_dir.specs.Entries.{slots}
use Rattle.vol_dir.specs.Names.{names_of, names_in}
use Rattle.vol_dir.proofs.Searches.{slots_low}
use Rattle.vol_dir.proofs.NameMaps.{names_cleared, names_in_cleared}
use Rattle.vol_dir.proofs.GoneEntries.{stands_in, needs_none, held_zone, removes, slots_cleared, once_removed}
use Rattle.vol_dir.proofs.PutSlots.{Replaces, slots_with, same_slots}
use Rattle.vol_dir.proofs.remove_entry.remove_at.Goals as goal

pub overflow_mul-slot : goal.overflow_mul-slot
overflow_mul-slot c =
    let geometry = c.args.geometry.now in
    let old = c.args.image.now in
    let d = c.args.dir in
    let name = c.args.name.now in
    let s = c.args.slot in
    let first = stands_in geometry old name d s c.requires.slot c.requires.there in
    let low = slots_low geometry old d in omega (arith, first.within, low)

pub write-requires-clause-greatest : goal.write-requires-clause-greatest
write-requires-clause-greatest c =
    let geometry = c.args.geometry.now in
    let old = c.args.image.now in
    let d = c.args.dir in
    let name = c.args.name.now in
    let s = c.args.slot in
    let first = stands_in geometry old name d s c.requires.slot c.requires.there in
    omega (arith, first.within)

pub write-requires-clause-room : goal.write-requires-clause-room
write-requires-clause-room c = λ blocks sound.
    let geometry = c.args.geometry.now in
    let old = c.args.image.now in
    let d = c.args.dir in
    let name = c.args.name.now in
    let s = c.args.slot in
    let first = stands_in geometry old name d s c.requires.slot c.requires.there in
    let none = needs_none geometry old d (s / 32) (16 * s) sound.fits (omega arith) (omega arith) (held_zone geometry old name d s first.within first.held) in
    omega (arith, none)

pub returns : goal.returns
returns c =
    let geometry = c.args.geometry.now in
    let old = c.args.image.now in
    let d = c.args.dir in
    let name = c.args.name.now in
    let s = c.args.slot in
    let first = stands_in geometry old name d s c.requires.slot c.requires.there in
    let new = c.write.new.image in
    let has = c.requires.sound in
    let writes : (blocks : List ℕ) → Rules3To7With geometry old blocks → Writes geometry old new d (16 * s) (0 ∷ (0 ∷ [])) blocks =
    λ blocks sound. c.write.ensures.written (omega arith) blocks sound in
    let write = writes has.blocks has.sound in
    let removed : Replaces geometry old new d s None =
    removes geometry old new has.blocks d s c.requires.file has.sound c.requires.whole first.within write in
    let list = slots_with geometry old new d s None removed ∙ slots_cleared geometry old name d s first.within c.requires.once first.held in
    record {
      written = λ blocks sound. subst (λ n. Writes geometry old new d (16 * n) (0 ∷ (0 ∷ [])) blocks) c.requires.slot (writes blocks sound);
      none = ap (λ n. need geometry old d (16 * n) 2) (sym c.requires.slot)
          ∙ needs_none geometry old d (s / 32) (16 * s) has.sound.fits (omega arith) (omega arith) (held_zone geometry old name d s first.within first.held);
      names = ap names_of list ∙ names_cleared (slots geometry old d) name;
      slots = ap names_in list ∙ names_in_cleared (slots geometry old d) name;
      others = λ j other file. same_slots geometry old new j (write.alone.bodies j other file);
      once = once_removed geometry old new d s c.requires.once removed;
      size = let size = write.size in let within = first.within in omega arith;
      sound = c.write.ensures.sound;
      fits = c.write.ensures.fits;
      file = c.write.ensures.file;
    }
