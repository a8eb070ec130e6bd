use Rattle.std.proofs.Common.{◌≡◌, ◌<◌, take, drop, ◌++◌, get_or, length, refl, arith}
use Rattle.std.proofs.lemmas.List.{get_or_read_under}
use Rattle.vol_judge.specs.DirectoryTree.{NotesParentsBefore}
use Rattle.vol_judge.proofs.Counts.{counts_next, counts_past}
use Rattle.vol_judge.proofs.Once.{marks_written}
use Rattle.vol_judge.proofs.Parented.{again_next}
use Rattle.vol_judge.proofs.directories.entered.Entered.note.Goals as goal

pub returns-then-i-geometry : goal.returns-then-i-geometry
returns-then-i-geometry c =
    let notes = c.requires.next.1 in
    let next = c.requires.next.2 in
    let place = c.requires.next.0 in
    let counts = notes.counts in
    let old = c.args.self.now.parents in
    let items = c.args.self.now.counts.items in
    let i = c.args.entry.now.slot.inode in
    let noted : NotesParentsBefore c.args.geometry.now c.args.image.now c.args.ups.now place c.deref_mut.result.now = rw c.deref_mut.ensures.value notes.parents in
    let parents = c.note_parent-found.new.parents in
    let kept : take old.len (parents ++ drop (length parents) old.items) ≡ parents =
    marks_written old.len parents old.items (omega (arith, c.note_parent-found.auto.parents, c.deref_mut.ensures.len)) in
    let found = again_next c.args.self.now.again c.note_parent-found.result c.first_of-self.result c.first_of-self.ensures.none c.first_of-self.ensures.some
    noted next notes.once notes.again c.note_parent-found.ensures.fresh c.note_parent-found.ensures.again in
    let room : i < length items = omega (arith, c.if-i-geometry.true, counts.room) in
    let read : c.index_mut.result.now ≡ get_or items i 0 =
    get_or_read_under items i (length items) c.index_mut.result.now 0 c.index_mut.ensures.value room refl in
    record {
      parents = rw kept (c.note_parent-found.ensures.noted place noted next);
      once = found.0;
      again = found.1;
      counts = rw read (counts_next counts next room);
    }

pub returns-else-i-geometry : goal.returns-else-i-geometry
returns-else-i-geometry c =
    let notes = c.requires.next.1 in
    let next = c.requires.next.2 in
    let place = c.requires.next.0 in
    let old = c.args.self.now.parents in
    let noted : NotesParentsBefore c.args.geometry.now c.args.image.now c.args.ups.now place c.deref_mut.result.now = rw c.deref_mut.ensures.value notes.parents in
    let parents = c.note_parent-found.new.parents in
    let kept : take old.len (parents ++ drop (length parents) old.items) ≡ parents =
    marks_written old.len parents old.items (omega (arith, c.note_parent-found.auto.parents, c.deref_mut.ensures.len)) in
    let found = again_next c.args.self.now.again c.note_parent-found.result c.first_of-self.result c.first_of-self.ensures.none c.first_of-self.ensures.some
    noted next notes.once notes.again c.note_parent-found.ensures.fresh c.note_parent-found.ensures.again in
    record {
      parents = rw kept (c.note_parent-found.ensures.noted place noted next);
      once = found.0;
      again = found.1;
      counts = counts_past notes.counts next (omega (arith, c.if-i-geometry.false));
    }
