use Rattle.std.proofs.Common.{refl}
use Rattle.vol_inspect.specs.Lost.{is_noted}
use Rattle.vol_inspect.proofs.LostNames.{notes_none, notes_next, notes_all}
use Rattle.vol_inspect.proofs.lost.note_directory.Goals as goal

pub loop-s-init : goal.loop-s-init
loop-s-init c = notes_none c.args.geometry.now c.args.image.now c.args.d c.args.named.now c.args.marks.now c.requires.marks

pub loop-s-preserved : goal.loop-s-preserved
loop-s-preserved c =
    let notes = c.loop-s.invariant in
    let test = is_noted c.loop-s.named in
    notes_next c.args.geometry.now c.args.image.now c.args.d c.loop-s.from c.in-Some.s c.in-Some.slot c.args.named.now c.loop-s.named c.note_named.new.named
    c.loop-s.marks c.next_unmarked.new.marks c.requires.directory notes c.in-Some.ensures.found
    (c.in-Some.ensures.passed test refl notes.marked notes.passed) (c.in-Some.ensures.marks test refl notes.marked notes.passed)
    c.note_named.ensures.room c.note_named.ensures.kept c.note_named.ensures.noted c.note_named.ensures.only

pub returns-clause-noted : goal.returns-clause-noted
returns-clause-noted c =
    let notes = c.loop-s.invariant in
    notes_all c.args.geometry.now c.args.image.now c.args.d c.loop-s.from c.args.named.now c.loop-s.named c.loop-s.marks notes
    (c.in_default.ensures.passed (is_noted c.loop-s.named) refl notes.marked notes.passed)

pub returns-clause-marks : goal.returns-clause-marks
returns-clause-marks c =
    let notes = c.loop-s.invariant in c.in_default.ensures.marks (is_noted c.loop-s.named) refl notes.marked notes.passed
