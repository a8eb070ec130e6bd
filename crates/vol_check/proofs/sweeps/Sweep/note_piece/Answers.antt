use Rattle.std.proofs.Common.{◌∙◌, ℕ, List, ap, subst, slice_index, arith}
use Rattle.std.proofs.lemmas.Result.{IfOk-weaker}
use Rattle.vol_check.specs.Parts.{IsPart}
use Rattle.vol_check.specs.Slots.{slot_weight, slot_kept, part_sum}
use Rattle.vol_check.specs.Notes.{Notes}
use Rattle.vol_check.specs.Steps.{Works}
use Rattle.vol_check.proofs.Layouts.{read_fits}
use Rattle.vol_check.proofs.DirectoryPieces.{part_within, note_works}
use Rattle.vol_check.proofs.sweeps.Sweep.note_piece.Goals as goal

pub part_at-part-requires-clause-first : goal.part_at-part-requires-clause-first
part_at-part-requires-clause-first c =
    let parts = (c.args.self.now.shaped.ready c.args.geometry.now c.requires.layout).parts c.requires.checker in
    let value = ap (λ xs. slice_index xs 0) c.deref.ensures.value in omega (arith, parts.first, value)

pub note_part-requires-clause-fits : goal.note_part-requires-clause-fits
note_part-requires-clause-fits c =
    let ready = c.args.self.now.shaped.ready c.args.geometry.now c.requires.layout in
    read_fits c.args.self.now.edition c.args.image.now c.args.geometry.now (c.requires.image.read ∙ c.requires.layout) ready.bounds

pub note_part-requires-clause-within : goal.note_part-requires-clause-within
note_part-requires-clause-within c =
    let g = c.args.geometry.now in
    let starts = c.args.self.now.starts.items in
    part_within g c.args.image.now starts c.args.number c.part_at-part.result (c.requires.image.starts g c.requires.layout c.requires.checker)
    (subst (λ (xs : List ℕ). IsPart xs c.args.number c.part_at-part.result) c.deref.ensures.value c.part_at-part.ensures)

pub returns-clause-ok : goal.returns-clause-ok
returns-clause-ok c =
    let g = c.args.geometry.now in
    let image = c.args.image.now in
    let checker = c.args.self.now.checker in
    let tally = c.args.self.now.tally in
    let part = c.part_at-part.result in
    let starts = c.args.self.now.starts.items in
    IfOk-weaker c.note_part.result
    (λ x. Notes tally c.args.seat.now c.note_part.new.seat (λ weight. part_sum g image (slot_weight checker g weight) part.inode part.index)
    (λ weight. part_sum g image (slot_kept checker weight) part.inode part.index))
    (λ x. Works tally checker g image c.args.number c.args.seat.now c.note_part.new.seat)
    (λ x notes. note_works g image starts c.args.number part (c.requires.image.starts g c.requires.layout c.requires.checker)
    (subst (λ (xs : List ℕ). IsPart xs c.args.number part) c.deref.ensures.value c.part_at-part.ensures) tally checker c.args.seat.now c.note_part.new.seat c.requires.checker notes)
    c.note_part.ensures.ok
