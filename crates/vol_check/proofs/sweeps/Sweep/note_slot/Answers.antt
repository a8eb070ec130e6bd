use Rattle.std.proofs.Common.{◌*◌, ◌∙◌, sym, ap, if◌then◌else◌, nat_le, Some, refl}
use Rattle.std.proofs.lemmas.Result.{IfOk-weaker}
use Rattle.count_table.specs.Sums.{total}
use Rattle.count_table.specs.Views.{mark}
use Rattle.vol_dir.specs.Entries.{entry_in}
use Rattle.vol_reports.specs.Words.{entry_word}
use Rattle.vol_reports.specs.Placed.{Placed}
use Rattle.vol_reports.specs.Ncheck.{entered}
use Rattle.vol_check.specs.declared.checker.Checker.{Checker}
use Rattle.vol_check.specs.Slots.{slot_weight, slot_kept, entry_weight, name_weight}
use Rattle.vol_check.specs.Notes.{Notes}
use Rattle.vol_check.proofs.Noted.{notes_none, notes_marks, notes_as, blank_weight, blank_kept, slot_none, slot_some}
use Rattle.vol_check.proofs.AddedMarks.{adds_as}
use Rattle.vol_check.proofs.LevelLaws.{one_time}
use Rattle.vol_check.proofs.sweeps.Sweep.note_slot.Goals as goal

pub returns-then-slot-eq0-clause-ok : goal.returns-then-slot-eq0-clause-ok
returns-then-slot-eq0-clause-ok c =
    let checker = c.args.self.now.checker in
    let g = c.args.geometry.now in
    let none = slot_none c.args.slot c.if-slot-eq0.true in
    notes_none c.args.self.now.tally c.args.seat.now (λ weight. slot_weight checker g weight c.args.d c.args.s (entry_in c.args.slot))
    (λ weight. slot_kept checker weight c.args.d c.args.s (entry_in c.args.slot)) c.requires.own
    (λ weight. ap (slot_weight checker g weight c.args.d c.args.s) none ∙ blank_weight checker g weight c.args.d c.args.s)
    (λ weight. ap (slot_kept checker weight c.args.d c.args.s) none ∙ blank_kept checker weight c.args.d c.args.s)

pub returns-in-Blocks-clause-ok : goal.returns-in-Blocks-clause-ok
returns-in-Blocks-clause-ok c =
    let g = c.args.geometry.now in
    let is = c.in-Blocks.is in
    notes_none c.args.self.now.tally c.args.seat.now (λ weight. slot_weight c.args.self.now.checker g weight c.args.d c.args.s (entry_in c.args.slot))
    (λ weight. slot_kept c.args.self.now.checker weight c.args.d c.args.s (entry_in c.args.slot)) c.requires.own
    (λ weight. ap (λ (k : Checker). slot_weight k g weight c.args.d c.args.s (entry_in c.args.slot)) is)
    (λ weight. ap (λ (k : Checker). slot_kept k weight c.args.d c.args.s (entry_in c.args.slot)) is)

pub returns-in-Entries-clause-ok : goal.returns-in-Entries-clause-ok
returns-in-Entries-clause-ok c =
    let g = c.args.geometry.now in
    let slot = c.args.slot in
    let is = c.in-Entries.is in
    let some = slot_some slot c.if-slot-eq0.false in
    notes_marks c.args.self.now.tally c.args.seat.now _ (λ weight. slot_weight c.args.self.now.checker g weight c.args.d c.args.s (entry_in slot))
    (λ weight. slot_kept c.args.self.now.checker weight c.args.d c.args.s (entry_in slot))
    (adds_as c.args.self.now.tally c.args.seat.now.seat c.count_entry.new.seat
    (λ weight. 1 * (if nat_le slot.inode g.last_inode then weight (mark (entry_word slot.inode) 1) else 0))
    (λ weight. slot_weight c.args.self.now.checker g weight c.args.d c.args.s (entry_in slot)) c.count_entry.ensures
    (λ weight. ap (λ (k : Checker). slot_weight k g weight c.args.d c.args.s (entry_in slot)) is ∙ (ap (entry_weight g weight) some
    ∙ sym (one_time (if nat_le slot.inode g.last_inode then weight (mark (entry_word slot.inode) 1) else 0)))))
    refl refl refl refl
    (λ weight. ap (λ (k : Checker). slot_kept k weight c.args.d c.args.s (entry_in slot)) is)

pub returns-in-Names-clause-ok : goal.returns-in-Names-clause-ok
returns-in-Names-clause-ok c =
    let g = c.args.geometry.now in
    let slot = c.args.slot in
    let e = c.new.result in
    let tally = c.args.self.now.tally in
    let is = c.in-Names.is in
    let some = slot_some slot c.if-slot-eq0.false in
    let same = c.new.ensures in
    IfOk-weaker c.keep_entry.result
    (λ x. Notes tally c.args.seat.now c.keep_entry.new.seat (λ weight. name_weight g weight e.directory e.slot (Some (e.name, e.inode)))
    (λ weight. total weight (entered e.directory e.slot (Some (e.name, e.inode)))))
    (λ x. Notes tally c.args.seat.now c.keep_entry.new.seat (λ weight. slot_weight c.args.self.now.checker g weight c.args.d c.args.s (entry_in slot))
    (λ weight. slot_kept c.args.self.now.checker weight c.args.d c.args.s (entry_in slot)))
    (λ x notes. notes_as tally c.args.seat.now c.keep_entry.new.seat (λ weight. name_weight g weight e.directory e.slot (Some (e.name, e.inode)))
    (λ weight. slot_weight c.args.self.now.checker g weight c.args.d c.args.s (entry_in slot))
    (λ weight. total weight (entered e.directory e.slot (Some (e.name, e.inode))))
    (λ weight. slot_kept c.args.self.now.checker weight c.args.d c.args.s (entry_in slot)) notes
    (λ weight. ap (λ (k : Checker). slot_weight k g weight c.args.d c.args.s (entry_in slot)) is
    ∙ (ap (name_weight g weight c.args.d c.args.s) some ∙ sym (ap (λ (p : Placed). name_weight g weight p.directory p.slot (Some (p.name, p.inode))) same)))
    (λ weight. ap (λ (k : Checker). slot_kept k weight c.args.d c.args.s (entry_in slot)) is
    ∙ (ap (λ x. total weight (entered c.args.d c.args.s x)) some ∙ sym (ap (λ (p : Placed). total weight (entered p.directory p.slot (Some (p.name, p.inode)))) same))))
    c.keep_entry.ensures.ok
