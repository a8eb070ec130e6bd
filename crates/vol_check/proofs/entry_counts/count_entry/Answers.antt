use Rattle.std.proofs.Common.{◌*◌, ◌∙◌, sym, ap, if◌then◌else◌, nat_le}
use Rattle.std.proofs.lemmas.Bool.{le-leb}
use Rattle.count_table.specs.Views.{mark}
use Rattle.vol_reports.specs.Words.{entry_word}
use Rattle.vol_check.proofs.AddedMarks.{added_times}
use Rattle.vol_check.proofs.entry_counts.count_entry.Goals as goal

pub returns-then-i-geometry : goal.returns-then-i-geometry
returns-then-i-geometry c =
    let i = c.args.i in
    let g = c.args.geometry.now in
    let n = c.args.times in
    let few = le-leb i g.last_inode c.if-i-geometry.true in
    added_times c.args.tally.now c.args.seat.now c.count_times.new.seat c.entry_word.result 1 n n
    (λ weight. n * (if nat_le i g.last_inode then weight (mark (entry_word i) 1) else 0)) c.count_times.ensures.own c.count_times.ensures.marked
    (λ weight. ap (λ w. n * weight (mark w 1)) c.entry_word.ensures ∙ sym (ap (λ t. n * (if t then weight (mark (entry_word i) 1) else 0)) few))
