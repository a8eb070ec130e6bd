use Rattle.std.proofs.Common.{◌≤◌, ◌∙◌, sym, ap, if◌then◌else◌, nat_le, arith}
use Rattle.std.proofs.lemmas.Bool.{le-leb}
use Rattle.count_table.specs.Views.{mark}
use Rattle.vol_judge.specs.Steps.{rank}
use Rattle.vol_reports.specs.Words.{name_word}
use Rattle.vol_check.proofs.AddedMarks.{added}
use Rattle.vol_check.proofs.slots.give_rank.Goals as goal

pub returns-then-inode-geometry : goal.returns-then-inode-geometry
returns-then-inode-geometry c =
    let e = c.args.entry.now in
    let g = c.args.geometry.now in
    let low : e.inode ≤ g.last_inode = omega (arith, c.if-inode-geometry.true, c.inode.ensures) in
    let few = le-leb e.inode g.last_inode low in
    let word = c.name_word.ensures ∙ c.inode-then-inode-geometry.ensures in
    let place = c.rank-place.ensures ∙ (ap (λ d. rank d c.slot.result) c.directory.ensures ∙ ap (rank e.directory) c.slot.ensures) in
    added c.args.tally.now c.args.seat.now c.lower.new.seat c.name_word.result c.rank-place.result
    (λ weight. if nat_le e.inode g.last_inode then weight (mark (name_word e.inode) (rank e.directory e.slot)) else 0)
    c.lower.ensures.own c.lower.ensures.marked
    (λ weight. ap (λ w. weight (mark w c.rank-place.result)) word ∙ (ap (λ a. weight (mark e.inode a)) place
    ∙ sym (ap (λ t. if t then weight (mark (name_word e.inode) (rank e.directory e.slot)) else 0) few)))
