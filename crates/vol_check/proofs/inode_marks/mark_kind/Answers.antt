use Rattle.std.proofs.Common.{sym, ap, ◌∙◌}
use Rattle.count_table.specs.Views.{mark}
use Rattle.vol_check.specs.Pieces.{kind_weight}
use Rattle.vol_check.proofs.AddedMarks.{added}
use Rattle.vol_check.proofs.inode_marks.mark_kind.Goals as goal

pub returns-in-Regular : goal.returns-in-Regular
returns-in-Regular c =
    added c.args.tally.now c.args.seat.now c.count.new.seat c.kind_word.result 1 (λ weight. kind_weight c.args.geometry.now weight c.args.kind)
    c.count.ensures.own c.count.ensures.marked
    (λ weight. ap (λ w. weight (mark w 1)) c.kind_word.ensures ∙ sym (ap (kind_weight c.args.geometry.now weight) c.in-Regular.is))

pub returns-in-Directory : goal.returns-in-Directory
returns-in-Directory c =
    added c.args.tally.now c.args.seat.now c.count-in-Directory.new.seat c.kind_word-in-Directory.result 1 (λ weight. kind_weight c.args.geometry.now weight c.args.kind)
    c.count-in-Directory.ensures.own c.count-in-Directory.ensures.marked
    (λ weight. ap (λ w. weight (mark w 1)) c.kind_word-in-Directory.ensures ∙ sym (ap (kind_weight c.args.geometry.now weight) c.in-Directory.is))

pub returns-in-Special : goal.returns-in-Special
returns-in-Special c =
    added c.args.tally.now c.args.seat.now c.count-in-Special.new.seat c.kind_word-in-Special.result 1 (λ weight. kind_weight c.args.geometry.now weight c.args.kind)
    c.count-in-Special.ensures.own c.count-in-Special.ensures.marked
    (λ weight. ap (λ w. weight (mark w 1)) c.kind_word-in-Special.ensures ∙ sym (ap (kind_weight c.args.geometry.now weight) c.in-Special.is))

pub returns-in-Odd : goal.returns-in-Odd
returns-in-Odd c =
    added c.args.tally.now c.args.seat.now c.count-in-Odd.new.seat c.kind_word-in-Odd.result 1 (λ weight. kind_weight c.args.geometry.now weight c.args.kind)
    c.count-in-Odd.ensures.own c.count-in-Odd.ensures.marked
    (λ weight. ap (λ w. weight (mark w 1)) c.kind_word-in-Odd.ensures ∙ sym (ap (kind_weight c.args.geometry.now weight) c.in-Odd.is))
