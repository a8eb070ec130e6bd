use Rattle.std.proofs.Common.{◌≡◌, ◌≤◌, ◌-◌, ◌/◌, ◌∙◌, ◌&&◌, not, length, min, ap, arith}
use Rattle.std.specs.Int.{div_ceil}
use Rattle.vol_losses.specs.Losses.{is_lost}
use Rattle.vol_losses.proofs.BadMarks.{blocks_in}
use Rattle.vol_losses.proofs.bad_images.unmark.Goals as goal

pub returns-clause-marks : goal.returns-clause-marks
returns-clause-marks c = λ j inside.
    let range = c.args.range.now in
    let from = c.saturating_sub-from.result in
    let stop = c.min-end.result in
    let from_is : from ≡ div_ceil range.first 512 - c.args.at = c.saturating_sub-from.ensures ∙ ap (λ n. n - c.args.at) c.div_ceil.ensures in
    let stop_is : stop ≡ min (range.end / 512 - c.args.at) (length c.args.unread.now) = c.min-end.ensures ∙ ap (λ n. min n (length c.args.unread.now)) c.saturating_sub.ensures in
    let past : stop ≤ c.loop-k.k = omega arith in
    c.loop-k.invariant.marks j inside
    ∙ ap (λ b. is_lost c.args.unread.now j && not b)
    (blocks_in range.first range.end c.args.at from stop c.loop-k.k (length c.args.unread.now) j from_is stop_is past c.loop-k.invariant.top inside)
