use Rattle.std.proofs.Common.{◌≡◌, ◌+◌, ◌*◌, ℕ, ap, sym, ◌∙◌, arith}
use Rattle.count_table.specs.Sums.{below}
use Rattle.count_table.proofs.Totals.{below_more, below_none}
use Rattle.vol_layout.specs.Slot.{slot_at}
use Rattle.vol_dir.specs.Entries.{entry_in}
use Rattle.vol_check.specs.Slots.{entry_weight, block_sum}
use Rattle.vol_check.proofs.AddedMarks.{adds_none, adds_then, adds_as}
use Rattle.vol_check.proofs.LevelLaws.{spread, no_times}
use Rattle.vol_check.proofs.entry_counts.count_block.Goals as goal

pub loop-s-init : goal.loop-s-init
loop-s-init c =
    let g = c.args.geometry.now in
    let image = c.args.image.now in
    let n = c.args.n in
    adds_none c.args.tally.now c.args.seat.now
    (λ weight. n.times * below (λ t. entry_weight g weight (entry_in (slot_at image (512 * n.number + 16 * t)))) 0) c.requires.own
    (λ weight. ap (λ x. n.times * x) (below_none (λ t. entry_weight g weight (entry_in (slot_at image (512 * n.number + 16 * t))))) ∙ no_times n.times)

pub loop-s-preserved : goal.loop-s-preserved
loop-s-preserved c =
    let g = c.args.geometry.now in
    let image = c.args.image.now in
    let n = c.args.n in
    let s = c.loop-s.s in
    let slot = c.read-slot.result in
    let read = c.read-slot.ensures ∙ ap (λ xs. slot_at xs (512 * n.number + 16 * s)) c.as_bytes.ensures in
    adds_then c.args.tally.now c.args.seat.now c.loop-s.seat c.count_slot.new.seat
    (λ weight. n.times * below (λ t. entry_weight g weight (entry_in (slot_at image (512 * n.number + 16 * t)))) s)
    (λ weight. n.times * entry_weight g weight (entry_in slot))
    (λ weight. n.times * below (λ t. entry_weight g weight (entry_in (slot_at image (512 * n.number + 16 * t)))) (s + 1))
    c.loop-s.invariant c.count_slot.ensures
    (λ weight.
    let f : ℕ → ℕ = λ t. entry_weight g weight (entry_in (slot_at image (512 * n.number + 16 * t))) in
    ap (λ x. n.times * x) (below_more f s ∙ ap (λ x. below f s + entry_weight g weight (entry_in x)) (sym read))
    ∙ spread n.times (below f s) (entry_weight g weight (entry_in slot)))

pub returns : goal.returns
returns c =
    let g = c.args.geometry.now in
    let image = c.args.image.now in
    let n = c.args.n in
    let end : c.loop-s.s ≡ 32 = omega (arith, c.loop-s-test.false, c.loop-s.auto.s-end) in
    adds_as c.args.tally.now c.args.seat.now c.loop-s.seat
    (λ weight. n.times * below (λ t. entry_weight g weight (entry_in (slot_at image (512 * n.number + 16 * t)))) c.loop-s.s)
    (λ weight. n.times * block_sum image (entry_weight g weight) n.number) c.loop-s.invariant
    (λ weight. ap (λ k. n.times * below (λ t. entry_weight g weight (entry_in (slot_at image (512 * n.number + 16 * t)))) k) (sym end))
