use Rattle.std.proofs.Common.{◌+◌, ◌*◌, ◌∙◌, ℕ, sym, ap, arith}
use Rattle.vol_layout.specs.Slot.{slot_at}
use Rattle.vol_dir.specs.Entries.{entry_in}
use Rattle.count_table.specs.Sums.{below}
use Rattle.count_table.proofs.Totals.{below_more, below_none}
use Rattle.vol_check.specs.LineCounts.{named_one}
use Rattle.vol_check.proofs.LineCounts.{few_in, few_names}
use Rattle.vol_check.proofs.memory_check.count_slots.Goals as goal

pub loop-s-init : goal.loop-s-init
loop-s-init c = sym (below_none (λ t. named_one (entry_in (slot_at c.args.image.now (512 * c.args.k + 16 * t)))))

pub overflow_add-count : goal.overflow_add-count
overflow_add-count c =
    let all = few_names (λ t. entry_in (slot_at c.args.image.now (512 * c.args.k + 16 * t))) c.loop-s.s in
    let one = few_in (entry_in c.read-slot.result) in
    omega (arith, all, one, c.count_slot-count.ensures, c.loop-s.invariant, c.loop-s.auto.s-end, c.requires.few)

pub loop-s-preserved : goal.loop-s-preserved
loop-s-preserved c =
    let f : ℕ → ℕ = λ t. named_one (entry_in (slot_at c.args.image.now (512 * c.args.k + 16 * t))) in
    let read = c.read-slot.ensures ∙ ap (λ xs. slot_at xs (512 * c.args.k + 16 * c.loop-s.s)) c.as_bytes.ensures in
    let more = below_more f c.loop-s.s in
    let here = ap (λ slot. named_one (entry_in slot)) read in
    omega (arith, more, here, c.count_slot-count.ensures, c.loop-s.invariant)
