use Rattle.std.proofs.Common.{refl, arith}
use Rattle.std.specs.Option.{is_none}
use Rattle.vol_dir.proofs.RepeatedSlots.{goes_on}
use Rattle.vol_dir.proofs.repeats.next_entry_marked.Goals as goal

pub returns-clause-next : goal.returns-clause-next
returns-clause-next c =
    goes_on c.args.geometry.now c.args.image.now c.args.dir c.args.from c.next_unmarked.result c.next_unmarked.ensures.found
    (c.next_unmarked.ensures.passed (λ entry. is_none entry) refl c.requires.marks (λ t low high within. absurd (omega arith)))

pub returns-clause-marks : goal.returns-clause-marks
returns-clause-marks c = c.next_unmarked.ensures.marks (λ entry. is_none entry) refl c.requires.marks (λ t low high within. absurd (omega arith))
