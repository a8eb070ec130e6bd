use Rattle.std.proofs.Common.{◌≡◌, ℕ, ◌-◌, ◌*◌, List, None, true}
use Rattle.std.specs.Prelude.{Option, Bool}
use Rattle.vol_dir.specs.Repeats.{MarksSlots, PassSlots}
use Rattle.vol_dir.proofs.repeats.next_unmarked.Given as goal

-- Invariant: the slots before logical block `b` have been read, and all slots below marked blocks pass each test that these slots pass.
abbrev pub invariant-loop-b : goal.invariant-loop-b
invariant-loop-b l = (test : Option (List ℕ × ℕ) → Bool) → test None ≡ true → MarksSlots test l.geometry l.image l.fn.marks
    → PassSlots test l.geometry l.image l.dir l.known l.from
    → MarksSlots test l.geometry l.image l.marks × PassSlots test l.geometry l.image l.dir l.from (32 * l.b)

abbrev pub decreases-loop-b : goal.decreases-loop-b
decreases-loop-b l = 4294967296 - l.b
