use Rattle.std.proofs.Common.{◌≡◌, ℕ, ◌<◌, ◌≤◌, true}
use Rattle.std.specs.Prelude.{Bool}
use Rattle.vol_layout.specs.BlockPointers.{named, form_at, stored}
use Rattle.vol_layout.specs.BlockMaps.{place_to}
use Rattle.vol_file.specs.Repeats.{MarksPassed}
use Rattle.vol_file.proofs.repeats.mark_passed.Given as goal

-- Invariant: `block` is the block reached by the first `d` entries, and everything below marked blocks passes the test.
abbrev pub invariant-loop-d : goal.invariant-loop-d
invariant-loop-d l = record {
  block : l.block ≡ named l.geometry l.image l.i (place_to l.way.address l.way.entries l.d);
  marks : (test : ℕ → ℕ → Bool) → MarksPassed test l.geometry l.image l.fn.marks
      → ((t part : ℕ) → l.from ≤ t → t < l.to → test (stored l.geometry l.image l.i (form_at l.geometry l.image l.i) t) part ≡ true)
      → MarksPassed test l.geometry l.image l.marks;
}
