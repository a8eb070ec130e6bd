-- Invariant: the slots before `s` are raised.
use Rattle.std.proofs.Common.{◌≡◌, ℕ, ◌*◌, ◌<◌, get_or}
use Rattle.vol_migrate.specs.Stages.{raised_byte}
use Rattle.vol_migrate.proofs.slots.raised_slots.Given as goal

abbrev pub invariant-loop-s : goal.invariant-loop-s
invariant-loop-s l = (x : ℕ) → x < 16 * l.s → get_or l.raised x 0 ≡ raised_byte l.fn.text x
