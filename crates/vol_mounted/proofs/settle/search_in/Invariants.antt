-- Invariant of `search_in`: no slot before `from` has a name of the node.
use Rattle.std.proofs.Common.{◌≡◌, ◌-◌, ◌^◌}
use Rattle.vol_dir.specs.Entries.{entry_at, slot_count}
use Rattle.vol_mounted.specs.Records.{first_value, name_for}
use Rattle.vol_mounted.proofs.settle.search_in.Given as goal

abbrev pub invariant-slots : goal.invariant-slots
invariant-slots l =
    first_value (λ s. name_for l.i (entry_at l.geometry l.image l.dir s)) 0 (slot_count l.geometry l.image l.dir)
    ≡ first_value (λ s. name_for l.i (entry_at l.geometry l.image l.dir s)) l.from (slot_count l.geometry l.image l.dir - l.from)

abbrev pub decreases-slots : goal.decreases-slots
decreases-slots l = 2 ^ 32 - l.from
