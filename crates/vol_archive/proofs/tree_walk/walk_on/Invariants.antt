use Rattle.std.proofs.Common.{◌^◌, ◌-◌, List, length}
use Rattle.std.specs.Prelude.{reverse}
use Rattle.vol_archive.specs.Walk.{Walks}
use Rattle.vol_archive.specs.Marks.{AreFirsts}
use Rattle.vol_archive.specs.declared.met_entries.MetEntry.{MetEntry}
use Rattle.vol_archive.proofs.tree_walk.walk_on.Given as goal

-- Invariant: the marks are those of the visited entries, and the rest of the walk from here ends as the whole walk does.
abbrev pub invariant-entries : goal.invariant-entries
invariant-entries l = record {
  firsts : AreFirsts l.geometry l.firsts.items l.founds.items;
  goes : (all : List MetEntry) → Walks l.geometry l.image l.start l.founds.items (reverse l.pending.items) all
      → Walks l.geometry l.image l.start l.initial.founds.items (reverse l.initial.pending.items) all;
}

abbrev pub decreases-entries : goal.decreases-entries
decreases-entries l = 2 ^ 64 - length l.founds.items
