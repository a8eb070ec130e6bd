-- Invariant of `put_entries`: it has put the entries before `slot`, and the remaining ones are limited to the room that is left.
use Rattle.std.proofs.Common.{◌≡◌, ◌-◌, ◌^◌, ◌≤◌, ◌++◌, vec_len, vec_capacity}
use Rattle.vol_dir.specs.Entries.{entry_at, slot_count}
use Rattle.vol_dir.specs.Tree.{tree}
use Rattle.vol_serve.specs.Attributes.{entry_kind_in}
use Rattle.vol_serve.specs.Listings.{entries_from}
use Rattle.vol_serve.proofs.listing.put_entries.Given as goal

abbrev pub invariant-entries : goal.invariant-entries
invariant-entries l = record {
  rest : entries_from (entry_at l.geometry l.image l.dir) (entry_kind_in (tree l.geometry l.image)) l.fn.from l.size (slot_count l.geometry l.image l.dir - l.fn.from)
      ≡ l.out.items ++ entries_from (entry_at l.geometry l.image l.dir) (entry_kind_in (tree l.geometry l.image)) l.slot (l.size - vec_len l.out) (slot_count l.geometry l.image l.dir - l.slot);
  within : vec_len l.out ≤ l.size;
  capacity : vec_capacity l.fn.out ≤ vec_capacity l.out;
}

abbrev pub decreases-entries : goal.decreases-entries
decreases-entries l = 2 ^ 32 - l.slot
