use Rattle.std.proofs.Common.{◌≡◌, inl, inr, refl}
use Rattle.vol_layout.specs.Slot.{name_of}
use Rattle.vol_dir.specs.NameKeys.{key_of}
use Rattle.vol_judge.specs.DirectoryNames.{is_in}
use Rattle.vol_judge.proofs.Decisions.{not_true, not_false}
use Rattle.vol_judge.proofs.CollectedNames.{below_next, names_next, named_before, twice, all_below}
use Rattle.vol_dir.proofs.NextEntries.{entry_next}
use Rattle.vol_judge.proofs.FirstEntries.{below_reached, named_reached}
use Rattle.vol_judge.proofs.entries.find_in.Goals as goal

pub returns-in-Some-find_wrong-clause-found : goal.returns-in-Some-find_wrong-clause-found
returns-in-Some-find_wrong-clause-found c =
    let next = c.in-Some.ensures.next in
    let found = c.in-Some-find_wrong.ensures in (
      inr (
        c.in-Some.s,
        record {
          name = name_of c.in-Some.slot.name;
          inode = c.in-Some.slot.inode;
          whole = c.loop-s.invariant.whole;
          below = below_reached c.loop-s.invariant.below next;
          entry = entry_next next;
          wrong = inl found.0;
        },
      ),
      λ rule. found.1 (rule.entries c.in-Some.s c.in-Some.slot.inode (name_of c.in-Some.slot.name) (entry_next next)),
    )

pub returns-then-not-branch-clause-found : goal.returns-then-not-branch-clause-found
returns-then-not-branch-clause-found c =
    let next = c.in-Some.ensures.next in
    let key : c.name_key.result ≡ key_of (name_of c.in-Some.slot.name) = c.name_key.ensures.key in
    let there = rw key at (not_false c.in_ok-insert.field-0 (is_in c.loop-s.names c.name_key.result) c.in_ok-insert.ensures.added c.if-not-branch.true) in
    let had = named_before (name_of c.in-Some.slot.name) c.loop-s.invariant.names c.name_key.ensures.stored there in (
      inr (
        c.in-Some.s,
        record {
          name = name_of c.in-Some.slot.name;
          inode = c.in-Some.slot.inode;
          whole = c.loop-s.invariant.whole;
          below = below_reached c.loop-s.invariant.below next;
          entry = entry_next next;
          wrong = inr (refl, c.in_default-find_wrong.ensures, named_reached had next);
        },
      ),
      twice had next,
    )

pub loop-s-preserved : goal.loop-s-preserved
loop-s-preserved c =
    let next = c.in-Some.ensures.next in
    let key : c.name_key.result ≡ key_of (name_of c.in-Some.slot.name) = c.name_key.ensures.key in
    let new = rw key at (not_true c.in_ok-insert.field-0 (is_in c.loop-s.names c.name_key.result) c.in_ok-insert.ensures.added c.if-not-branch.false) in
    record {
      whole = c.loop-s.invariant.whole;
      below = below_next c.loop-s.invariant.below c.loop-s.invariant.names next c.in_default-find_wrong.ensures new;
      names = names_next c.loop-s.invariant.names next c.name_key.ensures.stored (rw key at c.in_ok-insert.ensures.updates);
      marks = c.in-Some.ensures.marks;
    }

pub returns-clause-found : goal.returns-clause-found
returns-clause-found c = all_below c.loop-s.invariant.whole c.loop-s.invariant.below c.in_default.ensures.next
