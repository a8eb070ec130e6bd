use Rattle.std.proofs.Common.{subst, sym, arith, rules}
use Rattle.std.proofs.lemmas.Grind.{common_steps}
use Rattle.vol_dir.specs.Entries.{IsDirectory}
use Rattle.vol_judge.specs.Steps.{rank}
use Rattle.vol_judge.proofs.Counts.{counts_first, counts_all}
use Rattle.vol_judge.proofs.NotedEntries.{noted_at, next_found, past_all}
use Rattle.vol_judge.proofs.Parented.{parents_first, once_first, again_all, parents_all, parents_known}
use Rattle.vol_judge.proofs.directories.entered.note_entries.Goals as goal

pub loop-entry-init : goal.loop-entry-init
loop-entry-init c = record {
  first = omega arith;
  notes = record {
    place = rank 1 0;
    notes = record {
      parents = parents_first c.args.geometry.now c.args.image.now c.args.ups.now _ c.in_ok-parents.parents.items (search rules) (λ i. grind (arith, common_steps)) (omega arith);
      once = once_first c.args.geometry.now c.args.image.now _ (omega arith);
      again = tt;
      counts = counts_first c.args.geometry.now c.args.image.now c.in_ok-counts.counts.items _ (search rules) (λ i. grind (arith, common_steps)) (omega arith);
    };
    reached = omega arith;
    passed = λ e t i name has before. omega (arith, before);
  };
  marks = c.requires.marks;
}

pub note-requires-clause-next : goal.note-requires-clause-next
note-requires-clause-next c = next_found c.in-Some.entry.slot c.loop-entry.invariant.notes c.in-Some.ensures.next

pub note_rest-place-requires-clause-directory : goal.note_rest-place-requires-clause-directory
note_rest-place-requires-clause-directory c =
    subst (IsDirectory c.args.geometry.now c.args.image.now) (sym c.next_place.ensures.directory) c.in-Some.ensures.next.entry.directory

pub note_rest-place-requires-clause-low : goal.note_rest-place-requires-clause-low
note_rest-place-requires-clause-low c = omega (arith, c.next_place.ensures.slot, c.in-Some.ensures.next.low)

pub note_rest-place-requires-clause-notes : goal.note_rest-place-requires-clause-notes
note_rest-place-requires-clause-notes c = rw (c.next_place.ensures.directory, c.next_place.ensures.slot) (noted_at c.note.ensures)

pub loop-entry-preserved : goal.loop-entry-preserved
loop-entry-preserved c = record {
  first = omega (arith, c.note_rest-place.ensures.directory, c.next_place.ensures.directory, c.in-Some.ensures.next.entry.directory.first);
  notes = rw c.note_rest-place.ensures.directory c.note_rest-place.ensures.notes;
  marks = c.in-Some.ensures.marks;
}

pub returns-clause-parents : goal.returns-clause-parents
returns-clause-parents c =
    let notes = c.loop-entry.invariant.notes in parents_all notes.notes.parents (past_all notes c.in_default.ensures.next)

pub returns-clause-known : goal.returns-clause-known
returns-clause-known c = λ once.
    let notes = c.loop-entry.invariant.notes in parents_known (parents_all notes.notes.parents (past_all notes c.in_default.ensures.next)) once

pub returns-clause-again : goal.returns-clause-again
returns-clause-again c =
    let notes = c.loop-entry.invariant.notes in
    again_all c.loop-entry.found.again notes.notes.once notes.notes.again (past_all notes c.in_default.ensures.next)

pub returns-clause-counts : goal.returns-clause-counts
returns-clause-counts c =
    let notes = c.loop-entry.invariant.notes in counts_all notes.notes.counts (past_all notes c.in_default.ensures.next)
