use Rattle.std.proofs.Common.{◌≡◌, ◌+◌, ◌==◌, ◌≤◌, length}
use Rattle.std.specs.List.{slice_split}
use Rattle.line_words.proofs.PieceLemmas.{space}
use Rattle.pack_lists.specs.Drafts.{blank, drafted, with_lines}
use Rattle.pack_lists.proofs.list.read_lines.Given as goal

-- Invariant: the list in the text is the list so far with the remaining lines, the first of which has this number.
abbrev pub invariant-lines : goal.invariant-lines
invariant-lines l = record {
  same : with_lines 1 blank (slice_split (λ b. b == 10) l.text) ≡ with_lines l.number (drafted l.draft) l.lines;
  within : l.number + space l.lines ≤ length l.text + 2;
}

abbrev pub decreases-lines : goal.decreases-lines
decreases-lines l = length l.lines
