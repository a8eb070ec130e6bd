use Rattle.std.proofs.Common.{◌≡◌, ◌<◌, ◌∙◌, sym, inl, inr, true, false, None, Some, get_or, length, arith}
use Rattle.std.specs.Option.{option_eq}
use Rattle.std.proofs.Math.Dec.{eqb}
use Rattle.vol_judge.specs.Directories.{root_of}
use Rattle.vol_judge.proofs.Decisions.{holds, fails, not_true, not_false, same_option, other_option}
use Rattle.vol_judge.proofs.Parented.{none_of, parents_kept, parents_noted, once_passed, once_noted, again_root, again_second}
use Rattle.vol_judge.proofs.Parents.{some_number}
use Rattle.vol_judge.proofs.directories.entered.note_parent.Goals as goal
use Rattle.vol_judge.proofs.directories.entered.note_parent.Goals.{else-is_second-via-then-is_second+else-ne, else-is_second-via-else-is_second}

pub returns-then-is_dots-clause-noted : goal.returns-then-is_dots-clause-noted
returns-then-is_dots-clause-noted c = λ place known next.
    parents_kept known next (λ other is root. absurd (let both : true ≡ false = (sym c.if-is_dots.true ∙ c.is_dots.ensures) ∙ other in cc))

pub returns-then-is_dots-clause-fresh : goal.returns-then-is_dots-clause-fresh
returns-then-is_dots-clause-fresh c = λ place known once next.
    once_passed once next (λ other. absurd (let both : true ≡ false = (sym c.if-is_dots.true ∙ c.is_dots.ensures) ∙ other in cc))

pub returns-then-child-constants-clause-noted : goal.returns-then-child-constants-clause-noted
returns-then-child-constants-clause-noted c = λ place known next.
    let number : c.constants.result.root ≡ root_of c.args.geometry.now = rw c.constants.ensures in
    parents_kept known next (λ other is root. absurd (root (c.if-child-constants.true ∙ number)))

pub returns-then-child-constants-clause-again : goal.returns-then-child-constants-clause-again
returns-then-child-constants-clause-again c = λ place known once next.
    let number : c.constants.result.root ≡ root_of c.args.geometry.now = rw c.constants.ensures in
    again_root once next (sym c.is_dots.ensures ∙ c.if-is_dots.false) (c.if-child-constants.true ∙ number)

pub returns-then-not-is_numbered_directory-clause-noted : goal.returns-then-not-is_numbered_directory-clause-noted
returns-then-not-is_numbered_directory-clause-noted c = λ place known next.
    parents_kept known next
    (λ other is root. absurd (fails c.is_numbered_directory.result c.is_numbered_directory.ensures c.if-not-is_numbered_directory.true is))

pub returns-then-not-is_numbered_directory-clause-fresh : goal.returns-then-not-is_numbered_directory-clause-fresh
returns-then-not-is_numbered_directory-clause-fresh c = λ place known once next.
    let number : c.constants.result.root ≡ root_of c.args.geometry.now = rw c.constants.ensures in
    once_passed once next (λ other. (
      λ root. c.if-child-constants.false (root ∙ sym number),
      fails c.is_numbered_directory.result c.is_numbered_directory.ensures c.if-not-is_numbered_directory.true,
    ))

pub returns-then-ne-clause-noted : goal.returns-then-ne-clause-noted
returns-then-ne-clause-noted c = λ place known next.
    let entry = c.args.entry.now in
    let some = sym c.is_some-is_second.ensures ∙ c.if-is_second.true in
    let up = get_or c.args.ups.now entry.slot.inode None in
    let elsewhere = not_true c.ne.result (option_eq eqb up (Some entry.directory)) c.ne.ensures c.if-ne.true in
    parents_kept known next (λ other is root.
    (some_number (get_or c.args.parents.now entry.slot.inode None) some, other_option up entry.directory elsewhere))

pub returns-then-ne-clause-again : goal.returns-then-ne-clause-again
returns-then-ne-clause-again c = λ place known once next.
    let is = holds c.is_numbered_directory.result c.is_numbered_directory.ensures c.if-not-is_numbered_directory.false in
    again_second known once next (sym c.is_dots.ensures ∙ c.if-is_dots.false) is (sym c.is_some-is_second.ensures ∙ c.if-is_second.true)

pub returns-then-is_second-2-clause-noted : goal.returns-then-is_second-2-clause-noted
returns-then-is_second-2-clause-noted c = λ place known next.
    let entry = c.args.entry.now in
    let up = get_or c.args.ups.now entry.slot.inode None in
    let is = holds c.is_numbered_directory.result c.is_numbered_directory.ensures c.if-not-is_numbered_directory.false in
    let room : entry.slot.inode < length c.args.parents.now = omega (arith, is.last, c.requires.room) in
    parents_noted known next room (sym c.is_dots.ensures ∙ c.if-is_dots.false) (elim c.else-is_second.branch [
      | else-is_second-via-then-is_second+else-ne w ↦
          inr (same_option up entry.directory (not_false w.ne.result (option_eq eqb up (Some entry.directory)) w.ne.ensures w.if-ne.false))
      | else-is_second-via-else-is_second w ↦ inl (none_of _ (sym c.is_some-is_second.ensures ∙ w.if-is_second.false))
    ])

pub returns-then-is_second-2-clause-again : goal.returns-then-is_second-2-clause-again
returns-then-is_second-2-clause-again c = λ place known once next.
    let is = holds c.is_numbered_directory.result c.is_numbered_directory.ensures c.if-not-is_numbered_directory.false in
    again_second known once next (sym c.is_dots.ensures ∙ c.if-is_dots.false) is (sym c.is_some-is_second.ensures ∙ c.if-is_second-2.true)

pub returns-clause-noted : goal.returns-clause-noted
returns-clause-noted c = λ place known next.
    let is = holds c.is_numbered_directory.result c.is_numbered_directory.ensures c.if-not-is_numbered_directory.false in
    let room : c.args.entry.now.slot.inode < length c.args.parents.now = omega (arith, is.last, c.requires.room) in
    parents_noted known next room (sym c.is_dots.ensures ∙ c.if-is_dots.false)
    (inl (none_of _ (sym c.is_some-is_second.ensures ∙ c.if-is_second-2.false)))

pub returns-clause-fresh : goal.returns-clause-fresh
returns-clause-fresh c = λ place known once next.
    let number : c.constants.result.root ≡ root_of c.args.geometry.now = rw c.constants.ensures in
    once_noted known once next (λ root. c.if-child-constants.false (root ∙ sym number))
    (none_of _ (sym c.is_some-is_second.ensures ∙ c.if-is_second-2.false))
