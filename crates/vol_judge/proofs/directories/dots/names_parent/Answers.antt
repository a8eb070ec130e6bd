use Rattle.std.proofs.Common.{◌≡◌, ◌∙◌, sym}
use Rattle.vol_judge.specs.Directories.{root_of}
use Rattle.vol_judge.proofs.Decisions.{refuted}
use Rattle.vol_judge.proofs.Dotted.{no_parent, root_parent, other_parent}
use Rattle.vol_judge.proofs.directories.dots.names_parent.Goals as goal

pub returns-in_default : goal.returns-in_default
returns-in_default c = λ image is named notes. refuted (no_parent named c.in_default.is)

pub returns-then-d-root : goal.returns-then-d-root
returns-then-d-root c = λ image is named notes.
    let number : c.constants-root.result.root ≡ root_of c.args.geometry.now = rw c.constants-root.ensures in
    root_parent c.in-Some.up c.constants-root.result.root named c.in-Some.is c.if-d-root.true (c.if-d-root.true ∙ number)

pub returns-else-d-root : goal.returns-else-d-root
returns-else-d-root c = λ image is named notes.
    let number : c.constants-root.result.root ≡ root_of c.args.geometry.now = rw c.constants-root.ensures in
    other_parent c.in-Some.up c.eq.result notes is named c.in-Some.is (λ root. c.if-d-root.false (root ∙ sym number)) c.eq.ensures
