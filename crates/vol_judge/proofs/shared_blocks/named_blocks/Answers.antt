use Rattle.std.proofs.Common.{◌≡◌, ◌++◌, ◌∙◌, sym, subst, take, drop, length, arith}
use Rattle.vol_judge.specs.Marks.{MarksNamed}
use Rattle.vol_judge.specs.SharedBlocks.{IsFirstTwice}
use Rattle.vol_judge.proofs.Decisions.{finds_kept}
use Rattle.vol_judge.proofs.Once.{marks_written}
use Rattle.vol_judge.proofs.shared_blocks.named_blocks.Goals as goal

pub returns-clause-named : goal.returns-clause-named
returns-clause-named c =
    let g = c.args.geometry.now in
    let image = c.args.image.now in
    let flags = c.set_marked.new.flags in
    let new = c.find_twice.new.marks in
    let kept : take c.in_ok-named.named.len (flags ++ drop (length flags) c.in_ok-named.named.items) ≡ flags =
    marks_written c.in_ok-named.named.len flags c.in_ok-named.named.items (omega (arith, c.set_marked.auto.flags, c.deref_mut-2.ensures.len)) in
    let read : c.deref.result.now ≡ new =
    c.deref.ensures.value ∙ marks_written c.in_ok-marks.marks.len new c.in_ok-marks.marks.items (omega (arith, c.find_twice.auto.marks, c.deref_mut.ensures.len)) in
    let named : MarksNamed g image c.deref.result.now =
    subst (MarksNamed g image) (sym read) (finds_kept (IsFirstTwice g image) c.find_twice.result c.find_twice.ensures.marks c.find_twice.ensures.twice c.requires.apart) in
    rw kept (λ b. (λ set. (named b).0 ((c.set_marked.ensures b).0 set), λ by. (c.set_marked.ensures b).1 ((named b).1 by)))
