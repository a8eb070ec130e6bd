use Rattle.std.proofs.Common.{inl, inr, refl, sym}
use Rattle.vol_judge.specs.Lost.{IsFirstUncovered}
use Rattle.vol_judge.specs.SharedBlocks.{IsFirstTwice}
use Rattle.vol_judge.proofs.Decisions.{if_none, finds_none, finds_some}
use Rattle.vol_judge.proofs.verdict.judge_marks.Goals as goal
use Rattle.vol_judge.proofs.verdict.judge_marks.Goals.{then-is_some-via-then-is_some, then-is_some-via-else-is_some+then-is_some-2}

pub find_fault-requires-clause-clear : goal.find_fault-requires-clause-clear
find_fault-requires-clause-clear c = c.requires.clear

pub returns-in_default-clause-least : goal.returns-in_default-clause-least
returns-in_default-clause-least c = inl (refl, c.in_default.ensures.fault.1)

pub returns-then-is_some-clause-least : goal.returns-then-is_some-clause-least
returns-then-is_some-clause-least c =
    let g = c.args.geometry.now in
    let image = c.args.image.now in
    inr (
      c.in-Ok.ensures.fault,
      inl (
        refl,
        λ apart. elim c.then-is_some.branch [
          | then-is_some-via-then-is_some w ↦ finds_some (IsFirstTwice g image) c.args.twice (sym w.if-is_some.ensures) c.requires.twice apart.0
          | then-is_some-via-else-is_some+then-is_some-2 w ↦
              let marks = if_none c.args.twice (sym w.if-is_some.ensures) c.requires.marks in
              finds_some (IsFirstTwice g image) c.in-Ok.stack.named (sym w.if-is_some-2.ensures)
              (c.in-Ok.ensures.named apart.0 (λ b zone. marks b)) apart.1
        ],
      ),
    )

pub returns-then-is_some-3-clause-least : goal.returns-then-is_some-3-clause-least
returns-then-is_some-3-clause-least c =
    let g = c.args.geometry.now in
    let image = c.args.image.now in
    let marks = if_none c.args.twice (sym c.if-is_some.ensures) c.requires.marks in
    let apart = finds_none (IsFirstTwice g image) c.args.twice (sym c.if-is_some.ensures) c.requires.twice in
    inr (
      c.in-Ok.ensures.fault,
      inr (
        (
          apart,
          finds_none (IsFirstTwice g image) c.in-Ok.stack.named (sym c.if-is_some-2.ensures) (c.in-Ok.ensures.named apart (λ b zone. marks b)),
        ),
        inl (
          refl,
          finds_some (IsFirstUncovered g image) c.find_lost.result (sym c.if-is_some-3.ensures)
              (c.find_lost.ensures image c.requires.fits (λ b zone. marks b) c.in-Ok.ensures.marked),
        ),
      ),
    )

pub returns-clause-least : goal.returns-clause-least
returns-clause-least c =
    let g = c.args.geometry.now in
    let image = c.args.image.now in
    let marks = if_none c.args.twice (sym c.if-is_some.ensures) c.requires.marks in
    let apart = finds_none (IsFirstTwice g image) c.args.twice (sym c.if-is_some.ensures) c.requires.twice in
    inr (
      c.in-Ok.ensures.fault,
      inr (
        (
          apart,
          finds_none (IsFirstTwice g image) c.in-Ok.stack.named (sym c.if-is_some-2.ensures) (c.in-Ok.ensures.named apart (λ b zone. marks b)),
        ),
        inr (
          finds_none (IsFirstUncovered g image) c.find_lost.result (sym c.if-is_some-3.ensures)
              (c.find_lost.ensures image c.requires.fits (λ b zone. marks b) c.in-Ok.ensures.marked),
          refl,
        ),
      ),
    )
