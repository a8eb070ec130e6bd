-- Holes are passed, and each stored block is copied.
use Rattle.std.proofs.Common.{◌≡◌, ◌∙◌, ap, sym, subst, ℕ, ◌+◌, ◌<◌, Some, arith}
use Rattle.vol_layout.specs.BlockPointers.{block_named, form_at, stored}
use Rattle.vol_file.specs.Changes.{whole_blocks}
use Rattle.vol_file.specs.Holes.{IsNextStored}
use Rattle.vol_file.specs.Rules.{size_of}
use Rattle.vol_file.specs.Runs.{LooksUp}
use Rattle.vol_dir.proofs.ReadSlots.{number_named}
use Rattle.vol_migrate.specs.Stages.{IsStage}
use Rattle.vol_migrate.proofs.FileShapes.{names_hole}
use Rattle.vol_migrate.proofs.StageLaws.{stage_holes, stage_next}
use Rattle.vol_migrate.proofs.copy.copy_file.Goals as goal

pub loop-b-init : goal.loop-b-init
loop-b-init c =
    let inode = c.of-numbers.ensures.inode in
    let own = subst (λ j. LooksUp c.args.from.now c.args.old.now j c.next_block-b.new.self) inode c.next_block-b.ensures.own in
    let next = subst (λ j. IsNextStored c.args.from.now c.args.old.now j (form_at c.args.from.now c.args.old.now j) 0 c.whole_blocks-end.result c.next_block-b.result)
    inode c.next_block-b.ensures.next in
    record {
      numbers = own;
      within = next.within;
      some = λ low none. next.some low none;
      carries = λ now stage.
          stage_holes c.args.old.now c.args.from.now c.args.to.now now c.args.image.now c.args.i 0 c.next_block-b.result c.requires.may stage
          c.requires.file next.reached
          (λ b from to. names_hole c.args.from.now c.args.old.now c.args.i b c.requires.may.sixth c.requires.file (next.hole b from to));
    }

pub copy_run-requires-clause-stage : goal.copy_run-requires-clause-stage
copy_run-requires-clause-stage c =
    record { now = c.requires.stage.now; stage = c.loop-b.invariant.carries c.requires.stage.now c.requires.stage.stage }

pub run_len-count-requires-clause-holds : goal.run_len-count-requires-clause-holds
run_len-count-requires-clause-holds c =
    let named = subst (λ j. Some c.in-Some.m ≡ block_named c.args.from.now c.args.old.now j c.loop-b.b) c.loop-b.invariant.numbers.inode c.in-Some.ensures.number in
    let here = number_named (stored c.args.from.now c.args.old.now c.args.i (form_at c.args.from.now c.args.old.now c.args.i) c.loop-b.b) c.in-Some.m (sym named) in
    let inode = c.block_at.ensures.own.inode ∙ c.loop-b.invariant.numbers.inode in
    subst (λ j. stored c.args.from.now c.args.old.now j (form_at c.args.from.now c.args.old.now j) c.loop-b.b ≡ c.in-Some.m) (sym inode) here

pub copy_run-requires-clause-block : goal.copy_run-requires-clause-block
copy_run-requires-clause-block c = λ none.
    let named = subst (λ j. Some c.in-Some.m ≡ block_named c.args.from.now c.args.old.now j c.loop-b.b) c.loop-b.invariant.numbers.inode c.in-Some.ensures.number in
    let here = number_named (stored c.args.from.now c.args.old.now c.args.i (form_at c.args.from.now c.args.old.now c.args.i) c.loop-b.b) c.in-Some.m (sym named) in
    c.loop-b.invariant.some (omega arith) (here ∙ none)

pub copy_run-requires-clause-one : goal.copy_run-requires-clause-one
copy_run-requires-clause-one c = λ directory.
    let one = c.run_limit-most.ensures.one directory in
    omega (arith, one)

pub copy_run-requires-clause-holds : goal.copy_run-requires-clause-holds
copy_run-requires-clause-holds c =
    let inode = c.block_at.ensures.own.inode ∙ c.loop-b.invariant.numbers.inode in
    subst (λ j. (n : ℕ) → n < c.run_len-count.result → stored c.args.from.now c.args.old.now j (form_at c.args.from.now c.args.old.now j) (c.loop-b.b + n) ≡ c.in-Some.m + n)
    inode c.run_len-count.ensures.run

pub copy_run-requires-clause-within : goal.copy_run-requires-clause-within
copy_run-requires-clause-within c =
    let end : c.whole_blocks-end.result ≡ whole_blocks (size_of c.args.from.now c.args.old.now c.args.i) =
    c.whole_blocks-end.ensures ∙ ap whole_blocks c.size.ensures in
    omega (arith, end)

pub loop-b-preserved : goal.loop-b-preserved
loop-b-preserved c =
    let count = c.run_len-count.result in
    let inode = c.run_len-count.ensures.own.inode ∙ c.block_at.ensures.own.inode ∙ c.loop-b.invariant.numbers.inode in
    let own = subst (λ j. LooksUp c.args.from.now c.args.old.now j c.next_block-b-in-loop-b.new.self) inode c.next_block-b-in-loop-b.ensures.own in
    let next = subst (λ j. IsNextStored c.args.from.now c.args.old.now j (form_at c.args.from.now c.args.old.now j) (c.loop-b.b + count) c.whole_blocks-end.result
    c.next_block-b-in-loop-b.result) inode c.next_block-b-in-loop-b.ensures.next in
    record {
      numbers = own;
      within = next.within;
      some = λ low none. next.some low none;
      carries = λ now stage.
          stage_holes c.args.old.now c.args.from.now c.args.to.now now c.copy_run.new.image c.args.i (c.loop-b.b + count) c.next_block-b-in-loop-b.result
          c.requires.may (c.copy_run.ensures now (c.loop-b.invariant.carries now stage))
          c.requires.file next.reached
          (λ b from to. names_hole c.args.from.now c.args.old.now c.args.i b c.requires.may.sixth c.requires.file (next.hole b from to));
    }

pub returns : goal.returns
returns c = λ now stage.
    let within = c.loop-b.invariant.within in
    let at : c.loop-b.b ≡ c.whole_blocks-end.result = omega (arith, within, c.loop-b-test.false) in
    let end : c.whole_blocks-end.result ≡ whole_blocks (size_of c.args.from.now c.args.old.now c.args.i) =
    c.whole_blocks-end.ensures ∙ ap whole_blocks c.size.ensures in
    stage_next c.args.old.now c.args.from.now c.args.to.now now c.loop-b.image c.args.i c.requires.file.first
    (subst (IsStage c.args.from.now c.args.to.now c.args.old.now now c.loop-b.image c.args.i) (at ∙ end) (c.loop-b.invariant.carries now stage))
