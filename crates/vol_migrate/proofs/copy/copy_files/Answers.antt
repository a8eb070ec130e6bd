-- Each file is copied, and other i-nodes are passed.
use Rattle.std.proofs.Common.{◌≡◌, ◌∙◌, sym, subst, ℕ, List, ◌+◌, arith}
use Rattle.vol_migrate.specs.Stages.{IsStage}
use Rattle.vol_migrate.proofs.StageLaws.{stage_pass}
use Rattle.vol_migrate.proofs.copy.copy_files.Goals as goal
use Rattle.vol_migrate.proofs.copy.copy_files.Goals.{then-is_file, else-is_file}

pub copy_file-requires-clause-stage : goal.copy_file-requires-clause-stage
copy_file-requires-clause-stage c = record { now = c.requires.stage.now; stage = c.loop-i.invariant c.requires.stage.now c.requires.stage.stage }

pub loop-i-preserved : goal.loop-i-preserved
loop-i-preserved c = λ now stage.
    let P : List ℕ → Type 0 = λ image. IsStage c.args.from.now c.args.to.now c.args.old.now now image (c.loop-i.i + 1) 0 in
    elim c.if-is_file.branch [
      | then-is_file w ↦ subst P (sym w.image-is) (w.copy_file.ensures now (c.loop-i.invariant now stage))
      | else-is_file w ↦
          subst P (sym w.image-is)
          (stage_pass c.args.old.now c.args.from.now c.args.to.now now c.loop-i.image c.loop-i.i (omega arith) (omega arith)
          (sym c.is_file.ensures ∙ w.if-is_file.false) (c.loop-i.invariant now stage))
    ]

pub returns-after-is_file : goal.returns-after-is_file
returns-after-is_file c = λ now stage.
    let at : c.loop-i.i ≡ c.args.from.now.last_inode = omega arith in
    let P : List ℕ → Type 0 = λ image. IsStage c.args.from.now c.args.to.now c.args.old.now now image (c.loop-i.i + 1) 0 in
    let Q : ℕ → Type 0 = λ k. IsStage c.args.from.now c.args.to.now c.args.old.now now c.if-is_file.image (k + 1) 0 in
    subst Q at (elim c.if-is_file.branch [
      | then-is_file w ↦ subst P (sym w.image-is) (w.copy_file.ensures now (c.loop-i.invariant now stage))
      | else-is_file w ↦
          subst P (sym w.image-is)
          (stage_pass c.args.old.now c.args.from.now c.args.to.now now c.loop-i.image c.loop-i.i (omega arith) (omega arith)
          (sym c.is_file.ensures ∙ w.if-is_file.false) (c.loop-i.invariant now stage))
    ])
