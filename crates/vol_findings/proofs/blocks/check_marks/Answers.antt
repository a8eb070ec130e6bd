use Rattle.std.proofs.Common.{◌≡◌, sym, subst}
use Rattle.std.proofs.lemmas.Result.{IfOk-weaker}
use Rattle.vol_free.specs.Stack.{HasStack}
use Rattle.vol_file.specs.Rules.{IsZoned, IsApart}
use Rattle.vol_judge.specs.Finds.{Finds}
use Rattle.vol_judge.specs.FreeList.{IsFirstFault}
use Rattle.vol_judge.specs.Marks.{MarksZone}
use Rattle.vol_judge.specs.SharedBlocks.{IsFirstTwice}
use Rattle.vol_judge.specs.Sound.{IsFreeApart}
use Rattle.vol_judge.specs.declared.free_list.FreeStack.{FreeStack}
use Rattle.vol_judge.specs.OutsideBlocks.{IsFirstOutside}
use Rattle.vol_findings.specs.Outcomes.{Says}
use Rattle.vol_findings.specs.declared.outcome.RuleOutcome.TheVariants.{Holds}
use Rattle.vol_findings.proofs.OutcomeLaws.{said_as}
use Rattle.vol_findings.proofs.blocks.check_marks.Goals as goal

pub returns : goal.returns
returns c =
    let g = c.args.geometry.now in
    let image = c.args.image.now in
    let asked : ⊥ → ⊥ = λ none. none in
    let list = c.find_fault-list.ensures in
    let IsFound : FreeStack → Type 0 = λ stack. Finds (IsFreeApart g image) (IsFirstTwice g image) stack.named in
    record {
      zoned = said_as (IsZoned g image) (IsFirstOutside g image) ⊥ c.find_outside.result c.of-zoned.result asked c.find_outside.ensures c.of-zoned.ensures;
      listed = said_as (HasStack g image) (IsFirstFault g image) ⊥ c.err.result c.of-listed.result asked
          (subst (Finds (HasStack g image) (IsFirstFault g image)) (sym c.err.ensures.value) list.fault) c.of-listed.ensures;
      apart = c.check_apart-apart.ensures g image c.check_files-files.ensures.files list.fault
          (IfOk-weaker c.find_fault-list.result (λ stack. IsApart g image → MarksZone g image c.check_files-files.new.named → IsFound stack)
          (λ stack. c.check_files-files.result ≡ Holds → IsFound stack) (λ stack named holds.
          let files = subst (Says (IsApart g image) (IsFirstTwice g image) (IsZoned g image → ⊥)) holds c.check_files-files.ensures.files in
          named files.0 (λ b zone. c.check_files-files.ensures.marks holds b)) list.named);
      covered = c.check_covered-covered.ensures;
    }
