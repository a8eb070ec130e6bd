use Rattle.std.proofs.Common.{reverse, sym, ap, ◌∙◌, arith}
use Rattle.std.proofs.lemmas.List.{reverse-reverse}
use Rattle.vol_free.specs.FreeWalk.{free_walk}
use Rattle.vol_free.proofs.FreeFaults.{no_fault_holds, no_fault_free, stack_no_fault}
use Rattle.vol_free.proofs.Stacks.{IsFree_unique, zone_behind}
use Rattle.vol_free.proofs.laws.the_walk_without_a_fault_is_the_stack.Goals as goal

pub returns-clause-ends : goal.returns-clause-ends
returns-clause-ends c = λ geometry image. (no_fault_holds geometry image, stack_no_fault geometry image)

pub returns-clause-met : goal.returns-clause-met
returns-clause-met c = λ geometry image blocks fits free.
    let met = (free_walk geometry image).met in
    let e = stack_no_fault geometry image (record { blocks = blocks; free = free }) in
    let walked = no_fault_free geometry image (reverse met) e (reverse-reverse met) in
    let same = IsFree_unique (omega (arith, zone_behind fits)) walked free in
    sym (reverse-reverse met) ∙ ap reverse same
