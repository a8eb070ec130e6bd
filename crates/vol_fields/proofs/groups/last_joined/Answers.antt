use Rattle.std.proofs.Common.{◌≡◌, ◌∙◌, ◌+◌, ◌-◌, suc, sym, ap, arith, length}
use Rattle.vol_fields.specs.Groups.{last_joined}
use Rattle.vol_fields.proofs.GroupLaws.{joined_ends, joined_goes_on}
use Rattle.vol_fields.proofs.groups.last_joined.Goals as goal

pub loop-step-preserved : goal.loop-step-preserved
loop-step-preserved c =
    let joins = c.args.joins.now in
    let left = length joins - c.args.k - 1 in
    let some : left - c.loop-step.step ≡ suc (left - (c.loop-step.step + 1)) = omega arith in
    record {
      place = omega (arith, c.loop-step.invariant.place);
      same = c.loop-step.invariant.same ∙ (ap (λ m. last_joined joins m c.loop-step.last) some
          ∙ joined_goes_on joins (left - (c.loop-step.step + 1)) c.loop-step.last c.if-not-joins-last.false);
    }

pub returns-then-not-joins-last-clause-exact : goal.returns-then-not-joins-last-clause-exact
returns-then-not-joins-last-clause-exact c =
    let joins = c.args.joins.now in
    let left = length joins - c.args.k - 1 in
    let some : left - c.loop-step.step ≡ suc (left - (c.loop-step.step + 1)) = omega arith in
    sym (c.loop-step.invariant.same ∙ (ap (λ m. last_joined joins m c.loop-step.last) some
    ∙ joined_ends joins (left - (c.loop-step.step + 1)) c.loop-step.last c.if-not-joins-last.true))

pub returns-clause-exact : goal.returns-clause-exact
unfolding last_joined
returns-clause-exact c =
    let joins = c.args.joins.now in
    let none : length joins - c.args.k - 1 - c.loop-step.step ≡ 0 = omega arith in
    sym (c.loop-step.invariant.same ∙ ap (λ m. last_joined joins m c.loop-step.last) none)
