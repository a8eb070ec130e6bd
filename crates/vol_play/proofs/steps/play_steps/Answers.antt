use Rattle.std.proofs.Common.{◌∙◌, List, length, arith, ap, sym, subst}
use Rattle.vol_scripts.specs.declared.steps.ScriptStep.{ScriptStep}
use Rattle.vol_shared.specs.Sessions.{Known}
use Rattle.vol_play.specs.Steps.{CameInTurn, CameOf, known_after, known_after_all}
use Rattle.vol_play.proofs.StepLaws.{came_end, came_more, known_next, known_of, known_push}
use Rattle.vol_play.proofs.steps.play_steps.Goals as goal

pub steps-preserved : goal.steps-preserved
steps-preserved g c =
    let left = c.in-Some.ensures.steps.0 in
    let fewer = ap length left in
    let prefix = c.steps.played.ok.0 in
    let now = c.push_reserved.new.self.ok.0 in
    let came = c.play_step-came.result in
    let known = c.play_step-came.ensures.known in
    record {
      own = ap (λ (k : Known). k.of) known ∙ known_of c.steps.session came ∙ c.steps.invariant.own;
      came =
          came_more CameOf (CameInTurn CameOf c.args.steps c.args.session.now.next) c.next.new.self.rest.items c.in-Some.step c.steps.session.next c.play_step-came.new.session.next
          c.steps.played.items c.push_reserved.new.self.items came (ap (λ (k : Known). k.next) known ∙ known_next c.steps.session came) c.push_reserved.ensures.items
          c.play_step-came.ensures.came
          (λ others all. c.steps.invariant.came others (subst (λ (steps : List ScriptStep). CameInTurn CameOf steps c.steps.session.next others) (sym left) all));
      known =
          known ∙ ap (λ (k : Known). known_after k came) c.steps.invariant.known ∙ sym (known_push c.args.session.now c.steps.played.items came)
          ∙ ap (known_after_all c.args.session.now) (sym c.push_reserved.ensures.items);
      room = omega (arith, fewer, prefix, now, c.push_reserved.ensures.len, c.push_reserved.ensures.capacity, c.steps.invariant.room);
    }

pub returns-clause-came : goal.returns-clause-came
returns-clause-came g c =
    came_end CameOf (CameInTurn CameOf c.args.steps c.args.session.now.next) c.steps.step-iterator.rest.items c.steps.session.next c.steps.played.items
    (omega (arith, c.in-None.ensures.steps.0, c.steps.step-iterator.rest.ok.0)) c.steps.invariant.came
