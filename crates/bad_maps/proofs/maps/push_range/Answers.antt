use Rattle.std.proofs.Common.{◌∙◌, ◌∷◌, [], ◌++◌, ap, sym}
use Rattle.bad_maps.specs.Maps.{with_range}
use Rattle.bad_maps.proofs.Pushes.{added_apart, added_touching}
use Rattle.bad_maps.proofs.maps.push_range.Goals as goal

pub returns-in_ok-push-in-Some : goal.returns-in_ok-push-in-Some
returns-in_ok-push-in-Some c =
    c.in_ok-push-in-Some.ensures.items
    ∙ sym (ap (λ ranges. with_range ranges c.args.range) c.in-Some.ensures.items
    ∙ added_touching c.pop.new.self.items c.in-Some.last c.args.range c.if-last-range.true)

pub returns-in_ok-push-in-Some-2-2 : goal.returns-in_ok-push-in-Some-2-2
returns-in_ok-push-in-Some-2-2 c =
    c.in_ok-push-in-Some-2-2.ensures.items
    ∙ (ap (λ ranges. ranges ++ c.args.range ∷ []) c.in_ok-push-in-Some-2.ensures.items
    ∙ sym (ap (λ ranges. with_range ranges c.args.range) c.in-Some.ensures.items
    ∙ added_apart c.pop.new.self.items c.in-Some.last c.args.range c.if-last-range.false))
