use Rattle.std.proofs.Common.{ap, arith, ◌∙◌}
use Rattle.std.specs.List.{sum_by}
use Rattle.std.proofs.lemmas.List.Sums.{sum_by_push}
use Rattle.vol_check.specs.Levels.{by_times}
use Rattle.vol_check.proofs.LevelLaws.{times_both}
use Rattle.vol_check.proofs.levels.push_once.Goals as goal

pub returns-in-Some-with-clause-same : goal.returns-in-Some-with-clause-same
returns-in-Some-with-clause-same c = λ f.
    let last = c.in-Some.last in
    let both = c.in-Some-with.both in
    let is = c.in-Some-with.ensures.some in
    let old = ap (sum_by (by_times f)) c.in-Some.ensures.items ∙ sum_by_push (by_times f) c.pop.new.self.items last in
    let new = ap (sum_by (by_times f)) c.in_ok-push-2.ensures.items ∙ sum_by_push (by_times f) c.pop.new.self.items both in
    let sum = times_both f last c.args.n both is.0 is.1 is.2 in
    omega arith
