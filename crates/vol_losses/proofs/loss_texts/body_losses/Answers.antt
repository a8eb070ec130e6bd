use Rattle.std.proofs.Common.{◌≡◌, ◌+◌, ◌<◌, ◌∙◌, ap, sym, subst, arith}
use Rattle.std.specs.Int.{div_ceil}
use Rattle.vol_losses.specs.Losses.{body_blocks}
use Rattle.vol_losses.specs.Ranges.{AreApart}
use Rattle.vol_losses.proofs.RangeLists.{apart_few}
use Rattle.vol_losses.proofs.loss_texts.body_losses.Goals as goal

pub returns-clause-exact : goal.returns-clause-exact
returns-clause-exact c =
    let end : c.div_ceil-end.result ≡ body_blocks c.args.geometry.now c.args.image.now c.args.i =
    c.div_ceil-end.ensures ∙ ap (λ n. div_ceil n 512) c.body_size.ensures in
    record {
      exact = λ b low. c.in_ok-ranges.ensures.exact b (subst (λ n. b < n) (sym end) low);
      apart = subst (λ n. AreApart 0 c.in_ok-ranges.ranges.items (n + 1)) end c.in_ok-ranges.ensures.apart;
    }

pub returns-clause-few : goal.returns-clause-few
returns-clause-few c =
    let few = apart_few 0 c.in_ok-ranges.ranges.items (c.div_ceil-end.result + 1) c.in_ok-ranges.ensures.apart in
    let small = c.div_ceil-end.type_inv in
    omega (arith, few, small)
