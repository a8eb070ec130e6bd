use Rattle.std.proofs.Common.{◌∙◌, refl, arith, length}
use Rattle.name_patterns.proofs.Stars.{after_star, some_of}
use Rattle.name_patterns.proofs.after_stars.Goals as goal

pub stars-preserved : goal.stars-preserved
stars-preserved c = record {
  like = λ name. after_star c.stars.rest.now name _ refl (some_of (length c.stars.rest.now) c.is_empty.result c.is_empty.ensures c.stars-test.true) c.if-rest-eq42.true ∙ c.stars.invariant.like name;
  length = omega (arith, c.stars.invariant.length);
}
