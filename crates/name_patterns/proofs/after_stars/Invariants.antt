use Rattle.std.proofs.Common.{◌≡◌, ◌≤◌, ℕ, List, length}
use Rattle.name_patterns.specs.Like.{ends_like, is_like}
use Rattle.name_patterns.proofs.after_stars.Given as goal

-- the rest of a pattern matches some end of a name if and only if the pattern does
pub record AreSame (rest pattern : List ℕ) : Type 0 where
  pub like : (name : List ℕ) → ends_like (is_like rest) name ≡ ends_like (is_like pattern) name
  pub length : length rest ≤ length pattern

abbrev pub invariant-stars : goal.invariant-stars
invariant-stars l = AreSame l.rest l.fn.pattern

abbrev pub decreases-stars : goal.decreases-stars
decreases-stars l = length l.rest
