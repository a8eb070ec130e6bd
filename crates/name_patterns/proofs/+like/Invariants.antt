use Rattle.std.proofs.Common.{◌+◌, ◌*◌, length}
use Rattle.name_patterns.proofs.+like.Given as goal

abbrev pub decreases-ends_like : goal.decreases-ends_like
decreases-ends_like l = 2 * (length l.pattern.now + length l.name.now) + 1

abbrev pub decreases-is_like : goal.decreases-is_like
decreases-is_like l = 2 * (length l.pattern.now + length l.name.now)
