use Rattle.std.proofs.Common.{◌≡◌, [], length}
use Rattle.std.specs.Prelude.{reverse}
use Rattle.vol_import.specs.Options.{sort_onto, sorted}
use Rattle.vol_import.proofs.import_options.choose.Given as goal

-- Invariant: sorting the members left, after those so far, sorts all members.
abbrev pub invariant-members : goal.invariant-members
invariant-members l = sort_onto l.options (sorted l.sorting) (reverse l.left.items) ≡ sort_onto l.options ([], [], []) l.fn.found.items

abbrev pub decreases-members : goal.decreases-members
decreases-members l = length l.left.items
