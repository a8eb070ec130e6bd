-- Invariant of `search`: no directory before `dir` has a name of the node.
use Rattle.std.proofs.Common.{◌≡◌, ◌+◌, ◌-◌, ℕ, List}
use Rattle.std.specs.Option.{option_map}
use Rattle.vol_mounted.specs.Records.{first_value, name_in, place_for}
use Rattle.vol_mounted.proofs.settle.search.Given as goal

abbrev pub invariant-directories : goal.invariant-directories
invariant-directories l =
    place_for l.geometry l.image l.i
    ≡ first_value (λ (d : ℕ). option_map (λ (name : List ℕ). (d, name)) (name_in l.geometry l.image l.i d)) l.dir (l.geometry.last_inode + 1 - l.dir)
