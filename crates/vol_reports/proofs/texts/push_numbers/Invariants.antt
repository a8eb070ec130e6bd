use Rattle.std.proofs.Common.{◌≡◌, ◌++◌, take}
use Rattle.std.specs.List.{flat_map}
use Rattle.vol_reports.specs.Texts.{spaced}
use Rattle.vol_reports.proofs.texts.push_numbers.Given as goal

-- Invariant: the numbers so far have been added.
abbrev pub invariant-loop-number : goal.invariant-loop-number
invariant-loop-number l = l.text.items ≡ l.initial.text.items ++ flat_map spaced (take l.number-index l.numbers)
