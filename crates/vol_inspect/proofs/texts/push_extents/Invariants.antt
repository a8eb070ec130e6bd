use Rattle.std.proofs.Common.{◌≡◌, ◌++◌, codes, take}
use Rattle.std.specs.List.{flat_map}
use Rattle.std.specs.String.{string_bytes}
use Rattle.vol_inspect.specs.Texts.{extent_text}
use Rattle.vol_inspect.proofs.texts.push_extents.Given as goal

-- Invariant: the extents so far have been added.
abbrev pub invariant-loop-extent : goal.invariant-loop-extent
invariant-loop-extent l = string_bytes l.text ≡ string_bytes l.initial.text ++ flat_map (λ e. extent_text e ++ codes "\n") (take l.extent-index l.extents)
