use Rattle.std.proofs.Common.{◌≡◌, ◌++◌}
use Rattle.std.specs.String.{string_bytes}
use Rattle.vol_layout.specs.BlockMaps.{place_to}
use Rattle.vol_inspect.specs.OwnerTexts.{pointers_text}
use Rattle.vol_inspect.proofs.owner_texts.push_pointers.Given as goal

-- Invariant: the pointers so far have been added.
abbrev pub invariant-loop-k : goal.invariant-loop-k
invariant-loop-k l = string_bytes l.text ≡ string_bytes l.fn.text ++ pointers_text (place_to l.way.address l.way.entries l.k)
