use Rattle.std.proofs.Common.{◌≡◌, ◌++◌, take}
use Rattle.std.specs.List.{flat_map}
use Rattle.std.specs.String.{string_bytes}
use Rattle.vol_inspect.specs.Texts.{link_text}
use Rattle.vol_inspect.proofs.texts.push_links.Given as goal

-- Invariant: the links so far have been added.
abbrev pub invariant-loop-link : goal.invariant-loop-link
invariant-loop-link l = string_bytes l.text ≡ string_bytes l.initial.text ++ flat_map link_text (take l.link-index l.links)
