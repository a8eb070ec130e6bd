use Rattle.std.proofs.Common.{◌≡◌, map}
use Rattle.std.specs.List.{range_with_len}
use Rattle.std.specs.String.{string_bytes}
use Rattle.vol_fields.specs.Tables.{role_at}
use Rattle.vol_fields.specs.Titles.{title_of}
use Rattle.vol_fields.proofs.titles.block_titles.Given as goal

-- Invariant: the titles of the blocks so far have been added.
abbrev pub invariant-loop-b : goal.invariant-loop-b
invariant-loop-b l = map string_bytes l.titles.items ≡ map (λ b. title_of b (role_at l.roles b)) (range_with_len 0 l.b)
