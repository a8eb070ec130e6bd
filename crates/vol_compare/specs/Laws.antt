-- The laws of the differences between two trees.
use Rattle.std.specs.Prelude.{◌≡◌, ◌↔◌, Bool, true, not, length, List, []}
use Rattle.std.specs.List.{filter, flat_map, list_all}
use Rattle.vol_dir.specs.Walk.{is_nil}
use Rattle.vol_layout.specs.declared.edition.Edition.{Edition}
use Rattle.vol_compare.specs.Json.{told_data}
use Rattle.vol_compare.specs.Members.{Member, is_seen}
use Rattle.vol_compare.specs.Merge.{Pairing, line_of, merged_lines}

-- two lists of members have no line if and only if they are equal and it is known of each path in them what it leads to (this project's law)
abbrev pub TellsNothingIfEqual : Type 0
TellsNothingIfEqual = (olds news : List Member) → ((olds ≡ news) × (list_all (λ (m : Member). is_seen m.content) olds ≡ true)) ↔ (merged_lines olds news ≡ [])

-- what two lists of members have at their paths has as many items as lines (this project's law)
abbrev pub HasAnItemForEachLine : Type 0
HasAnItemForEachLine = (times : Bool) (was is : Edition) (pairings : List Pairing)
    → length (flat_map (told_data times was is) pairings) ≡ length (filter (λ pairing. not (is_nil (line_of pairing))) pairings)

-- it has no item if and only if it has no line (this project's law)
abbrev pub HasNoItemIfSilent : Type 0
HasNoItemIfSilent = (times : Bool) (was is : Edition) (pairings : List Pairing)
    → (flat_map (told_data times was is) pairings ≡ []) ↔ (flat_map line_of pairings ≡ [])
