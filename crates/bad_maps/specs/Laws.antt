-- Statements of the laws about maps and lists.
use Rattle.std.specs.Prelude.{◌≡◌, ◌↔◌, ℕ, ◌+◌, ◌*◌, ◌==◌, ◌&&◌, ◌<◌, ◌≤◌, nat_le, nat_lt, not, Bool, true, false, List, Option, None, Some, Ok}
use Rattle.std.specs.List.{list_any, slice_split}
use Rattle.bad_maps.specs.Lists.{bytes_around, listed_in}
use Rattle.bad_maps.specs.Maps.{is_read, is_read_from, ranges_in}
use Rattle.bad_maps.specs.declared.lists.ListedBlocks.{ListedBlocks}
use Rattle.bad_maps.specs.declared.maps.ReadRange.{ReadRange}

-- of the ranges of a map, one has all of some bytes if and only if each of these bytes is in one (this project's law)
abbrev pub OneRangeHasAll : Type 0
OneRangeHasAll = (text : List ℕ) (ranges : List ReadRange) (first count : ℕ) → ranges_in text ≡ Ok ranges → 1 ≤ count
    → (is_read_from ranges first count ≡ true) ↔ ((n : ℕ) → first ≤ n → n < first + count → is_read ranges n ≡ true)

-- true if block k is one of these blocks (this project)
abbrev pub is_named : ℕ → Option ListedBlocks → Bool
is_named k None = false
is_named k (Some blocks) = nat_le blocks.first k && nat_lt k blocks.end

-- true if one of the pieces of a list names block k (this project)
abbrev pub are_named : ℕ → List (List ℕ) → Bool
are_named k pieces = list_any (λ piece. is_named k (listed_in 0 piece)) pieces

-- of the ranges around the blocks of a list, one has all bytes of a block if and only if the list doesn't name the block (this project's law)
abbrev pub ListsNameLostBlocks : Type 0
ListsNameLostBlocks = (text : List ℕ) (ranges : List ReadRange) (k : ℕ) → bytes_around text ≡ Some ranges → k ≤ 4294967295
    → is_read_from ranges (512 * k) 512 ≡ not (are_named k (slice_split (λ b. b == 44) text))
