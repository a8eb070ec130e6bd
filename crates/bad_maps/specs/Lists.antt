-- Lists of blocks.
use Rattle.std.specs.Prelude.{◌≡◌, ℕ, ◌+◌, ◌*◌, ◌==◌, ◌||◌, nat_lt, if◌then◌else◌, List, [], ◌∷◌, ◌++◌, Option, Some, None, Result, Ok, Err, Vec}
use Rattle.std.specs.Global.{Global}
use Rattle.std.specs.List.{slice_split}
use Rattle.line_words.specs.Numbers.{number_in}
use Rattle.bad_maps.specs.declared.lists.ListFault.{ListFault}
use Rattle.bad_maps.specs.declared.lists.ListFault.TheVariants as list_faults
use Rattle.bad_maps.specs.declared.lists.ListedBlocks.{ListedBlocks}
use Rattle.bad_maps.specs.declared.maps.ReadRange.{ReadRange}

-- the blocks from a first to a last one, if both have a number, the first isn't below `next`, and the last not below the first (this project)
abbrev pub blocks_between : ℕ → Option ℕ → Option ℕ → Option ListedBlocks
blocks_between next None last = None
blocks_between next (Some first) None = None
blocks_between next (Some first) (Some last) =
    if nat_lt first next || nat_lt last first then None else Some (record { first = first; end = last + 1 })

-- the blocks from a first to a last one, by their numbers in decimal digits, of at most 32 bits (this project)
abbrev pub between : ℕ → List ℕ → List ℕ → Option ListedBlocks
between next first last = blocks_between next (number_in 10 4294967295 first) (number_in 10 4294967295 last)

-- the blocks that the words of a piece name: one word for one block, or the first and the last of several (this project)
abbrev pub listed_by : ℕ → List (List ℕ) → Option ListedBlocks
listed_by next [] = None
listed_by next (first ∷ []) = between next first first
listed_by next (first ∷ last ∷ []) = between next first last
listed_by next (first ∷ last ∷ more ∷ words) = None

-- the blocks that a piece of a list names, split at hyphens (this project)
abbrev pub listed_in : ℕ → List ℕ → Option ListedBlocks
listed_in next piece = listed_by next (slice_split (λ b. b == 45) piece)

-- the bytes before the blocks that a piece names, and then those around the blocks of later pieces (this project)
abbrev pub onward_from : ℕ → List ReadRange → Option ListedBlocks → (ℕ → List ReadRange → Option (List ReadRange)) → Option (List ReadRange)
onward_from next ranges None rest = None
onward_from next ranges (Some blocks) rest = rest blocks.end (ranges ++ record { first = 512 * next; end = 512 * blocks.first } ∷ [])

-- the ranges of the bytes around the blocks that these pieces name, from block `next` on, after other ranges (this project)
abbrev pub around_from : ℕ → List ReadRange → List (List ℕ) → Option (List ReadRange)
around_from next ranges [] = Some (ranges ++ record { first = 512 * next; end = 18446744073709551615 } ∷ [])
around_from next ranges (piece ∷ pieces) = onward_from next ranges (listed_in next piece) (λ next' ranges'. around_from next' ranges' pieces)

-- the ranges of all bytes outside the blocks of a list: numbers and ranges of blocks, apart by commas and strictly ascending; none if it is no such list
-- (this project)
abbrev pub bytes_around : List ℕ → Option (List ReadRange)
bytes_around text = around_from 0 [] (slice_split (λ b. b == 44) text)

-- the ranges are the expected ones, or the text is no list; out of memory is possible in any case (this project)
abbrev pub ReadsList : Option (List ReadRange) → Result (Vec ReadRange Global) ListFault → Type 0
ReadsList expected (Ok ranges) = expected ≡ Some ranges.items
ReadsList expected (Err list_faults.Wrong) = expected ≡ None
ReadsList expected (Err list_faults.NoMemory) = Unit {0}
