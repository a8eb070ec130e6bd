-- The remaining pieces of some bytes.
use Rattle.std.specs.Prelude.{ℕ, ◌==◌, not, List, [], length, Option, Some, None}
use Rattle.std.specs.Borrow.{Bor}
use Rattle.std.specs.List.{filter, slice_split}

-- the pieces of the remaining bytes, split at the separator; none if no bytes remain (this project)
abbrev pub pieces_left : ℕ → Option (Bor (List ℕ)) → List (List ℕ)
pieces_left separator None = []
pieces_left separator (Some rest) = slice_split (λ b. b == separator) rest.now

-- the words among some pieces: those that aren't empty, so that several separators count as one (this project)
abbrev pub words_of : List (List ℕ) → List (List ℕ)
words_of pieces = filter (λ piece. not (length piece == 0)) pieces
