-- The first piece, and the pieces after it.
use Rattle.std.proofs.Common.{◌≡◌, ◌≢◌, ◌==◌, ℕ, ◌+◌, ◌-◌, ◌<◌, ◌≤◌, ◌∙◌, Bool, true, false, cond, not, ltb, List, [], ◌∷◌, length, take, drop, Option, Some, None, is_none, refl, sym, ap, arith, length-drop}
use Rattle.std.proofs.lemmas.Bool.{ltb-true, ltb-false}
use Rattle.std.proofs.lemmas.List.{take_all}
use Rattle.std.proofs.lemmas.List.Splits.{slice_split_first, length-slice_split}
use Rattle.std.specs.Borrow.{Bor}
use Rattle.std.specs.List.{slice_split, onto_first, position, position_or_len}
use Rattle.line_words.specs.Pieces.{pieces_left}

-- bytes in which no separator is found are one piece
whole : (p : ℕ → Bool) (xs : List ℕ) → length xs ≤ position_or_len p xs → slice_split p xs ≡ xs ∷ []
whole p [] none = refl
whole p (x ∷ xs) none = elim (p x) as
    (λ b. length (x ∷ xs) ≤ cond (not b) (1 + position_or_len p xs) 0 → cond b ([] ∷ slice_split p xs) (onto_first x (slice_split p xs)) ≡ (x ∷ xs) ∷ []) [
      | true ↦ λ none. absurd (omega arith)
      | false ↦ λ none. let rest : slice_split p xs ≡ xs ∷ [] = whole p xs (omega arith) in rw rest refl
    ] none

-- if an index is found, it is below the length
found_at : (a n at : ℕ) → cond (ltb a n) (Some a) None ≡ Some at → (a < n) × (a ≡ at)
found_at a n at found = go (ltb a n) refl found
  where
    go : (b : Bool) → ltb a n ≡ b → cond b (Some a) None ≡ Some at → (a < n) × (a ≡ at)
    go true is found = (ltb-true a n is, cc)
    go false is found = absurd (cc)

-- if no index is found, the length is returned
found_none : (a n : ℕ) → cond (ltb a n) (Some a) None ≡ None → n ≤ a
found_none a n found = go (ltb a n) refl found
  where
    go : (b : Bool) → ltb a n ≡ b → cond b (Some a) None ≡ None → n ≤ a
    go true is found = absurd (cc)
    go false is found = ltb-false a n is

-- if there is a separator, the first piece ends at the first one
pub piece_at : (p : ℕ → Bool) (xs : List ℕ) (at : ℕ) → position p xs ≡ Some at
    → slice_split p xs ≡ take at xs ∷ slice_split p (take (length xs - (at + 1)) (drop (at + 1) xs))
piece_at p xs at found =
    let place = found_at (position_or_len p xs) (length xs) at found in
    let all : take (length xs - (at + 1)) (drop (at + 1) xs) ≡ drop (at + 1) xs = take_all (length xs - (at + 1)) (drop (at + 1) xs) (simp length-drop (omega arith)) in
    slice_split_first p xs 0 place.0
    ∙ ap (λ n. take n xs ∷ slice_split p (drop (n + 1) xs)) place.1
    ∙ ap (λ rest. take at xs ∷ slice_split p rest) (sym all)

-- bytes without a separator are one piece
pub piece_alone : (p : ℕ → Bool) (xs : List ℕ) → position p xs ≡ None → slice_split p xs ≡ xs ∷ []
piece_alone p xs none = whole p xs (found_none (position_or_len p xs) (length xs) none)

-- if there is no piece, no bytes remain
pub some_piece : (separator : ℕ) (rest : Option (Bor (List ℕ))) → pieces_left separator rest ≡ [] → is_none rest ≡ true
some_piece separator None is = refl
some_piece separator (Some rest) is =
    let count = length-slice_split (λ b. b == separator) rest.now in
    absurd (omega (arith, count, ap length is))

-- if no bytes remain, there is no piece
pub no_piece : (separator : ℕ) (rest : Option (Bor (List ℕ))) → is_none rest ≡ true → pieces_left separator rest ≡ []
no_piece separator None is = refl
no_piece separator (Some rest) is = absurd (cc)

-- the number of bytes in some pieces, with one more for each piece
abbrev pub space : List (List ℕ) → ℕ
space [] = 0
space (piece ∷ pieces) = length piece + 1 + space pieces

-- one more byte in the first piece adds 1 to the number of bytes
space_first : (x : ℕ) (pieces : List (List ℕ)) → 1 ≤ space pieces → space (onto_first x pieces) ≡ space pieces + 1
space_first x [] some = absurd (omega (arith, some))
space_first x (piece ∷ pieces) some = omega arith

-- the count for the pieces of some bytes is the number of bytes plus 1
pub space_split : (p : ℕ → Bool) (xs : List ℕ) → space (slice_split p xs) ≡ length xs + 1
space_split p [] = refl
space_split p (x ∷ xs) = elim (p x) as (λ b. space (cond b ([] ∷ slice_split p xs) (onto_first x (slice_split p xs))) ≡ length (x ∷ xs) + 1) [
  | true ↦ omega (arith, space_split p xs)
  | false ↦ omega (arith, space_split p xs, space_first x (slice_split p xs) (omega (arith, space_split p xs)))
]

-- if there are pieces, they have at least one byte in this count
pub space_some : (pieces : List (List ℕ)) → pieces ≢ [] → 1 ≤ space pieces
space_some [] some = absurd (some refl)
space_some (piece ∷ pieces) some = omega arith
