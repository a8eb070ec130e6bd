-- Bytes written in pieces, and zeros written as holes.
use Rattle.std.proofs.Common.{◌≡◌, ◌∙◌, ◌==◌, ◌∷◌, [], true, replicate, slice_range, ◌-◌, ◌≤◌, ◌++◌, ℕ, List, length, take, Option, refl, sym, ap, subst, arith}
use Rattle.std.proofs.lemmas.Bool.{and_parts, eqb-true}
use Rattle.std.proofs.Math.Seq.{take-add}
use Rattle.std.proofs.KnownBytes.{Appends-trans}
use Rattle.std.specs.Io.KnownBytes.{Appends}
use Rattle.ustar.specs.Read.{is_zeros}

-- bytes that are all zero are so many zeros
pub are_zeros : (bytes : List ℕ) → is_zeros bytes ≡ true → bytes ≡ replicate (length bytes) 0
are_zeros [] all = refl
are_zeros (b ∷ bytes) all =
    let both = and_parts (b == 0) (is_zeros bytes) all in
    ap (λ n. n ∷ bytes) (eqb-true b 0 both.0) ∙ ap (λ rest. 0 ∷ rest) (are_zeros bytes both.1)

-- the first bytes of a list up to `to` are those up to `from` and the slice between
pub take_slice : (bytes : List ℕ) (from to : ℕ) → from ≤ to → take from bytes ++ slice_range bytes from to ≡ take to bytes
take_slice bytes from to up = sym (take-add from (to - from) bytes) ∙ ap (λ n. take n bytes) (omega (arith, up))

-- the first bytes of a list were written, and then the next piece
pub writes_piece : (a b c : Option (List ℕ)) (bytes : List ℕ) (from to : ℕ) → from ≤ to → Appends a b (take from bytes)
    → Appends b c (slice_range bytes from to) → Appends a c (take to bytes)
writes_piece a b c bytes from to up before piece =
    subst (Appends a c) (take_slice bytes from to up) (Appends-trans a b c (take from bytes) (slice_range bytes from to) before piece)
