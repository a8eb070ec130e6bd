-- Writing a list of bytes piece by piece.
use Rattle.std.specs.Prelude.{slice_range, Option}
use Rattle.std.specs.Io.KnownBytes.{Appends}
use Rattle.std.proofs.KnownBytes.{Appends-trans}
use Rattle.std.proofs.Common.{◌≡◌, ℕ, ◌+◌, ◌-◌, ◌≤◌, ◌∙◌, sym, ap, subst, arith, List, ◌++◌, take, drop}
use Rattle.std.proofs.lemmas.List.{take-take}
use Rattle.std.proofs.Math.Seq.{take-add}

-- the first `n + m` bytes of a list are its first `n` bytes followed by the first `m` bytes of the piece that begins after them
take_on : (bytes : List ℕ) (n count m : ℕ) → m ≤ count
    → take (n + m) bytes ≡ take n bytes ++ take m (slice_range bytes n (n + count))
take_on bytes n count m h =
    let whole : m ≤ n + count - n = omega arith in
    take-add n m bytes ∙ ap (λ xs. take n bytes ++ xs) (sym (take-take m (n + count - n) (drop n bytes) whole))

-- writing the first `n` bytes, and then the first `m` bytes of the piece after them, writes the first `n + m` bytes
pub Appends-more : (a b c : Option (List ℕ)) (bytes piece : List ℕ) (n count m : ℕ) → m ≤ count
    → piece ≡ slice_range bytes n (n + count) → Appends a b (take n bytes) → Appends b c (take m piece)
    → Appends a c (take (n + m) bytes)
Appends-more a b c bytes piece n count m h part front more =
    let whole : take (n + m) bytes ≡ take n bytes ++ take m piece =
    take_on bytes n count m h ∙ ap (λ xs. take n bytes ++ take m xs) (sym part) in
    subst (Appends a c) (sym whole) (Appends-trans a b c _ _ front more)
