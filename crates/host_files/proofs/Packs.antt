-- A volume in a pack: read, and written in its place.
use Rattle.std.proofs.Common.{◌≡◌, ◌∙◌, ◌+◌, ◌≤◌, ◌++◌, ℕ, true, false, List, [], length, take, drop, Option, None, Some, inl, inr, refl, sym, ap, subst, length-append, length-drop, arith}
use Rattle.std.proofs.Math.Seq.{drop-append-add, take-append_seam}
use Rattle.std.proofs.lemmas.List.{drop_at, drop-drop, length-take-le}
use Rattle.std.proofs.KnownBytes.{Appends-trans, Consumes-trans}
use Rattle.std.specs.Io.KnownBytes.{Appends}
use Rattle.host_files.specs.Packs.{IsCopied, IsMisfit, IsMovedTo, IsReadFrom, IsShorter, IsSpliced, spliced}
use Rattle.host_files.specs.ReadParts.{IsReadUpTo, IsSkipped}
use Rattle.host_files.specs.declared.volume_front.UpTo.{UpTo}

-- if the first bytes of a pack were dropped, what is left is the rest of the pack
left_after : (at : ℕ) (pack rest : List ℕ) → IsMovedTo at (Some pack) (Some rest) → drop at pack ≡ rest
left_after at pack rest (lost, front, all) = ap (drop at) front ∙ drop_at lost rest at all

-- the bytes that are read from a pack at byte `at` are those that would be read from the rest of the pack, by itself
pub read_of_rest : (at : ℕ) (up_to : UpTo) (pack : List ℕ) (new : Option (List ℕ)) (bytes : List ℕ) → IsReadFrom at up_to (Some pack) new bytes
    → IsReadUpTo up_to (Some (drop at pack)) new bytes
read_of_rest at up_to pack new bytes (None, moved, read) = absurd moved.1
read_of_rest at up_to pack new bytes (Some rest, moved, read) =
    subst (λ known. IsReadUpTo up_to (Some known) new bytes) (sym (left_after at pack rest moved)) read

-- a file that stays where it is was moved over no bytes
pub stays : (count : ℕ) (known : Option (List ℕ)) → count ≡ 0 → IsMovedTo count known known
stays count None none = ([], tt, sym none)
stays count (Some bytes) none = ([], refl, sym none)

-- a file of which so many bytes were read and dropped was moved over them
pub skipped_to : (count : ℕ) (old new : Option (List ℕ)) → IsSkipped count old new false → IsMovedTo count old new
skipped_to count old new (lost, front, end, on) = (lost, front, on refl)

-- a file that ended while so many bytes were read and dropped has fewer
pub skipped_all : (count : ℕ) (old new : Option (List ℕ)) → IsSkipped count old new true → IsShorter count old
skipped_all count old new (lost, front, end, on) =
    let ended = end refl in (lost, new, front, ended.0, ended.1)

-- a pack with a volume in its place is as long as before
pub spliced_length : (at : ℕ) (bytes pack : List ℕ) → at + length bytes ≤ length pack → length (spliced at bytes pack) ≡ length pack
spliced_length at bytes pack within =
    omega (
      arith,
      within,
      length-append (take at pack) (bytes ++ drop (at + length bytes) pack),
      length-append bytes (drop (at + length bytes) pack),
      length-take-le at pack (omega (arith, within)),
      length-drop (at + length bytes) pack,
    )

-- what is read at the volume's place is the volume
pub spliced_volume : (at : ℕ) (bytes pack : List ℕ) → at + length bytes ≤ length pack
    → take (length bytes) (drop at (spliced at bytes pack)) ≡ bytes
spliced_volume at bytes pack within =
    ap (take (length bytes)) (drop_at (take at pack) (bytes ++ drop (at + length bytes) pack) at (length-take-le at pack (omega (arith, within))))
    ∙ take-append_seam bytes (drop (at + length bytes) pack)

-- what follows the volume is the same as before
pub spliced_rest : (at : ℕ) (bytes pack : List ℕ) → at + length bytes ≤ length pack
    → drop (at + length bytes) (spliced at bytes pack) ≡ drop (at + length bytes) pack
spliced_rest at bytes pack within =
    sym (drop-drop (length bytes) at (spliced at bytes pack))
    ∙ ap (drop (length bytes)) (drop_at (take at pack) (bytes ++ drop (at + length bytes) pack) at (length-take-le at pack (omega (arith, within))))
    ∙ drop_at bytes (drop (at + length bytes) pack) (length bytes) refl

-- what precedes the volume is the same as before
pub spliced_front : (at : ℕ) (bytes pack : List ℕ) → at + length bytes ≤ length pack → take at (spliced at bytes pack) ≡ take at pack
spliced_front at bytes pack within =
    let same = length-take-le at pack (omega (arith, within)) in
    subst (λ n. take n (spliced at bytes pack) ≡ take at pack) same (take-append_seam (take at pack) (bytes ++ drop (at + length bytes) pack))

-- a pack of three pieces is spliced by its first, the new bytes and its last
pub spliced_pieces : (at : ℕ) (bytes front middle rest : List ℕ) → length front ≡ at → length middle ≡ length bytes
    → spliced at bytes (front ++ (middle ++ rest)) ≡ front ++ (bytes ++ rest)
spliced_pieces at bytes front middle rest first same =
    let all = front ++ (middle ++ rest) in
    let start : take at all ≡ front = subst (λ n. take n all ≡ front) first (take-append_seam front (middle ++ rest)) in
    let end : drop (at + length bytes) all ≡ rest =
    subst (λ n. drop (n + length bytes) all ≡ rest) first
    (drop-append-add front (middle ++ rest) (length bytes) ∙ drop_at middle rest (length bytes) same) in
    rw (start, end) refl

-- what was copied before, replaced, and copied behind is the whole pack with the bytes in place
pub are_spliced : (at most : ℕ) (bytes : List ℕ) (a b c d p q r s : Option (List ℕ)) → IsCopied at a b p q false → Appends q r bytes
    → IsSkipped (length bytes) b c false → IsCopied most c d r s true → IsSpliced at bytes a d p s
are_spliced at most bytes a b c d p q r s first written (lost, skipped, end, on) last =
    let pack = first.bytes ++ (lost ++ last.bytes) in (
      pack,
      Consumes-trans a b d first.bytes (lost ++ last.bytes) first.front (Consumes-trans b c d lost last.bytes skipped last.front),
      (last.end refl).0,
      omega (arith, length-append first.bytes (lost ++ last.bytes), length-append lost last.bytes, first.full refl, on refl),
      subst (Appends p s) (sym (spliced_pieces at bytes first.bytes lost last.bytes (first.full refl) (on refl)))
          (Appends-trans p q s first.bytes (bytes ++ last.bytes) first.written (Appends-trans q r s bytes last.bytes written last.written)),
    )

-- a pack that ends within the bytes to be replaced doesn't have them all
pub misfit_short : (at size : ℕ) (a b c p q : Option (List ℕ)) → IsCopied at a b p q false → IsSkipped size b c true → IsMisfit (at + size) a c
misfit_short at size a b c p q first (lost, skipped, end, on) =
    let ended = end refl in (
      first.bytes ++ lost,
      Consumes-trans a b c first.bytes lost first.front skipped,
      inl (ended.0, omega (arith, length-append first.bytes lost, first.full refl, ended.1)),
    )

-- a pack that continues for 2^64 - 1 bytes after those to be replaced
pub misfit_long : (at size : ℕ) (a b c d p q r s : Option (List ℕ)) → IsCopied at a b p q false → IsSkipped size b c false
    → IsCopied 18446744073709551615 c d r s false → IsMisfit (at + size) a d
misfit_long at size a b c d p q r s first (lost, skipped, end, on) last = (
  first.bytes ++ (lost ++ last.bytes),
  Consumes-trans a b d first.bytes (lost ++ last.bytes) first.front (Consumes-trans b c d lost last.bytes skipped last.front),
  inr (omega (arith, length-append first.bytes (lost ++ last.bytes), length-append lost last.bytes, first.full refl, on refl, last.full refl)),
)
