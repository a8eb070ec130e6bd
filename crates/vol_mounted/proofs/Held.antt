-- The number of bytes of the files without a name.
use Rattle.std.proofs.Common.{◌≡◌, ap, ℕ, ◌+◌, ◌-◌, ◌<◌, List, length, drop, get_or, arith}
use Rattle.std.proofs.lemmas.List.Sums.{sum_by-drop_more}
use Rattle.vol_mounted.specs.Orphans.{held_by, size_of}
use Rattle.vol_mounted.specs.declared.orphan.Orphan.{Orphan}

-- the files that start at index `i` have the bytes of file `i` and of the files after it
pub next_held : (files : List Orphan) (i spare : ℕ) (file : Orphan) → i < length files → file ≡ get_or files i file
    → spare - held_by (drop i files) ≡ (spare - size_of file) - held_by (drop (i + 1) files)
next_held files i spare file within is =
    let more : held_by (drop i files) ≡ size_of (get_or files i file) + held_by (drop (i + 1) files) = sum_by-drop_more size_of files i file within in
    let same : size_of file ≡ size_of (get_or files i file) = ap size_of is in
    omega (arith, more, same)
