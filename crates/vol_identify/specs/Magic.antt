-- What the first bytes of a file say that isn't a volume.
use Rattle.std.specs.Prelude.{ℕ, Bool, ◌&&◌, ◌==◌, nat_eq, nat_le, if◌then◌else◌, List, [], ◌∷◌, ◌++◌, codes, length, is_ok, Option, None, Some}
use Rattle.std.specs.List.{starts_with}
use Rattle.pdp_words.specs.Words.{word, block_of}
use Rattle.ustar.specs.Read.{read_header}
use Rattle.vol_identify.specs.declared.magic.Packing.{Packing}
use Rattle.vol_identify.specs.declared.magic.Packing.TheVariants.{Gzip, Bzip2, Xz, Zstd, Zip}

-- the program that packed a file, by its first bytes (file(1), magic)
unfoldable pub packing_of : List ℕ → Option Packing
packing_of bytes =
    if starts_with nat_eq bytes (0x1F ∷ 0x8B ∷ []) then Some Gzip
    else if starts_with nat_eq bytes (codes "BZh") then Some Bzip2
    else if starts_with nat_eq bytes (0xFD ∷ codes "7zXZ" ++ 0 ∷ []) then Some Xz
    else if starts_with nat_eq bytes (0x28 ∷ 0xB5 ∷ 0x2F ∷ 0xFD ∷ []) then Some Zstd
    else if starts_with nat_eq bytes (codes "PK" ++ 3 ∷ 4 ∷ []) then Some Zip
    else None

-- true if the first block is a header of an archive, of POSIX, GNU tar or V7's tar, with its checksum (POSIX, ustar interchange format)
abbrev pub is_tar : List ℕ → Bool
is_tar image = nat_le 512 (length image) && is_ok (read_header (block_of image 0))

-- true if s_magic of a super-block of ext2 is at its place (ext2_fs.h)
abbrev pub is_ext2 : List ℕ → Bool
is_ext2 image = word image 1080 == 0xEF53
