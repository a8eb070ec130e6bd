-- Lemmas about the sizes and fields of a new volume.
use Rattle.std.proofs.Common.{◌≡◌, ℕ, ◌-◌, ◌*◌, ◌<◌, ◌≤◌, List, length, true, ◌∙◌, arith, get_or, Ok}
use Rattle.std.proofs.lemmas.Bool.Decides.{nat_tests}
use Rattle.pdp_words.specs.Words.{long}
use Rattle.vol_layout.specs.Edition.{constants}
use Rattle.vol_layout.specs.Geometry.{Fits, is_whole, is_bounded, first_data_block, block_count, geometry_read}
use Rattle.vol_layout.specs.Super.{free_head, time_place}
use Rattle.vol_layout.proofs.CopyLaws.{IsCopy, long_copied}
use Rattle.vol_layout.proofs.GeometryLaws.{read_whole}
use Rattle.vol_mkfs.specs.Mkfs.{is_size, IsMakeable}
use Rattle.vol_layout.specs.declared.edition.Edition.{Edition}
use Rattle.vol_layout.specs.declared.edition.Edition.TheVariants.{V6, V7}
use Rattle.vol_layout.specs.declared.geometry.Geometry.{Geometry}

-- the sizes of a volume that can be created fit an image with this number of blocks
fits_by : (edition : Edition) (start end last : ℕ) (image : List ℕ) → is_size edition end (start - 2) ≡ true → 3 ≤ start
    → last ≡ (constants edition).inodes_per_block * (start - 2) → length image ≡ 512 * end
    → Fits (record { edition = edition; zone_start = start; zone_end = end; last_inode = last }) image
fits_by V6 start end last image size low inodes len =
    let sizes : (start < end) × (end ≤ 65535) = grind (arith, nat_tests) in
    record { blocks = omega arith; i_list = omega arith; zone = omega arith; root = omega arith; limit = omega arith }
fits_by V7 start end last image size low inodes len =
    let sizes : (start < end) × (end ≤ 16777216) = grind (arith, nat_tests) in
    record { blocks = omega arith; i_list = omega arith; zone = omega arith; root = omega arith; limit = omega arith }

-- the same law for a geometry
pub fits_makeable : (geometry : Geometry) (image : List ℕ) → IsMakeable geometry → length image ≡ 512 * geometry.zone_end → Fits geometry image
fits_makeable geometry image makeable len =
    fits_by geometry.edition geometry.zone_start geometry.zone_end geometry.last_inode image makeable.size makeable.start makeable.inodes len

-- the first data block of a volume that can be created is below the edition's limit of block numbers
start_by : (edition : Edition) (start end : ℕ) → is_size edition end (start - 2) ≡ true → 3 ≤ start → start < (constants edition).number_limit
start_by V6 start end size low = let sizes : (start < end) × (end ≤ 65535) = grind (arith, nat_tests) in omega arith
start_by V7 start end size low = let sizes : (start < end) × (end ≤ 16777216) = grind (arith, nat_tests) in omega arith

-- the same law for a geometry
pub start_limit : (geometry : Geometry) → IsMakeable geometry → geometry.zone_start < (constants geometry.edition).number_limit
start_limit geometry makeable = start_by geometry.edition geometry.zone_start geometry.zone_end makeable.size makeable.start

-- reading the geometry of an image whose super-block has the sizes of a volume that can be created succeeds
read_by : (edition : Edition) (start end last : ℕ) (image : List ℕ) → is_size edition end (start - 2) ≡ true → 3 ≤ start
    → last ≡ (constants edition).inodes_per_block * (start - 2) → length image ≡ 512 * end
    → first_data_block edition image ≡ start → block_count edition image ≡ end
    → geometry_read edition image ≡ Ok (record { edition = edition; zone_start = start; zone_end = end; last_inode = last })
read_by V6 start end last image size low inodes len first count =
    let whole : is_whole V6 image ≡ true = grind (arith, nat_tests) in
    let bounded : is_bounded V6 image ≡ true = grind (arith, nat_tests) in
    read_whole V6 image whole bounded ∙ rw (first, count, ← inodes)
read_by V7 start end last image size low inodes len first count =
    let whole : is_whole V7 image ≡ true = grind (arith, nat_tests) in
    let bounded : is_bounded V7 image ≡ true = grind (arith, nat_tests) in
    read_whole V7 image whole bounded ∙ rw (first, count, ← inodes)

-- the same law for a geometry
pub read_makeable : (geometry : Geometry) (image : List ℕ) → IsMakeable geometry → length image ≡ 512 * geometry.zone_end
    → first_data_block geometry.edition image ≡ geometry.zone_start → block_count geometry.edition image ≡ geometry.zone_end
    → geometry_read geometry.edition image ≡ Ok geometry
read_makeable geometry image makeable len first count =
    read_by geometry.edition geometry.zone_start geometry.zone_end geometry.last_inode image makeable.size makeable.start makeable.inodes len first count

-- if no byte before the free list changes, the sizes don't change
pub sizes_kept : (edition : Edition) (old new : List ℕ) → ((k : ℕ) → k < free_head edition → get_or new k 0 ≡ get_or old k 0)
    → (first_data_block edition new ≡ first_data_block edition old) × (block_count edition new ≡ block_count edition old)
sizes_kept V6 old new same =
    let b0 = same 512 (omega arith) in let b1 = same 513 (omega arith) in let b2 = same 514 (omega arith) in let b3 = same 515 (omega arith) in
    (omega arith, omega arith)
sizes_kept V7 old new same =
    let b0 = same 512 (omega arith) in let b1 = same 513 (omega arith) in let b2 = same 514 (omega arith) in let b3 = same 515 (omega arith) in
    let b4 = same 516 (omega arith) in let b5 = same 517 (omega arith) in
    (omega arith, omega arith)

-- if the bytes of the time don't change, the time doesn't change
pub time_kept : (edition : Edition) (old new : List ℕ) → IsCopy old new (time_place edition) (time_place edition) 4
    → long new (time_place edition) ≡ long old (time_place edition)
time_kept edition old new copy =
    long_copied old new (time_place edition) (time_place edition) 4 0 (time_place edition) (time_place edition) copy (omega arith) (omega arith) (omega arith)
