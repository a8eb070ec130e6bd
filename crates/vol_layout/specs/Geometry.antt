-- The division of a volume into blocks, as stated by its super-block.
use Rattle.std.specs.Prelude.{◌≡◌, ℕ, ◌+◌, ◌-◌, ◌*◌, ◌<◌, ◌≤◌, Bool, ◌&&◌, nat_lt, nat_le, if◌then◌else◌, List, length, Result, Ok, Err}
use Rattle.pdp_words.specs.Words.{word, long}
use Rattle.vol_layout.specs.Edition.{constants}
use Rattle.vol_layout.specs.declared.edition.Edition.{Edition}
use Rattle.vol_layout.specs.declared.edition.Edition.TheVariants.{V6, V7}
use Rattle.vol_layout.specs.declared.geometry.Geometry.{Geometry}
use Rattle.vol_layout.specs.declared.geometry.GeometryFault.{GeometryFault}
use Rattle.vol_layout.specs.declared.geometry.GeometryFault.TheVariants.{Short, Bounds}

-- the word isize of the super-block: the number of blocks of the i-list in the sixth edition, the first block after the i-list in the seventh
-- (filsys.h)
abbrev pub list_size : List ℕ → ℕ
list_size image = word image 512

-- fsize of the super-block: the volume's number of blocks (filsys.h)
abbrev pub block_count : Edition → List ℕ → ℕ
block_count V6 image = word image 514
block_count V7 image = long image 514

-- rule 1: the image has at least 1024 bytes, and at least as many blocks as the super-block states (this project)
abbrev pub is_whole : Edition → List ℕ → Bool
is_whole edition image = nat_le 1024 (length image) && nat_le (512 * block_count edition image) (length image)

-- rule 2: the i-list and the data zone have at least one block each, and the sizes are within the edition's limits (this project)
abbrev pub is_bounded : Edition → List ℕ → Bool
is_bounded V6 image =
    nat_le 1 (list_size image) && (nat_le (list_size image) (constants V6).list_block_limit
    && nat_lt (list_size image + 2) (block_count V6 image))
is_bounded V7 image =
    nat_le 3 (list_size image) && (nat_le (list_size image) ((constants V7).list_block_limit + 2)
    && (nat_lt (list_size image) (block_count V7 image) && nat_le (block_count V7 image) (constants V7).block_limit))

-- the first block after the i-list; blocks 0 and 1 and the i-list are before it (manual section 5, file system)
abbrev pub first_data_block : Edition → List ℕ → ℕ
first_data_block V6 image = list_size image + 2
first_data_block V7 image = list_size image

-- the geometry that the super-block states (filsys.h)
abbrev pub geometry_of : Edition → List ℕ → Geometry
geometry_of edition image = record {
  edition = edition;
  zone_start = first_data_block edition image;
  zone_end = block_count edition image;
  last_inode = (constants edition).inodes_per_block * (first_data_block edition image - 2);
}

-- the result of reading the geometry: rule 1 is checked before rule 2 (this project)
unfoldable pub geometry_read : Edition → List ℕ → Result Geometry GeometryFault
geometry_read edition image =
    if is_whole edition image then (if is_bounded edition image then Ok (geometry_of edition image) else Err Bounds) else Err Short

-- true if a number is the number of a data block (icheck)
abbrev pub in_zone : Geometry → ℕ → Bool
in_zone geometry k = nat_le geometry.zone_start k && nat_lt k geometry.zone_end

-- the image has all blocks of the geometry, the i-list ends where the data zone begins, the data zone has at least one block, the root's i-number is
-- below the last, and the edition can store each block number (this project; rules 1 and 2 imply all that)
pub record Fits (geometry : Geometry) (image : List ℕ) : Type 0 where
  pub blocks : 512 * geometry.zone_end ≤ length image
  pub i_list : 1024 + (constants geometry.edition).inode_bytes * geometry.last_inode ≡ 512 * geometry.zone_start
  pub zone : geometry.zone_start < geometry.zone_end
  pub root : (constants geometry.edition).root < geometry.last_inode
  pub limit : geometry.zone_end ≤ (constants geometry.edition).number_limit
