-- The constants that differ between the two editions.
use Rattle.std.specs.Prelude.{ℕ, ◌+◌, ◌*◌, List}
use Rattle.pdp_words.specs.Words.{word, long}
use Rattle.vol_layout.specs.declared.edition.Edition.{Edition}
use Rattle.vol_layout.specs.declared.edition.Edition.TheVariants.{V6, V7}
use Rattle.vol_layout.specs.declared.edition.Constants.{Constants}

-- the constants of each edition (manual section 5, file system; filsys.h, ino.h, param.h)
abbrev pub constants : Edition → Constants
constants V6 = record {
  root = 1;
  inode_bytes = 32;
  inodes_per_block = 16;
  free_slots = 100;
  number_bytes = 2;
  pointers = 256;
  greatest = 16777215;
  number_limit = 65536;
  link_limit = 127;
  id_limit = 255;
  list_block_limit = 4095;
  block_limit = 65535;
}
constants V7 = record {
  root = 2;
  inode_bytes = 64;
  inodes_per_block = 8;
  free_slots = 50;
  number_bytes = 4;
  pointers = 128;
  greatest = 1082201088;
  number_limit = 16777216;
  link_limit = 32767;
  id_limit = 32767;
  list_block_limit = 8191;
  block_limit = 16777216;
}

-- the block number with index j in the array at byte `at`: words in the sixth edition, longs in the seventh (filsys.h, fblk.h)
abbrev pub number : Edition → List ℕ → ℕ → ℕ → ℕ
number V6 image at j = word image (at + 2 * j)
number V7 image at j = long image (at + 4 * j)
