-- The positions of the super-block's fields. The super-block is block 1.
use Rattle.std.specs.Prelude.{ℕ, ◌+◌}
use Rattle.vol_layout.specs.declared.edition.Edition.{Edition}
use Rattle.vol_layout.specs.declared.edition.Edition.TheVariants.{V6, V7}
use Rattle.vol_layout.specs.declared.super_block.Flag.{Flag}
use Rattle.vol_layout.specs.declared.super_block.Flag.TheVariants as flags

-- the byte of nfree, the count of the free list; the array follows it (filsys.h)
abbrev pub free_head : Edition → ℕ
free_head V6 = 516
free_head V7 = 518

-- the byte of ninode, the count of the i-number cache; the array follows it (filsys.h)
abbrev pub cache_head : Edition → ℕ
cache_head V6 = 718
cache_head V7 = 720

-- the offset of a flag byte from the first flag byte (filsys.h)
abbrev pub flag_offset : Flag → ℕ
flag_offset flags.FreeLock = 0
flag_offset flags.InodeLock = 1
flag_offset flags.Modified = 2
flag_offset flags.ReadOnly = 3

-- the byte of a flag: flock, ilock, fmod or ronly (filsys.h)
abbrev pub flag_place : Edition → Flag → ℕ
flag_place V6 flag = 920 + flag_offset flag
flag_place V7 flag = 922 + flag_offset flag

-- the byte of the time of the last change (filsys.h)
abbrev pub time_place : Edition → ℕ
time_place V6 = 924
time_place V7 = 926
