-- The i-list and the cache of i-numbers.
use Rattle.std.proofs.Common.{◌≡◌, ℕ, ◌+◌, ◌*◌, ◌<◌, List, arith}
use Rattle.vol_layout.specs.Edition.{constants}
use Rattle.vol_layout.specs.Geometry.{Fits}
use Rattle.vol_layout.specs.declared.geometry.Geometry.{Geometry}
use Rattle.vol_layout.specs.declared.edition.Edition.{Edition}
use Rattle.vol_layout.specs.declared.edition.Edition.TheVariants.{V6, V7}

-- the last i-number is not the greatest 16-bit number, since the i-list has whole blocks
last_by : (edition : Edition) (last start : ℕ) → 1024 + (constants edition).inode_bytes * last ≡ 512 * start → last < 65536 → last + 1 < 65536
last_by V6 last start e h = omega arith
last_by V7 last start e h = omega arith

-- the last i-number plus one fits 16 bits
pub last_below : {geometry : Geometry} {image : List ℕ} → Fits geometry image → geometry.last_inode < 65536 → geometry.last_inode + 1 < 65536
last_below {geometry = geometry} fits h = last_by geometry.edition geometry.last_inode geometry.zone_start fits.i_list h
