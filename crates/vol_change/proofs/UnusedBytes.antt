-- Writes that don't change the unused bytes of i-nodes.
use Rattle.std.proofs.Common.{◌≡◌, ◌≢◌, ◌∙◌, ap, refl, true, ℕ, ◌+◌, ◌<◌, ◌≤◌, List, slice_index, inl, inr, arith}
use Rattle.std.proofs.lemmas.Bool.{cases_eq}
use Rattle.pdp_words.specs.Words.{SameOutside}
use Rattle.vol_layout.specs.Edition.{constants}
use Rattle.vol_layout.specs.Geometry.{Fits}
use Rattle.vol_layout.specs.Inode.{inode_place, kind_of}
use Rattle.vol_layout.specs.Super.{cache_head, time_place}
use Rattle.vol_layout.specs.declared.edition.Edition.{Edition}
use Rattle.vol_layout.specs.declared.edition.Edition.TheVariants.{V6, V7}
use Rattle.vol_layout.specs.declared.geometry.Geometry.{Geometry}
use Rattle.vol_layout.specs.declared.mode.Kind.TheVariants as kinds
use Rattle.vol_layout.proofs.CopyLaws.{copy_above}
use Rattle.vol_layout.proofs.InodeLaws.{KeepsInode, inode_apart, mode_kept, place_from}
use Rattle.vol_file.specs.Changes.{ChangesFileAlone, is_kept_byte}
use Rattle.vol_file.specs.Rules.{kind_at}
use Rattle.vol_change.specs.Unused.{KeepsUnused, IsCleared}
use Rattle.vol_change.proofs.OneNode.{alone_inode}
use Rattle.vol_layout.proofs.EditionLaws.{super_order}

-- if no byte of an i-node changes, byte 51 doesn't
byte_kept : (edition : Edition) (old new : List ℕ) (j : ℕ)
    → ((r : ℕ) → r < (constants edition).inode_bytes → slice_index new (inode_place edition j + r) ≡ slice_index old (inode_place edition j + r))
    → edition ≡ V7 → slice_index new (inode_place V7 j + 51) ≡ slice_index old (inode_place V7 j + 51)
byte_kept V6 old new j same v7 = absurd (cc)
byte_kept V7 old new j same v7 = same 51 (omega arith)

pub kept_unused : (geometry : Geometry) (old new : List ℕ) (j : ℕ) → KeepsInode geometry old new j → KeepsUnused geometry old new j
kept_unused geometry old new j kept = record { stays = byte_kept geometry.edition old new j kept.bytes; free = λ is. kept.bytes }

-- if no byte of an i-node changes, its kind doesn't
kind_kept : (geometry : Geometry) (old new : List ℕ) (j : ℕ) → KeepsInode geometry old new j → kind_at geometry new j ≡ kind_at geometry old j
kind_kept geometry old new j kept = ap (kind_of geometry.edition) (mode_kept geometry old new j kept)

-- if neither of two writes changes the unused bytes, both together don't
pub unused_then : (geometry : Geometry) (old mid new : List ℕ) (j : ℕ) → KeepsUnused geometry old mid j → KeepsUnused geometry mid new j
    → KeepsUnused geometry old new j
unused_then geometry old mid new j a b = record {
  stays = λ v7. b.stays v7 ∙ a.stays v7;
  free = λ is k h.
      let same : kind_at geometry mid j ≡ kind_at geometry old j = kind_kept geometry old mid j (record { bytes = a.free is }) in
      b.free (same ∙ is) k h ∙ a.free is k h;
}

-- without a write, the unused bytes don't change
pub nothing_unused : (geometry : Geometry) (old new : List ℕ) (j : ℕ) → new ≡ old → KeepsUnused geometry old new j
nothing_unused geometry old new j same = record {
  stays = λ v7. ap (λ xs. slice_index xs (inode_place V7 j + 51)) same;
  free = λ is k h. ap (λ xs. slice_index xs (inode_place geometry.edition j + k)) same;
}

-- a write before the i-list doesn't change the unused bytes
pub low_unused : (geometry : Geometry) (old new : List ℕ) (j from to : ℕ) → SameOutside old new from to → to ≤ 1024 → KeepsUnused geometry old new j
low_unused geometry old new j from to same low =
    let start = place_from geometry.edition j in
    kept_unused geometry old new j
    (copy_above old new from to (inode_place geometry.edition j) (constants geometry.edition).inode_bytes same (omega (arith, low, start)))

-- a write of another i-node doesn't change the unused bytes
pub other_unused : (geometry : Geometry) (old new : List ℕ) (i j : ℕ) → 1 ≤ i → 1 ≤ j → j ≢ i
    → SameOutside old new (inode_place geometry.edition i) (inode_place geometry.edition i + (constants geometry.edition).inode_bytes)
    → KeepsUnused geometry old new j
other_unused geometry old new i j first second other same = kept_unused geometry old new j (inode_apart geometry old new i j first second other same)

-- a write of i-node i, which isn't free, doesn't change the unused bytes if byte 51 stays the same
pub put_unused : (geometry : Geometry) (old new : List ℕ) (i j : ℕ) → 1 ≤ i → 1 ≤ j → kind_at geometry old i ≢ kinds.Free
    → SameOutside old new (inode_place geometry.edition i) (inode_place geometry.edition i + (constants geometry.edition).inode_bytes)
    → (geometry.edition ≡ V7 → slice_index new (inode_place V7 i + 51) ≡ slice_index old (inode_place V7 i + 51)) → KeepsUnused geometry old new j
put_unused geometry old new i j first second used same unused = elim (cases_eq j i) [
  | inl e ↦ rw e (record { stays = unused; free = λ is. absurd (used is) })
  | inr other ↦ other_unused geometry old new i j first second other same
]

-- the cache is before the i-list
pub cache_low : (edition : Edition) → cache_head edition + 202 ≤ 1024
cache_low edition = let order = super_order edition in omega (arith, order)

pub time_low : (edition : Edition) → time_place edition + 4 ≤ 1024
time_low edition = let order = super_order edition in omega (arith, order)

-- after a write before the i-list, a cleared i-node is still cleared
pub cleared_still : (geometry : Geometry) (old new : List ℕ) (i from to : ℕ) → SameOutside old new from to → to ≤ 1024
    → IsCleared geometry old i → IsCleared geometry new i
cleared_still geometry old new i from to same low cleared = record {
  zero = λ k h. let start = place_from geometry.edition i in same.above (inode_place geometry.edition i + k) (omega (arith, low, start)) ∙ cleared.zero k h;
}

-- an i-node of zeros is cleared
pub cleared_by : (geometry : Geometry) (image : List ℕ) (i : ℕ)
    → ((k : ℕ) → inode_place geometry.edition i ≤ k → k < inode_place geometry.edition i + (constants geometry.edition).inode_bytes
    → slice_index image k ≡ 0) → IsCleared geometry image i
cleared_by geometry image i zero = record { zero = λ k h. zero (inode_place geometry.edition i + k) (omega arith) (omega (arith, h)) }

-- a change of a file doesn't write byte 51 of its i-node
own_byte : (edition : Edition) (old new : List ℕ) (i : ℕ)
    → ((r : ℕ) → is_kept_byte edition r ≡ true → slice_index new (inode_place edition i + r) ≡ slice_index old (inode_place edition i + r))
    → edition ≡ V7 → slice_index new (inode_place V7 i + 51) ≡ slice_index old (inode_place V7 i + 51)
own_byte V6 old new i kept v7 = absurd (cc)
own_byte V7 old new i kept v7 = kept 51 refl

-- a change of a file, whose i-node isn't free, doesn't change the unused bytes of any i-node
pub file_unused : (geometry : Geometry) (old new : List ℕ) (i j : ℕ) → Fits geometry old → ChangesFileAlone geometry old new i
    → kind_at geometry old i ≢ kinds.Free → 1 ≤ i → 1 ≤ j → j ≤ geometry.last_inode → KeepsUnused geometry old new j
file_unused geometry old new i j fits alone used first second last = elim (cases_eq j i) [
  | inl e ↦ rw e (record { stays = own_byte geometry.edition old new i alone.elsewhere.inode; free = λ is. absurd (used is) })
  | inr other ↦ kept_unused geometry old new j (alone_inode geometry old new i j fits alone first second last other)
]
