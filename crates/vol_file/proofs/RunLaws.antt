-- Runs of logical blocks whose block numbers are stored next to each other.
use Rattle.std.proofs.Common.{◌≡◌, ℕ, suc, ◌+◌, ◌-◌, ◌/◌, ◌%◌, ◌<◌, ◌≤◌, ◌∙◌, sym, ap, subst, List, [], ◌∷◌, length, slice_index, arith, inl, inr, Some}
use Rattle.std.specs.Option.{option_map_or}
use Rattle.std.proofs.lemmas.Bool.{cases_lt}
use Rattle.vol_layout.specs.Edition.{constants}
use Rattle.vol_layout.specs.BlockPointers.{form_at, pointer_in, named, stored}
use Rattle.vol_layout.specs.BlockMaps.{pointer_count, last_place, place_to, end_of}
use Rattle.vol_layout.specs.declared.geometry.Geometry.{Geometry}
use Rattle.vol_layout.specs.declared.block_map.BlockMap.{BlockMap}
use Rattle.vol_layout.specs.declared.block_map.BlockMap.TheVariants.{Small, Large, Deep, Bare}
use Rattle.vol_layout.specs.declared.block_map.BlockPath.{BlockPath}
use Rattle.vol_layout.proofs.PlaceLaws.{last_leaf}
use Rattle.vol_layout.proofs.LastPlaces.{last_large, last_huge, last_single, last_double, last_triple}
use Rattle.vol_file.specs.Holes.{direct_count}
use Rattle.vol_file.proofs.Subtrees.{some_is, head_of, tail_of, pointers_at, length_to, named_under}

-- a position in the block map with `t` added to its last index
abbrev moved : ℕ → List ℕ → List ℕ
moved t p = (head_of p + t) ∷ tail_of p

-- the position in the block map of logical block `b + t` of a large file, if it is in the same indirect block as block `b`
next_large : (b t : ℕ) → b < 1792 → b % 256 + t < 256 → last_place Large (b + t) ≡ Some ((b % 256 + t) ∷ ((b / 256) ∷ []))
next_large b t low within =
    let entry : (b + t) % 256 ≡ b % 256 + t = omega arith in
    let above : (b + t) / 256 ≡ b / 256 = omega arith in
    last_large (b + t) (omega arith) ∙ (ap (λ x. Some (x ∷ (((b + t) / 256) ∷ []))) entry ∙ ap (λ x. Some ((b % 256 + t) ∷ (x ∷ []))) above)

-- the position in the block map of logical block `b + t` of a large file, if it is in the same indirect block as block `b`, below the doubly indirect
-- block
next_huge : (b t : ℕ) → 1792 ≤ b → b < 32768 → b % 256 + t < 256 → last_place Large (b + t) ≡ Some ((b % 256 + t) ∷ ((b / 256 - 7) ∷ (7 ∷ [])))
next_huge b t low high within =
    let entry : (b + t) % 256 ≡ b % 256 + t = omega arith in
    let above : (b + t) / 256 ≡ b / 256 = omega arith in
    last_huge (b + t) (omega arith) (omega arith)
    ∙ (ap (λ x. Some (x ∷ (((b + t) / 256 - 7) ∷ (7 ∷ [])))) entry ∙ ap (λ x. Some ((b % 256 + t) ∷ ((x - 7) ∷ (7 ∷ [])))) above)

-- the position in the block map of logical block `b + t` below the indirect block of the seventh edition
next_single : (b t : ℕ) → 10 ≤ b → b < 138 → b - 10 + t < 128 → last_place Deep (b + t) ≡ Some ((b - 10 + t) ∷ (10 ∷ []))
next_single b t low high within =
    let entry : b + t - 10 ≡ b - 10 + t = omega arith in
    last_single (b + t) (omega arith) (omega arith) ∙ ap (λ x. Some (x ∷ (10 ∷ []))) entry

-- the position in the block map of logical block `b + t`, if it is in the same indirect block as block `b`, below the doubly indirect block of the
-- seventh edition
next_double : (b t : ℕ) → 138 ≤ b → b < 16522 → (b - 138) % 128 + t < 128
    → last_place Deep (b + t) ≡ Some (((b - 138) % 128 + t) ∷ (((b - 138) / 128) ∷ (11 ∷ [])))
next_double b t low high within =
    let entry : (b + t - 138) % 128 ≡ (b - 138) % 128 + t = omega arith in
    let above : (b + t - 138) / 128 ≡ (b - 138) / 128 = omega arith in
    last_double (b + t) (omega arith) (omega arith)
    ∙ (ap (λ x. Some (x ∷ (((b + t - 138) / 128) ∷ (11 ∷ [])))) entry ∙ ap (λ x. Some (((b - 138) % 128 + t) ∷ (x ∷ (11 ∷ [])))) above)

-- the position in the block map of logical block `b + t`, if it is in the same indirect block as block `b`, below the triply indirect block of the
-- seventh edition
next_triple : (b t : ℕ) → 16522 ≤ b → b < 2113674 → (b - 16522) % 128 + t < 128
    → last_place Deep (b + t) ≡ Some (((b - 16522) % 128 + t) ∷ (((b - 16522) / 128 % 128) ∷ (((b - 16522) / 16384) ∷ (12 ∷ []))))
next_triple b t low high within =
    let entry : (b + t - 16522) % 128 ≡ (b - 16522) % 128 + t = omega arith in
    let above : (b + t - 16522) / 128 ≡ (b - 16522) / 128 = omega arith in
    let top : (b + t - 16522) / 16384 ≡ (b - 16522) / 16384 = omega arith in
    last_triple (b + t) (omega arith) (omega arith)
    ∙ (ap (λ x. Some (x ∷ (((b + t - 16522) / 128 % 128) ∷ (((b + t - 16522) / 16384) ∷ (12 ∷ []))))) entry
    ∙ (ap (λ x. Some (((b - 16522) % 128 + t) ∷ ((x % 128) ∷ (((b + t - 16522) / 16384) ∷ (12 ∷ []))))) above
    ∙ ap (λ x. Some (((b - 16522) % 128 + t) ∷ (((b - 16522) / 128 % 128) ∷ (x ∷ (12 ∷ []))))) top))

-- logical block `b` is at position `p` in the block map, an entry of an indirect block, and the entries after it are the positions of the next
-- logical blocks
pub record IsFollowed (form : BlockMap) (b : ℕ) (p : List ℕ) : Type 0 where
  pub deep : 2 ≤ length p
  pub next : (t : ℕ) → head_of p + t < pointer_count form → last_place form (b + t) ≡ Some (moved t p)

-- `IsFollowed` holds for a position in the block map if it holds for an equal position
followed_as : (form : BlockMap) (b : ℕ) (p q : List ℕ) → last_place form b ≡ Some p → last_place form b ≡ Some q → IsFollowed form b q → IsFollowed form b p
followed_as form b p q e is followed = subst (IsFollowed form b) (some_is q p (sym is ∙ e)) followed

pub followed : (form : BlockMap) (b : ℕ) (p : List ℕ) → direct_count form ≤ b → last_place form b ≡ Some p → IsFollowed form b p
followed Small b p behind e = let low : b < 8 = (last_leaf Small b p e).limit in absurd (omega arith)
followed Large b p behind e = elim (cases_lt b 1792) [
  | inl low ↦ followed_as Large b p _ e (last_large b low) (record { deep = omega arith; next = λ t within. next_large b t low within })
  | inr low ↦
      let high : b < 32768 = (last_leaf Large b p e).limit in
      followed_as Large b p _ e (last_huge b low high) (record { deep = omega arith; next = λ t within. next_huge b t low high within })
]
followed Deep b p behind e =
    let limit : b < 2113674 = (last_leaf Deep b p e).limit in
    elim (cases_lt b 138) [
      | inl low ↦ followed_as Deep b p _ e (last_single b behind low) (record { deep = omega arith; next = λ t within. next_single b t behind low within })
      | inr second ↦ elim (cases_lt b 16522) [
        | inl low ↦ followed_as Deep b p _ e (last_double b second low) (record { deep = omega arith; next = λ t within. next_double b t second low within })
        | inr third ↦ followed_as Deep b p _ e (last_triple b third limit) (record { deep = omega arith; next = λ t within. next_triple b t third limit within })
      ]
    ]
followed Bare b p behind e = let limit : b < 0 = (last_leaf Bare b p e).limit in absurd (omega arith)

-- the path of a logical block after the direct ones has an indirect block
pub deep_way : (form : BlockMap) (b : ℕ) (way : BlockPath) → direct_count form ≤ b → Some (end_of way) ≡ last_place form b → 1 ≤ way.depth
deep_way form b way behind e =
    let deep = (followed form b (end_of way) behind (sym e)).deep in
    let long : length (end_of way) ≡ suc way.depth = length_to way.address way.entries way.depth in
    omega arith

-- the number of logical block `b + t` is stored `t` entries after the number of block `b`
pub stored_behind : (geometry : Geometry) (image : List ℕ) (i : ℕ) (form : BlockMap) (b above t : ℕ) (way : BlockPath) → form ≡ form_at geometry image i
    → direct_count form ≤ b → Some (end_of way) ≡ last_place form b → above + 1 ≡ way.depth
    → slice_index way.entries above + t < (constants geometry.edition).pointers
    → stored geometry image i form (b + t)
    ≡ pointer_in geometry image (named geometry image i (place_to way.address way.entries above)) (slice_index way.entries above + t)
stored_behind geometry image i form b above t way is behind e last within =
    let p = end_of way in
    let j = slice_index way.entries above in
    let depth : way.depth ≡ suc above = omega arith in
    let top : p ≡ j ∷ place_to way.address way.entries above = ap (place_to way.address way.entries) depth in
    let head : head_of p ≡ j = ap head_of top in
    let next : last_place form (b + t) ≡ Some (moved t p) =
    (followed form b p behind (sym e)).next t (omega (arith, head, pointers_at geometry image i form b way is e, within)) in
    ap (λ o. option_map_or (named geometry image i) o 0) (next ∙ ap (λ q. Some (moved t q)) top)
    ∙ named_under geometry image i way.address way.entries above (j + t)

-- an i-node has at most ten addresses of data blocks
pub few_direct : (form : BlockMap) → direct_count form ≤ 10
few_direct Small = omega arith
few_direct Large = omega arith
few_direct Deep = omega arith
few_direct Bare = omega arith
