-- Laws of the block numbers in the block map of a file.
use Rattle.std.proofs.Common.{◌≡◌, ◌≢◌, ℕ, ◌*◌, ◌<◌, ◌≤◌, ◌∙◌, sym, ap, subst, List, [], ◌∷◌, true, false, refl, arith, inl, inr, Some, None}
use Rattle.vol_layout.specs.Edition.{number}
use Rattle.vol_layout.specs.Geometry.{in_zone, Fits}
use Rattle.vol_layout.specs.BlockPointers.{pointer_in, named, Holds, stored}
use Rattle.vol_layout.specs.BlockMaps.{last_place}
use Rattle.vol_layout.specs.declared.block_map.BlockMap.{BlockMap}
use Rattle.std.specs.Option.{option_map_or}
use Rattle.vol_layout.specs.Laws.{IsFront}
use Rattle.vol_layout.specs.declared.geometry.Geometry.{Geometry}
use Rattle.vol_layout.proofs.BodyLaws.{zone_bounds}

-- an entry of a data block is the block number stored there
pub entry_in : (geometry : Geometry) (image : List ℕ) (m j : ℕ) → in_zone geometry m ≡ true
    → pointer_in geometry image m j ≡ number geometry.edition image (512 * m) j
unfolding pointer_in
entry_in geometry image m j z = rw z

-- an entry of a block outside the data zone is 0
pub entry_out : (geometry : Geometry) (image : List ℕ) (m j : ℕ) → in_zone geometry m ≡ false → pointer_in geometry image m j ≡ 0
unfolding pointer_in
entry_out geometry image m j z = rw z

-- 0 isn't a data block
pub zero_out : (geometry : Geometry) (image : List ℕ) → Fits geometry image → in_zone geometry 0 ≡ false
zero_out geometry image fits =
    elim (in_zone geometry 0) as (λ z. in_zone geometry 0 ≡ z → z ≡ false)
    [ false ↦ λ z. refl | true ↦ λ z. let bounds : (geometry.zone_start ≤ 0) × (0 < geometry.zone_end) = zone_bounds geometry 0 z in absurd (omega arith) ] refl

-- a position in the block map below a position that doesn't point to a data block holds 0
pub named_stops : (geometry : Geometry) (image : List ℕ) (i j a : ℕ) (p : List ℕ) → in_zone geometry (named geometry image i (a ∷ p)) ≡ false
    → named geometry image i (j ∷ (a ∷ p)) ≡ 0
named_stops geometry image i j a p z = entry_out geometry image (named geometry image i (a ∷ p)) j z

-- a position in the block map holds 0 if a position `q` on its path doesn't point to a data block
pub named_past : (geometry : Geometry) (image : List ℕ) (i j : ℕ) (p q : List ℕ) → Fits geometry image → IsFront q p
    → in_zone geometry (named geometry image i q) ≡ false → named geometry image i (j ∷ p) ≡ 0
named_past geometry image i j [] q fits front z = absurd front
named_past geometry image i j (a ∷ p) q fits front z =
    elim front [
      | inl e ↦ named_stops geometry image i j a p (subst (λ x. in_zone geometry (named geometry image i x) ≡ false) e z)
      | inr deeper ↦
          let zero : named geometry image i (a ∷ p) ≡ 0 = named_past geometry image i a p q fits deeper z in
          named_stops geometry image i j a p (ap (in_zone geometry) zero ∙ zero_out geometry image fits)
    ]

-- a number that a position in the block map holds by the step-by-step rules is the result of `named`, and not 0
pub holds_named : (geometry : Geometry) (image : List ℕ) (i : ℕ) (p : List ℕ) (k : ℕ) → Holds geometry image i p k
    → (named geometry image i p ≡ k) × (k ≢ 0)
holds_named geometry image i p k (Holds.address a m some at) = (at, some)
holds_named geometry image i p k (Holds.entry j a q m n some front zone at) =
    let deeper : (named geometry image i (a ∷ q) ≡ m) × (m ≢ 0) = holds_named geometry image i (a ∷ q) m front in
    (ap (λ x. pointer_in geometry image x j) deeper.0 ∙ (entry_in geometry image m j zone ∙ at), some)

-- the number of a data block is not 0
pub zone_some : (geometry : Geometry) (image : List ℕ) (k : ℕ) → Fits geometry image → in_zone geometry k ≡ true → k ≢ 0
zone_some geometry image k fits z e =
    let bounds : (geometry.zone_start ≤ k) × (k < geometry.zone_end) = zone_bounds geometry k z in omega arith

-- a result of `named` other than 0 is the number that the position in the block map holds by the step-by-step rules
pub named_holds : (geometry : Geometry) (image : List ℕ) (i : ℕ) (p : List ℕ) (k : ℕ) → Fits geometry image → named geometry image i p ≡ k → k ≢ 0
    → Holds geometry image i p k
named_holds geometry image i [] k fits e some = absurd (some (sym e))
named_holds geometry image i (a ∷ []) k fits e some = Holds.address a k some e
named_holds geometry image i (j ∷ (a ∷ p)) k fits e some =
    elim (in_zone geometry (named geometry image i (a ∷ p))) as (λ z. in_zone geometry (named geometry image i (a ∷ p)) ≡ z → Holds geometry image i (j ∷ (a ∷ p)) k) [
      | true ↦ λ z. Holds.entry j a p (named geometry image i (a ∷ p)) k some
          (named_holds geometry image i (a ∷ p) (named geometry image i (a ∷ p)) fits refl (zone_some geometry image (named geometry image i (a ∷ p)) fits z)) z
          (sym (entry_in geometry image (named geometry image i (a ∷ p)) j z) ∙ e)
      | false ↦ λ z. absurd (some (sym e ∙ named_stops geometry image i j a p z))
    ] refl

-- the block number stored for a logical block is the number at the position in the block map that points to it
pub stored_is : (geometry : Geometry) (image : List ℕ) (i : ℕ) (form : BlockMap) (b : ℕ) (p : List ℕ) → last_place form b ≡ Some p
    → stored geometry image i form b ≡ named geometry image i p
stored_is geometry image i form b p e = ap (λ o. option_map_or (named geometry image i) o 0) e

-- no block number is stored for a logical block without a path
pub stored_none : (geometry : Geometry) (image : List ℕ) (i : ℕ) (form : BlockMap) (b : ℕ) → last_place form b ≡ None → stored geometry image i form b ≡ 0
stored_none geometry image i form b e = ap (λ o. option_map_or (named geometry image i) o 0) e

-- a logical block isn't stored in block `k` if the position in the block map that points to it doesn't point to `k`
pub stored_apart_from : (geometry : Geometry) (image : List ℕ) (i k : ℕ) (form : BlockMap) (b : ℕ) → Fits geometry image
    → in_zone geometry (stored geometry image i form b) ≡ true
    → ((p : List ℕ) → last_place form b ≡ Some p → named geometry image i p ≢ k) → stored geometry image i form b ≢ k
stored_apart_from geometry image i k form b fits zone apart same =
    elim (last_place form b) as (λ o. last_place form b ≡ o → ⊥) [
      | None ↦ λ e. zone_some geometry image (stored geometry image i form b) fits zone (stored_none geometry image i form b e)
      | Some p ↦ λ e. apart p e (sym (stored_is geometry image i form b p e) ∙ same)
    ] refl
