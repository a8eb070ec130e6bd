-- The positions in the block map on the path of a logical block.
use Rattle.std.proofs.Common.{◌≡◌, ℕ, zero, suc, ◌+◌, ◌<◌, ◌≤◌, ◌∙◌, sym, ap, subst, List, [], ◌∷◌, slice_index, refl, arith, inl, inr, true, false, Bool, Some}
use Rattle.std.specs.Prelude.{◌||◌}
use Rattle.std.specs.Option.{option_map_or}
use Rattle.std.specs.List.{list_any}
use Rattle.std.specs.Str.{bytes_eq}
use Rattle.vol_layout.specs.BlockMaps.{last_place, place_to, end_of, fronts, way}
use Rattle.vol_layout.specs.Laws.{IsFront}
use Rattle.vol_layout.specs.BlockPointers.{form_at}
use Rattle.vol_layout.specs.declared.geometry.Geometry.{Geometry}
use Rattle.vol_layout.specs.declared.block_map.BlockMap.{BlockMap}
use Rattle.vol_layout.specs.declared.block_map.BlockPath.{BlockPath}
use Rattle.vol_layout.proofs.PlaceLaws.{front_to, way_place}
use Rattle.vol_file.specs.Steps.{Reaches, IsWanted, MayName, NamesNext, MayNameEntry, MayNameWay, WantsWay, NamesWay, has_front, unnamed_of}
use Rattle.vol_file.specs.Shape.{is_named}
use Rattle.vol_file.proofs.PlaceLists.{bytes_same}
use Rattle.vol_file.proofs.ReachedPlaces.{extends_as}

-- `x || true` is true
pub or_true : (x : Bool) → (x || true) ≡ true
or_true true = refl
or_true false = refl

-- the search `has_front` finds each position in the block map on the path to a position
pub front_true : (q s : List ℕ) → IsFront s q → has_front q s ≡ true
front_true [] s front = absurd front
front_true (j ∷ q) s (inl e) = ap (λ t. t || has_front q s) (bytes_same s (j ∷ q) e)
front_true (j ∷ q) s (inr front) = ap (λ t. bytes_eq s (j ∷ q) || t) (front_true q s front) ∙ or_true (bytes_eq s (j ∷ q))

-- the path of a logical block consists of the positions in the block map on the path to its last position
pub way_is : (form : BlockMap) (b : ℕ) (q : List ℕ) → last_place form b ≡ Some q → way form b ≡ fronts q
way_is form b q e = ap (λ o. option_map_or fronts o []) e

-- the path `way` ends at the position in the block map that points to the logical block
way_end : (form at : BlockMap) (b : ℕ) (way : BlockPath) → form ≡ at → Some (end_of way) ≡ last_place form b → last_place at b ≡ Some (end_of way)
way_end form at b way is end = ap (λ f. last_place f b) (sym is) ∙ sym end

-- each position in the block map on the path of the logical block is in `wanted`
pub way_wanted : (geometry : Geometry) (image : List ℕ) (i : ℕ) (form : BlockMap) (wanted : List ℕ → Bool) (b : ℕ) (blocks : List ℕ) (way : BlockPath) (d : ℕ)
    → form ≡ form_at geometry image i → Some (end_of way) ≡ last_place form b → WantsWay geometry image i wanted b blocks → d ≤ way.depth
    → IsWanted geometry image i wanted (place_to way.address way.entries d) blocks
way_wanted geometry image i form wanted b blocks way d is end wants h =
    let e = way_end form (form_at geometry image i) b way is end in
    record {
      ready = wants.ready;
      place = record { file = wants.ready.file; place = way_place (form_at geometry image i) b way d (sym e) h };
      want = wants.want (place_to way.address way.entries d)
          (ap (list_any (bytes_eq (place_to way.address way.entries d))) (way_is (form_at geometry image i) b (end_of way) e)
          ∙ front_true (end_of way) (place_to way.address way.entries d) (front_to way.address way.entries d way.depth h));
    }

-- after the last entry of a path points to a block, all positions in the block map on the path do
pub way_named : (geometry : Geometry) (old new : List ℕ) (i : ℕ) (form : BlockMap) (wanted : List ℕ → Bool) (b : ℕ) (blocks : List ℕ) (way : BlockPath) (d k : ℕ)
    → form ≡ form_at geometry old i → Some (end_of way) ≡ last_place form b → d ≡ way.depth
    → Reaches geometry old new i wanted (place_to way.address way.entries d) blocks k → NamesWay geometry old new i wanted b blocks
way_named geometry old new i form wanted b blocks way d k is end all reached =
    let e = way_end form (form_at geometry old i) b way is end in
    let last = subst (λ n. Reaches geometry old new i wanted (place_to way.address way.entries n) blocks k) all reached in
    record {
      rest = last.rest;
      extends = extends_as geometry old new i wanted (has_front (end_of way)) _ (unnamed_of (is_named geometry old i) (fronts (end_of way))) _ blocks last.rest
          (λ p. sym (ap (list_any (bytes_eq p)) (way_is (form_at geometry old i) b (end_of way) e)))
          (sym (ap (unnamed_of (is_named geometry old i)) (way_is (form_at geometry old i) b (end_of way) e))) last.extends;
    }

-- a block can be allocated for the address of a path
pub may_first : (geometry : Geometry) (image : List ℕ) (i : ℕ) (form : BlockMap) (b : ℕ) (way : BlockPath) → form ≡ form_at geometry image i
    → Some (end_of way) ≡ last_place form b → MayNameWay geometry image i b → MayName geometry image i (way.address ∷ [])
may_first geometry image i form b way is end may =
    record { wanted = may.wanted; blocks = may.blocks; is = way_wanted geometry image i form may.wanted b may.blocks way 0 is end may.is (omega arith) }

-- a block can be allocated for the next entry of a path
pub may_next : (geometry : Geometry) (old mid : List ℕ) (i : ℕ) (form : BlockMap) (b : ℕ) (way : BlockPath) (d m : ℕ) → form ≡ form_at geometry old i
    → Some (end_of way) ≡ last_place form b → (may : MayNameWay geometry old i b) → d < way.depth
    → Reaches geometry old mid i may.wanted (place_to way.address way.entries d) may.blocks m → MayNameEntry geometry mid m (slice_index way.entries d)
may_next geometry old mid i form b way zero m is end may h reached = record {
  old = old;
  i = i;
  wanted = may.wanted;
  a = way.address;
  p = [];
  blocks = may.blocks;
  next = record { want = way_wanted geometry old i form may.wanted b may.blocks way 1 is end may.is (omega arith); reached = reached };
}
may_next geometry old mid i form b way (suc d) m is end may h reached = record {
  old = old;
  i = i;
  wanted = may.wanted;
  a = slice_index way.entries d;
  p = place_to way.address way.entries d;
  blocks = may.blocks;
  next = record { want = way_wanted geometry old i form may.wanted b may.blocks way (suc (suc d)) is end may.is (omega arith); reached = reached };
}

-- the effect of allocating a block for the next entry of a path
pub way_next : (geometry : Geometry) (old mid new : List ℕ) (i : ℕ) (form : BlockMap) (wanted : List ℕ → Bool) (b : ℕ) (blocks : List ℕ) (way : BlockPath) (d m k : ℕ)
    → form ≡ form_at geometry old i → Some (end_of way) ≡ last_place form b → WantsWay geometry old i wanted b blocks → d < way.depth
    → Reaches geometry old mid i wanted (place_to way.address way.entries d) blocks m
    → ((a : ℕ) (p : List ℕ) → NamesNext geometry old mid i wanted (slice_index way.entries d) a p blocks m
    → Reaches geometry old new i wanted (slice_index way.entries d ∷ (a ∷ p)) blocks k)
    → Reaches geometry old new i wanted (place_to way.address way.entries (d + 1)) blocks k
way_next geometry old mid new i form wanted b blocks way zero m k is end wants h reached named =
    named way.address [] (record { want = way_wanted geometry old i form wanted b blocks way 1 is end wants (omega arith); reached = reached })
way_next geometry old mid new i form wanted b blocks way (suc d) m k is end wants h reached named =
    let next : suc d + 1 ≡ suc (suc d) = omega arith in
    rw next (named (slice_index way.entries d) (place_to way.address way.entries d)
    (record { want = way_wanted geometry old i form wanted b blocks way (suc (suc d)) is end wants (omega arith); reached = reached }))
