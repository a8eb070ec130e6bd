-- Laws of the positions in a block map, and of the position that points to each logical block.
use Rattle.std.proofs.Common.{◌≡◌, ℕ, zero, suc, ◌+◌, ◌-◌, ◌*◌, ◌/◌, ◌%◌, ◌<◌, ◌≤◌, ◌∙◌, sym, ap, subst, List, [], ◌∷◌, slice_index, true, false, Bool, if◌then◌else◌, ltb, refl, arith, Option, Some, None, inl, inr}
use Rattle.std.proofs.lemmas.Bool.{ltb-true, ltb-false, cases_eq}
use Rattle.std.proofs.lemmas.Bool.Decides.{nat_tests}
use Rattle.vol_layout.specs.BlockMaps.{pointer_count, levels, levels_below, IsPlace, block_limit, last_place, place_to, end_of}
use Rattle.vol_layout.specs.Laws.{IsFront}
use Rattle.vol_layout.specs.declared.block_map.BlockMap.{BlockMap}
use Rattle.vol_layout.specs.declared.block_map.BlockPath.{BlockPath}
use Rattle.vol_layout.specs.declared.block_map.BlockMap.TheVariants.{Small, Large, Deep, Bare}

-- the logical block to which a position in the block map without a level below it points
abbrev pub leaf_block : BlockMap → List ℕ → ℕ
leaf_block form [] = 0
leaf_block Small (b ∷ p) = b
leaf_block Large (r ∷ []) = r
leaf_block Large (r ∷ (a ∷ [])) = 256 * a + r
leaf_block Large (r ∷ (a ∷ (k ∷ p))) = 1792 + (256 * a + r)
leaf_block Deep (b ∷ []) = b
leaf_block Deep (r ∷ (k ∷ [])) = 10 + r
leaf_block Deep (r ∷ (a ∷ (k ∷ []))) = 138 + (128 * a + r)
leaf_block Deep (r ∷ (c ∷ (a ∷ (k ∷ p)))) = 16522 + (16384 * a + (128 * c + r))
leaf_block Bare (b ∷ p) = b

-- position `p` in the block map has no level below it, and points to logical block `b`
pub record IsLeaf (form : BlockMap) (b : ℕ) (p : List ℕ) : Type 0 where
  pub place : IsPlace form p
  pub bottom : levels_below form p ≡ 0
  pub block : leaf_block form p ≡ b
  pub limit : b < block_limit form

-- the position in the block map that `last_place` returns points to logical block `b`; if it returns None, `b` is not below the limit
abbrev EndsAt : BlockMap → ℕ → Option (List ℕ) → Type 0
EndsAt form b None = block_limit form ≤ b
EndsAt form b (Some p) = IsLeaf form b p

-- a property of both branches of an `if` is a property of the `if`
choose : {X : Type 0} (P : Option X → Type 0) (t : Bool) (x y : Option X) → (t ≡ true → P x) → (t ≡ false → P y) → P (if t then x else y)
choose P t x y first other = elim t as (λ s. t ≡ s → P (if s then x else y)) [ true ↦ first | false ↦ other ] refl

-- the first seven addresses of a large file have one level below them
pub large_levels : (k : ℕ) → k < 7 → levels Large k ≡ 1
large_levels k h = grind (arith, nat_tests)

-- `last_place` returns the right position in the block map for each logical block of a small file
ends_small : (b : ℕ) → EndsAt Small b (last_place Small b)
unfolding last_place
ends_small b =
    choose (EndsAt Small b) (ltb b 8) (Some (b ∷ [])) None
    (λ t. let h : b < 8 = ltb-true b 8 t in record { place = omega arith; bottom = refl; block = refl; limit = omega arith })
    (λ t. ltb-false b 8 t)

-- `last_place` returns the right position in the block map for each logical block of a large file
ends_large : (b : ℕ) → EndsAt Large b (last_place Large b)
unfolding last_place
ends_large b =
    choose (EndsAt Large b) (ltb b 1792) (Some ((b % 256) ∷ ((b / 256) ∷ [])))
    (if ltb b 32768 then Some ((b % 256) ∷ ((b / 256 - 7) ∷ (7 ∷ []))) else None)
    (λ t. let h : b < 1792 = ltb-true b 1792 t in let low : b / 256 < 7 = omega arith in
    let one : levels Large (b / 256) ≡ 1 = large_levels (b / 256) low in
    record { place = (omega arith, omega arith, omega arith); bottom = omega arith; block = omega arith; limit = omega arith })
    (λ t. let from : 1792 ≤ b = ltb-false b 1792 t in
    choose (EndsAt Large b) (ltb b 32768) (Some ((b % 256) ∷ ((b / 256 - 7) ∷ (7 ∷ [])))) None
    (λ t. let h : b < 32768 = ltb-true b 32768 t in
    record { place = (omega arith, omega arith, (omega arith, omega arith, omega arith)); bottom = refl; block = omega arith; limit = omega arith })
    (λ t. ltb-false b 32768 t))

-- `last_place` returns the right position in the block map for each logical block in the seventh edition
ends_deep : (b : ℕ) → EndsAt Deep b (last_place Deep b)
unfolding last_place
ends_deep b =
    choose (EndsAt Deep b) (ltb b 10) (Some (b ∷ []))
    (if ltb b 138 then Some ((b - 10) ∷ (10 ∷ []))
    else if ltb b 16522 then Some (((b - 138) % 128) ∷ (((b - 138) / 128) ∷ (11 ∷ [])))
    else if ltb b 2113674 then Some (((b - 16522) % 128) ∷ (((b - 16522) / 128 % 128) ∷ (((b - 16522) / 16384) ∷ (12 ∷ [])))) else None)
    (λ t. let h : b < 10 = ltb-true b 10 t in record { place = omega arith; bottom = omega arith; block = refl; limit = omega arith })
    (λ t. let past : 10 ≤ b = ltb-false b 10 t in
    choose (EndsAt Deep b) (ltb b 138) (Some ((b - 10) ∷ (10 ∷ [])))
    (if ltb b 16522 then Some (((b - 138) % 128) ∷ (((b - 138) / 128) ∷ (11 ∷ [])))
    else if ltb b 2113674 then Some (((b - 16522) % 128) ∷ (((b - 16522) / 128 % 128) ∷ (((b - 16522) / 16384) ∷ (12 ∷ [])))) else None)
    (λ t. let h : b < 138 = ltb-true b 138 t in record { place = (omega arith, omega arith, omega arith); bottom = refl; block = omega arith; limit = omega arith })
    (λ t. let beyond : 138 ≤ b = ltb-false b 138 t in
    choose (EndsAt Deep b) (ltb b 16522) (Some (((b - 138) % 128) ∷ (((b - 138) / 128) ∷ (11 ∷ []))))
    (if ltb b 2113674 then Some (((b - 16522) % 128) ∷ (((b - 16522) / 128 % 128) ∷ (((b - 16522) / 16384) ∷ (12 ∷ [])))) else None)
    (λ t. let h : b < 16522 = ltb-true b 16522 t in
    record { place = (omega arith, omega arith, (omega arith, omega arith, omega arith)); bottom = refl; block = omega arith; limit = omega arith })
    (λ t. let far : 16522 ≤ b = ltb-false b 16522 t in
    choose (EndsAt Deep b) (ltb b 2113674) (Some (((b - 16522) % 128) ∷ (((b - 16522) / 128 % 128) ∷ (((b - 16522) / 16384) ∷ (12 ∷ []))))) None
    (λ t. let h : b < 2113674 = ltb-true b 2113674 t in
    record {
      place = (omega arith, omega arith, (omega arith, omega arith, (omega arith, omega arith, omega arith)));
      bottom = refl;
      block = omega arith;
      limit = omega arith;
    })
    (λ t. ltb-false b 2113674 t))))

-- `last_place` returns None for a bare block map, which has no logical blocks
ends_bare : (b : ℕ) → EndsAt Bare b (last_place Bare b)
unfolding last_place
ends_bare b = omega arith

-- `last_place` returns the right position in each block map, for each logical block
ends_at : (form : BlockMap) (b : ℕ) → EndsAt form b (last_place form b)
ends_at Small b = ends_small b
ends_at Large b = ends_large b
ends_at Deep b = ends_deep b
ends_at Bare b = ends_bare b

-- `last_place` returns a position in the block map without a level below it, which points to logical block `b`
pub last_leaf : (form : BlockMap) (b : ℕ) (p : List ℕ) → last_place form b ≡ Some p → IsLeaf form b p
last_leaf form b p e = subst (EndsAt form b) e (ends_at form b)

-- a logical block without a path is not below the limit
pub last_none : (form : BlockMap) (b : ℕ) → last_place form b ≡ None → block_limit form ≤ b
last_none form b e = subst (EndsAt form b) e (ends_at form b)

-- a logical block below the limit has a path
pub has_way : (form : BlockMap) (b : ℕ) → b < block_limit form → (p : List ℕ) × (last_place form b ≡ Some p)
has_way form b h =
    elim (last_place form b) as (λ o. last_place form b ≡ o → (p : List ℕ) × (last_place form b ≡ Some p))
    [ None ↦ λ e. let past : block_limit form ≤ b = last_none form b e in absurd (omega arith) | Some p ↦ λ e. (p, e) ] refl

-- a logical block not below the limit has no path
pub has_no_way : (form : BlockMap) (b : ℕ) → block_limit form ≤ b → last_place form b ≡ None
has_no_way form b h =
    elim (last_place form b) as (λ o. last_place form b ≡ o → last_place form b ≡ None)
    [ None ↦ λ e. e | Some p ↦ λ e. let limit : b < block_limit form = (last_leaf form b p e).limit in absurd (omega arith) ] refl

-- a position in the block map points to at most one logical block
pub last_apart : (form : BlockMap) (b c : ℕ) (p : List ℕ) → last_place form b ≡ Some p → last_place form c ≡ Some p → b ≡ c
last_apart form b c p e f = sym (last_leaf form b p e).block ∙ (last_leaf form c p f).block

-- every position on the path to a position in the block map is in the block map
pub place_front : (form : BlockMap) (p q : List ℕ) → IsPlace form p → IsFront q p → IsPlace form q
place_front form [] q place front = absurd place
place_front form (k ∷ []) q place front = elim front [ inl e ↦ subst (IsPlace form) (sym e) place | inr none ↦ absurd none ]
place_front form (j ∷ (a ∷ p)) q place front =
    elim front [ inl e ↦ subst (IsPlace form) (sym e) place | inr front ↦ place_front form (a ∷ p) q place.2 front ]

-- if a position in the block map is on the path to `p`, the position one level above it is too
pub front_above : (p q : List ℕ) (j a : ℕ) → IsFront (j ∷ (a ∷ q)) p → IsFront (a ∷ q) p
front_above [] q j a front = absurd front
front_above (h ∷ p) q j a front =
    elim front [
      | inl e ↦ let tail : p ≡ a ∷ q = cc in inr (subst (IsFront (a ∷ q)) (sym tail) (inl refl))
      | inr deeper ↦ inr (front_above p q j a deeper)
    ]

-- a position in the block map is on the path to itself
pub front_self : (form : BlockMap) (p : List ℕ) → IsPlace form p → IsFront p p
front_self form [] place = absurd place
front_self form (j ∷ p) place = inl refl

-- no position in the block map of a small file has a level below it
pub small_levels : (p : List ℕ) → levels_below Small p ≡ 0
small_levels [] = refl
small_levels (k ∷ []) = refl
small_levels (j ∷ (a ∷ p)) = let above : levels_below Small (a ∷ p) ≡ 0 = small_levels (a ∷ p) in omega arith

-- the position in the block map reached by the first `d` entries is on the path to the position reached by the first `n`
pub front_to : (k : ℕ) (entries : List ℕ) (d n : ℕ) → d ≤ n → IsFront (place_to k entries d) (place_to k entries n)
front_to k entries zero zero h = inl refl
front_to k entries (suc d) zero h = absurd (omega arith)
front_to k entries d (suc n) h =
    elim (cases_eq d (suc n)) [
      | inl same ↦ inl (ap (place_to k entries) same)
      | inr other ↦ inr (front_to k entries d n (omega arith))
    ]

-- the first `d` entries of the path to a logical block reach a position in the block map
pub way_place : (form : BlockMap) (b : ℕ) (way : BlockPath) (d : ℕ) → Some (end_of way) ≡ last_place form b → d ≤ way.depth
    → IsPlace form (place_to way.address way.entries d)
way_place form b way d e h =
    place_front form (end_of way) (place_to way.address way.entries d) (last_leaf form b (end_of way) (sym e)).place
    (front_to way.address way.entries d way.depth h)

-- an entry on the path to a position in the block map is below the number of entries of an indirect block
pub entry_to : (form : BlockMap) (k : ℕ) (entries : List ℕ) (d : ℕ) → IsPlace form (place_to k entries (suc d))
    → slice_index entries d < pointer_count form
entry_to form k entries zero place = place.0
entry_to form k entries (suc d) place = place.0
