-- The second entry of a new directory needs no block.
use Rattle.std.proofs.Common.{◌≡◌, refl, ◌&&◌, Bool, true, false, not, [], ◌∷◌, arith}
use Rattle.std.specs.Prelude.{◌||◌}
use Rattle.std.specs.List.{count_by}
use Rattle.vol_layout.specs.BlockMaps.{places}
use Rattle.vol_layout.specs.declared.edition.Edition.{Edition}
use Rattle.vol_layout.specs.declared.edition.Edition.TheVariants.{V6, V7}
use Rattle.vol_layout.specs.declared.block_map.BlockMap.TheVariants.{Small, Deep}
use Rattle.vol_file.specs.Need.{need_of, missing_count}
use Rattle.vol_file.specs.Shape.{is_on_ways}
use Rattle.vol_file.proofs.PlaceLists.{count_none}
use Rattle.vol_dir.specs.Names.{dot}
use Rattle.vol_dir.specs.Tree.{no_shape}
use Rattle.vol_change.specs.Shapes.{need_in, shape_with_entry}

-- a test that passed once doesn't fail the second time
asked_twice : (t : Bool) → (t && not (false || t)) ≡ false
asked_twice true = refl
asked_twice false = refl

-- the entry `..` needs no block beyond that of `.`
pub second_need : (edition : Edition) → need_in edition (shape_with_entry edition no_shape dot) (0 ∷ []) ≡ 0
unfolding need_of missing_count
second_need V6 =
    let none : count_by (λ p. is_on_ways Small (0 ∷ []) p && not (false || is_on_ways Small (0 ∷ []) p)) (places Small) ≡ 0 =
    count_none (λ p. is_on_ways Small (0 ∷ []) p && not (false || is_on_ways Small (0 ∷ []) p)) (places Small) (λ p. asked_twice (is_on_ways Small (0 ∷ []) p)) in
    omega (arith, none)
second_need V7 =
    let none : count_by (λ p. is_on_ways Deep (0 ∷ []) p && not (false || is_on_ways Deep (0 ∷ []) p)) (places Deep) ≡ 0 =
    count_none (λ p. is_on_ways Deep (0 ∷ []) p && not (false || is_on_ways Deep (0 ∷ []) p)) (places Deep) (λ p. asked_twice (is_on_ways Deep (0 ∷ []) p)) in
    omega (arith, none)
