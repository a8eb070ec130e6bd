-- The blocks of one i-node, from the counts of its positions.
use Rattle.std.proofs.Common.{◌≡◌, ℕ, ◌+◌, ◌*◌, ◌∙◌, ◌&&◌, ap, min, nat_lt, Bool, true, false, List, slice_index, refl, arith}
use Rattle.std.proofs.lemmas.Bool.Decides.{nat_tests}
use Rattle.vol_layout.specs.Geometry.{in_zone}
use Rattle.vol_layout.specs.declared.geometry.Geometry.{Geometry}
use Rattle.vol_inspect.specs.NodeUses.{CountsOne, has_block, is_counted}
use Rattle.vol_inspect.specs.PlaceCounts.{node_count}

-- four counts, each up to two, are above zero together if and only if the numbers are
any_counted : (a b c d w x y z : ℕ) → a ≡ min 2 w → b ≡ min 2 x → c ≡ min 2 y → d ≡ min 2 z
    → nat_lt 0 (a + b + c + d) ≡ nat_lt 0 (w + x + y + z)
any_counted a b c d w x y z is1 is2 is3 is4 = grind (arith, nat_tests)

-- a block that isn't a data block isn't counted; a data block is if and only if the i-node has it
in_both : (zone counted has : Bool) → (zone ≡ true → counted ≡ has) → (zone && counted) ≡ (zone && has)
in_both true counted has same = same refl
in_both false counted has same = refl

-- the blocks that were counted are those of the i-node
pub counted_is : (g : Geometry) (image counts : List ℕ) (i b : ℕ) → CountsOne g image i counts → is_counted g counts b ≡ has_block g image i b
counted_is g image counts i b counted =
    let at : 4 * b ≡ 4 * b + 0 = omega arith in
    in_both (in_zone g b) _ _ (λ zone.
    any_counted (slice_index counts (4 * b)) (slice_index counts (4 * b + 1)) (slice_index counts (4 * b + 2)) (slice_index counts (4 * b + 3))
    (node_count g image i b 0) (node_count g image i b 1) (node_count g image i b 2) (node_count g image i b 3)
    (ap (slice_index counts) at ∙ counted b 0 zone (omega arith)) (counted b 1 zone (omega arith)) (counted b 2 zone (omega arith)) (counted b 3 zone (omega arith)))
