-- Lemmas on the roles of blocks.
use Rattle.std.proofs.Common.{◌≡◌, ℕ, zero, suc, ◌+◌, ◌≤◌, arith, List, None, Some}
use Rattle.std.specs.List.{range_with_len}
use Rattle.std.specs.Option.{option_or, option_map}
use Rattle.vol_layout.specs.declared.geometry.Geometry.{Geometry}
use Rattle.vol_inspect.specs.Holders.{first_of, held}
use Rattle.vol_inspect.specs.Owners.{naming}
use Rattle.vol_inspect.specs.Uses.{use_of}
use Rattle.vol_fields.specs.Roles.{IsNodes, role_by, role_of}
use Rattle.vol_fields.specs.declared.role.Role.TheVariants as roles
use Rattle.vol_fields.proofs.SpotLaws.{skips}

-- the first of some i-nodes whose block map has a block is one of these
pub first_nodes : (g : Geometry) (image : List ℕ) (c n a : ℕ) → 1 ≤ a → a + n ≤ g.last_inode + 1 → IsNodes g (first_of g image c (range_with_len a n))
unfolding first_of
first_nodes g image c zero a first last = tt
first_nodes g image c (suc n) a first last =
    elim (naming g image c a) as (λ o. IsNodes g (option_or (option_map (held a) o) (first_of g image c (range_with_len (a + 1) n)))) [
      | None ↦ first_nodes g image c n (a + 1) (omega arith) (omega (arith, last))
      | Some e ↦ (first, omega (arith, last))
    ]

-- the role of a data block
pub data_is : (g : Geometry) (image : List ℕ) (b : ℕ) → g.zone_start ≤ b
    → role_of g image b ≡ role_by g image (use_of g image b) (first_of g image b (range_with_len 1 g.last_inode))
unfolding role_of
data_is g image b from = skips roles.System (role_by g image (use_of g image b) (first_of g image b (range_with_len 1 g.last_inode))) b g.zone_start from
