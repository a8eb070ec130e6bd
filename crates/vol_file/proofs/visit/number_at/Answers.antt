use Rattle.std.proofs.Common.{◌≡◌, ℕ, ◌≤◌, arith, sym}
use Rattle.vol_layout.specs.BlockMaps.{block_limit}
use Rattle.vol_layout.specs.BlockPointers.{form_at}
use Rattle.vol_layout.specs.declared.block_map.BlockMap.{BlockMap}
use Rattle.vol_layout.specs.declared.block_map.BlockMap.TheVariants.{Small, Large, Deep, Bare}
use Rattle.vol_layout.proofs.NameLaws.{stored_none}
use Rattle.vol_layout.proofs.PlaceLaws.{has_no_way}
use Rattle.vol_file.proofs.visit.number_at.Goals as goal

-- a number of more than 32 bits is past the logical blocks of each block map
past_all : (form : BlockMap) (b : ℕ) → 4294967296 ≤ b → block_limit form ≤ b
past_all Small b h = omega arith
past_all Large b h = omega arith
past_all Deep b h = omega arith
past_all Bare b h = omega arith

pub returns-then-b-from-clause-number : goal.returns-then-b-from-clause-number
returns-then-b-from-clause-number c =
    let geometry = c.args.geometry.now in
    let image = c.args.image.now in
    let i = c.args.numbers.now.inode in
    let form = form_at geometry image i in
    let far : 4294967296 ≤ c.args.b = omega (arith, c.if-b-from.true, c.from.ensures) in
    sym (stored_none geometry image i form c.args.b (has_no_way form c.args.b (past_all form c.args.b far)))
