-- The number of blocks freed by the steps of a truncation.
use Rattle.std.proofs.Common.{◌≡◌, ℕ, ◌+◌, ◌≤◌, ap, List, ◌∷◌, ◌++◌, length, arith}
use Rattle.std.proofs.lemmas.List.{length-append}
use Rattle.vol_layout.specs.Edition.{constants}
use Rattle.vol_layout.specs.Geometry.{Fits}
use Rattle.vol_layout.specs.declared.edition.Edition.{Edition}
use Rattle.vol_layout.specs.declared.edition.Edition.TheVariants.{V6, V7}
use Rattle.vol_layout.specs.declared.geometry.Geometry.{Geometry}
use Rattle.vol_free.specs.Stack.{IsFree, HasStack}
use Rattle.vol_free.proofs.Lengths.{free_within}
use Rattle.vol_free.proofs.Stacks.{IsFree_unique, zone_behind}
use Rattle.vol_layout.specs.BlockPointers.{form_at}
use Rattle.vol_file.specs.Clears.{first_block, Gains, IsNamedAtLevel, ClearsBelow}

-- any two lists of free blocks have the same length
free_same : (geometry : Geometry) (image xs ys : List ℕ) → 1 ≤ geometry.zone_start → IsFree geometry image xs → IsFree geometry image ys
    → length xs ≡ length ys
free_same geometry image xs ys low first second = ap length (IsFree_unique low first second)

-- the data zone starts after block 0
pub zone_some : (geometry : Geometry) (image : List ℕ) → Fits geometry image → 1 ≤ geometry.zone_start
zone_some geometry image fits = let behind = zone_behind fits in omega (arith, behind)

-- an unchanged image has no additional free blocks
pub gains_none : (geometry : Geometry) (image : List ℕ) → 1 ≤ geometry.zone_start → Gains geometry image image 0
gains_none geometry image low before after first second = let same = free_same geometry image after before low second first in omega (arith, same)

-- if `m` and then `n` blocks are freed, `m + n` blocks are freed
pub gains_then : (geometry : Geometry) (old mid new : List ℕ) (m n : ℕ) → HasStack geometry mid → Gains geometry old mid m → Gains geometry mid new n
    → Gains geometry old new (m + n)
gains_then geometry old mid new m n has first second before after from to =
    let early = first before has.blocks from has.free in
    let late = second has.blocks after has.free to in omega (arith, early, late)

-- adding one block to the free list frees one block
pub gains_one : (geometry : Geometry) (old new : List ℕ) (b : ℕ) (blocks : List ℕ) → 1 ≤ geometry.zone_start → IsFree geometry old blocks
    → IsFree geometry new (b ∷ blocks) → Gains geometry old new 1
gains_one geometry old new b blocks low from to before after first second =
    let early = free_same geometry old before blocks low first from in
    let late = free_same geometry new after (b ∷ blocks) low second to in omega (arith, early, late)

-- if the list `given` is added to the free list, the number of blocks freed is its length
pub gains_given : (geometry : Geometry) (old new given blocks : List ℕ) (count : ℕ) → Gains geometry old new count → IsFree geometry old blocks
    → IsFree geometry new (given ++ blocks) → count ≡ length given
gains_given geometry old new given blocks count gains from to =
    let more = gains blocks (given ++ blocks) from to in omega (arith, more, length-append given blocks)

-- block numbers have at most 24 bits
number_limit : (edition : Edition) (end : ℕ) → end ≤ (constants edition).number_limit → end ≤ 16777216
number_limit V6 end h = omega arith
number_limit V7 end h = h

-- at most 2^24 blocks can be freed
gains_few : (geometry : Geometry) (image old new : List ℕ) (count : ℕ) → Fits geometry image → HasStack geometry old → HasStack geometry new
    → Gains geometry old new count → count ≤ 16777216
gains_few geometry image old new count fits from to gains =
    let more = gains from.blocks to.blocks from.free to.free in
    let few = free_within to.free in
    let limit = number_limit geometry.edition geometry.zone_end fits.limit in omega (arith, more, few, limit)

-- after everything below a block is cleared, the volume has a list of free blocks
pub below_stack : (geometry : Geometry) (old new : List ℕ) (b level kept : ℕ) → ClearsBelow geometry old new b level kept → IsNamedAtLevel geometry old b level
    → HasStack geometry new
below_stack geometry old new b level kept cleared node =
    let first = first_block (form_at geometry old node.file) (node.index ∷ node.place) in
    let s = cleared node.file node.index (first + kept) node.place node.blocks node.sound node.is node.below (omega arith) in
    record { blocks = _; free = s.sound.free }

-- if rules 3 to 7 hold for some free blocks, the volume has a list of free blocks
node_stack : (geometry : Geometry) (image : List ℕ) (b level : ℕ) → IsNamedAtLevel geometry image b level → HasStack geometry image
node_stack geometry image b level node = record { blocks = node.blocks; free = node.sound.free }

-- after one more step the number of blocks freed still fits the counter
pub step_few : (geometry : Geometry) (old mid low : List ℕ) (b level kept given count : ℕ) → HasStack geometry old → IsNamedAtLevel geometry mid b level
    → Gains geometry old mid given → ClearsBelow geometry mid low b level kept → Gains geometry mid low count → given + (count + 1) ≤ 33554433
step_few geometry old mid low b level kept given count has node gains cleared more =
    let first = gains_few geometry mid old mid given node.sound.fits has (node_stack geometry mid b level node) gains in
    let second = gains_few geometry mid mid low count node.sound.fits (node_stack geometry mid b level node) (below_stack geometry mid low b level kept cleared node) more in
    omega (arith, first, second)

-- freeing the blocks below a block adds their number to the count
pub step_part : (geometry : Geometry) (old mid low : List ℕ) (b level given count : ℕ) → IsNamedAtLevel geometry mid b level
    → Gains geometry old mid given → Gains geometry mid low count → Gains geometry old low (given + count)
step_part geometry old mid low b level given count node gains more =
    gains_then geometry old mid low given count (node_stack geometry mid b level node) gains more

-- freeing the blocks below a block, and then the block itself, adds their number and one to the count
pub step_gains : (geometry : Geometry) (old mid low new : List ℕ) (b level kept given count : ℕ) → IsNamedAtLevel geometry mid b level
    → Gains geometry old mid given → ClearsBelow geometry mid low b level kept → Gains geometry mid low count → Gains geometry low new 1
    → Gains geometry old new (given + count + 1)
step_gains geometry old mid low new b level kept given count node gains cleared more one =
    gains_then geometry old low new (given + count) 1 (below_stack geometry mid low b level kept cleared node)
    (step_part geometry old mid low b level given count node gains more) one
