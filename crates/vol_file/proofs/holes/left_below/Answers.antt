use Rattle.std.proofs.Common.{◌≡◌, ℕ, List, get_or, slice_index, zero, suc, ◌+◌, ◌-◌, ◌*◌, ◌^◌, ◌<◌, ◌≤◌, ◌∙◌, ap, sym, subst, arith}
use Rattle.std.proofs.Math.Nat.{pow-suc, mul-le-mul}
use Rattle.vol_layout.specs.Edition.{constants}
use Rattle.vol_layout.specs.declared.edition.Constants.{Constants}
use Rattle.vol_layout.specs.BlockMaps.{place_to}
use Rattle.vol_file.specs.Holes.{blocks_left}
use Rattle.vol_file.proofs.Subtrees.{few_pointers}
use Rattle.vol_file.proofs.holes.left_below.Goals as goal

-- a product of a number within a power of 256 and a number of at most 256 is within the next power
next_power : (n left pointers : ℕ) → left ≤ 256 ^ n → pointers ≤ 256 → left * pointers ≤ 256 ^ suc n
next_power n left pointers few h = rw (pow-suc 256 n) (mul-le-mul few h)

-- powers of 256 for at most three levels are at most 2^24
powers : (n : ℕ) → n ≤ 3 → 256 ^ n ≤ 16777216
powers zero h = omega arith
powers (suc zero) h = omega arith
powers (suc (suc zero)) h = omega arith
powers (suc (suc (suc zero))) h = omega arith
powers (suc (suc (suc (suc n)))) h = absurd (omega arith)

pub overflow_mul-left : goal.overflow_mul-left
overflow_mul-left c =
    let n = c.loop-level.level - c.args.d in
    let pointers : c.constants-pointers.result.pointers ≤ 256 = subst (λ (of : Constants). of.pointers ≤ 256) (sym c.constants-pointers.ensures) (few_pointers c.args.geometry.now.edition) in
    let next = next_power n c.loop-level.left c.constants-pointers.result.pointers c.loop-level.invariant.few pointers in
    let most = powers (suc n) (omega arith) in
    omega arith

-- the number of entries subtracted is less than the number of entries of one block
taken_off : (left pointers j : ℕ) → 1 ≤ left → j < pointers → j + 1 ≤ left * pointers
taken_off left pointers j some h =
    let least : 1 * pointers ≤ left * pointers = mul-le-mul some (omega arith) in
    omega arith

pub overflow_sub-left : goal.overflow_sub-left
overflow_sub-left c =
    let entry = c.requires.entries c.loop-level.level c.loop-level-test.true in
    let same : (constants c.args.geometry.now.edition).pointers ≡ c.constants-pointers.result.pointers = ap (λ (of : Constants). of.pointers) (sym c.constants-pointers.ensures) in
    omega (arith, taken_off c.loop-level.left c.constants-pointers.result.pointers (get_or c.args.way.now.entries c.loop-level.level 0) c.loop-level.invariant.some (omega (arith, entry, same)))

-- the number of logical blocks left, with one more level
level_more : (pointers k left level d : ℕ) (entries : List ℕ) → d ≤ level → left ≡ blocks_left pointers (level - d) (place_to k entries level)
    → left * pointers - slice_index entries level ≡ blocks_left pointers (level + 1 - d) (place_to k entries (level + 1))
level_more pointers k left level d entries low e =
    let next : level + 1 ≡ suc level = omega arith in
    let more : suc level - d ≡ suc (level - d) = omega arith in
    rw (next, more) (ap (λ n. n * pointers - slice_index entries level) e)

pub loop-level-preserved : goal.loop-level-preserved
loop-level-preserved c =
    let pointers = c.constants-pointers.result.pointers in
    let n = c.loop-level.level - c.args.d in
    let entry = c.requires.entries c.loop-level.level c.loop-level-test.true in
    let same : (constants c.args.geometry.now.edition).pointers ≡ pointers = ap (λ (of : Constants). of.pointers) (sym c.constants-pointers.ensures) in
    let few : pointers ≤ 256 = subst (λ (of : Constants). of.pointers ≤ 256) (sym c.constants-pointers.ensures) (few_pointers c.args.geometry.now.edition) in
    let next = next_power n c.loop-level.left pointers c.loop-level.invariant.few few in
    let more : c.loop-level.level + 1 - c.args.d ≡ suc n = omega arith in
    let least = taken_off c.loop-level.left pointers (get_or c.args.way.now.entries c.loop-level.level 0) c.loop-level.invariant.some (omega (arith, entry, same)) in
    record {
      left = ap (λ m. c.loop-level.left * m - slice_index c.args.way.now.entries c.loop-level.level) (sym same)
          ∙ level_more (constants c.args.geometry.now.edition).pointers c.args.way.now.address c.loop-level.left c.loop-level.level c.args.d c.args.way.now.entries
          (omega arith) c.loop-level.invariant.left;
      some = omega (arith, least);
      few = rw more (omega (arith, next));
    }

pub returns-clause-bound : goal.returns-clause-bound
returns-clause-bound c =
    let most = powers (c.loop-level.level - c.args.d) (omega arith) in
    omega (arith, c.loop-level.invariant.few)
