-- Laws of the weight below some blocks.
use Rattle.std.proofs.Common.{◌≡◌, ◌≢◌, ℕ, zero, suc, ◌+◌, ◌-◌, ◌*◌, ◌≤◌, ◌∙◌, sym, ap, false, List, [], ◌∷◌, refl, arith}
use Rattle.std.proofs.lemmas.List.Sums.{sum_by-cons}
use Rattle.atomic_table.specs.declared.shared.Seat.{Seat}
use Rattle.vol_layout.specs.Edition.{constants}
use Rattle.vol_layout.specs.Geometry.{in_zone}
use Rattle.vol_layout.specs.BlockPointers.{pointer_in}
use Rattle.vol_layout.specs.declared.geometry.Geometry.{Geometry}
use Rattle.vol_judge.specs.Marks.{blocks_from}
use Rattle.count_table.specs.declared.rule.Mark.{Mark}
use Rattle.count_table.specs.declared.rule.SeatView.{SeatView}
use Rattle.count_table.specs.declared.words.Tally.{Tally}
use Rattle.count_table.specs.Sums.{total, below}
use Rattle.vol_check.specs.declared.levels.NamedBlock.{NamedBlock}
use Rattle.vol_check.specs.Pieces.{place_weight}
use Rattle.vol_check.specs.Levels.{below_block, by_times, below_named, below_all, KeepsDraws}
use Rattle.vol_check.proofs.Weights.{weigh_zero, weigh_leaf, weigh_block, weigh_outside, entry_weight}

-- `n` times a sum is the sum of `n` times each part
pub spread : (n x y : ℕ) → n * (x + y) ≡ n * x + n * y
spread n x y = grind arith

pub no_times : (n : ℕ) → n * 0 ≡ 0
no_times n = grind arith

pub one_time : (n : ℕ) → 1 * n ≡ n
one_time n = omega arith

-- if each of two steps leaves a seat's draws unchanged, so do both
pub keeps_then : (tally : Tally) (a b c : Seat (Unit {0}) SeatView) → KeepsDraws tally a b → KeepsDraws tally b c → KeepsDraws tally a c
keeps_then tally a b c first second = record { own = second.own; parts = second.parts ∙ first.parts; draws = second.draws ∙ first.draws }

module _ (g : Geometry) (image : List ℕ) (weight : ℕ → ℕ) where
  -- the weight below a block is the sum of the weights of its entries and of the numbers below them
  pub below_entries : (d b : ℕ)
      → below_block g image weight (d + 1) b ≡ below (λ j. total weight (blocks_from g image d (pointer_in g image b j))) (constants g.edition).pointers
  unfolding below_block
  below_entries d b = let e : d + 1 ≡ suc d = omega arith in ap (λ x. below_block g image weight x b) e

  below_is : (d b : ℕ) → 1 ≤ d → below_block g image weight d b ≡ below (entry_weight g image weight d b) (constants g.edition).pointers
  unfolding below_block
  below_is zero b one = absurd (omega arith)
  below_is (suc d) b one =
      let e : d ≡ suc d - 1 = omega arith in
      ap (λ x. below (λ j. total weight (blocks_from g image x (pointer_in g image b j))) (constants g.edition).pointers) e

  -- with no levels, nothing is below
  pub below_leaf : (b : ℕ) → below_block g image weight 0 b ≡ 0
  unfolding below_block
  below_leaf b = refl

  -- number 0 has no weight, and nothing below it
  pub times_zero : (d b n : ℕ) → b ≡ 0 → n * total weight (blocks_from g image d b) ≡ 0
  times_zero d b n none = ap (λ x. n * x) (weigh_zero g image weight d b none) ∙ no_times n

  pub times_leaf : (d b n : ℕ) → b ≢ 0 → d ≡ 0 → n * total weight (blocks_from g image d b) ≡ n * weight b
  times_leaf d b n some none = ap (λ x. n * x) (weigh_leaf g image weight d b some none)

  pub times_outside : (d b n : ℕ) → b ≢ 0 → 1 ≤ d → in_zone g b ≡ false → n * total weight (blocks_from g image d b) ≡ n * weight b
  times_outside d b n some one out = ap (λ x. n * x) (weigh_outside g image weight d b some one out)

  pub times_block : (d b n : ℕ) → b ≢ 0 → 1 ≤ d
      → n * total weight (blocks_from g image d b) ≡ n * weight b + n * below_block g image weight d b
  times_block d b n some one =
      ap (λ x. n * x) (weigh_block g image weight d b some one ∙ ap (λ x. weight b + x) (sym (below_is d b one)))
      ∙ spread n (weight b) (below_block g image weight d b)

module _ (g : Geometry) (image : List ℕ) (i : ℕ) (weight : Mark → ℕ) where
  leaf_named : (n : NamedBlock) → below_named g image i weight 0 n ≡ 0
  leaf_named n = ap (λ x. n.times * x) (below_leaf g image (place_weight g weight i) n.number) ∙ no_times n.times

  -- the weight below any list of blocks is 0 if they have no levels
  pub all_leaves : (named : List NamedBlock) → below_all g image i weight 0 named ≡ 0
  all_leaves [] = refl
  all_leaves (n ∷ named) =
      let h = all_leaves named in let l = leaf_named n in let c = sum_by-cons (below_named g image i weight 0) n named in omega arith

-- two counts of the same block have the weight of one count with the sum of their positions
pub times_both : (f : ℕ → ℕ) (x y both : NamedBlock) → both.number ≡ x.number → both.number ≡ y.number → both.times ≡ x.times + y.times
    → by_times f both ≡ by_times f x + by_times f y
times_both f x y both first second sum =
    let e = ap (λ n. n * f both.number) sum in
    let s = sum_times x.times y.times (f both.number) in
    let l = ap (λ n. x.times * f n) first in
    let r = ap (λ n. y.times * f n) second in
    e ∙ (s ∙ (ap (λ k. k + y.times * f both.number) l ∙ ap (λ k. x.times * f x.number + k) r))
  where
    sum_times : (m n x : ℕ) → (m + n) * x ≡ m * x + n * x
    sum_times m n x = grind arith
