-- The words that are counted satisfy the definition of the block report.
use Rattle.std.proofs.Common.{◌≡◌, ℕ, zero, suc, ◌+◌, ◌-◌, ◌*◌, ◌^◌, ◌%◌, ◌<◌, ◌≤◌, ◌∙◌, ◌==◌, ap, if◌then◌else◌, List, [], ◌∷◌, length, not, ◌&&◌, nat_lt, refl, slice_index, Option, None, arith}
use Rattle.std.proofs.Math.Nat.{le_trans, mul-le-mul_right}
use Rattle.std.proofs.lemmas.Bool.{ne_eqb}
use Rattle.std.proofs.lemmas.List.Sums.{count_by-le-length, length-filter}
use Rattle.std.proofs.lemmas.List.FromFn.{length-range_with_len}
use Rattle.std.specs.List.{count_by, list_any, range_with_len}
use Rattle.pdp_words.specs.Words.{word}
use Rattle.vol_layout.specs.Edition.{constants, number}
use Rattle.vol_layout.specs.Super.{free_head}
use Rattle.vol_layout.specs.Geometry.{in_zone, Fits}
use Rattle.vol_layout.specs.declared.edition.Edition.{Edition}
use Rattle.vol_layout.specs.declared.edition.Edition.TheVariants.{V6, V7}
use Rattle.vol_layout.specs.declared.geometry.Geometry.{Geometry}
use Rattle.vol_layout.specs.declared.mode.Kind.{Kind}
use Rattle.vol_layout.specs.declared.mode.Kind.TheVariants as kinds
use Rattle.vol_layout.proofs.BodyLaws.{zone_bounds}
use Rattle.vol_file.specs.Rules.{kind_at}
use Rattle.vol_file.specs.Changes.{blocks_of}
use Rattle.count_table.specs.declared.rule.Mark.{Mark}
use Rattle.count_table.specs.declared.rule.SeatView.{SeatView}
use Rattle.count_table.specs.declared.rule.TableShape.{TableShape}
use Rattle.count_table.specs.Sums.{total, below, late, sum_at}
use Rattle.count_table.specs.Rule.{IsSummed}
use Rattle.vol_free.specs.declared.free_walk.FreeFault.{FreeFault}
use Rattle.vol_reports.specs.Words.{zone_len, HasWords, place_word, free_word, bad_word, kind_word, least_word}
use Rattle.vol_free.specs.FreeWalk.{Walked, walk_rest, free_walk}
use Rattle.vol_reports.specs.Icheck.{one_if, is_kind, use_count, met_count, bad_numbers, kind_count}
use Rattle.vol_reports.specs.Counted.{CountsBlocks}
use Rattle.vol_check.specs.Pieces.{piece_weight, inode_weight}
use Rattle.vol_check.specs.declared.checker.Checker.TheVariants.{Blocks}
use Rattle.vol_check.specs.Seats.{checker_fault}
use Rattle.vol_check.proofs.Sums.{below_front, below_same}
use Rattle.vol_check.proofs.Drawn.{each_once, over_inodes, below_at_most}
use Rattle.vol_check.proofs.PastPieces.{past_weight, free_piece, inode_piece}
use Rattle.vol_check.proofs.MarkSums.{AllMarked, either_way, few_blocks, places_summed, frees_summed, files_summed, directories_summed, specials_summed, odds_summed, bads_summed, leasts_found}

-- a sum that is below 2^64 is exact although words are modulo 2^64
pub exact : (w n : ℕ) → w ≡ n % 2 ^ 64 → n < 2 ^ 64 → w ≡ n
exact w n is small = omega arith

-- the walk over the free list passes at most one block in each step
walk_short : (g : Geometry) (image : List ℕ) (fuel head count : ℕ) (met : List ℕ)
    → length (walk_rest g image fuel head count met).met ≤ length met + fuel
unfolding walk_rest
walk_short g image zero head count met = omega arith
walk_short g image (suc fuel) head count met =
    let b = number g.edition image (head + 2) (count - 1) in
    let P : Walked → Type 0 = λ w. length w.met ≤ length met + suc fuel in
    let here : length met ≤ length met + suc fuel = omega arith in
    either_way P (count == 0) _ _ here (λ _.
    either_way P (nat_lt (constants g.edition).free_slots count) _ _ here (λ _.
    either_way P ((count == 1) && (b == 0)) _ _ here (λ _.
    either_way P (not (in_zone g b)) _ _ here (λ _.
    either_way P (list_any (λ k. k == b) met) _ _ here (λ _.
    either_way P (count == 1) _ _
    (let h = walk_short g image fuel (512 * b) (word image (512 * b)) (b ∷ met) in omega arith)
    (λ _. let h = walk_short g image fuel head (count - 1) (b ∷ met) in omega arith))))))

few_inode_bytes : (edition : Edition) → 32 ≤ (constants edition).inode_bytes
few_inode_bytes V6 = omega arith
few_inode_bytes V7 = omega arith

few_numbers : (edition : Edition) → (constants edition).number_limit ≤ 16777216
few_numbers V6 = omega arith
few_numbers V7 = omega arith

module _ (g : Geometry) (image : List ℕ) (fits : Fits g image) where
  -- there are at most 2^28 i-numbers
  pub few_inodes : g.last_inode ≤ 268435456
  few_inodes =
      let b = few_inode_bytes g.edition in
      let n = few_numbers g.edition in
      let m : 32 * g.last_inode ≤ (constants g.edition).inode_bytes * g.last_inode = mul-le-mul_right g.last_inode b in
      omega (arith, m, n, fits.i_list, fits.zone, fits.limit)

  few_places : (b : ℕ) → use_count g image b < 2 ^ 64
  unfolding use_count
  few_places b =
      let f : ℕ → ℕ = λ i. count_by (λ k. k == b) (blocks_of g image i) in
      let o = over_inodes f g.last_inode in
      let m = below_at_most (λ k. f (k + 1)) 268435456 g.last_inode (λ k lt.
      le_trans (count_by-le-length (λ x. x == b) (blocks_of g image (k + 1))) (few_blocks g image (k + 1) fits (omega arith) (omega arith))) in
      let l = few_inodes in omega (arith, o, m, l)

  few_met : (b : ℕ) → met_count g image b < 2 ^ 64
  unfolding met_count
  few_met b =
      let c = count_by-le-length (λ k. k == b) (free_walk g image).met in
      let w = walk_short g image (g.zone_end - g.zone_start + 1) (free_head g.edition) (word image (free_head g.edition)) [] in
      let n = few_numbers g.edition in omega (arith, c, w, n, fits.limit)

  few_bad : (i : ℕ) → 1 ≤ i → i ≤ g.last_inode → length (bad_numbers g image i) < 2 ^ 64
  unfolding bad_numbers
  few_bad i first last =
      let c = length-filter (λ k. not (in_zone g k)) (blocks_of g image i) in
      let d = count_by-le-length (λ k. not (in_zone g k)) (blocks_of g image i) in
      let f = few_blocks g image i fits first last in omega (arith, c, d, f)

  few_kinds : (kind : Kind) → kind_count g image kind < 2 ^ 64
  unfolding kind_count
  few_kinds kind =
      let c = count_by-le-length (λ i. is_kind kind (kind_at g image i)) (range_with_len 1 g.last_inode) in
      let r = length-range_with_len 1 g.last_inode in
      let l = few_inodes in omega (arith, c, r, l)

  module _ (shape : TableShape) (v : SeatView) (words : List ℕ) (has : HasWords g shape) (summed : IsSummed shape v words) (stopped : 1 ≤ late shape.pieces v.draws)
      (marks : (weight : Mark → ℕ) → total weight v.marks ≡ total (piece_weight g image weight) v.draws) where
    -- the marks of all pieces are those of the free list and of each i-node
    all_marked : AllMarked g image v.marks
    all_marked = record {
      weighs = λ weight.
          let once = each_once shape.pieces (slice_index words 0) v.draws (piece_weight g image weight) summed.drawn stopped
          (λ p le. past_weight g image weight p (let e = has.pieces in omega arith)) in
          let next : g.last_inode + 1 ≡ suc g.last_inode = omega arith in
          let front = ap (below (piece_weight g image weight)) (has.pieces ∙ next)
          ∙ below_front (piece_weight g image weight) g.last_inode in
          let free = free_piece g image weight 0 refl in
          let rest = below_same (λ k. piece_weight g image weight (k + 1)) (λ k. inode_weight g image weight (k + 1)) g.last_inode
          (λ k lt. inode_piece g image weight (k + 1) (omega arith) (omega arith)) in
          let m = marks weight in omega (arith, once, front, free, rest, m);
    }

    -- the seats keep the fault of the walk over the free list
    pub walked : checker_fault Blocks g image v.draws ≡ (free_walk g image).fault
    walked =
        let once = each_once shape.pieces (slice_index words 0) v.draws (λ p. one_if (p == 0)) summed.drawn stopped
        (λ p le. ap one_if (ne_eqb p 0 (λ e. let s = has.pieces in omega (arith, le, e, s)))) in
        let next : g.last_inode + 1 ≡ suc g.last_inode = omega arith in
        let front = ap (below (λ p. one_if (p == 0))) (has.pieces ∙ next) ∙ below_front (λ p. one_if (p == 0)) g.last_inode in
        let some : total (λ p. one_if (p == 0)) v.draws ≡ 0 → ⊥ = λ z. omega (arith, once, front, z) in
        ap (λ t. if t then None else (free_walk g image).fault) (ne_eqb (total (λ p. one_if (p == 0)) v.draws) 0 some)

    -- a count word is the sum of the marks on it, if that is below 2^64
    counted : (w n : ℕ) → 1 ≤ w → w < 1 + (2 * zone_len g + (g.last_inode + 4)) → sum_at w v.marks ≡ n → n < 2 ^ 64 → slice_index words w ≡ n
    counted w n low high is small =
        exact (slice_index words w) n (summed.counted w low (let e = has.counts in omega arith) ∙ ap (λ k. k % 2 ^ 64) is) small

    pub counts_blocks : (fault : Option (FreeFault × ℕ)) → fault ≡ (free_walk g image).fault → CountsBlocks g image words fault
    counts_blocks fault is = record {
      wide = let e = summed.wide in let c = has.counts in let l = has.leasts in omega arith;
      places = λ b zone. let low = zone_bounds g b zone in
          counted (place_word g b) (use_count g image b) (omega arith) (omega arith) (places_summed g image v.marks all_marked b zone) (few_places b);
      frees = λ b zone. let low = zone_bounds g b zone in
          counted (free_word g b) (met_count g image b) (omega arith) (omega arith) (frees_summed g image v.marks all_marked b zone) (few_met b);
      bads = λ i first last.
          counted (bad_word g i) (length (bad_numbers g image i)) (omega arith) (omega arith) (bads_summed g image v.marks all_marked i first last) (few_bad i first last);
      leasts = λ i first last.
          summed.lowest (least_word g i) (let c = has.counts in omega arith) (let c = has.counts in let l = has.leasts in omega arith)
          ∙ leasts_found g image v.marks all_marked i first last;
      files = counted (kind_word g 0) (kind_count g image kinds.Regular) (omega arith) (omega arith) (files_summed g image v.marks all_marked) (few_kinds kinds.Regular);
      directories = counted (kind_word g 1) (kind_count g image kinds.Directory) (omega arith) (omega arith) (directories_summed g image v.marks all_marked) (few_kinds kinds.Directory);
      specials = counted (kind_word g 2) (kind_count g image kinds.Special) (omega arith) (omega arith) (specials_summed g image v.marks all_marked) (few_kinds kinds.Special);
      odds = counted (kind_word g 3) (kind_count g image kinds.Odd) (omega arith) (omega arith) (odds_summed g image v.marks all_marked) (few_kinds kinds.Odd);
      ended = is;
    }
