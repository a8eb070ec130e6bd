-- Laws of the marks of pieces.
use Rattle.std.proofs.Common.{◌≡◌, ◌≢◌, ℕ, ◌+◌, ◌-◌, ◌≤◌, ◌∙◌, ap, if◌then◌else◌, false, true, List, [], arith}
use Rattle.std.specs.List.{range_with_len}
use Rattle.vol_layout.specs.Edition.{constants}
use Rattle.vol_layout.specs.Geometry.{in_zone, Fits}
use Rattle.vol_layout.specs.BlockPointers.{form_at, pointer_in}
use Rattle.vol_layout.specs.BlockMaps.{first_count}
use Rattle.vol_layout.specs.declared.geometry.Geometry.{Geometry}
use Rattle.vol_layout.proofs.NameLaws.{entry_out}
use Rattle.vol_file.specs.Changes.{blocks_of}
use Rattle.vol_judge.specs.Marks.{blocks_from}
use Rattle.vol_judge.proofs.BlocksFrom.{from_zero, from_leaf, entries_from, from_entries}
use Rattle.vol_judge.proofs.FileBlocks.{address_blocks, addresses_from, blocks_by_address}
use Rattle.count_table.specs.declared.rule.Mark.{Mark}
use Rattle.count_table.specs.Sums.{total, below}
use Rattle.count_table.specs.Views.{mark}
use Rattle.count_table.proofs.Totals.{total_nil, total_cons}
use Rattle.vol_reports.specs.Words.{place_word, bad_word, least_word}
use Rattle.vol_check.specs.Pieces.{place_weight}
use Rattle.vol_check.proofs.Sums.{total_flat, total_start, below_zero}

module _ (g : Geometry) (weight : Mark → ℕ) (i : ℕ) where
  -- a block-map position that points to data block `b` marks the word of `b`
  pub place_inside : (b : ℕ) → in_zone g b ≡ true → place_weight g weight i b ≡ weight (mark (place_word g b) 1)
  place_inside b zone = ap (λ t. if t then weight (mark (place_word g b) 1) else weight (mark (bad_word g i) 1) + weight (mark (least_word g i) b)) zone

  -- a block-map position with a number outside the data blocks marks both words of its i-node
  pub place_outside : (b : ℕ) → in_zone g b ≡ false → place_weight g weight i b ≡ weight (mark (bad_word g i) 1) + weight (mark (least_word g i) b)
  place_outside b zone = ap (λ t. if t then weight (mark (place_word g b) 1) else weight (mark (bad_word g i) 1) + weight (mark (least_word g i) b)) zone

module _ (g : Geometry) (image : List ℕ) (weight : ℕ → ℕ) where
  -- number 0 has no weight, and nothing below it
  pub weigh_zero : (d b : ℕ) → b ≡ 0 → total weight (blocks_from g image d b) ≡ 0
  weigh_zero d b none = ap (λ x. total weight (blocks_from g image d x)) none ∙ (ap (total weight) (from_zero g image d) ∙ total_nil weight)

  -- a block with no levels below it has only its own weight
  pub weigh_leaf : (d b : ℕ) → b ≢ 0 → d ≡ 0 → total weight (blocks_from g image d b) ≡ weight b
  weigh_leaf d b some none =
      let a = ap (λ x. total weight (blocks_from g image x b)) none ∙ ap (total weight) (from_leaf g image b some) in
      let t = total_cons weight b [] in let n = total_nil weight in omega arith

  -- the weight of entry `j` of a block and of everything below it
  abbrev pub entry_weight : ℕ → ℕ → ℕ → ℕ
  entry_weight d b j = total weight (blocks_from g image (d - 1) (pointer_in g image b j))

  -- the weight of a block with levels below it is its own plus the weights of its entries
  pub weigh_block : (d b : ℕ) → b ≢ 0 → 1 ≤ d → total weight (blocks_from g image d b) ≡ weight b + below (entry_weight d b) (constants g.edition).pointers
  unfolding entries_from
  weigh_block d b some one =
      let n = (constants g.edition).pointers in
      let a = ap (total weight) (from_entries g image d b some one) in
      let t = total_cons weight b (entries_from g image (d - 1) b n) in
      let f = total_flat weight (λ j. blocks_from g image (d - 1) (pointer_in g image b j)) (range_with_len 0 n) in
      let s = total_start (entry_weight d b) n in
      a ∙ (t ∙ ap (λ x. weight b + x) (f ∙ s))

  -- a number outside the data zone has only its own weight
  pub weigh_outside : (d b : ℕ) → b ≢ 0 → 1 ≤ d → in_zone g b ≡ false → total weight (blocks_from g image d b) ≡ weight b
  weigh_outside d b some one out =
      let w = weigh_block d b some one in
      let z = below_zero (entry_weight d b) (constants g.edition).pointers (λ j lt. weigh_zero (d - 1) (pointer_in g image b j) (entry_out g image b j out)) in
      omega arith

  -- the weight of a file is the sum of the weights of its addresses
  pub weigh_file : (i : ℕ) → Fits g image → 1 ≤ i → i ≤ g.last_inode
      → total weight (blocks_of g image i) ≡ below (λ k. total weight (address_blocks g image i k)) (first_count (form_at g image i))
  unfolding addresses_from
  weigh_file i fits first last =
      let n = first_count (form_at g image i) in
      ap (total weight) (blocks_by_address g image i fits first last)
      ∙ (total_flat weight (address_blocks g image i) (range_with_len 0 n)
      ∙ total_start (λ k. total weight (address_blocks g image i k)) n)
