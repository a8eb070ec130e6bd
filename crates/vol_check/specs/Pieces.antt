-- The marks of each piece of the block report, as the sum over its marks under each weight.
use Rattle.std.specs.Prelude.{◌≡◌, ℕ, ◌+◌, ◌==◌, nat_le, if◌then◌else◌, List}
use Rattle.atomic_table.specs.declared.shared.Seat.{Seat}
use Rattle.vol_layout.specs.Geometry.{in_zone}
use Rattle.vol_layout.specs.declared.geometry.Geometry.{Geometry}
use Rattle.vol_layout.specs.declared.mode.Kind.{Kind}
use Rattle.vol_layout.specs.declared.mode.Kind.TheVariants as kinds
use Rattle.vol_file.specs.Rules.{kind_at}
use Rattle.vol_file.specs.Changes.{blocks_of}
use Rattle.count_table.specs.declared.rule.Mark.{Mark}
use Rattle.count_table.specs.declared.rule.SeatView.{SeatView}
use Rattle.count_table.specs.declared.words.Tally.{Tally}
use Rattle.count_table.specs.Sums.{total}
use Rattle.count_table.specs.Views.{mark}
use Rattle.count_table.specs.Tallies.{IsSeatAt}
use Rattle.vol_reports.specs.Words.{place_word, free_word, bad_word, kind_word, least_word}
use Rattle.vol_free.specs.FreeWalk.{free_walk}

-- a block-map position of i-node `i` with number `k` marks the word of block `k`, or both words of `i` if `k` isn't a data block (icheck)
abbrev pub place_weight : Geometry → (Mark → ℕ) → ℕ → ℕ → ℕ
place_weight g weight i k =
    if in_zone g k then weight (mark (place_word g k) 1)
    else weight (mark (bad_word g i) 1) + weight (mark (least_word g i) k)

-- an i-node marks the word of its kind; a free i-node marks none (icheck)
abbrev pub kind_weight : Geometry → (Mark → ℕ) → Kind → ℕ
kind_weight g weight kinds.Free = 0
kind_weight g weight kinds.Regular = weight (mark (kind_word g 0) 1)
kind_weight g weight kinds.Directory = weight (mark (kind_word g 1) 1)
kind_weight g weight kinds.Special = weight (mark (kind_word g 2) 1)
kind_weight g weight kinds.Odd = weight (mark (kind_word g 3) 1)

-- i-node `i` marks the blocks in its block map, and its kind (icheck)
abbrev pub inode_weight : Geometry → List ℕ → (Mark → ℕ) → ℕ → ℕ
inode_weight g image weight i = total (place_weight g weight i) (blocks_of g image i) + kind_weight g weight (kind_at g image i)

-- the free list marks each block that the walk over it passes (icheck)
abbrev pub free_weight : Geometry → List ℕ → (Mark → ℕ) → ℕ
free_weight g image weight = total (λ b. weight (mark (free_word g b) 1)) (free_walk g image).met

-- piece 0 is the free list, piece i is i-node i, and there are no others (icheck)
unfoldable pub piece_weight : Geometry → List ℕ → (Mark → ℕ) → ℕ → ℕ
piece_weight g image weight p =
    if p == 0 then free_weight g image weight else if nat_le p g.last_inode then inode_weight g image weight p else 0

-- a seat made marks of this weight, and its view is otherwise unchanged (this project)
pub record Adds (tally : Tally) (old new : Seat (Unit {0}) SeatView) (amount : (Mark → ℕ) → ℕ) : Type 0 where
  pub own : IsSeatAt tally new
  pub parts : new.me.0.parts ≡ old.me.0.parts
  pub draws : new.me.0.draws ≡ old.me.0.draws
  pub marks : (weight : Mark → ℕ) → total weight new.me.0.marks ≡ total weight old.me.0.marks + amount weight
