-- The number of pieces of an i-number.
use Rattle.std.proofs.Common.{◌≡◌, ◌≢◌, ℕ, ◌+◌, ◌/◌, ◌≤◌, ap, max, List, refl, arith}
use Rattle.vol_layout.specs.Body.{body_size}
use Rattle.vol_layout.specs.Edition.{constants}
use Rattle.vol_layout.specs.declared.edition.Edition.{Edition}
use Rattle.vol_layout.specs.declared.edition.Edition.TheVariants.{V6, V7}
use Rattle.vol_layout.specs.declared.geometry.Geometry.{Geometry}
use Rattle.vol_layout.specs.declared.mode.Kind.{Kind}
use Rattle.vol_layout.specs.declared.mode.Kind.TheVariants as kinds
use Rattle.vol_file.specs.Rules.{kind_at}
use Rattle.vol_file.specs.Changes.{whole_blocks}
use Rattle.vol_check.specs.Parts.{parts_of, part_count}

one_of : (kind : Kind) (blocks : ℕ) → kind ≢ kinds.Directory → parts_of kind blocks ≡ 1
one_of kinds.Directory blocks other = absurd (other refl)
one_of kinds.Free blocks other = refl
one_of kinds.Regular blocks other = refl
one_of kinds.Special blocks other = refl
one_of kinds.Odd blocks other = refl

some_of : (kind : Kind) (blocks : ℕ) → 1 ≤ parts_of kind blocks
some_of kinds.Directory blocks = omega arith
some_of kinds.Free blocks = omega arith
some_of kinds.Regular blocks = omega arith
some_of kinds.Special blocks = omega arith
some_of kinds.Odd blocks = omega arith

module _ (g : Geometry) (image : List ℕ) (i : ℕ) where
  -- an i-number that isn't a directory has one piece
  pub one_part : kind_at g image i ≢ kinds.Directory → part_count g image i ≡ 1
  unfolding part_count
  one_part other = one_of (kind_at g image i) (whole_blocks (body_size g image i)) other

  -- a directory has one piece for each 64 logical blocks, rounded up, and at least one
  pub directory_parts : kind_at g image i ≡ kinds.Directory → part_count g image i ≡ max 1 ((whole_blocks (body_size g image i) + 63) / 64)
  unfolding part_count
  directory_parts is = ap (λ k. parts_of k (whole_blocks (body_size g image i))) is

  -- each i-number has at least one piece
  pub some_part : 1 ≤ part_count g image i
  unfolding part_count
  some_part = some_of (kind_at g image i) (whole_blocks (body_size g image i))

few_bytes : (edition : Edition) → (constants edition).greatest ≤ 1082201088
few_bytes V6 = omega arith
few_bytes V7 = omega arith

few_of : (kind : Kind) (blocks : ℕ) → blocks ≤ 2113674 → parts_of kind blocks ≤ 33027
few_of kinds.Directory blocks le = omega arith
few_of kinds.Free blocks le = omega arith
few_of kinds.Regular blocks le = omega arith
few_of kinds.Special blocks le = omega arith
few_of kinds.Odd blocks le = omega arith

-- an i-number has at most 33,027 pieces
pub few_parts : (g : Geometry) (image : List ℕ) (i : ℕ) → part_count g image i ≤ 33027
unfolding part_count
few_parts g image i =
    few_of (kind_at g image i) (whole_blocks (body_size g image i)) (let f = few_bytes g.edition in omega arith)
