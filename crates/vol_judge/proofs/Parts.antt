-- Consequences of soundness for an image, and conditions that imply it.
use Rattle.std.proofs.Common.{◌≡◌, ℕ, ◌≤◌, inr, true, List, None, refl, arith}
use Rattle.std.proofs.lemmas.Bool.Decides.{nat_tests}
use Rattle.vol_layout.specs.Edition.{constants}
use Rattle.vol_layout.specs.Geometry.{Fits, block_count, geometry_of, is_whole, is_bounded}
use Rattle.vol_layout.specs.declared.edition.Edition.{Edition}
use Rattle.vol_layout.specs.declared.edition.Edition.TheVariants.{V6, V7}
use Rattle.vol_free.specs.Stack.{IsFree, HasStack}
use Rattle.vol_free.proofs.Stacks.{IsFree_unique, zone_behind}
use Rattle.vol_file.specs.Rules.{IsCovered, Rules3To7With, Rules3To7}
use Rattle.vol_dir.specs.Entries.{HasEntries}
use Rattle.vol_judge.specs.Directories.{HasDots, IsTree, HasLinks}
use Rattle.vol_judge.specs.Sound.{Rule, IsSound}
use Rattle.vol_judge.proofs.RuleNumbers.{judged}

-- a sound image is whole
pub sound_whole : (edition : Edition) (image : List ℕ) → IsSound edition image → is_whole edition image ≡ true
unfolding Rule
sound_whole edition image sound = sound 1

-- the sizes of a sound image are within bounds
pub sound_bounded : (edition : Edition) (image : List ℕ) → IsSound edition image → is_bounded edition image ≡ true
unfolding Rule
sound_bounded edition image sound = sound 2

-- the geometry of a sound image fits it, if its number of blocks is within the edition's limit
pub sound_fits : (edition : Edition) (image : List ℕ) → IsSound edition image → block_count edition image ≤ (constants edition).number_limit
    → Fits (geometry_of edition image) image
sound_fits V6 image sound limit =
    let whole : is_whole V6 image ≡ true = sound_whole V6 image sound in
    let bounded : is_bounded V6 image ≡ true = sound_bounded V6 image sound in
    record { blocks = grind (arith, nat_tests); i_list = grind (arith, nat_tests); zone = grind (arith, nat_tests); root = grind (arith, nat_tests); limit = limit }
sound_fits V7 image sound limit =
    let whole : is_whole V7 image ≡ true = sound_whole V7 image sound in
    let bounded : is_bounded V7 image ≡ true = sound_bounded V7 image sound in
    record { blocks = grind (arith, nat_tests); i_list = grind (arith, nat_tests); zone = grind (arith, nat_tests); root = grind (arith, nat_tests); limit = limit }

-- the free list of a sound image is a stack
pub sound_stack : (edition : Edition) (image : List ℕ) → IsSound edition image → HasStack (geometry_of edition image) image
unfolding Rule
sound_stack edition image sound = sound 6

-- the geometry of a sound image fits, and rules 3 to 7 hold with its free blocks
pub sound_with : (edition : Edition) (image blocks : List ℕ) → Fits (geometry_of edition image) image → IsSound edition image
    → IsFree (geometry_of edition image) image blocks → Rules3To7With (geometry_of edition image) image blocks
unfolding Rule
sound_with edition image blocks fits sound free = record {
  fits = fits;
  kinds = sound 3;
  sizes = sound 4;
  zoned = sound 5;
  free = free;
  apart = (sound 7).0;
  outside = (sound 7).1 blocks free;
}

-- the geometry of a sound image fits, and rules 3 to 7 hold
pub sound_files : (edition : Edition) (image : List ℕ) → Fits (geometry_of edition image) image → IsSound edition image
    → Rules3To7 (geometry_of edition image) image
sound_files edition image fits sound =
    let stack = sound_stack edition image sound in record { blocks = stack.blocks; sound = sound_with edition image stack.blocks fits sound stack.free }

-- each data block of a sound image is free or used by a file
pub sound_covered : (edition : Edition) (image blocks : List ℕ) → IsSound edition image → IsFree (geometry_of edition image) image blocks
    → IsCovered (geometry_of edition image) image blocks
unfolding Rule
sound_covered edition image blocks sound free = sound 8 blocks free

-- a sound image keeps rule 9
pub sound_entries : (edition : Edition) (image : List ℕ) → IsSound edition image → HasEntries (geometry_of edition image) image
unfolding Rule
sound_entries edition image sound = sound 9

-- a sound image keeps rule 10
pub sound_dots : (edition : Edition) (image : List ℕ) → IsSound edition image → HasDots (geometry_of edition image) image
unfolding Rule
sound_dots edition image sound = sound 10

-- a sound image keeps rule 11
pub sound_tree : (edition : Edition) (image : List ℕ) → IsSound edition image → IsTree (geometry_of edition image) image
unfolding Rule
sound_tree edition image sound = sound 11

-- a sound image keeps rule 12
pub sound_links : (edition : Edition) (image : List ℕ) → IsSound edition image → HasLinks (geometry_of edition image) image
unfolding Rule
sound_links edition image sound = sound 12

-- an image is sound if rules 1 and 2 hold, its geometry fits, rules 3 to 7 hold with some free blocks, each data block is free or used, and rules 9
-- to 12 hold
pub sound_of : (edition : Edition) (image blocks : List ℕ) → is_whole edition image ≡ true → is_bounded edition image ≡ true
    → Rules3To7With (geometry_of edition image) image blocks → IsCovered (geometry_of edition image) image blocks
    → HasEntries (geometry_of edition image) image → HasDots (geometry_of edition image) image → IsTree (geometry_of edition image) image
    → HasLinks (geometry_of edition image) image → IsSound edition image
sound_of edition image blocks whole bounded files covered entries dots tree links =
    let same : (others : List ℕ) → IsFree (geometry_of edition image) image others → others ≡ blocks = λ others free.
    IsFree_unique (omega (arith, zone_behind files.fits)) free files.free in
    judged true edition image None
    (inr (
      tt,
      inr (
        whole,
        inr (
          bounded,
          inr (
            files.kinds,
            inr (
              files.sizes,
              inr (
                files.zoned,
                inr (
                  record { blocks = blocks; free = files.free },
                  inr (
                    (files.apart, λ others free. rw (same others free) files.outside),
                    inr (
                      λ others free. rw (same others free) covered,
                      inr (entries, inr (dots, inr (tree, inr (links, refl)))),
                    ),
                  ),
                ),
              ),
            ),
          ),
        ),
      ),
    ))
