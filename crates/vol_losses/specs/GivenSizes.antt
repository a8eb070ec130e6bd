-- Images of volumes whose super-block is lost, with sizes that are known otherwise in its place.
use Rattle.std.specs.Prelude.{◌≡◌, ℕ, ◌+◌, ◌-◌, ◌&&◌, nat_le, nat_lt, Bool, true, false, List, ◌++◌, length, replicate, Option, Some, None}
use Rattle.pdp_words.specs.Words.{SameOutside}
use Rattle.vol_layout.specs.Edition.{constants}
use Rattle.vol_layout.specs.Geometry.{block_count, first_data_block}
use Rattle.vol_layout.specs.declared.edition.Edition.{Edition}
use Rattle.vol_layout.specs.declared.edition.Edition.TheVariants.{V6, V7}
use Rattle.vol_losses.specs.declared.bad_images.RescueFault.{RescueFault}
use Rattle.vol_losses.specs.declared.bad_images.RescueFault.TheVariants as rescues
use Rattle.vol_losses.specs.declared.cut_images.CutFault.TheVariants as cuts
use Rattle.vol_losses.specs.declared.given_sizes.VolumeSizes.{VolumeSizes}

-- true if a volume of the edition can have these sizes: the i-list and the data zone have a block each or more, and both are within the edition's limits
-- (this project: rule 2)
abbrev pub are_sizes : Edition → VolumeSizes → Bool
are_sizes edition sizes =
    nat_le 1 sizes.list_blocks && (nat_le sizes.list_blocks (constants edition).list_block_limit
    && (nat_lt (sizes.list_blocks + 2) sizes.blocks && nat_le sizes.blocks (constants edition).block_limit))

-- the word for the size of an i-list in the super-block: its number of blocks in the sixth edition, the first block after it in the seventh (filsys.h)
abbrev pub list_word : Edition → ℕ → ℕ
list_word V6 list_blocks = list_blocks
list_word V7 list_blocks = list_blocks + 2

-- the bytes of an image, with zeros up to the end of its super-block (this project)
abbrev pub padded : List ℕ → List ℕ
padded bytes = bytes ++ replicate (1024 - length bytes) 0

-- the image with these sizes in its super-block, and all else as it was; zeros fill it up to the end of the super-block (this project)
pub record HasSizes (sizes : VolumeSizes) (edition : Edition) (bytes image : List ℕ) : Type 0 where
  pub valid : are_sizes edition sizes ≡ true
  pub blocks : block_count edition image ≡ sizes.blocks
  pub list : first_data_block edition image ≡ sizes.list_blocks + 2
  pub others : SameOutside (padded bytes) image 512 518

-- the image with the given sizes, or the same if none are given (this project)
abbrev pub IsSized : Option VolumeSizes → Edition → List ℕ → List ℕ → Type 0
IsSized None edition bytes image = image ≡ bytes
IsSized (Some sizes) edition bytes image = HasSizes sizes edition bytes image

-- the reason why the image has no such sizes: no volume of the edition has them, or memory ran out (this project)
abbrev pub IsUnsized : Option VolumeSizes → Edition → RescueFault → Type 0
IsUnsized sizes edition (rescues.Cut cuts.NoMemory) = Unit {0}
IsUnsized sizes edition (rescues.Cut (cuts.TooShort there blocks)) = ⊥
IsUnsized sizes edition (rescues.Sizes wrong) = (sizes ≡ Some wrong) × (are_sizes edition wrong ≡ false)
