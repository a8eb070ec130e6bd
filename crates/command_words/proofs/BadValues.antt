-- The words about an image of which some blocks couldn't be read are valid if an invocation is read from them.
use Rattle.std.proofs.Common.{◌≡◌, ◌∙◌, ℕ, Bool, List, [], ◌∷◌, Option, None, Some, codes, slice_get, sym, ap, inl, inr, true≢false}
use Rattle.std.specs.Prelude.{is_some}
use Rattle.bad_maps.specs.Lists.{bytes_around}
use Rattle.vol_layout.specs.declared.edition.Edition.{Edition}
use Rattle.vol_losses.specs.declared.given_sizes.VolumeSizes.{VolumeSizes}
use Rattle.command_words.specs.BadWords.{IsBadGiven, IsImageGiven, IsReadIfAny, IsSizesGiven, sizes_of}
use Rattle.disk_sizes.specs.Disks.{disk_blocks}
use Rattle.command_words.specs.declared.invocation.BadImage.{BadImage}
use Rattle.command_words.specs.declared.invocation.GivenBad.{GivenBad}
use Rattle.command_words.specs.declared.invocation.GivenBad.TheVariants as bads

-- if there is no word, the words are valid
pub none_read : {A : Type 0} (reads : List ℕ → Option A) (words : List (List ℕ)) → slice_get words 0 ≡ None → IsReadIfAny reads words
none_read reads [] none = tt
none_read reads (word ∷ more) none = absurd (cc)

-- if something is read from the first word, the words are valid
pub one_read : {A : Type 0} (reads : List ℕ → Option A) (words : List (List ℕ)) (word : List ℕ) (value : A) → slice_get words 0 ≡ Some word → reads word ≡ Some value
    → IsReadIfAny reads words
one_read reads [] word value first is = tt
one_read reads (other ∷ more) word value first is = let same : other ≡ word = cc in ap is_some (ap reads same ∙ is)

-- if nothing is read from the first word, the words aren't valid
pub none_valid : {A : Type 0} (reads : List ℕ → Option A) (words : List (List ℕ)) (word : List ℕ) → Some word ≡ slice_get words 0 → reads word ≡ None
    → IsReadIfAny reads words → ⊥
none_valid reads [] word first is valid = absurd (cc)
none_valid reads (other ∷ more) word first is valid =
    let same : word ≡ other = cc in true≢false (sym valid ∙ ap is_some (ap reads (sym same) ∙ is))

bad_value : (given : List ℕ → List (List ℕ)) (bad : GivenBad) → IsBadGiven given bad → IsReadIfAny bytes_around (given (codes "bad-blocks"))
bad_value given (bads.Map file) is = none_read bytes_around _ is.1
bad_value given (bads.Outside ranges) is = one_read bytes_around _ is.1.0 ranges.items is.1.1 is.1.2

-- the word for a list of blocks is valid
pub list_value : (given : List ℕ → List (List ℕ)) (edition : Edition) (is_cut : Bool) (image : BadImage) → IsImageGiven given edition is_cut image
    → IsReadIfAny bytes_around (given (codes "bad-blocks"))
list_value given edition is_cut image is = elim is.1 [
  | inl bad ↦ bad_value given image.bad bad
  | inr none ↦ none_read bytes_around _ none.0.1
]

-- the words for sizes and for a disk are valid
pub sizes_value : (given : List ℕ → List (List ℕ)) (edition : Edition) (sizes : Option VolumeSizes) → IsSizesGiven given edition sizes
    → IsReadIfAny sizes_of (given (codes "sizes")) × IsReadIfAny disk_blocks (given (codes "like"))
sizes_value given edition None is = (none_read sizes_of _ is.0, none_read disk_blocks _ is.1)
sizes_value given edition (Some sizes) (inl is) = (one_read sizes_of _ is.1.0 sizes is.1.1 is.1.2, none_read disk_blocks _ is.0)
sizes_value given edition (Some sizes) (inr is) = (none_read sizes_of _ is.0, one_read disk_blocks _ is.1.0 sizes.blocks is.1.1 is.1.2)
