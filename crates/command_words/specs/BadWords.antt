-- The words about an image of which some blocks couldn't be read.
use Rattle.std.specs.Prelude.{◌≡◌, ◌⊎◌, ◌==◌, ◌||◌, ℕ, Bool, true, false, List, [], ◌∷◌, slice_get, is_some, Option, None, Some, codes}
use Rattle.std.specs.List.{slice_split}
use Rattle.bad_maps.specs.Lists.{bytes_around}
use Rattle.bad_maps.specs.declared.maps.ReadRange.{ReadRange}
use Rattle.line_words.specs.Numbers.{number_in}
use Rattle.vol_layout.specs.declared.edition.Edition.{Edition}
use Rattle.vol_losses.specs.declared.given_sizes.VolumeSizes.{VolumeSizes}
use Rattle.disk_sizes.specs.Disks.{disk_blocks, list_default}
use Rattle.command_words.specs.declared.invocation.BadImage.{BadImage}
use Rattle.command_words.specs.declared.invocation.GivenBad.{GivenBad}
use Rattle.command_words.specs.declared.invocation.GivenBad.TheVariants as bads

-- if there is a word, something can be read from it (this project)
abbrev pub IsReadIfAny : {A : Type 0} → (List ℕ → Option A) → List (List ℕ) → Type 0
IsReadIfAny reads [] = Unit {0}
IsReadIfAny reads (word ∷ more) = is_some (reads word) ≡ true

-- the sizes of a volume, if both have a number (this project)
abbrev pub sizes_by : Option ℕ → Option ℕ → Option VolumeSizes
sizes_by (Some blocks) (Some list_blocks) = Some (record { blocks = blocks; list_blocks = list_blocks })
sizes_by None list_blocks = None
sizes_by (Some blocks) None = None

-- the sizes of a volume in two words: its number of blocks, of 32 bits, and that of its i-list, of 16, in decimal digits (mkfs)
abbrev pub sizes_from : List ℕ → List ℕ → Option VolumeSizes
sizes_from blocks list_blocks = sizes_by (number_in 10 4294967295 blocks) (number_in 10 65535 list_blocks)

-- the sizes of a volume in two pieces of a word (this project)
abbrev pub sizes_in : List (List ℕ) → Option VolumeSizes
sizes_in [] = None
sizes_in (blocks ∷ []) = None
sizes_in (blocks ∷ list_blocks ∷ []) = sizes_from blocks list_blocks
sizes_in (blocks ∷ list_blocks ∷ more ∷ pieces) = None

-- the sizes of a volume in a word: two numbers with a comma between them (this project)
abbrev pub sizes_of : List ℕ → Option VolumeSizes
sizes_of word = sizes_in (slice_split (λ b. b == 44) word)

-- the range of all bytes that a file can have (this project)
abbrev pub whole_file : ReadRange
whole_file = record { first = 0; end = 18446744073709551615 }

-- the blocks that couldn't be read are those that the map in this file doesn't have, or those that are outside these ranges, by the words of the two
-- options; one of the options has a word, and the other one none (this project)
abbrev pub IsBadBy : Option (List ℕ) → Option (List ℕ) → GivenBad → Type 0
IsBadBy map list (bads.Map file) = (map ≡ Some file.now) × (list ≡ None)
IsBadBy map list (bads.Outside ranges) = (map ≡ None) × ((word : List ℕ) × (list ≡ Some word) × (bytes_around word ≡ Some ranges.items))

-- the words say which blocks couldn't be read: by a map or by a list (this project)
abbrev pub IsBadGiven : (List ℕ → List (List ℕ)) → GivenBad → Type 0
IsBadGiven given bad = IsBadBy (slice_get (given (codes "bad")) 0) (slice_get (given (codes "bad-blocks")) 0) bad

-- the words say nothing of blocks that couldn't be read (this project)
abbrev pub IsNoneBad : (List ℕ → List (List ℕ)) → Type 0
IsNoneBad given = (slice_get (given (codes "bad")) 0 ≡ None) × (slice_get (given (codes "bad-blocks")) 0 ≡ None)

-- the words say which blocks couldn't be read, or nothing of them (this project)
abbrev pub IsBadIfAny : (List ℕ → List (List ℕ)) → Option GivenBad → Type 0
IsBadIfAny given None = IsNoneBad given
IsBadIfAny given (Some bad) = IsBadGiven given bad

-- these are the sizes of a volume, by the words of the two options: none if both are left out; the two numbers in the word of the first; or those that
-- the edition's mkfs gave the volume of the disk that the word of the second names (mkfs.c)
abbrev pub IsSizesBy : Edition → Option (List ℕ) → Option (List ℕ) → Option VolumeSizes → Type 0
IsSizesBy edition numbers disk None = (numbers ≡ None) × (disk ≡ None)
IsSizesBy edition numbers disk (Some sizes) =
    ((disk ≡ None) × ((word : List ℕ) × (numbers ≡ Some word) × (sizes_of word ≡ Some sizes)))
    ⊎ ((numbers ≡ None) × ((word : List ℕ) × (disk ≡ Some word) × (disk_blocks word ≡ Some sizes.blocks)
    × (sizes.list_blocks ≡ list_default edition sizes.blocks)))

-- the words give these sizes of the volume, or none (this project)
abbrev pub IsSizesGiven : (List ℕ → List (List ℕ)) → Edition → Option VolumeSizes → Type 0
IsSizesGiven given edition sizes = IsSizesBy edition (slice_get (given (codes "sizes")) 0) (slice_get (given (codes "like")) 0) sizes

-- all bytes were read (this project)
abbrev pub IsWholeFile : GivenBad → Type 0
IsWholeFile (bads.Map file) = ⊥
IsWholeFile (bads.Outside ranges) = ranges.items ≡ whole_file ∷ []

-- the words describe this image: which of its blocks couldn't be read, if they say that, else none; and the sizes of its volume, if they give them (this
-- project)
abbrev pub IsImageGiven : (List ℕ → List (List ℕ)) → Edition → Bool → BadImage → Type 0
IsImageGiven given edition is_cut image = IsSizesGiven given edition image.sizes
    × (IsBadGiven given image.bad
    ⊎ (IsNoneBad given × ((is_cut || is_some image.sizes) ≡ true) × IsWholeFile image.bad))

-- the words describe this image; or they say nothing of it (this project)
abbrev pub IsBadImageGiven : (List ℕ → List (List ℕ)) → Edition → Bool → Option BadImage → Type 0
IsBadImageGiven given edition is_cut None = IsNoneBad given × IsSizesGiven given edition None × (is_cut ≡ false)
IsBadImageGiven given edition is_cut (Some image) = IsImageGiven given edition is_cut image

-- both options have a word (this project)
abbrev pub AreBothGiven : (List ℕ → List (List ℕ)) → List ℕ → List ℕ → Type 0
AreBothGiven given one other = (is_some (slice_get (given one) 0) ≡ true) × (is_some (slice_get (given other) 0) ≡ true)

-- the words about the image aren't valid: one of them is no list, no sizes or no disk, or two options are given that exclude each other (this project)
abbrev pub IsBadWrong : (List ℕ → List (List ℕ)) → Type 0
IsBadWrong given =
    (IsReadIfAny bytes_around (given (codes "bad-blocks")) → ⊥) ⊎ ((IsReadIfAny sizes_of (given (codes "sizes")) → ⊥)
    ⊎ ((IsReadIfAny disk_blocks (given (codes "like")) → ⊥) ⊎ (AreBothGiven given (codes "bad") (codes "bad-blocks")
    ⊎ AreBothGiven given (codes "sizes") (codes "like"))))
