-- A sound image keeps the rules that calls rely on, and its number of free blocks is the one computed from its shapes.
use Rattle.std.proofs.Common.{◌≡◌, ℕ, ◌<◌, ◌≤◌, true, List, arith, length, sym, subst, ◌∙◌}
use Rattle.std.proofs.lemmas.Bool.Decides.{nat_tests}
use Rattle.pdp_words.specs.Words.{word}
use Rattle.vol_layout.specs.Edition.{constants}
use Rattle.vol_layout.specs.Geometry.{geometry_of, block_count, is_whole, is_bounded, Fits}
use Rattle.vol_layout.specs.declared.edition.Edition.{Edition}
use Rattle.vol_layout.specs.declared.edition.Edition.TheVariants.{V6, V7}
use Rattle.vol_layout.specs.declared.geometry.Geometry.{Geometry}
use Rattle.vol_free.specs.Stack.{IsFree}
use Rattle.vol_dir.specs.Tree.{free_count, shapes}
use Rattle.vol_judge.specs.Sound.{IsSound}
use Rattle.vol_judge.proofs.Parts.{sound_whole, sound_bounded, sound_fits, sound_files, sound_covered, sound_entries}
use Rattle.vol_change.proofs.FreeCounts.{free_blocks}
use Rattle.vol_volume.specs.Stands.{Rules3To7And9}

-- a sound image has at least 1024 bytes
pub sound_length : (edition : Edition) (image : List ℕ) → IsSound edition image → 1024 ≤ length image
sound_length edition image sound = let whole : is_whole edition image ≡ true = sound_whole edition image sound in grind (arith, nat_tests)

-- the number of blocks of a sound image is within the edition's limit, given that a word is below 65536
block_limit_by : (edition : Edition) (image : List ℕ) → IsSound edition image → word image 514 < 65536
    → block_count edition image ≤ (constants edition).number_limit
block_limit_by V6 image sound low = omega arith
block_limit_by V7 image sound low = let bounded : is_bounded V7 image ≡ true = sound_bounded V7 image sound in grind (arith, nat_tests)

-- the geometry of a sound image fits it
pub sound_geometry_fits : (geometry : Geometry) (image : List ℕ) → geometry ≡ geometry_of geometry.edition image → IsSound geometry.edition image
    → word image 514 < 65536 → Fits geometry image
sound_geometry_fits geometry image sizes sound low =
    subst (λ g. Fits g image) (sym sizes) (sound_fits geometry.edition image sound (block_limit_by geometry.edition image sound low))

sound_stands : (edition : Edition) (image : List ℕ) → Fits (geometry_of edition image) image → IsSound edition image → Rules3To7And9 (geometry_of edition image) image
sound_stands edition image fits sound =
    record { fits = fits; files = sound_files edition image fits sound; entries = sound_entries edition image sound }

-- a sound image, with its own geometry, keeps the rules that calls rely on
pub stands : (geometry : Geometry) (image : List ℕ) → geometry ≡ geometry_of geometry.edition image → Fits geometry image
    → IsSound geometry.edition image → Rules3To7And9 geometry image
stands geometry image sizes fits sound =
    subst (λ g. Rules3To7And9 g image) (sym sizes) (sound_stands geometry.edition image (subst (λ g. Fits g image) sizes fits) sound)

sound_count : (edition : Edition) (image : List ℕ) (count : ℕ) → Fits (geometry_of edition image) image → IsSound edition image
    → ((blocks : List ℕ) → IsFree (geometry_of edition image) image blocks → count ≡ length blocks)
    → count ≡ free_count (geometry_of edition image) (shapes (geometry_of edition image) image)
sound_count edition image count fits sound counted =
    let files = sound_files edition image fits sound in
    counted files.blocks files.sound.free
    ∙ free_blocks (geometry_of edition image) image files.blocks files.sound (sound_covered edition image files.blocks sound files.sound.free)

-- the number of free blocks of a sound image is the one computed from the shapes
pub counts : (edition : Edition) (geometry : Geometry) (image : List ℕ) (count : ℕ) → geometry ≡ geometry_of edition image → Fits geometry image
    → IsSound edition image → ((blocks : List ℕ) → IsFree geometry image blocks → count ≡ length blocks)
    → count ≡ free_count geometry (shapes geometry image)
counts edition geometry image count sizes fits sound counted =
    subst (λ g. count ≡ free_count g (shapes g image)) (sym sizes)
    (sound_count edition image count (subst (λ g. Fits g image) sizes fits) sound
    (λ blocks free. counted blocks (subst (λ g. IsFree g image blocks) (sym sizes) free)))
