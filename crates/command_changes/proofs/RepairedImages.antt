-- Lemmas on repaired copies: their sizes and their root, and the lines about what is lost.
use Rattle.std.proofs.Common.{◌≡◌, ℕ, ◌==◌, ◌∙◌, ap, Bool, false, if◌then◌else◌, List, [], ◌∷◌, length, subst, arith}
use Rattle.std.proofs.lemmas.Bool.{true≢false}
use Rattle.std.specs.Prelude.{Ok, Err}
use Rattle.vol_layout.specs.Edition.{constants}
use Rattle.vol_layout.specs.Geometry.{Fits, geometry_of, geometry_read, is_bounded}
use Rattle.vol_layout.specs.declared.edition.Edition.{Edition}
use Rattle.vol_layout.specs.declared.edition.Edition.TheVariants.{V6, V7}
use Rattle.vol_layout.specs.declared.geometry.Geometry.{Geometry}
use Rattle.vol_layout.specs.declared.geometry.GeometryFault.TheVariants.{Short, Bounds}
use Rattle.vol_dir.specs.Entries.{IsDirectory}
use Rattle.vol_judge.specs.Sound.{IsSound, Rule}
use Rattle.vol_judge.proofs.Parts.{sound_whole, sound_bounded}
use Rattle.vol_rescue.specs.Repaired.{TellsRepaired}
use Rattle.command_changes.specs.RepairLosses.{TellsLost}

-- the sizes of a sound image can be read
pub sound_read : (edition : Edition) (image : List ℕ) → IsSound edition image → geometry_read edition image ≡ Ok (geometry_of edition image)
unfolding geometry_read
sound_read edition image sound =
    ap (λ b. if b then (if is_bounded edition image then Ok (geometry_of edition image) else Err Bounds) else Err Short) (sound_whole edition image sound)
    ∙ ap (λ b. if b then Ok (geometry_of edition image) else Err Bounds) (sound_bounded edition image sound)

-- the root of a sound image is a directory
pub sound_root : (edition : Edition) (image : List ℕ) → Fits (geometry_of edition image) image → IsSound edition image
    → IsDirectory (geometry_of edition image) image (constants edition).root
unfolding Rule
sound_root V6 image fits sound = record { first = omega arith; last = omega (arith, fits.root); kind = (sound 3).root }
sound_root V7 image fits sound = record { first = omega arith; last = omega (arith, fits.root); kind = (sound 3).root }

-- the lines of an image of which blocks are lost
pub told_lost : (edition : Edition) (geometry : Geometry) (old new lines : List ℕ) (root : ℕ) (lost : List Bool) → (length lost == 0) ≡ false
    → geometry ≡ geometry_of edition new → root ≡ (constants edition).root → TellsRepaired geometry old lost new root lines → TellsLost edition old new lines lost
told_lost edition geometry old new lines root [] some sizes is told = absurd (true≢false some)
told_lost edition geometry old new lines root (mark ∷ lost) some sizes is told =
    subst (λ g. TellsRepaired g old (mark ∷ lost) new (constants edition).root lines) sizes
    (subst (λ r. TellsRepaired geometry old (mark ∷ lost) new r lines) is told)
