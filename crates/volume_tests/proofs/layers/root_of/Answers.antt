use Rattle.std.proofs.Common.{◌≤◌, ap, sym, subst, List, ℕ, arith}
use Rattle.vol_layout.specs.Edition.{constants}
use Rattle.vol_layout.specs.declared.edition.Constants.{Constants}
use Rattle.vol_layout.specs.declared.edition.Edition.{Edition}
use Rattle.vol_layout.specs.declared.edition.Edition.TheVariants.{V6, V7}
use Rattle.vol_layout.specs.declared.geometry.Geometry.{Geometry}
use Rattle.vol_dir.specs.Entries.{IsDirectory}
use Rattle.vol_change.specs.Ready.{Rules1To12}
use Rattle.vol_change.specs.Whole.{HasDirectory}
use Rattle.vol_change.proofs.ReadyLaws.{ready_directory, ready_whole}
use Rattle.volume_tests.proofs.layers.root_of.Goals as goal

-- the root's i-number isn't 0
root_first : (edition : Edition) → 1 ≤ (constants edition).root
root_first V6 = omega arith
root_first V7 = omega arith

-- the root of a sound image is a directory
root_is : (geometry : Geometry) (image : List ℕ) → Rules1To12 geometry image → IsDirectory geometry image (constants geometry.edition).root
root_is geometry image ready = record {
  first = root_first geometry.edition;
  last = omega (arith, ready.fits.root);
  kind = (ready_whole geometry image ready).sound.kinds.root;
}

pub returns : goal.returns
returns c =
    let geometry = c.args.geometry.now in
    let image = c.args.image.now in
    subst (HasDirectory geometry image) (ap (λ (all : Constants). all.root) (sym c.constants.ensures))
    (ready_directory geometry image (constants geometry.edition).root c.requires (root_is geometry image c.requires))
