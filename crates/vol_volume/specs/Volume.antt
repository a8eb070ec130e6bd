-- A mounted volume, and the effects of its calls.
use Rattle.std.specs.Prelude.{◌≡◌, ℕ, ◌+◌, List, [], ◌∷◌, ◌++◌, length, None}
use Rattle.vol_layout.specs.Geometry.{geometry_of}
use Rattle.vol_dir.specs.Tree.{State, state}
use Rattle.vol_judge.specs.Sound.{IsSound}
use Rattle.vol_change.specs.Ready.{Becomes}
use Rattle.vol_volume.specs.Verdict.{verdict}
use Rattle.vol_volume.specs.Step.{step}
use Rattle.vol_volume.specs.Inodes.{KeepsInodes}
use Rattle.vol_volume.specs.Journal.{MayAnswer, after, IsLegal}
use Rattle.vol_volume.specs.Reach.{LeavesTheRest}
use Rattle.vol_layout.specs.declared.edition.Edition.{Edition}
use Rattle.vol_layout.specs.declared.geometry.Geometry.{Geometry}
use Rattle.vol_volume.specs.declared.calls.Call.{Call}
use Rattle.vol_volume.specs.declared.calls.Done.{Done}
use Rattle.vol_volume.specs.declared.calls.Record.{Record}

-- a volume as contracts see it: its image, the bytes that were mounted or the image at the last cut, the calls accepted since, and the number of
-- records removed by cuts (this project)
pub record Mounted : Type 0 where
  pub edition : Edition
  pub image : List ℕ
  pub base : List ℕ
  pub journal : List Record
  pub first : ℕ

-- the tree and the shapes of files that an image reads as (manual section 5, file system)
abbrev pub reads_as : Edition → List ℕ → State
reads_as edition image = state (geometry_of edition image) image

-- the invariant of every volume between calls: the image is sound, and reads as exactly the tree that results from replaying the journal on the sound
-- image that was mounted or left by the last cut (this project)
pub record IsConsistent (volume : Mounted) : Type 0 where
  pub image_sound : IsSound volume.edition volume.image
  pub base_sound : IsSound volume.edition volume.base
  pub len : length volume.base ≡ length volume.image
  pub legal : IsLegal (reads_as volume.edition volume.base) volume.journal
  pub reads : reads_as volume.edition volume.image ≡ after (reads_as volume.edition volume.base) volume.journal

-- a newly mounted volume (this project)
abbrev pub mounted : Edition → List ℕ → Mounted
mounted edition bytes = record { edition = edition; image = bytes; base = bytes; journal = []; first = 0 }

-- a volume after its journal is cut: the records are dropped, and later ones start from the present image (this project)
abbrev pub after_cut : Mounted → Mounted
after_cut volume = record {
  edition = volume.edition;
  image = volume.image;
  base = volume.image;
  journal = [];
  first = volume.first + length volume.journal;
}

-- the image after an accepted call (this project)
pub record Performs (geometry : Geometry) (old new : List ℕ) (call : Call) (done : Done) : Type 0 where
  pub answered : MayAnswer (state geometry old) call done
  pub changes : Becomes geometry old new (step (state geometry old) call done)
  pub inodes : KeepsInodes geometry old new
  pub rest : LeavesTheRest geometry old new call done

-- the volume after a call was accepted, made and recorded (this project)
pub record Accepts (old new : Mounted) (call : Call) (done : Done) : Type 0 where
  pub accepted : verdict (reads_as old.edition old.image) call ≡ None
  pub performed : Performs (geometry_of old.edition old.image) old.image new.image call done
  pub edition : new.edition ≡ old.edition
  pub base : new.base ≡ old.base
  pub journal : new.journal ≡ old.journal ++ record { call = call; done = done } ∷ []
  pub first : new.first ≡ old.first
