-- What is counted in a volume.
use Rattle.std.specs.Prelude.{◌≡◌, true, ℕ, List, Option, None, Some, Ok, IsErr, length}
use Rattle.pdp_words.specs.Words.{long}
use Rattle.vol_free.specs.FreeWalk.{free_walk}
use Rattle.vol_judge.specs.Sound.{IsJudged}
use Rattle.vol_layout.specs.Geometry.{geometry_read}
use Rattle.vol_layout.specs.Super.{time_place}
use Rattle.vol_layout.specs.declared.edition.Edition.{Edition}
use Rattle.vol_layout.specs.declared.geometry.Geometry.{Geometry}
use Rattle.vol_layout.specs.declared.mode.Kind.TheVariants as kinds
use Rattle.vol_reports.specs.Icheck.{kind_count}
use Rattle.vol_catalogue.specs.declared.facts.Counts.{Counts}
use Rattle.vol_catalogue.specs.declared.facts.VolumeFacts.{VolumeFacts}

-- these are counted in an image with a geometry: the blocks of its free list up to the first fault, its regular files, and its time (icheck; filsys.h)
pub record AreCounts (g : Geometry) (image : List ℕ) (counts : Counts) : Type 0 where
  pub free : counts.free_blocks ≡ length (free_walk g image).met
  pub files : counts.files ≡ kind_count g image kinds.Regular
  pub time : counts.time ≡ long image (time_place g.edition)

-- these are counted in an image of an edition if rules 1 and 2 hold, and else none (this project)
abbrev pub AreCountsOf : Edition → List ℕ → Option Counts → Type 0
AreCountsOf edition image None = IsErr (geometry_read edition image)
AreCountsOf edition image (Some counts) = (g : Geometry) × (geometry_read edition image ≡ Ok g) × AreCounts g image counts

-- these are the facts of an image: the first rule that it breaks, and what is counted in it (this project)
abbrev pub AreFacts : Edition → List ℕ → VolumeFacts → Type 0
AreFacts edition image facts = IsJudged true edition image facts.broken × AreCountsOf edition image facts.counts
