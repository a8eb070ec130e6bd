-- What judging a volume as one of each edition says.
use Rattle.std.specs.Prelude.{ℕ, List, Option, None, Some}
use Rattle.vol_layout.specs.declared.edition.Edition.{Edition}
use Rattle.vol_layout.specs.declared.edition.Edition.TheVariants.{V6, V7}
use Rattle.pack_files.specs.PackFiles.{IsJudgedAt}
use Rattle.pack_files.specs.declared.verdicts.Verdicts.{Verdicts}

-- the edition of which a volume is sound, by the first rules that it breaks as one of the sixth and of the seventh; none if it is sound as neither or
-- as both (this project)
abbrev pub sound_by : Option ℕ → Option ℕ → Option Edition
sound_by None (Some rule) = Some V6
sound_by (Some rule) None = Some V7
sound_by _ _ = None

-- the edition of which a volume with these verdicts is sound, if it is the only one (this project)
abbrev pub only_sound : Verdicts → Option Edition
only_sound verdicts = sound_by verdicts.sixth verdicts.seventh

-- the volume at this block of some file was read and judged as one of the sixth edition, and as one of the seventh (this project)
pub record AreVerdicts {F : Type 0} (remaining : F → Option (List ℕ)) (at : ℕ) (verdicts : Verdicts) : Type 0 where
  pub sixth : IsJudgedAt remaining at V6 verdicts.sixth
  pub seventh : IsJudgedAt remaining at V7 verdicts.seventh
