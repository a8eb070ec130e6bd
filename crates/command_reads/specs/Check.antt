-- The check of the rules of soundness.
use Rattle.std.specs.Prelude.{◌≡◌, IsTrue, ◌↔◌, ℕ, ◌&&◌, Bool, true, false, not, if◌then◌else◌, List, [], ◌∷◌}
use Rattle.std.specs.Result.{is_ok}
use Rattle.vol_layout.specs.Geometry.{geometry_read}
use Rattle.vol_findings.specs.Outcomes.{Tells}
use Rattle.vol_findings.specs.Reports.{IsReport, lines_of, report_text}
use Rattle.vol_findings.specs.declared.outcome.RuleOutcomes.{RuleOutcomes}
use Rattle.vol_judge.specs.Sound.{IsSound}
use Rattle.vol_rescue.specs.KnownOutcomes.{known_outcomes}
use Rattle.vol_layout.specs.declared.edition.Edition.{Edition}
use Rattle.command_faults.specs.Faults.{no_memory}
use Rattle.command_reads.specs.CheckJson.{report_json}
use Rattle.command_reads.specs.Print.{Sights, silently}
use Rattle.command_terms.specs.declared.looks.OutputForm.{OutputForm}
use Rattle.command_terms.specs.declared.looks.OutputForm.TheVariants as forms

-- the status of a check: 0 if all twelve rules hold, else 1, or 6 if the status is graded and the image has no geometry (this project)
abbrev pub verdict_status : Bool → Bool → Bool → ℕ
verdict_status graded measured true = 0
verdict_status graded measured false = if graded && not measured then 6 else 1

-- a text is the report on an image as JSON, and `sound` is true if all twelve rules hold (this project)
pub record IsJsonReport (edition : Edition) (image text : List ℕ) (sound : Bool) : Type 0 where
  pub found : RuleOutcomes
  pub tells : Tells edition image found
  pub words : text ≡ report_json edition image (lines_of found)
  pub verdict : IsTrue sound ↔ IsSound edition image

-- a text is the report on an image in this format (this project)
abbrev pub IsReportIn : OutputForm → Edition → List ℕ → List ℕ → Bool → Type 0
IsReportIn forms.Text edition image text sound = IsReport edition image text sound
IsReportIn forms.Json edition image text sound = IsJsonReport edition image text sound

-- what `check` may come to: the report on an image, with the status for its soundness; or out of memory (this project)
abbrev pub checked : Edition → List ℕ → Bool → OutputForm → Sights
checked edition image graded form =
    silently (λ text status. (sound : Bool) × IsReportIn form edition image text sound × (status ≡ verdict_status graded (is_ok (geometry_read edition image)) sound))
    (λ fault. fault ≡ no_memory)

-- the report with these outcomes in this format (this project)
abbrev pub known_text : OutputForm → Edition → List ℕ → RuleOutcomes → List ℕ
known_text forms.Text edition image found = report_text edition image found
known_text forms.Json edition image found = report_json edition image (lines_of found)

-- what `check` may come to of an image with lost blocks: the report on what can be said of each rule, with the status for an image that isn't sound; or out
-- of memory (this project)
abbrev pub known_sights : Edition → List ℕ → List Bool → Bool → OutputForm → Sights
known_sights edition image lost graded form =
    silently (λ text status. (found : RuleOutcomes) × Tells edition image found × (text ≡ known_text form edition image (known_outcomes edition image lost found))
    × (status ≡ verdict_status graded (is_ok (geometry_read edition image)) false))
    (λ fault. fault ≡ no_memory)

-- what `check` may come to of an image of which blocks may be lost (this project)
abbrev pub check_sights : Edition → List ℕ → List Bool → Bool → OutputForm → Sights
check_sights edition image [] graded form = checked edition image graded form
check_sights edition image (mark ∷ lost) graded form = known_sights edition image (mark ∷ lost) graded form
