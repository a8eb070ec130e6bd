-- A text with remarks on it.
use Rattle.std.proofs.Common.{◌≡◌, ◌∙◌, ℕ, ◌==◌, Bool, if◌then◌else◌, List, length, ap, subst, sym}
use Rattle.command_reads.specs.Export.{told_status}

-- a text has the status of its remarks, which are the lines about it
pub remarked : (graded : Bool) (wanted : ℕ) (is_text : List ℕ → List ℕ → Type 0) (text lines : List ℕ) (short : Bool) (status : ℕ) (told : List ℕ)
    → told_status graded short ≡ wanted → is_text text lines → status ≡ (if length lines == 0 then 0 else told_status graded short) → told ≡ lines
    → is_text text told × (status ≡ (if length told == 0 then 0 else wanted))
remarked graded wanted is_text text lines short status told same is state line = (
  subst (is_text text) (sym line) is,
  subst (λ (ls : List ℕ). status ≡ (if length ls == 0 then 0 else wanted)) (sym line)
      (state ∙ ap (λ (one : ℕ). if length lines == 0 then 0 else one) same),
)
