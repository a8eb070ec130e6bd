-- The first flaw of a line, word by word.
use Rattle.std.proofs.Common.{◌≡◌, ◌∙◌, ℕ, ◌+◌, Bool, true, false, if◌then◌else◌, List, [], ◌∷◌, length, Some, ap}
use Rattle.command_faults.specs.declared.line_flaw.LineFlaw.TheVariants as flaws
use Rattle.command_faults.specs.declared.line_flaw.WordForm.{WordForm}
use Rattle.vol_scripts.specs.Flaws.{flaw_from, has_form, wanted_after}

-- if no word is left, the flaw doesn't depend on the position in the line
pub no_word : (at : ℕ) (wanted : List WordForm) (words : List (List ℕ)) → words ≡ [] → flaw_from at wanted words ≡ flaw_from 0 wanted []
no_word at [] words none = ap (flaw_from at []) none
no_word at (form ∷ forms) words none = ap (flaw_from at (form ∷ forms)) none

module _ (at : ℕ) (wanted : List WordForm) (words rest : List (List ℕ)) (word : List ℕ) (first : words ≡ word ∷ rest) where
  -- if no word is required but one is left, this word is the flaw
  pub extra_word : wanted ≡ [] → flaw_from at wanted words ≡ Some (flaws.Extra at word)
  extra_word none = ap (λ forms. flaw_from at forms words) none ∙ ap (flaw_from at []) first

  module _ (form : WordForm) (forms : List WordForm) (wants : wanted ≡ form ∷ forms) where
    -- if a word is required and one is left, this word is the flaw if it doesn't have the form; otherwise the flaw is in the words after it
    opened : flaw_from at wanted words ≡ (if has_form form word then flaw_from (at + length word + 1) (wanted_after form word forms) rest else Some (flaws.Word at word form))
    opened = ap (λ forms. flaw_from at forms words) wants ∙ ap (flaw_from at (form ∷ forms)) first

    -- if the word has the required form, the flaw is in the words after it
    pub word_fits : has_form form word ≡ true → flaw_from at wanted words ≡ flaw_from (at + length word + 1) (wanted_after form word forms) rest
    word_fits has =
        opened ∙ ap (λ (b : Bool). if b then flaw_from (at + length word + 1) (wanted_after form word forms) rest else Some (flaws.Word at word form)) has

    -- if the word doesn't have the required form, it is the flaw
    pub word_flawed : has_form form word ≡ false → flaw_from at wanted words ≡ Some (flaws.Word at word form)
    word_flawed has =
        opened ∙ ap (λ (b : Bool). if b then flaw_from (at + length word + 1) (wanted_after form word forms) rest else Some (flaws.Word at word form)) has
