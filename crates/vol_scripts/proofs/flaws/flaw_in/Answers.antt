use Rattle.std.proofs.Common.{◌∙◌, [], ◌∷◌, List, ℕ, ap, arith, sym}
use Rattle.command_faults.specs.declared.line_flaw.WordForm.{WordForm}
use Rattle.command_faults.specs.declared.line_flaw.WordForm.TheVariants as forms
use Rattle.vol_scripts.specs.Flaws.{flaw_from}
use Rattle.line_words.proofs.PieceLemmas.{space, space_split}
use Rattle.vol_scripts.proofs.flaws.flaw_in.Goals as goal

pub words-init : goal.words-init
words-init c = record {
  flaw =
      sym
      (ap (λ (wanted : List WordForm). flaw_from 0 wanted c.of-words.result) c.as_slice-wanted.ensures
      ∙ ap (λ (words : List (List ℕ)). flaw_from 0 (forms.Number ∷ forms.Id ∷ forms.Id ∷ c.args.command ∷ []) words) c.of-words.ensures);
  within = let all = ap space c.of-words.ensures ∙ space_split _ c.args.line.now in omega (arith, all);
}
