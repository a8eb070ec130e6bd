use Rattle.std.proofs.Common.{◌++◌, ◌∷◌, [], ◌∙◌, ℕ, List, ap}
use Rattle.std.specs.List.{flat_map}
use Rattle.identify_lines.specs.ShellWords.{quoted_char}
use Rattle.identify_lines.proofs.shell_words.quoted.Goals as goal

pub returns : goal.returns
returns c =
    c.in_ok-push_str.ensures.bytes
    ∙ ap (λ (word : List ℕ). word ++ 39 ∷ []) (c.in_ok-push_quoted.ensures
    ∙ (ap (λ (word : List ℕ). word ++ flat_map quoted_char c.deref.result.now) c.in_ok-word.ensures.ok
    ∙ ap (λ (characters : List ℕ). 39 ∷ flat_map quoted_char characters) (c.deref.ensures.value ∙ c.in_ok-characters.ensures)))
