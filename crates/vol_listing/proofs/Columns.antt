-- Texts that are appended one after another.
use Rattle.std.proofs.Common.{◌≡◌, ℕ, List, ◌++◌, ap, ◌∙◌}
use Rattle.std.proofs.lemmas.List.{append_assoc}

-- appending one text and then another appends both texts together
pub appended : (before between after one other : List ℕ) → between ≡ before ++ one → after ≡ between ++ other → after ≡ before ++ (one ++ other)
appended before between after one other first second =
    second ∙ (ap (λ text. text ++ other) first ∙ append_assoc before one other)
