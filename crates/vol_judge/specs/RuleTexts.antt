-- The twelve rules of soundness: their numbers, and their requirements in words.
use Rattle.std.specs.Prelude.{ℕ, ◌&&◌, ◌++◌, nat_eq, nat_lt, if◌then◌else◌, List, [], ◌∷◌, Option, codes}
use Rattle.std.specs.List.{find}
use Rattle.vol_dir.specs.Refusals.{short_decimal}
use Rattle.vol_judge.specs.declared.rules.Rule.{Rule}
use Rattle.vol_judge.specs.declared.rules.Rule.TheVariants as rules

-- the number of a rule (this project)
abbrev pub rule_number : Rule → ℕ
rule_number rules.Whole = 1
rule_number rules.Bounded = 2
rule_number rules.Kinds = 3
rule_number rules.Sizes = 4
rule_number rules.Zoned = 5
rule_number rules.Listed = 6
rule_number rules.Apart = 7
rule_number rules.Covered = 8
rule_number rules.Entries = 9
rule_number rules.Dots = 10
rule_number rules.Tree = 11
rule_number rules.Links = 12

-- the requirement of a rule, in plain words (this project)
abbrev pub rule_sentence : Rule → List ℕ
rule_sentence rules.Whole = codes "the image has all blocks of the volume"
rule_sentence rules.Bounded = codes "the sizes are within their limits"
rule_sentence rules.Kinds = codes "each mode is known and the root is a directory"
rule_sentence rules.Sizes = codes "file sizes and link counts are within their limits"
rule_sentence rules.Zoned = codes "each number that a file names is a data block"
rule_sentence rules.Listed = codes "the free list names data blocks, each once"
rule_sentence rules.Apart = codes "no block is used twice"
rule_sentence rules.Covered = codes "each data block is used or free"
rule_sentence rules.Entries = codes "each entry has a name of its own and an i-node"
rule_sentence rules.Dots = codes "each directory has . for itself and .. for its parent"
rule_sentence rules.Tree = codes "each directory is entered once and reached from the root"
rule_sentence rules.Links = codes "each link count is the number of entries"

-- the rules, in order (this project)
abbrev pub all_rules : List Rule
all_rules =
    rules.Whole ∷ rules.Bounded ∷ rules.Kinds ∷ rules.Sizes ∷ rules.Zoned ∷ rules.Listed ∷ rules.Apart ∷ rules.Covered ∷ rules.Entries ∷ rules.Dots ∷
    rules.Tree ∷ rules.Links ∷ []

-- the rule with a number (this project)
abbrev pub rule_at : ℕ → Option Rule
rule_at number = find (λ rule. nat_eq number (rule_number rule)) all_rules

-- the text about an unsound image, with the number of the rule that it breaks; a number outside 1 to 12 is left out (this project)
abbrev pub unsound_text : ℕ → List ℕ
unsound_text rule = if nat_lt 0 rule && nat_lt rule 13 then codes "unsound, rule " ++ short_decimal rule else codes "unsound"
