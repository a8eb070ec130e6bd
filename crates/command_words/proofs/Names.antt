-- The names of the commands: no two commands have the same name.
use Rattle.std.proofs.Common.{◌≡◌, ◌+◌, ◌∷◌, ℕ, List, [], Option, Some, None, arith, cond, refl, slice_get}
use Rattle.std.specs.Str.{bytes_eq}
use Rattle.command_words.specs.Verbs.{all_verbs, verb_name}
use Rattle.command_words.specs.declared.verbs.Verb.{Verb}
use Rattle.command_words.specs.declared.verbs.Verb.TheVariants as verbs

-- the place of the command with this name in a list, counted from 0; the list's length if none has it
abbrev pub place_in : List ℕ → List Verb → ℕ
place_in text [] = 0
place_in text (verb ∷ more) = cond (bytes_eq text (verb_name verb)) 0 (place_in text more + 1)

-- the command with this name; none for the empty name, so that this waits for the command alone where that is a variable
abbrev named : List ℕ → Option Verb
named [] = None
named (letter ∷ more) = slice_get all_verbs (place_in (letter ∷ more) all_verbs)

-- the command with a command's name is this command: this computes for each command
named_by_its_name : (verb : Verb) → named (verb_name verb) ≡ Some verb
named_by_its_name verbs.Cat = refl
named_by_its_name verb = refl

-- commands with the same name are equal
pub verb_name-injective : (one other : Verb) → verb_name one ≡ verb_name other → one ≡ other
verb_name-injective one other same = grind (arith, named_by_its_name one, named_by_its_name other)
