-- A user and a group on the command line.
use Rattle.std.specs.Prelude.{◌≡◌, ℕ, ◌==◌, List, [], ◌∷◌, Option, None, Some}
use Rattle.std.specs.List.{after_first, before_first}
use Rattle.vol_dir.specs.declared.cred.Cred.{Cred}
use Rattle.command_words.specs.Decimal.{IsNumberGiven, IsNumberUpTo}

-- the part of a word before its first colon (chown)
abbrev pub user_part : List ℕ → List ℕ
user_part word = before_first (λ c. c == 58) word

-- the part of a word after its first colon; empty if it has none (chown)
abbrev pub group_part : List ℕ → List ℕ
group_part word = after_first (λ c. c == 58) word

-- the word has a user's number and a group's, of 16 bits each, with a colon between them (chown)
abbrev pub IsOwnerWord : List ℕ → Type 0
IsOwnerWord word = IsNumberUpTo 65535 (user_part word) × IsNumberUpTo 65535 (group_part word)

-- if there is a word, it has a user's number and a group's (this project)
abbrev pub IsOwnerIfAny : List (List ℕ) → Type 0
IsOwnerIfAny [] = Unit {0}
IsOwnerIfAny (word ∷ more) = IsOwnerWord word

-- the word has the numbers of this user and group (chown)
abbrev pub IsOwnerNamed : List ℕ → Cred → Type 0
IsOwnerNamed word owner = IsNumberGiven 65535 (user_part word) owner.uid × IsNumberGiven 65535 (group_part word) owner.gid

-- the first word, if there is one, has the numbers of this user and group (this project)
abbrev pub IsOwnerGiven : List (List ℕ) → Option Cred → Type 0
IsOwnerGiven [] owner = owner ≡ None
IsOwnerGiven (word ∷ more) None = ⊥
IsOwnerGiven (word ∷ more) (Some owner) = IsOwnerNamed word owner
