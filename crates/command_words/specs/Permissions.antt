-- Permissions on the command line.
use Rattle.std.specs.Prelude.{◌≡◌, ◌<◌, ℕ, ◌==◌, if◌then◌else◌, List, [], ◌∷◌, Option, Some, None, bit_and, bit_or}
use Rattle.std.specs.Int.{bit_at}
use Rattle.std.specs.Int.Bits.{bit_xor}
use Rattle.std.specs.List.{slice_split}
use Rattle.line_words.specs.Numbers.{number_in}
use Rattle.command_terms.specs.Permissions.{change_to, changed_permissions, followed_by}
use Rattle.command_terms.specs.declared.permissions.PermissionChange.{PermissionChange}

-- the bits of a letter of WHO: the owner's with set-user-id, the group's with set-group-id, everyone else's with the sticky bit, or all twelve (chmod)
abbrev pub who_bits : ℕ → Option ℕ
who_bits letter =
    if letter == 117 then Some 0o4700
    else if letter == 103 then Some 0o2070
    else if letter == 111 then Some 0o1007
    else if letter == 97 then Some 0o7777
    else None

-- the bits of a letter of permissions: to read, to write, to execute, set-user-id and set-group-id, or the sticky bit (chmod)
abbrev pub right_bits : ℕ → Option ℕ
right_bits letter =
    if letter == 114 then Some 0o444
    else if letter == 119 then Some 0o222
    else if letter == 120 then Some 0o111
    else if letter == 115 then Some 0o6000
    else if letter == 116 then Some 0o1000
    else None

-- what is made of a value, if there is one (this project)
abbrev pub and_then : {A B : Type 0} → Option A → (A → Option B) → Option B
and_then None next = None
and_then (Some value) next = next value

-- some bits, with those of each of these letters; none if one letter has none (this project)
abbrev pub rights_with : ℕ → List ℕ → Option ℕ
rights_with rights [] = Some rights
rights_with rights (letter ∷ letters) = and_then (right_bits letter) (λ more. rights_with (bit_or rights more) letters)

-- the change that an operator makes of these bits of those that WHO has: `+` sets them, `-` clears them, and `=` sets them and clears the others of WHO (chmod)
abbrev pub change_by : ℕ → ℕ → ℕ → Option PermissionChange
change_by who operator rights =
    if operator == 43 then Some (record { kept = 0o7777; set = bit_and rights who })
    else if operator == 45 then Some (record { kept = bit_xor 0o7777 (bit_and rights who); set = 0 })
    else if operator == 61 then Some (record { kept = bit_xor 0o7777 who; set = bit_and rights who })
    else None

-- the bits of WHO, or all twelve if no letter was given (chmod)
abbrev pub who_or_all : ℕ → ℕ
who_or_all who = if who == 0 then 0o7777 else who

-- the change of a clause after its letters of WHO, by the bits of the next letter: further letters of WHO; or it is the operator, and letters of permissions follow (chmod)
abbrev pub clause_by : Option ℕ → ℕ → ℕ → List ℕ → (ℕ → Option PermissionChange) → Option PermissionChange
clause_by (Some bits) who letter letters onward = onward bits
clause_by None who letter letters onward = and_then (rights_with 0 letters) (change_by (who_or_all who) letter)

-- the change of a clause, after letters of WHO with these bits (chmod)
abbrev pub clause_after : ℕ → List ℕ → Option PermissionChange
clause_after who [] = None
clause_after who (letter ∷ letters) = clause_by (who_bits letter) who letter letters (λ bits. clause_after (bit_or who bits) letters)

-- a change, and then those of these clauses; none if one of them is no clause (chmod)
abbrev pub changes_after : PermissionChange → List (List ℕ) → Option PermissionChange
changes_after change [] = Some change
changes_after change (clause ∷ clauses) = and_then (clause_after 0 clause) (λ next. changes_after (followed_by change next) clauses)

-- the change of a list of clauses, apart by commas: each is made after those before it (chmod)
abbrev pub clauses_in : List ℕ → Option PermissionChange
clauses_in word = changes_after (record { kept = 0o7777; set = 0 }) (slice_split (λ b. b == 44) word)

-- the change to permissions in octal digits, if there are any; else that of a list of clauses (chmod)
abbrev pub permissions_by : Option ℕ → List ℕ → Option PermissionChange
permissions_by (Some permissions) word = Some (change_to permissions)
permissions_by None word = clauses_in word

-- the change of permissions that a word asks for: an octal number up to 7777, or clauses (chmod)
abbrev pub permissions_of : List ℕ → Option PermissionChange
permissions_of word = permissions_by (number_in 8 0o7777 word) word

-- the word asks for this change of permissions (chmod)
abbrev pub IsPermissionsGiven : List ℕ → PermissionChange → Type 0
IsPermissionsGiven word change = permissions_of word ≡ Some change

-- the word asks for a change of permissions (chmod)
abbrev pub IsPermissionsWord : List ℕ → Type 0
IsPermissionsWord word = (change : PermissionChange) × IsPermissionsGiven word change

-- if there is a word, it asks for a change of permissions (this project)
abbrev pub ArePermissionsIfAny : List (List ℕ) → Type 0
ArePermissionsIfAny [] = Unit {0}
ArePermissionsIfAny (word ∷ more) = IsPermissionsWord word

-- the change of permissions that the first word asks for, or `other` if there is no word (this project)
abbrev pub IsPermissionsOr : PermissionChange → List (List ℕ) → PermissionChange → Type 0
IsPermissionsOr other [] change = change ≡ other
IsPermissionsOr other (word ∷ more) change = IsPermissionsGiven word change

-- the bits of an i-node's permissions that WHO doesn't have are the same after a change, whatever they are (chmod)
abbrev pub KeepsOthers : ℕ → PermissionChange → Type 0
KeepsOthers who change = (old i : ℕ) → i < 12 → bit_at who i ≡ 0 → bit_at (changed_permissions change old) i ≡ bit_at old i
