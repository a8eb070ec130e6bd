-- The refusals: their numbers and names.
use Rattle.std.specs.Prelude.{ℕ, ◌+◌, ◌/◌, ◌%◌, ◌++◌, nat_eq, nat_lt, if◌then◌else◌, List, [], ◌∷◌, Option, codes}
use Rattle.std.specs.List.{find}
use Rattle.vol_dir.specs.declared.refusal.Refusal.{Refusal}
use Rattle.vol_dir.specs.declared.refusal.Refusal.TheVariants as refusals

-- the number of a refusal (intro to section 2 of the manual; numbers of 101 and above are this project's)
abbrev pub number_of : Refusal → ℕ
number_of refusals.NotOwner = 1
number_of refusals.NoEntry = 2
number_of refusals.NoMemory = 12
number_of refusals.Access = 13
number_of refusals.Exists = 17
number_of refusals.NotDirectory = 20
number_of refusals.IsDirectory = 21
number_of refusals.Invalid = 22
number_of refusals.TooBig = 27
number_of refusals.NoSpace = 28
number_of refusals.TooManyLinks = 31
number_of refusals.NotEmpty = 101
number_of refusals.NotRegular = 102
number_of refusals.NoInode = 103
number_of refusals.BadId = 104

-- the name of a refusal (this project)
abbrev pub name_of : Refusal → List ℕ
name_of refusals.NotOwner = codes "NotOwner"
name_of refusals.NoEntry = codes "NoEntry"
name_of refusals.NoMemory = codes "NoMemory"
name_of refusals.Access = codes "Access"
name_of refusals.Exists = codes "Exists"
name_of refusals.NotDirectory = codes "NotDirectory"
name_of refusals.IsDirectory = codes "IsDirectory"
name_of refusals.Invalid = codes "Invalid"
name_of refusals.TooBig = codes "TooBig"
name_of refusals.NoSpace = codes "NoSpace"
name_of refusals.TooManyLinks = codes "TooManyLinks"
name_of refusals.NotEmpty = codes "NotEmpty"
name_of refusals.NotRegular = codes "NotRegular"
name_of refusals.NoInode = codes "NoInode"
name_of refusals.BadId = codes "BadId"

-- the refusals, by their numbers (this project)
abbrev pub all_refusals : List Refusal
all_refusals =
    refusals.NotOwner ∷ refusals.NoEntry ∷ refusals.NoMemory ∷ refusals.Access ∷ refusals.Exists ∷ refusals.NotDirectory ∷ refusals.IsDirectory ∷
    refusals.Invalid ∷ refusals.TooBig ∷ refusals.NoSpace ∷ refusals.TooManyLinks ∷ refusals.NotEmpty ∷ refusals.NotRegular ∷ refusals.NoInode ∷
    refusals.BadId ∷ []

-- the refusal with a number (this project)
abbrev pub refusal_at : ℕ → Option Refusal
refusal_at number = find (λ refusal. nat_eq number (number_of refusal)) all_refusals

-- the digits of a number below 1000 (this project)
abbrev pub short_decimal : ℕ → List ℕ
short_decimal n =
    (if nat_lt n 100 then [] else (48 + n / 100) ∷ []) ++ (if nat_lt n 10 then [] else (48 + n / 10 % 10) ∷ []) ++ (48 + n % 10) ∷ []

-- the number and the name of a refusal (this project)
abbrev pub refusal_text : Refusal → List ℕ
refusal_text refusal = short_decimal (number_of refusal) ++ codes " " ++ name_of refusal
