-- The meanings of the numbers that the functions return.
use Rattle.std.specs.Prelude.{ℕ, ◌-◌, ◌&&◌, nat_eq, nat_lt, if◌then◌else◌, codes, List, Option, None, Some}
use Rattle.vol_dir.specs.Refusals.{name_of, refusal_at}
use Rattle.vol_dir.specs.declared.refusal.Refusal.{Refusal}
use Rattle.vol_judge.specs.RuleTexts.{unsound_text}

-- the name of a refusal, if there is one (this project)
abbrev pub name_at : Option Refusal → List ℕ
name_at None = codes "unknown"
name_at (Some refusal) = name_of refusal

-- the name of a refusal by its number, or the text for 0 (this project)
abbrev pub refusal_text : ℕ → List ℕ
refusal_text number =
    if nat_eq number 0 then codes "done"
    else if nat_eq number 112 then codes "NotRepaired"
    else name_at (refusal_at number)

-- the text of a number that is neither a refusal's nor a broken rule's (this project)
abbrev pub own_text : ℕ → List ℕ
own_text number =
    if nat_eq number 300 then codes "closed"
    else if nat_eq number 301 then codes "no such edition"
    else if nat_eq number 302 then codes "no room"
    else if nat_eq number 303 then codes "bounds"
    else if nat_eq number 304 then codes "too many records"
    else if nat_eq number 305 then codes "no such report"
    else if nat_eq number 306 then codes "no such look"
    else if nat_eq number 307 then codes "no such device"
    else codes "unknown"

-- the text of a broken rule (this project)
abbrev pub rule_text : ℕ → List ℕ
rule_text rule = if nat_lt 0 rule && nat_lt rule 13 then unsound_text rule else codes "unknown"

-- the text of a number that a function returned (this project)
abbrev pub number_text : ℕ → List ℕ
number_text number =
    if nat_lt number 200 then refusal_text number
    else if nat_lt number 300 then rule_text (number - 200)
    else own_text number
