use Rattle.std.proofs.Common.{◌≡◌, ◌∙◌, ◌+◌, ◌<◌, ap, pos, false, arith}
use Rattle.std.proofs.lemmas.Int.{ints}
use Rattle.unixvol_c.proofs.Judged.{few_rules}
use Rattle.unixvol_c.proofs.repair.unixvol_salvage.Goals as goal

pub returns-in-Err-Unsound-default-clause-edition : goal.returns-in-Err-Unsound-default-clause-edition
returns-in-Err-Unsound-default-clause-edition c =
    let fault = c.in-Err-Unsound-default in
    let few : fault.rule < 13 = few_rules false c.in-Some.edition c.in-Ok.copy.items fault.rule (rw fault.field-0-0-is at fault.ensures.fault) in
    let number : c.unsound.result ≡ pos (200 + fault.rule) = c.unsound.ensures ∙ ap (λ n. pos (200 + n)) fault.rule-is in
    (λ e. absurd (omega (arith, ints)), λ none. absurd (c.in-Some.ensures.some.1 none))
