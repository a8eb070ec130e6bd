use Rattle.std.proofs.Common.{◌≡◌, ◌+◌, ◌<◌, pos, true, arith}
use Rattle.std.proofs.lemmas.Int.{ints}
use Rattle.unixvol_c.proofs.Judged.{few_rules}
use Rattle.unixvol_c.proofs.open.unixvol_judge.Goals as goal

pub returns-in-Ok-Some-clause-edition : goal.returns-in-Ok-Some-clause-edition
returns-in-Ok-Some-clause-edition c =
    let rule = c.in-Ok-Some.rule in
    let few : rule < 13 = few_rules true c.in-Some.edition c.from_bytes.result rule (rw c.in-Ok-Some.field-0-is at c.in-Ok-Some.ensures) in
    let number : c.unsound.result ≡ pos (200 + rule) = c.unsound.ensures in
    (λ e. absurd (omega (arith, ints)), λ none. absurd (c.in-Some.ensures.some.1 none))
