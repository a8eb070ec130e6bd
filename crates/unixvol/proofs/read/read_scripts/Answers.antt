use Rattle.std.proofs.Common.{◌≡◌, ◌∙◌, ◌+◌, ◌++◌, ◌∷◌, [], ap, length, length-append, refl}
use Rattle.std.specs.Global.{Vec}
use Rattle.std.proofs.lemmas.List.Elements.{All-push, All-same}
use Rattle.unixvol.specs.Runs.{GaveScript}
use Rattle.unixvol.proofs.Given.{script_unread}
use Rattle.unixvol.proofs.read.read_scripts.Goals as goal

pub scripts-preserved : goal.scripts-preserved
scripts-preserved g c =
    let old = c.scripts.scripts.items in
    let script = c.in_ok-script-in-Ok.script in
    let is : c.push.new.self.items ≡ old ++ script ∷ [] = c.in-Ok-push.ensures.items in
    let given = All-push (λ (script : Vec _). GaveScript g.R.File.Read.remaining script.items) old script c.scripts.invariant.0 c.in_ok-script-in-Ok.ensures.given in (
      All-same (λ (script : Vec _). GaveScript g.R.File.Read.remaining script.items) _ _ is given,
      ap length is ∙ length-append old (script ∷ []) ∙ ap (λ n. n + 1) c.scripts.invariant.1,
    )

pub returns-in_default-clause-fault : goal.returns-in_default-clause-fault
returns-in_default-clause-fault g c =
    script_unread g.R.File.Read.remaining _ 4 refl c.in_ok-script-in-Ok.ensures.given
