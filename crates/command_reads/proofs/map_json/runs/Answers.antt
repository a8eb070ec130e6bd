use Rattle.std.proofs.Common.{◌≡◌, ◌∙◌, ◌++◌, [], List, ap, arith, drop, sym}
use Rattle.std.proofs.lemmas.List.{drop_all}
use Rattle.vol_inspect.specs.declared.uses.Use.{Use}
use Rattle.command_reads.specs.MapJson.{runs_from}
use Rattle.command_reads.specs.declared.map_json.UseRun.{UseRun}
use Rattle.command_reads.proofs.UseRuns.{runs_end}
use Rattle.command_reads.proofs.map_json.runs.Goals as goal

pub returns : goal.returns
returns c =
    let run = c.loop-one.run in
    let found = c.loop-one.found.items in
    let none : drop c.loop-one.one-index c.args.uses.now ≡ [] = drop_all c.loop-one.one-index c.args.uses.now (omega arith) in
    c.in_ok-push.ensures.items
    ∙ (ap (λ (runs : List UseRun). found ++ runs) (sym (runs_end run) ∙ ap (λ (us : List Use). runs_from run us) (sym none)) ∙ c.loop-one.invariant.all)
