use Rattle.std.proofs.Common.{◌≡◌, ◌∙◌, ◌++◌, ◌∷◌, [], List, ap, sym, true, false}
use Rattle.std.specs.Str.{bytes_eq}
use Rattle.vol_inspect.specs.Legend.{name}
use Rattle.command_reads.specs.MapJson.{runs_from}
use Rattle.command_reads.specs.declared.map_json.UseRun.{UseRun}
use Rattle.command_reads.proofs.UseRuns.{taken_other, taken_same}
use Rattle.command_reads.proofs.map_json.taken.Goals as goal

pub returns-then-eq-clause-all : goal.returns-then-eq-clause-all
returns-then-eq-clause-all c us =
    let run = c.args.run in
    let one = c.args.one in
    let found = c.args.found.now.items in
    let same : bytes_eq (name run.usage) (name one) ≡ true =
    ap (λ n. bytes_eq n (name one)) (sym c.name.ensures) ∙ (ap (λ n. bytes_eq c.name.result.now n) (sym c.name-2.ensures) ∙ (sym c.eq.ensures ∙ c.if-eq.true)) in
    ap (λ (now : UseRun). found ++ runs_from now us) c.longer.ensures ∙ taken_same found run one us same

pub returns-clause-all : goal.returns-clause-all
returns-clause-all c us =
    let run = c.args.run in
    let one = c.args.one in
    let found = c.args.found.now.items in
    let other : bytes_eq (name run.usage) (name one) ≡ false =
    ap (λ n. bytes_eq n (name one)) (sym c.name.ensures) ∙ (ap (λ n. bytes_eq c.name.result.now n) (sym c.name-2.ensures) ∙ (sym c.eq.ensures ∙ c.if-eq.false)) in
    ap (λ (runs : List UseRun). runs ++ runs_from c.next.result us) c.in_ok-push.ensures.items
    ∙ (ap (λ (now : UseRun). (found ++ run ∷ []) ++ runs_from now us) c.next.ensures ∙ taken_other found run one us other)
