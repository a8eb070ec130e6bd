use Rattle.std.proofs.Common.{◌≡◌, ◌∙◌, ◌+◌, Err, ap, arith, length, sym}
use Rattle.std.proofs.lemmas.List.{drop_all}
use Rattle.vol_scripts.specs.Scripts.{script_after, scripts_in, scripts_from, views_after}
use Rattle.vol_scripts.proofs.ReadingLemmas.{after_no_scripts, after_scripts, all_read, script_read, script_stops}
use Rattle.vol_scripts.proofs.read.read_scripts.Goals as goal

pub scripts-init : goal.scripts-init
scripts-init c = record {
  most = omega arith;
  all = rw c.new-read.ensures.items (after_no_scripts (scripts_in c.args.scripts.now));
}

pub scripts-preserved : goal.scripts-preserved
scripts-preserved c = record {
  most = c.read_next.ensures.most;
  all =
      script_read (scripts_in c.args.scripts.now) c.scripts.read.items c.scripts.views c.args.scripts.now c.scripts.script-index c.script-item.result c.scripts-test.true
      (sym c.script-item.is) c.scripts.invariant.all c.in-Ok.script c.push_script.new.scripts.items c.read_next.new.views
      (ap (script_after c.scripts.views) (sym c.deref.ensures.value) ∙ c.in-Ok.ensures.read) c.in_ok-push_script-in-Ok.ensures.pushed
      (c.in-Ok.ensures.views ∙ ap (views_after c.scripts.views) c.deref.ensures.value);
}

pub returns-in-Err-Line : goal.returns-in-Err-Line
returns-in-Err-Line c =
    let bad = rw c.in-Err-Line.field-0-is at c.in-Err-Line.ensures.read in
    let same : length c.scripts.read.items ≡ c.len.result = omega (arith, c.len.ensures, c.scripts.read.ok.0) in
    rw c.in-Err-Line.field-0-is
    (script_stops (scripts_in c.args.scripts.now) c.scripts.read.items c.scripts.views c.args.scripts.now c.scripts.script-index c.script-item.result c.scripts-test.true
    (sym c.script-item.is) c.scripts.invariant.all (c.in-Err-Line.number, c.in-Err-Line.flaw) (ap (script_after c.scripts.views) (sym c.deref.ensures.value) ∙ bad)
    ∙ ap (λ n. Err (n + 1, (c.in-Err-Line.number, c.in-Err-Line.flaw))) same)

pub returns : goal.returns
returns c =
    c.scripts.invariant.all
    ∙ ap (λ rest. after_scripts c.scripts.read.items (scripts_from (length c.scripts.read.items + 1) c.scripts.views rest)) (drop_all _ _ c.scripts-test.false)
    ∙ all_read c.scripts.read.items (length c.scripts.read.items + 1) c.scripts.views
