use Rattle.std.proofs.Common.{◌≡◌, ◌+◌, [], length, sym, ap, ◌∙◌}
use Rattle.vol_judge.specs.Directories.{root_of}
use Rattle.vol_reports.specs.Ncheck.{path_up}
use Rattle.vol_reports.specs.Climb.{naming_in}
use Rattle.vol_reports.proofs.Climbs.{climbs_first, climbs_more, climbs_end, climbs_root, climbs_fall}
use Rattle.vol_reports.proofs.climb.climb.Goals as goal

pub loop-at-init : goal.loop-at-init
loop-at-init c = climbs_first c.args.way.now.items c.requires.room c.requires.marks c.requires.way

pub loop-at-preserved : goal.loop-at-preserved
loop-at-preserved c =
    climbs_more c.in-Some.entry c.loop-at.invariant c.loop-at-test.true c.in-Some.ensures.step c.in-Some.ensures.marks c.directory-at.ensures
    c.in_ok-push.ensures.items

pub loop-at-smaller : goal.loop-at-smaller
loop-at-smaller c = climbs_fall c.in-Some.entry c.loop-at.invariant c.in-Some.ensures.step

pub returns-in_default-clause-path : goal.returns-in_default-clause-path
returns-in_default-clause-path c =
    let naming = c.args.naming.now in
    let root : c.constants-root.result.root ≡ root_of c.args.geometry.now = ap (λ k. k.root) c.constants-root.ensures in
    ap (λ r. path_up r (naming_in naming) (length naming + 1) [] c.args.d) (sym root)
    ∙ climbs_end c.step.new.marks c.loop-at.invariant c.loop-at-test.true c.in_default.ensures.step

pub returns-clause-path : goal.returns-clause-path
returns-clause-path c =
    let naming = c.args.naming.now in
    let root : c.constants-root.result.root ≡ root_of c.args.geometry.now = ap (λ k. k.root) c.constants-root.ensures in
    ap (λ r. path_up r (naming_in naming) (length naming + 1) [] c.args.d) (sym root) ∙ climbs_root c.loop-at.invariant c.loop-at-test.false
