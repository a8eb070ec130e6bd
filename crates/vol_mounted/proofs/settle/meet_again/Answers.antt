use Rattle.std.proofs.Common.{◌≡◌, ◌∙◌, sym, ap, ℕ, ◌+◌, ◌-◌, length, arith}
use Rattle.vol_layout.specs.Slot.{name_of}
use Rattle.vol_mounted.specs.Numbers.{met}
use Rattle.vol_mounted.specs.Records.{met_again}
use Rattle.vol_mounted.proofs.Upwards.{met_none, met_end, met_nowhere, met_up}
use Rattle.vol_mounted.proofs.settle.meet_again.Goals as goal

pub returns-then-is_met : goal.returns-then-is_met
returns-then-is_met c =
    sym (c.levels.invariant
    ∙ met_end c.args.geometry.now c.args.image.now _ c.levels.nodes c.levels.at (omega (arith, c.count-level-end.ensures)) (sym c.is_met.ensures ∙ c.if-is_met.true))

pub returns-in_default : goal.returns-in_default
returns-in_default c =
    sym (c.levels.invariant
    ∙ met_nowhere c.args.geometry.now c.args.image.now _ c.levels.nodes c.levels.at (omega (arith, c.count-level-end.ensures)) (sym c.is_met.ensures ∙ c.if-is_met.false)
    c.in_default.ensures)

pub levels-preserved : goal.levels-preserved
levels-preserved c =
    let steps : ℕ = length c.args.nodes.now - c.levels.level in
    let left : steps - 1 ≡ length c.args.nodes.now - (c.levels.level + 1) = omega arith in
    c.levels.invariant
    ∙ (met_up c.args.geometry.now c.args.image.now steps c.levels.nodes c.levels.at c.in-Some.dir (name_of c.in-Some.slot.name) (omega (arith, c.count-level-end.ensures))
    (sym c.is_met.ensures ∙ c.if-is_met.false) c.in-Some.ensures
    ∙ (ap (λ k. met_again c.args.geometry.now c.args.image.now k (met c.levels.nodes c.levels.at c.in-Some.dir (name_of c.in-Some.slot.name)) c.in-Some.dir) left
    ∙ ap (λ more. met_again c.args.geometry.now c.args.image.now (length c.args.nodes.now - (c.levels.level + 1)) more c.in-Some.dir)
    (sym (c.meet.ensures ∙ ap (λ name. met c.levels.nodes c.levels.at c.in-Some.dir name) c.name.ensures))))

pub returns : goal.returns
returns c =
    sym (c.levels.invariant ∙ met_none c.args.geometry.now c.args.image.now _ c.levels.nodes c.levels.at (omega (arith, c.count-level-end.ensures)))
