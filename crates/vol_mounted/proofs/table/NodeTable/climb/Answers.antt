use Rattle.std.proofs.Common.{◌∙◌, sym, ap, ◌≡◌, ◌-◌, ◌+◌, ◌∷◌, ◌++◌, Some, arith, rules, length}
use Rattle.vol_layout.specs.Slot.{name_of}
use Rattle.vol_mounted.specs.Paths.{climb}
use Rattle.vol_mounted.proofs.Climbs.{climb_none, climb_end, climb_unknown, climb_unmet, climb_up}
use Rattle.vol_mounted.proofs.table.NodeTable.climb.Goals as goal

pub steps-init : goal.steps-init
steps-init c = search rules

pub returns-then-at-root : goal.returns-then-at-root
returns-then-at-root c =
    ap Some c.from_vec.ensures
    ∙ sym (c.steps.invariant ∙ climb_end c.args.self.now c.args.root _ c.steps.at c.steps.path.items (omega (arith, c.count-step-end.ensures)) c.if-at-root.true)

pub returns-in_default : goal.returns-in_default
returns-in_default c =
    sym (c.steps.invariant
    ∙ climb_unknown c.args.self.now c.args.root _ c.steps.at c.steps.path.items (omega (arith, c.count-step-end.ensures)) c.if-at-root.false (sym c.known.ensures ∙ c.in_default.is))

pub returns-then-known-eq0 : goal.returns-then-known-eq0
returns-then-known-eq0 c =
    sym (c.steps.invariant
    ∙ climb_unmet c.args.self.now c.args.root _ c.steps.at c.steps.path.items c.in-Some.known (omega (arith, c.count-step-end.ensures)) c.if-at-root.false
    (sym c.known.ensures ∙ c.in-Some.is) c.if-known-eq0.true)

pub steps-preserved : goal.steps-preserved
steps-preserved c =
    let nodes = c.args.self.now in
    let left : length nodes - c.steps.step - 1 ≡ length nodes - (c.steps.step + 1) = omega arith in
    c.steps.invariant
    ∙ (climb_up nodes c.args.root _ c.steps.at c.steps.path.items c.in-Some.known (omega (arith, c.count-step-end.ensures)) c.if-at-root.false
    (sym c.known.ensures ∙ c.in-Some.is) c.if-known-eq0.false
    ∙ (ap (λ steps. climb nodes c.args.root steps c.in-Some.known.directory (47 ∷ (name_of c.in-Some.known.slot.name ++ c.steps.path.items))) left
    ∙ ap (climb nodes c.args.root (length nodes - (c.steps.step + 1)) c.in-Some.known.directory)
    (sym (c.in_ok-put_in_front.ensures ∙ ap (λ name. 47 ∷ (name ++ c.steps.path.items)) c.name.ensures))))

pub returns : goal.returns
returns c =
    sym (c.steps.invariant ∙ climb_none c.args.self.now c.args.root _ c.steps.at c.steps.path.items (omega (arith, c.count-step-end.ensures)))
