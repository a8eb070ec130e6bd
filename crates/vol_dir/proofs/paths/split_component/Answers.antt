use Rattle.std.proofs.Common.{sym, arith}
use Rattle.vol_dir.proofs.Components.{begins, has_byte, components-none, components-split, IsComponent-split}
use Rattle.vol_dir.proofs.paths.split_component.Goals as goal

pub returns-in_err-component_start-clause-parts : goal.returns-in_err-component_start-clause-parts
returns-in_err-component_start-clause-parts c =
    rw c.from_residual.ensures (components-none c.args.path.now (sym c.in_err-component_start.ensures))

pub returns-clause-parts : goal.returns-clause-parts
returns-clause-parts c =
    let begun = begins c.args.path.now c.split_at.result.1.now c.in_ok-component_start.field-0 c.unwrap_or-end.result c.first_slash.result
    c.in_ok-component_start.ensures c.split_at.ensures.back c.first_slash.ensures c.unwrap_or-end.ensures in
    components-split c.args.path.now c.split_at.result.1.now c.split_at-2.result.0.now c.split_at-2.result.1.now
    c.in_ok-component_start.field-0 c.unwrap_or-end.result c.min.result begun c.split_at-2.ensures.front c.split_at-2.ensures.back c.min.ensures

pub returns-clause-component : goal.returns-clause-component
returns-clause-component c =
    let begun = begins c.args.path.now c.split_at.result.1.now c.in_ok-component_start.field-0 c.unwrap_or-end.result c.first_slash.result
    c.in_ok-component_start.ensures c.split_at.ensures.back c.first_slash.ensures c.unwrap_or-end.ensures in
    IsComponent-split c.args.path.now c.split_at.result.1.now c.split_at-2.result.0.now
    c.in_ok-component_start.field-0 c.unwrap_or-end.result c.min.result begun c.split_at-2.ensures.front c.min.ensures

pub returns-clause-shorter : goal.returns-clause-shorter
returns-clause-shorter c =
    let begun = begins c.args.path.now c.split_at.result.1.now c.in_ok-component_start.field-0 c.unwrap_or-end.result c.first_slash.result
    c.in_ok-component_start.ensures c.split_at.ensures.back c.first_slash.ensures c.unwrap_or-end.ensures in
    let some = has_byte c.args.path.now c.split_at.result.1.now c.in_ok-component_start.field-0 c.unwrap_or-end.result begun in
    omega (arith, some, begun.full, c.split_at.ensures.back_len, c.split_at-2.ensures.back_len)
