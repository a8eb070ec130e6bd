use Rattle.std.proofs.Common.{◌≡◌, List, ℕ, OnOk, subst}
use Rattle.std.specs.String.{string_bytes}
use Rattle.vol_inspect.proofs.Columns.{in_turn}
use Rattle.vol_inspect.proofs.super_report.SuperReport.push_space.Goals as goal

pub returns : goal.returns
returns c =
    subst (λ (xs : List ℕ). OnOk c.push_fault.result (string_bytes c.push_fault.new.text ≡ xs))
    (in_turn _ _ _ _ _ _ _ _ _ _ c.in_ok-push_str.ensures.bytes c.in_ok-push_line.ensures c.in_ok-push_line-2.ensures c.in_ok-push_line-3.ensures)
    c.push_fault.ensures
