-- Calls that are checked one after another.
use Rattle.std.proofs.Common.{◌≡◌, ◌∙◌, sym, ap, ℕ, ◌+◌, ◌<◌, List, length, drop, get_or}
use Rattle.std.proofs.lemmas.List.{drop_more}
use Rattle.vol_dir.specs.Tree.{State}
use Rattle.vol_volume.specs.Verdict.{verdict}
use Rattle.vol_volume.specs.declared.calls.Call.{Call}
use Rattle.vol_mounted.specs.Plans.{first_refused, or_refused}

-- the first refusal of the calls that start at index `i` is call `i`'s, or else the first refusal of the calls after it
pub next_asked : (state : State) (tests : List Call) (i : ℕ) (call : Call) → i < length tests → call ≡ get_or tests i call
    → first_refused state (drop i tests) ≡ or_refused (verdict state call) (first_refused state (drop (i + 1) tests))
next_asked state tests i call within is =
    ap (first_refused state) (drop_more tests i call within)
    ∙ ap (λ first. or_refused (verdict state first) (first_refused state (drop (i + 1) tests))) (sym is)
