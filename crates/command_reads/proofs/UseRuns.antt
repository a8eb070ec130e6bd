-- Runs of blocks with one use.
use Rattle.std.proofs.Common.{◌≡◌, ◌∙◌, ap, sym, Bool, true, false, if◌then◌else◌, List, [], ◌∷◌, ◌++◌, append_assoc, refl}
use Rattle.std.specs.Str.{bytes_eq}
use Rattle.vol_inspect.specs.Legend.{name}
use Rattle.vol_inspect.specs.declared.uses.Use.{Use}
use Rattle.command_reads.specs.MapJson.{longer, next, runs_from}
use Rattle.command_reads.specs.declared.map_json.UseRun.{UseRun}

-- a block with the run's use makes the run longer
pub taken_same : (found : List UseRun) (run : UseRun) (u : Use) (us : List Use) → bytes_eq (name run.usage) (name u) ≡ true
    → found ++ runs_from (longer run) us ≡ found ++ runs_from run (u ∷ us)
unfolding runs_from
taken_same found run u us is =
    ap (λ (same : Bool). found ++ (if same then runs_from (longer run) us else run ∷ runs_from (next run u) us)) (sym is)

-- a block with another use begins the next run
pub taken_other : (found : List UseRun) (run : UseRun) (u : Use) (us : List Use) → bytes_eq (name run.usage) (name u) ≡ false
    → (found ++ run ∷ []) ++ runs_from (next run u) us ≡ found ++ runs_from run (u ∷ us)
unfolding runs_from
taken_other found run u us is =
    append_assoc found (run ∷ []) (runs_from (next run u) us)
    ∙ ap (λ (same : Bool). found ++ (if same then runs_from (longer run) us else run ∷ runs_from (next run u) us)) (sym is)

-- after the last block the run ends
pub runs_end : (run : UseRun) → runs_from run [] ≡ run ∷ []
unfolding runs_from
runs_end run = refl
