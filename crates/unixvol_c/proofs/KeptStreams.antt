-- What a command showed on two sinks in memory is kept, and handed out.
use Rattle.std.proofs.Common.{◌≡◌, ◌∙◌, ℕ, ℤ, List, [], Option, Some, Bool, false, Result, Ok, Err, IfOk}
use Rattle.command_faults.specs.Streams.{Gets, Streams}
use Rattle.unixvol_c.specs.Kept.{HandsOut, HasBoth, IsKept, IsPlaced, kept_streams}
use Rattle.unixvol_c.specs.declared.kept.Kept.{Kept}
use Rattle.unixvol_c.specs.declared.structs.Seen.{Seen}

-- what is shown on a sink that was empty, with lines that were written to another, is kept, if neither failed
pub kept_shown : {E : Type 0} (shows : Streams → ℕ → Type 0) (old new : Option (List ℕ)) (had failed : Bool) (before after : Option (List ℕ)) (broken : Bool)
    (told : List ℕ) (status : ℕ) (result : Result Kept E) → old ≡ Some [] → had ≡ false → before ≡ Some []
    → IfOk result (λ held. (failed ≡ false) × (broken ≡ false)) → IfOk result (HasBoth new after) → IfOk result (λ held. held.status ≡ status)
    → Gets broken before after told → shows (record { old = old; new = new; had_failed = had; failed = failed; lines = told }) status
    → IfOk result (IsKept shows)
kept_shown shows old new had failed before after broken told status (Err fault) empty fresh quiet works both code gets shown = tt
kept_shown shows old new had failed before after broken told status (Ok held) empty fresh quiet works both code gets shown =
    let lines : both.lines ≡ told = rw (quiet, both.heard) at (gets.0 works.1) in
    record {
      text = both.text;
      lines = both.lines;
      shown = rw (code, lines) (rw (empty, fresh, works.0, both.printed) at shown);
      bytes = both.bytes;
      sizes = both.sizes;
    }

-- what is kept as a command shows it is kept as another does that shows the same
pub kept_as : {E : Type 0} (given wanted : Streams → ℕ → Type 0) (result : Result Kept E)
    → ((streams : Streams) (status : ℕ) → given streams status → wanted streams status) → IfOk result (IsKept given) → IfOk result (IsKept wanted)
kept_as given wanted (Err fault) weaker is_kept = tt
kept_as given wanted (Ok held) weaker is_kept = record {
  text = is_kept.text;
  lines = is_kept.lines;
  shown = weaker (kept_streams is_kept.text is_kept.lines) held.status is_kept.shown;
  bytes = is_kept.bytes;
  sizes = is_kept.sizes;
}

-- what is kept and was put into a buffer is handed out
pub handed_out : (given wanted : Streams → ℕ → Type 0) (held : Kept) (old new : List ℕ) (seen : Seen) (result : ℤ)
    → ((streams : Streams) (status : ℕ) → given streams status → wanted streams status) → IsKept given held
    → (seen.text ≡ held.text) × (seen.lines ≡ held.lines) × (seen.status ≡ held.status) → IsPlaced held.bytes.items old new result
    → HandsOut wanted old new seen result
handed_out given wanted held old new seen result weaker is_kept counted placed = record {
  text = is_kept.text;
  lines = is_kept.lines;
  shown = weaker (kept_streams is_kept.text is_kept.lines) seen.status (rw counted.2 is_kept.shown);
  sizes = (counted.0 ∙ is_kept.sizes.0, counted.1 ∙ is_kept.sizes.1);
  placed = rw is_kept.bytes at placed;
}
