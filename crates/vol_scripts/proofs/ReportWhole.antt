-- No number in a report as JSON is a fraction.
use Rattle.std.proofs.Common.{◌≡◌, ℕ, ◌+◌, Bool, true, false, List, [], ◌∷◌, map, Option, None, Some, refl}
use Rattle.std.specs.Global.{Global}
use Rattle.std.specs.Prelude.{Vec}
use Rattle.serde_json.specs.Data.{Data}
use Rattle.serde_json.specs.Written.{has_float}
use Rattle.vol_listing.proofs.ListingValues.{AreWhole, whole_append, whole_more}
use Rattle.vol_receipts.specs.declared.receipts.Outcome.{Outcome}
use Rattle.vol_receipts.specs.declared.receipts.Outcome.TheVariants as outcomes
use Rattle.vol_scripts.specs.ReportJson.{done_data, gone_data, journal_data, lines_data, outcome_data, record_data, reply_data, report_data, scripts_data, step_data}
use Rattle.vol_scripts.specs.declared.played.Played.{Played}
use Rattle.vol_scripts.specs.declared.played.Played.TheVariants as played
use Rattle.vol_volume.specs.declared.calls.Done.{Done}
use Rattle.vol_volume.specs.declared.calls.Done.TheVariants as dones
use Rattle.vol_volume.specs.declared.calls.Record.{Record}
use Rattle.vol_volume.specs.declared.queries.Reply.{Reply}
use Rattle.vol_volume.specs.declared.queries.Reply.TheVariants as replies

-- an accepted call has no fraction
done_whole : (script line : ℕ) (done : Done) → has_float (done_data script line done) ≡ false
done_whole script line (dones.Made number) = refl
done_whole script line (dones.Wrote bytes) = refl
done_whole script line dones.Plain = refl

-- a reply has none
reply_whole : (script line : ℕ) (reply : Reply) → has_float (reply_data script line reply) ≡ false
reply_whole script line (replies.Stat stat) = refl
reply_whole script line (replies.Bytes bytes) = refl
reply_whole script line (replies.Names names) = refl

-- an outcome has none
outcome_whole : (script line : ℕ) (outcome : Outcome) → has_float (outcome_data script line outcome) ≡ false
outcome_whole script line (outcomes.Accepted done) = done_whole script line done
outcome_whole script line (outcomes.Refused refusal) = refl
outcome_whole script line (outcomes.Answered reply) = reply_whole script line reply

-- the object of a line has none
step_whole : (script line : ℕ) (came : Played) → AreWhole (step_data script line came)
step_whole script line (played.Told receipt) = whole_more (outcome_data script line receipt.outcome) [] (outcome_whole script line receipt.outcome) refl
step_whole script line (played.Cut first) = refl
step_whole script line played.NoMemory = refl
step_whole script line played.NotEntered = refl
step_whole script line played.View = refl

-- the objects of a script's lines have none
lines_whole : (script line : ℕ) (steps : List Played) → AreWhole (lines_data script line steps)
lines_whole script line [] = refl
lines_whole script line (came ∷ steps) =
    whole_append (step_data script line came) (lines_data script (line + 1) steps) (step_whole script line came) (lines_whole script (line + 1) steps)

-- the objects of the lines of scripts have none
pub scripts_whole : (number : ℕ) (scripts : List (Vec Played Global)) → AreWhole (scripts_data number scripts)
scripts_whole number [] = refl
scripts_whole number (script ∷ scripts) =
    whole_append (lines_data number 1 script.items) (scripts_data (number + 1) scripts) (lines_whole number 1 script.items) (scripts_whole (number + 1) scripts)

-- the calls of some records have none
records_whole : (entries : List Record) → AreWhole (map record_data entries)
records_whole [] = refl
records_whole (entry ∷ entries) = whole_more (record_data entry) (map record_data entries) refl (records_whole entries)

-- a journal has none
journal_whole : (wanted : Bool) (entries : List Record) → has_float (journal_data wanted entries) ≡ false
journal_whole true entries = records_whole entries
journal_whole false entries = refl

-- the number of receipts whose records were cut is none
gone_whole : (gone : Option ℕ) → has_float (gone_data gone) ≡ false
gone_whole None = refl
gone_whole (Some gone) = refl

-- a report whose lines have no fraction has none
pub report_whole : (lines : List Data) (records agree : ℕ) (gone : Option ℕ) (journal : Bool) (entries : List Record) → AreWhole lines
    → has_float (report_data lines records agree gone (journal_data journal entries)) ≡ false
unfolding report_data
report_whole lines records agree gone journal entries whole = rw (gone_whole gone, journal_whole journal entries, whole) refl
