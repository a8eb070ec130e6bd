-- The report of `play` as JSON.
use Rattle.std.specs.Prelude.{ℕ, ◌+◌, ◌++◌, Bool, true, false, List, [], ◌∷◌, length, map, Option, Some, None, codes, Vec}
use Rattle.std.specs.Global.{Global}
use Rattle.escaped_text.specs.Escape.{escaped}
use Rattle.hex.specs.Hex.{encode_lower}
use Rattle.serde_json.specs.Data.{Data, array, member, no_members, null, object, string}
use Rattle.serde_json.specs.View.{items_of}
use Rattle.serde_json.specs.Written.{compact_text}
use Rattle.vol_dir.specs.Refusals.{refusal_text}
use Rattle.vol_dir.specs.declared.refusal.Refusal.TheVariants as refusals
use Rattle.vol_layout.specs.declared.mode.Kind.{Kind}
use Rattle.vol_layout.specs.declared.mode.Kind.TheVariants as kinds
use Rattle.vol_listing.specs.Json.{count, octal}
use Rattle.vol_receipts.specs.declared.receipts.Outcome.{Outcome}
use Rattle.vol_receipts.specs.declared.receipts.Outcome.TheVariants as outcomes
use Rattle.vol_scripts.specs.Journal.{call_words}
use Rattle.vol_scripts.specs.declared.played.Played.{Played}
use Rattle.vol_scripts.specs.declared.played.Played.TheVariants as played
use Rattle.vol_volume.specs.declared.calls.Done.{Done}
use Rattle.vol_volume.specs.declared.calls.Done.TheVariants as dones
use Rattle.vol_volume.specs.declared.calls.Record.{Record}
use Rattle.vol_volume.specs.declared.queries.Reply.{Reply}
use Rattle.vol_volume.specs.declared.queries.Reply.TheVariants as replies
use Rattle.vol_volume.specs.declared.queries.Stat.{Stat}

-- an accepted call: the i-number of the new node, or the number of bytes written, if it is one of these (this project)
abbrev pub done_data : ℕ → ℕ → Done → Data
done_data script line (dones.Made number) =
    object (member (codes "ino") (count number)
    (member (codes "line") (string (codes "ok"))
    (member (codes "line_number") (count line)
    (member (codes "script") (count script) no_members))))
done_data script line (dones.Wrote bytes) =
    object (member (codes "count") (count bytes)
    (member (codes "line") (string (codes "ok"))
    (member (codes "line_number") (count line)
    (member (codes "script") (count script) no_members))))
done_data script line dones.Plain =
    object (member (codes "line") (string (codes "ok"))
    (member (codes "line_number") (count line)
    (member (codes "script") (count script) no_members)))

-- a line that was refused: the text of the refusal (this project)
abbrev pub refused_data : ℕ → ℕ → List ℕ → Data
refused_data script line refusal =
    object (member (codes "line") (string (codes "refused"))
    (member (codes "line_number") (count line)
    (member (codes "refusal") (string refusal)
    (member (codes "script") (count script) no_members))))

-- the word for a kind of node; anything but a file or a directory is special (this project)
abbrev pub kind_word : Kind → List ℕ
kind_word kinds.Regular = codes "file"
kind_word kinds.Directory = codes "directory"
kind_word _ = codes "special"

-- a node's attributes: its group, i-number, kind, links, permissions, size and user (this project)
abbrev pub stat_data : ℕ → ℕ → Stat → Data
stat_data script line stat =
    object (member (codes "gid") (count stat.gid)
    (member (codes "ino") (count stat.number)
    (member (codes "kind") (string (kind_word stat.kind))
    (member (codes "line") (string (codes "stat"))
    (member (codes "line_number") (count line)
    (member (codes "links") (count stat.links)
    (member (codes "permissions") (octal stat.permissions)
    (member (codes "script") (count script)
    (member (codes "size") (count stat.size)
    (member (codes "uid") (count stat.uid) no_members))))))))))

-- bytes that were read, as hexadecimal digits (this project)
abbrev pub read_data : ℕ → ℕ → List ℕ → Data
read_data script line bytes =
    object (member (codes "hex") (string (encode_lower bytes))
    (member (codes "line") (string (codes "read"))
    (member (codes "line_number") (count line)
    (member (codes "script") (count script) no_members))))

-- the number of names in a directory (this project)
abbrev pub names_data : ℕ → ℕ → ℕ → Data
names_data script line names =
    object (member (codes "count") (count names)
    (member (codes "line") (string (codes "list"))
    (member (codes "line_number") (count line)
    (member (codes "script") (count script) no_members))))

-- a cut: the number of the journal's next record (this project)
abbrev pub cut_data : ℕ → ℕ → ℕ → Data
cut_data script line first =
    object (member (codes "line") (string (codes "cut"))
    (member (codes "line_number") (count line)
    (member (codes "record") (count first)
    (member (codes "script") (count script) no_members))))

-- the reply to a query (this project)
abbrev pub reply_data : ℕ → ℕ → Reply → Data
reply_data script line (replies.Stat stat) = stat_data script line stat
reply_data script line (replies.Bytes bytes) = read_data script line bytes
reply_data script line (replies.Names names) = names_data script line (length names)

-- the outcome of a call or query (this project)
abbrev pub outcome_data : ℕ → ℕ → Outcome → Data
outcome_data script line (outcomes.Accepted done) = done_data script line done
outcome_data script line (outcomes.Refused refusal) = refused_data script line (refusal_text refusal)
outcome_data script line (outcomes.Answered reply) = reply_data script line reply

-- the objects of a line of a script: one; the line that marks a script as one for a view has none (this project)
abbrev pub step_data : ℕ → ℕ → Played → List Data
step_data script line (played.Told receipt) = outcome_data script line receipt.outcome ∷ []
step_data script line (played.Cut first) = cut_data script line first ∷ []
step_data script line played.NoMemory = refused_data script line (refusal_text refusals.NoMemory) ∷ []
step_data script line played.NotEntered = refused_data script line (codes "NotEntered") ∷ []
step_data script line played.View = []

-- the objects of a script's lines; the first line has this number (this project)
abbrev pub lines_data : ℕ → ℕ → List Played → List Data
lines_data script line [] = []
lines_data script line (first ∷ others) = step_data script line first ++ lines_data script (line + 1) others

-- the objects of the lines of scripts, the first of which has this number (this project)
abbrev pub scripts_data : ℕ → List (Vec Played Global) → List Data
scripts_data number [] = []
scripts_data number (script ∷ scripts) = lines_data number 1 script.items ++ scripts_data (number + 1) scripts

-- a call of the journal: its words, in which bytes are escaped as on a terminal (this project)
abbrev pub record_data : Record → Data
record_data entry = string (escaped (call_words entry.call))

-- the calls of a journal, in order, if they are wanted, else null (this project)
abbrev pub journal_data : Bool → List Record → Data
journal_data true records = array (items_of (map record_data records))
journal_data false records = null

-- the number of receipts whose records were cut, or null if no script cuts the journal (this project)
abbrev pub gone_data : Option ℕ → Data
gone_data None = null
gone_data (Some gone) = count gone

-- a report: the number of confirmed receipts, the number of the format, the number of receipts whose records were cut, the journal, the lines, and the
-- number of records (this project)
unfoldable pub report_data : List Data → ℕ → ℕ → Option ℕ → Data → Data
report_data lines records confirmed gone journal =
    object (member (codes "confirmed") (count confirmed)
    (member (codes "format") (count 1)
    (member (codes "gone") (gone_data gone)
    (member (codes "journal") journal
    (member (codes "lines") (array (items_of lines))
    (member (codes "records") (count records) no_members))))))

-- a report, on one line (RFC 8259)
abbrev pub report_line : List Data → ℕ → ℕ → Option ℕ → Data → List ℕ
report_line lines records confirmed gone journal = compact_text (report_data lines records confirmed gone journal) ++ codes "\n"
