-- Lists of lines as JSON.
use Rattle.std.specs.Prelude.{ℕ, List, [], ◌∷◌, ◌++◌, codes}
use Rattle.serde_json.specs.Data.{Data, array, member, no_members, object}
use Rattle.serde_json.specs.View.{items_of}
use Rattle.serde_json.specs.Written.{compact_text}
use Rattle.vol_listing.specs.Json.{count}

-- the text of an item of a list, with a comma before it (RFC 8259)
unfoldable pub item_text : Data → List ℕ
item_text d = 44 ∷ compact_text d

-- an object with the lines of a report, and the number of the format, which is 1 (this project)
abbrev pub lines_data : List Data → Data
lines_data lines = object (member (codes "format") (count 1) (member (codes "lines") (array (items_of lines)) no_members))

-- the same on one line (RFC 8259)
abbrev pub lines_json : List Data → List ℕ
lines_json lines = compact_text (lines_data lines) ++ codes "\n"

-- the bytes after the first one (this project)
abbrev pub after_first : List ℕ → List ℕ
after_first [] = []
after_first (byte ∷ bytes) = bytes

-- the text of such an object, from that of its items with a comma before each (RFC 8259)
abbrev pub around : List ℕ → List ℕ
around items = codes "{\"format\":1,\"lines\":[" ++ (after_first items ++ codes "]}\n")
