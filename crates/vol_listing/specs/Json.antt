-- Numbers, and lists of entries, in JSON.
use Rattle.std.specs.Prelude.{ℕ, false, List, ◌∷◌, ◌++◌, codes}
use Rattle.std.specs.Fmt.{digits}
use Rattle.serde_json.specs.Data.{Data, array, member, no_members, number, object, string, unsigned}
use Rattle.serde_json.specs.View.{items_of}
use Rattle.serde_json.specs.Written.{compact_text}

-- a number (RFC 8259)
abbrev pub count : ℕ → Data
count n = number (unsigned n)

-- a number as text, in octal digits with a zero before them (this project)
abbrev pub octal : ℕ → Data
octal n = string (48 ∷ digits 8 false n)

-- an object with some entries, and the number of the format, which is 1 (this project)
abbrev pub listed : List Data → Data
listed entries = object (member (codes "entries") (array (items_of entries)) (member (codes "format") (count 1) no_members))

-- an object with some entries, on one line (RFC 8259)
abbrev pub entries_text : List Data → List ℕ
entries_text entries = compact_text (listed entries) ++ codes "\n"
