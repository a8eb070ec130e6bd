-- What numbers in an image mean.
use Rattle.std.specs.Prelude.{ℕ, ◌%◌, ◌==◌, if◌then◌else◌, List, [], length, Option, Some, None}
use Rattle.escaped_text.specs.Escape.{escaped}
use Rattle.serde_json.specs.Data.{Data, null, string}
use Rattle.vol_layout.specs.Inode.{kind_of}
use Rattle.vol_layout.specs.declared.edition.Edition.{Edition}
use Rattle.vol_layout.specs.declared.geometry.Geometry.{Geometry}
use Rattle.vol_inspect.specs.Texts.{kind_name}
use Rattle.vol_fields.specs.Values.{inode_meaning, pointer_meaning}
use Rattle.vol_fields.specs.declared.names.ValueKind.{ValueKind}
use Rattle.vol_fields.specs.declared.names.ValueKind.TheVariants as values
use Rattle.vol_fields.specs.declared.role.Role.{Role}
use Rattle.vol_fields.specs.declared.runs.Spot.{Spot}
use Rattle.vol_listing.specs.Dates.{moment_text}
use Rattle.vol_listing.specs.LongLines.{kind_letters}

-- letters, or a word if there are none (this project)
abbrev pub letters_or : List ℕ → Option (List ℕ) → List ℕ
letters_or word None = word
letters_or word (Some letters) = letters

-- the words for a mode: the letters of a long listing, or the word for its kind (ls -l)
abbrev pub mode_words : Edition → ℕ → List ℕ
mode_words edition mode = letters_or (kind_name (kind_of edition mode)) (kind_letters mode (kind_of edition mode))

-- what a number of this kind in a part of an image means: of a mode its letters, of a time its date, of an i-number the kind of the i-node, of a block
-- number the role of the block (this project)
unfoldable pub meaning : Geometry → List Role → List ℕ → Spot → ValueKind → ℕ → List ℕ
meaning g table image part values.Mode n = mode_words g.edition (n % 65536)
meaning g table image part values.Moment n = moment_text n
meaning g table image part values.Inode n = inode_meaning g image n
meaning g table image part values.Block n = pointer_meaning g table image part n
meaning g table image part kind n = []

-- what a number means, if there is one (this project)
abbrev pub meaning_of : Geometry → List Role → List ℕ → Spot → ValueKind → Option ℕ → List ℕ
meaning_of g table image part kind None = []
meaning_of g table image part kind (Some n) = meaning g table image part kind n

-- some words as text, escaped as names are; null if there are none (this project)
unfoldable pub words_data : List ℕ → Data
words_data words = if length words == 0 then null else string (escaped words)
