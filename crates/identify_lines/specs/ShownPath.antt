-- Paths as a terminal can show them.
use Rattle.std.specs.Prelude.{ℕ, if◌then◌else◌, List}
use Rattle.std.specs.List.{list_any}
use Rattle.std.specs.Str.{chars}
use Rattle.std.specs.Char.{is_control}
use Rattle.escaped_text.specs.Escape.{escaped}

-- a path so that a terminal can show it: as it is, or escaped if it has control characters (this project)
unfoldable pub shown_path : List ℕ → List ℕ
shown_path path = if list_any is_control (chars path) then escaped path else path
