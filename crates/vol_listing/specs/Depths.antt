-- The depth of a listing.
use Rattle.std.specs.Prelude.{Bool, true, false}
use Rattle.vol_dir.specs.Tree.{Node}
use Rattle.vol_dir.specs.Walk.{is_directory}
use Rattle.vol_listing.specs.declared.options.Depth.{Depth}
use Rattle.vol_listing.specs.declared.options.Depth.TheVariants as depths
use Rattle.vol_listing.specs.declared.options.Lines.{Lines}
use Rattle.vol_listing.specs.declared.options.Lines.TheVariants as lines
use Rattle.vol_listing.specs.declared.options.ListOptions.{ListOptions}

-- true if the directories below are listed too (ls -R)
abbrev pub goes_below : Depth → Bool
goes_below depths.Itself = false
goes_below depths.Names = false
goes_below depths.Below = true

-- true if the contents of a node are listed rather than the node itself: it is a directory, and the depth isn't `Itself` (ls, ls -d)
abbrev pub opens : Depth → Node → Bool
opens depths.Itself node = false
opens depths.Names node = is_directory node
opens depths.Below node = is_directory node

-- true if only i-numbers and names are listed (ls -i)
abbrev pub is_plain : Lines → Bool
is_plain lines.Plain = true
is_plain lines.Long = false
is_plain lines.Json = false

-- true if only the names in a directory, with their i-numbers, are listed, at this depth and with this format of lines (ls without an option)
abbrev pub is_bare_at : Depth → Lines → Bool
is_bare_at depths.Itself form = false
is_bare_at depths.Names form = is_plain form
is_bare_at depths.Below form = false

-- true if only the names in a directory, with their i-numbers, are listed (ls without an option)
abbrev pub is_bare : ListOptions → Bool
is_bare listing = is_bare_at listing.depth listing.lines
