-- The listing of a file or directory of a volume.
use Rattle.std.specs.Prelude.{◌≡◌, ℕ, true, false, if◌then◌else◌, List, [], ◌∷◌}
use Rattle.vol_dir.specs.Tree.{Tree}
use Rattle.vol_dir.specs.Walk.{is_nil}
use Rattle.vol_listing.specs.ListingJson.{json_text}
use Rattle.vol_listing.specs.Lines.{lines_text}
use Rattle.vol_listing.specs.Places.{AllBelow}
use Rattle.vol_listing.specs.declared.options.Depth.{Depth}
use Rattle.vol_listing.specs.declared.options.Depth.TheVariants as depths
use Rattle.vol_listing.specs.declared.options.Lines.{Lines}
use Rattle.vol_listing.specs.declared.options.Lines.TheVariants as lines
use Rattle.vol_listing.specs.declared.options.ListOptions.{ListOptions}
use Rattle.vol_listing.specs.declared.options.Screen.{Screen}
use Rattle.vol_listing.specs.declared.places.ListedNode.{ListedNode}

-- a listing in some format of a file or directory, with the directories below it (this project)
abbrev pub listing_text : Lines → Depth → Screen → Tree → ListedNode → List ListedNode → List ℕ
listing_text lines.Plain depth screen tree place places = lines_text (record { is_long = false; screen = screen }) tree depth place places
listing_text lines.Long depth screen tree place places = lines_text (record { is_long = true; screen = screen }) tree depth place places
listing_text lines.Json depth screen tree place places = json_text tree depth place places

-- the path at the top of a listing: a slash for the root if the path is empty (this project)
abbrev pub shown_path : List ℕ → List ℕ
shown_path path = if is_nil path then 47 ∷ [] else path

-- the node at the top of a listing (this project)
abbrev pub start_of : List ℕ → ℕ → ListedNode
start_of path i = record { path = shown_path path; inode = i }

-- these are the directories below a directory, if they are to be listed; otherwise there are none (ls -R)
abbrev pub IsBelow : Depth → Tree → ListedNode → List ListedNode → Type 0
IsBelow depths.Itself tree place places = places ≡ []
IsBelow depths.Names tree place places = places ≡ []
IsBelow depths.Below tree place places = AllBelow tree place places

-- this is a listing of a file or directory (this project)
abbrev pub IsListingOf : Tree → ListOptions → Screen → ListedNode → List ℕ → Type 0
IsListingOf tree listing screen place text =
    (places : List ListedNode) × IsBelow listing.depth tree place places × (text ≡ listing_text listing.lines listing.depth screen tree place places)
