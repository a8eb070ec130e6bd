-- Manifests: the attributes of nodes, with the SHA-256 of each file.
use Rattle.std.specs.Prelude.{ℕ, Bool, true, false, if◌then◌else◌, List, [], ◌∷◌, ◌++◌, codes, map, Option, None, Some}
use Rattle.std.specs.List.{flat_map}
use Rattle.std.specs.Option.{option_map_or}
use Rattle.hex.specs.Hex.{encode_lower}
use Rattle.serde_json.specs.Data.{Data, Members, array, null, string, object, no_members, put}
use Rattle.serde_json.specs.View.{items_of}
use Rattle.sha2.specs.Sha256.{sha256}
use Rattle.escaped_text.specs.Escape.{escaped}
use Rattle.vol_archive.specs.declared.met_entries.MetEntry.{MetEntry}
use Rattle.vol_archive.specs.declared.met_entries.Role.{Role}
use Rattle.vol_archive.specs.declared.met_entries.Role.TheVariants as roles
use Rattle.vol_change.specs.Nodes.{node_at}
use Rattle.vol_losses.specs.declared.spans.LostSpan.{LostSpan}
use Rattle.vol_dir.specs.Tree.{Content, Body, Directory, Device, Node, Tree}
use Rattle.vol_listing.specs.Dates.{moment_text}
use Rattle.vol_listing.specs.Digits.{padded_number}
use Rattle.vol_listing.specs.Json.{count, entries_text}
use Rattle.vol_listing.specs.ListingJson.{with_device, with_file, with_numbers}
use Rattle.vol_listing.specs.LongLines.{column, kind_column, size_text}
use Rattle.vol_listing.specs.Places.{joined}
use Rattle.vol_listing.specs.Rows.{row_of}
use Rattle.vol_listing.specs.declared.rows.Row.{Row}

-- the SHA-256 of a regular file's bytes; no other node has one (FIPS 180-4)
abbrev pub sum_of : Content → Option (List ℕ)
sum_of (Body bytes) = Some (sha256 bytes)
sum_of (Directory names) = None
sum_of (Device type addresses) = None

-- the sum of node i (FIPS 180-4)
unfoldable pub sum_at : Tree → ℕ → Option (List ℕ)
sum_at tree i = option_map_or (λ (node : Node). sum_of node.content) (tree.nodes i) None

-- a sum as hexadecimal digits, or a dash for a node without a sum (sha256sum)
abbrev pub sum_text : Option (List ℕ) → List ℕ
sum_text None = codes "-"
sum_text (Some sum) = encode_lower sum

-- the mode of a node, its owner and its group, each followed by a space (ls -l)
unfoldable pub mode_columns : Row → List ℕ
mode_columns row = column (kind_column row) ++ (column (padded_number row.uid) ++ column (padded_number row.gid))

-- the mode of a node, its owner, its group, its size and the time of the last change of its contents, each followed by a space (ls -l)
unfoldable pub attribute_columns : Row → List ℕ
attribute_columns row =
    mode_columns row ++ (column (size_text row.sort row.size) ++ column (moment_text row.modified))

-- the line of a node: its sum, its attributes and its path (sha256sum; ls -l)
unfoldable pub sum_line : Option (List ℕ) → Row → List ℕ → List ℕ
sum_line sum row path = column (sum_text sum) ++ (attribute_columns row ++ (escaped path ++ 10 ∷ []))

-- true if an entry with this role is left out of an archive (this project)
abbrev pub is_left : Role → Bool
is_left (roles.Left reason) = true
is_left roles.File = false
is_left roles.Directory = false
is_left roles.Special = false
is_left (roles.Link k) = false

-- the line of an entry that the walk found, unless it is left out (this project)
abbrev pub met_line : Tree → MetEntry → List ℕ
met_line tree found =
    if is_left found.role then [] else sum_line (sum_at tree found.inode) (row_of found.inode (node_at tree found.inode)) found.path

-- the lines of the entries that the walk found (this project)
abbrev pub sums_text : Tree → List MetEntry → List ℕ
sums_text tree founds = flat_map (met_line tree) founds

-- a sum as hexadecimal digits, or null for a node without a sum (this project)
abbrev pub sum_data : Option (List ℕ) → Data
sum_data None = null
sum_data (Some sum) = string (encode_lower sum)

-- lost bytes of a file: the first, and the one after the last (this project)
abbrev pub span_data : LostSpan → Data
span_data span = array (items_of (count span.first ∷ count span.end ∷ []))

-- the members of an object, with the lost bytes of a file added, if some are lost (this project)
abbrev pub with_losses : Option (List LostSpan) → Members → Members
with_losses None members = members
with_losses (Some spans) members = put (codes "lost") (array (items_of (map span_data spans))) members

-- the object of a node at a path: the members that it has in a listing, its sum, and the bytes of it that are lost (this project)
unfoldable pub summed_data : Option (List ℕ) → Option (List LostSpan) → Row → List ℕ → Data
summed_data sum losses row path =
    object (with_losses losses (put (codes "sha256") (sum_data sum) (with_device row.sort (with_file path row (with_numbers row no_members)))))

-- the object of an entry that the walk found below the directory at path `top`, unless it is left out (this project)
abbrev pub met_data : Tree → List ℕ → MetEntry → List Data
met_data tree top found =
    if is_left found.role then []
    else summed_data (sum_at tree found.inode) None (row_of found.inode (node_at tree found.inode)) (joined top found.path) ∷ []

-- the objects of the entries that the walk found below the directory at a path (this project)
abbrev pub sums_data : Tree → List ℕ → List MetEntry → List Data
sums_data tree top founds = flat_map (met_data tree top) founds

-- one object with these entries, on one line (this project)
abbrev pub sums_json : Tree → List ℕ → List MetEntry → List ℕ
sums_json tree top founds = entries_text (sums_data tree top founds)
