-- Listings as JSON.
use Rattle.std.specs.Prelude.{ℕ, ◌/◌, ◌%◌, if◌then◌else◌, List, [], ◌∷◌, ◌++◌, codes, map}
use Rattle.std.specs.List.{flat_map}
use Rattle.serde_json.specs.Data.{Data, Members, null, string, object, member, no_members, put}
use Rattle.vol_dir.specs.Tree.{Tree}
use Rattle.vol_change.specs.Nodes.{node_at}
use Rattle.vol_listing.specs.Depths.{opens}
use Rattle.vol_listing.specs.Json.{count, entries_text, octal}
use Rattle.vol_listing.specs.Places.{joined, names_under}
use Rattle.vol_listing.specs.Rows.{is_blank, row_of, special_word}
use Rattle.escaped_text.specs.Escape.{escaped}
use Rattle.vol_listing.specs.declared.options.Depth.{Depth}
use Rattle.vol_listing.specs.declared.places.ListedNode.{ListedNode}
use Rattle.vol_listing.specs.declared.rows.Row.{Row}
use Rattle.vol_listing.specs.declared.rows.Sort.{Sort}
use Rattle.vol_listing.specs.declared.rows.Sort.TheVariants as sorts

-- the word for a kind of node, of a special file with this type (this project)
abbrev pub sort_word : ℕ → Sort → List ℕ
sort_word type sorts.Regular = codes "file"
sort_word type sorts.Directory = codes "directory"
sort_word type (sorts.Character device) = special_word type
sort_word type (sorts.Block device) = special_word type

-- the kind of the node of a row; null if it isn't known (this project)
abbrev pub kind_data : Row → Data
kind_data row = if is_blank row then null else string (sort_word row.type_bits row.sort)

-- the members of an object, with the device of a special file added, as the high and low byte of its number (stat.h)
abbrev pub device_members : Sort → Members → Members
device_members sorts.Regular others = others
device_members sorts.Directory others = others
device_members (sorts.Character device) others = member (codes "major") (count (device / 256)) (member (codes "minor") (count (device % 256)) others)
device_members (sorts.Block device) others = member (codes "major") (count (device / 256)) (member (codes "minor") (count (device % 256)) others)

-- the object of a row at a path, whose bytes are escaped as on a terminal (this project)
unfoldable pub row_data : List ℕ → Row → Data
row_data path row =
    object (member (codes "gid") (count row.gid)
    (member (codes "ino") (count row.number)
    (member (codes "kind") (kind_data row)
    (member (codes "links") (count row.links)
    (device_members row.sort
    (member (codes "mtime") (count row.modified)
    (member (codes "path") (string (escaped path))
    (member (codes "permissions") (octal row.permissions)
    (member (codes "size") (count row.size)
    (member (codes "uid") (count row.uid) no_members))))))))))

-- the object of an entry of the directory at a path (this project)
abbrev pub entry_data : Tree → List ℕ → List ℕ × ℕ → Data
entry_data tree path entry = row_data (joined path entry.0) (row_of entry.1 (node_at tree entry.1))

-- the objects of a directory's entries, in ascending order of their names (ls -a)
unfoldable pub entries_data : Tree → ListedNode → List Data
entries_data tree place = map (entry_data tree place.path) (names_under tree place.path)

-- the objects of a listing: the objects of a directory's entries, and of the entries of each directory below it that is listed; anything else has one
-- object (ls)
abbrev pub all_data : Tree → Depth → ListedNode → List ListedNode → List Data
all_data tree depth place places =
    if opens depth (node_at tree place.inode)
    then entries_data tree place ++ flat_map (entries_data tree) places
    else row_data place.path (row_of place.inode (node_at tree place.inode)) ∷ []

-- a listing as one object with an entry for each name, on one line (this project)
abbrev pub json_text : Tree → Depth → ListedNode → List ListedNode → List ℕ
json_text tree depth place places = entries_text (all_data tree depth place places)

-- the members of an object, with the numbers that every node has added (this project)
unfoldable pub with_numbers : Row → Members → Members
with_numbers row members =
    put (codes "uid") (count row.uid)
    (put (codes "gid") (count row.gid)
    (put (codes "links") (count row.links)
    (put (codes "ino") (count row.number) members)))

-- the members of an object, with the path and the file's kind, permissions, size and time of change added (this project)
unfoldable pub with_file : List ℕ → Row → Members → Members
with_file path row members =
    put (codes "mtime") (count row.modified)
    (put (codes "size") (count row.size)
    (put (codes "permissions") (octal row.permissions)
    (put (codes "kind") (kind_data row)
    (put (codes "path") (string (escaped path)) members))))

-- the members of an object, with the device of a special file added (this project)
abbrev pub with_device : Sort → Members → Members
with_device sorts.Regular members = members
with_device sorts.Directory members = members
with_device (sorts.Character device) members = put (codes "minor") (count (device % 256)) (put (codes "major") (count (device / 256)) members)
with_device (sorts.Block device) members = put (codes "minor") (count (device % 256)) (put (codes "major") (count (device / 256)) members)
