-- What differs between two trees, as JSON.
use Rattle.std.specs.Prelude.{◌≡◌, ℕ, ◌/◌, ◌%◌, Bool, false, if◌then◌else◌, List, [], ◌∷◌, codes, Option, None, Some}
use Rattle.std.specs.List.{flat_map}
use Rattle.escaped_text.specs.Escape.{escaped}
use Rattle.serde_json.specs.Data.{Data, member, no_members, null, object, string}
use Rattle.vol_layout.specs.declared.edition.Edition.{Edition}
use Rattle.vol_layout.specs.declared.edition.Edition.TheVariants.{V6, V7}
use Rattle.vol_layout.specs.declared.geometry.Geometry.{Geometry}
use Rattle.vol_archive.specs.declared.met_entries.MetEntry.{MetEntry}
use Rattle.vol_archive.specs.declared.met_entries.Reason.{Reason}
use Rattle.vol_dir.specs.Walk.{is_nil}
use Rattle.vol_listing.specs.Json.{count, octal}
use Rattle.vol_compare.specs.Lines.{first_changed, is_one_kind, is_one_reason, left_text}
use Rattle.vol_compare.specs.Members.{AreMet, Content, LeftOut, Node, members}
use Rattle.vol_compare.specs.Merge.{Added, Both, Gone, Pairing, all_of, line_of, merged}
use Rattle.vol_compare.specs.declared.members.Facts.{Facts}
use Rattle.vol_compare.specs.declared.members.MetTree.{MetTree}
use Rattle.vol_compare.specs.declared.members.NodeKind.{NodeKind}
use Rattle.vol_compare.specs.declared.members.NodeKind.TheVariants as nodes

-- a path of a tree, from the root, escaped as on a terminal (this project)
unfoldable pub path_text : List ℕ → List ℕ
path_text path = escaped (47 ∷ path)

-- true if the times of the last change are compared, and an edition stores them (stat)
abbrev pub is_change_stored : Bool → Edition → Bool
is_change_stored times V6 = false
is_change_stored times V7 = times

-- a time; null if it isn't compared (this project)
unfoldable pub time_data : Bool → ℕ → Data
time_data compared time = if compared then count time else null

-- the word for a kind of node, as in ls (this project)
abbrev pub kind_word : NodeKind → List ℕ
kind_word (nodes.File size) = codes "file"
kind_word nodes.Directory = codes "directory"
kind_word (nodes.Block device) = codes "block"
kind_word (nodes.Character device) = codes "character"

-- the size of a regular file; null for another kind of node (this project)
unfoldable pub size_data : NodeKind → Data
size_data (nodes.File size) = count size
size_data nodes.Directory = null
size_data (nodes.Block device) = null
size_data (nodes.Character device) = null

-- the high byte of a special file's device number; null for another kind of node (stat.h)
unfoldable pub major_data : NodeKind → Data
major_data (nodes.File size) = null
major_data nodes.Directory = null
major_data (nodes.Block device) = count (device / 256)
major_data (nodes.Character device) = count (device / 256)

-- the low byte of a special file's device number; null for another kind of node (stat.h)
unfoldable pub minor_data : NodeKind → Data
minor_data (nodes.File size) = null
minor_data nodes.Directory = null
minor_data (nodes.Block device) = count (device % 256)
minor_data (nodes.Character device) = count (device % 256)

-- the path of the first name of a node; null if there is none (this project)
unfoldable pub link_data : Option (List ℕ) → Data
link_data None = null
link_data (Some path) = string (path_text path)

-- a node: what is compared of it, but its bytes, and the path of its first name if this is a further one (this project)
unfoldable pub node_data : Bool → Edition → Facts → Option (List ℕ) → Data
node_data times edition facts first =
    object (member (codes "atime") (time_data times facts.accessed)
    (member (codes "ctime") (time_data (is_change_stored times edition) facts.changed)
    (member (codes "gid") (count facts.gid)
    (member (codes "kind") (string (kind_word facts.kind))
    (member (codes "link") (link_data first)
    (member (codes "links") (count facts.links)
    (member (codes "major") (major_data facts.kind)
    (member (codes "minor") (minor_data facts.kind)
    (member (codes "mtime") (count facts.modified)
    (member (codes "permissions") (octal facts.permissions)
    (member (codes "size") (size_data facts.kind)
    (member (codes "uid") (count facts.uid) no_members))))))))))))

-- the reason why a path leads to nothing (this project)
unfoldable pub left_data : Reason → Data
left_data reason = object (member (codes "reason") (string (escaped (left_text reason))) no_members)

-- what a path leads to in a tree of this edition (this project)
abbrev pub side_data : Bool → Edition → Content → Data
side_data times edition (Node facts bytes first) = node_data times edition facts first
side_data times edition (LeftOut reason) = left_data reason

-- a number; null if there is none (RFC 8259)
unfoldable pub first_data : Option ℕ → Data
first_data None = null
first_data (Some n) = count n

-- the word for the line of nodes of these kinds (this project)
abbrev pub nodes_word : NodeKind → NodeKind → List ℕ
nodes_word old new = if is_one_kind old new then codes "changed" else codes "turned"

-- the word for the line of a path that leads to nothing, for these reasons (this project)
abbrev pub reasons_word : Reason → Reason → List ℕ
reasons_word old new = if is_one_reason old new then codes "unseen" else codes "turned"

-- the word for the line of a path (this project)
abbrev pub pair_word : Content → Content → List ℕ
pair_word (Node f xs a) (Node h ys b) = nodes_word f.kind h.kind
pair_word (LeftOut r) (LeftOut s) = reasons_word r s
pair_word (Node f xs a) (LeftOut s) = codes "turned"
pair_word (LeftOut r) (Node h ys b) = codes "turned"

-- a path that only the old tree has (this project)
abbrev pub gone_data : Bool → Edition → List ℕ → Content → Data
gone_data times edition path content =
    object (member (codes "line") (string (codes "gone"))
    (member (codes "old") (side_data times edition content)
    (member (codes "path") (string (path_text path)) no_members)))

-- a path that only the new tree has (this project)
abbrev pub added_data : Bool → Edition → List ℕ → Content → Data
added_data times edition path content =
    object (member (codes "line") (string (codes "added"))
    (member (codes "new") (side_data times edition content)
    (member (codes "path") (string (path_text path)) no_members)))

-- a path that leads to different things: the first byte that differs, if it leads to files in both trees, the word for the line, and both things (this
-- project)
abbrev pub both_data : Bool → Edition → Edition → List ℕ → Content → Content → Data
both_data times was is path old new =
    object (member (codes "first_byte") (first_data (first_changed old new))
    (member (codes "line") (string (pair_word old new))
    (member (codes "new") (side_data times is new)
    (member (codes "old") (side_data times was old)
    (member (codes "path") (string (path_text path)) no_members)))))

-- what two lists have at a path, of trees of these editions (this project)
abbrev pub pairing_data : Bool → Edition → Edition → Pairing → Data
pairing_data times was is (Gone old) = gone_data times was old.path old.content
pairing_data times was is (Added new) = added_data times is new.path new.content
pairing_data times was is (Both old new) = both_data times was is old.path old.content new.content

-- the same if it has a line (this project)
unfoldable pub told_data : Bool → Edition → Edition → Pairing → List Data
told_data times was is pairing = if is_nil (line_of pairing) then [] else pairing_data times was is pairing ∷ []

-- the differences between two trees: an item for each line (this project)
abbrev pub differences_data : Bool → MetTree → MetTree → List Data
differences_data times old new =
    flat_map (told_data times old.geometry.now.edition new.geometry.now.edition) (merged (all_of times old) (all_of times new))

-- the data are the differences between the trees of two images, an item for each line of their text, in its order (this project)
abbrev pub AreTreeData : Bool → Geometry → List ℕ → Geometry → List ℕ → List Data → Type 0
AreTreeData times g old h new datas =
    (olds : List MetEntry) × AreMet g old olds
    × ((news : List MetEntry) × AreMet h new news
    × (datas ≡ flat_map (told_data times g.edition h.edition) (merged (members times g old olds) (members times h new news))))
