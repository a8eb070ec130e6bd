-- The lines of what differs between two trees.
use Rattle.std.specs.Prelude.{ℕ, ◌/◌, ◌%◌, ◌==◌, Bool, true, false, if◌then◌else◌, List, [], ◌∷◌, ◌++◌, codes, decimal, drop, length, nat_lt, Option, None, Some}
use Rattle.std.specs.Fmt.{digits}
use Rattle.std.specs.Str.{bytes_eq}
use Rattle.escaped_text.specs.Escape.{escaped}
use Rattle.vol_archive.specs.declared.met_entries.Reason.{Reason}
use Rattle.vol_archive.specs.declared.met_entries.Reason.TheVariants as reasons
use Rattle.vol_listing.specs.Dates.{moment_text}
use Rattle.vol_compare.specs.Bodies.{first_difference}
use Rattle.vol_compare.specs.Members.{Content, Node, LeftOut, is_unseen}
use Rattle.vol_compare.specs.declared.members.Facts.{Facts}
use Rattle.vol_compare.specs.declared.members.NodeKind.{NodeKind}
use Rattle.vol_compare.specs.declared.members.NodeKind.TheVariants as nodes

-- a value that differs: its name, and both values, after a comma (this project)
unfoldable pub change : List ℕ → List ℕ → List ℕ → List ℕ
change name old new = 44 ∷ 32 ∷ name ++ (32 ∷ old ++ (codes " -> " ++ new))

-- a number, if it differs (this project)
abbrev pub number_change : List ℕ → ℕ → ℕ → List ℕ
number_change name old new = if old == new then [] else change name (decimal old) (decimal new)

-- permissions in octal digits, with a zero before them (chmod)
abbrev pub mode_digits : ℕ → List ℕ
mode_digits permissions = 48 ∷ digits 8 false permissions

-- the permissions, if they differ (chmod)
abbrev pub mode_change : ℕ → ℕ → List ℕ
mode_change old new = if old == new then [] else change (codes "mode") (mode_digits old) (mode_digits new)

-- a date and a time of day without the date (ISO 8601)
abbrev pub without_date : List ℕ → List ℕ
without_date moment = if nat_lt (length moment) 11 then moment else drop 11 moment

-- a time after another one, or only the time of day if both are on one day (this project)
abbrev pub moment_after : ℕ → ℕ → List ℕ
moment_after earlier seconds = if earlier / 86400 == seconds / 86400 then without_date (moment_text seconds) else moment_text seconds

-- a time, if it differs: both dates, or of the new one the time of day alone if both are on one day (this project)
abbrev pub time_change : List ℕ → ℕ → ℕ → List ℕ
time_change name old new = if old == new then [] else change name (moment_text old) (moment_after old new)

-- the major and the minor number of a device (ls -l)
unfoldable pub device_numbers : ℕ → List ℕ
device_numbers device = decimal (device / 256) ++ (codes "," ++ decimal (device % 256))

-- a device, if it differs (this project)
abbrev pub device_change : ℕ → ℕ → List ℕ
device_change old new = if old == new then [] else change (codes "device") (device_numbers old) (device_numbers new)

-- the size of a file or the device of a special file, if it differs (this project)
abbrev pub kind_change : NodeKind → NodeKind → List ℕ
kind_change (nodes.File old) (nodes.File new) = number_change (codes "size") old new
kind_change (nodes.Block old) (nodes.Block new) = device_change old new
kind_change (nodes.Character old) (nodes.Character new) = device_change old new
kind_change old new = []

-- the first byte that differs, if one does (cmp)
abbrev pub bytes_change : Option ℕ → List ℕ
bytes_change None = []
bytes_change (Some at) = codes ", bytes from " ++ decimal at

-- the permissions, the link count, the owner and the group, if they differ (this project)
abbrev pub owner_changes : Facts → Facts → List ℕ
owner_changes old new =
    mode_change old.permissions new.permissions
    ++ (number_change (codes "links") old.links new.links
    ++ (number_change (codes "uid") old.uid new.uid
    ++ number_change (codes "gid") old.gid new.gid))

-- the times that differ (this project)
abbrev pub time_changes : Facts → Facts → List ℕ
time_changes old new =
    time_change (codes "mtime") old.modified new.modified
    ++ (time_change (codes "atime") old.accessed new.accessed
    ++ time_change (codes "ctime") old.changed new.changed)

-- all that differs between two nodes of one kind, but their bytes (this project)
unfoldable pub fact_changes : Facts → Facts → List ℕ
fact_changes old new = owner_changes old new ++ (kind_change old.kind new.kind ++ time_changes old new)

-- true if two nodes are of one kind (stat.h)
abbrev pub is_one_kind : NodeKind → NodeKind → Bool
is_one_kind (nodes.File a) (nodes.File b) = true
is_one_kind nodes.Directory nodes.Directory = true
is_one_kind (nodes.Block a) (nodes.Block b) = true
is_one_kind (nodes.Character a) (nodes.Character b) = true
is_one_kind a b = false

-- true if two entries are left out for one reason (this project)
abbrev pub is_one_reason : Reason → Reason → Bool
is_one_reason reasons.NoNode reasons.NoNode = true
is_one_reason reasons.OddNode reasons.OddNode = true
is_one_reason reasons.Again reasons.Again = true
is_one_reason reasons.LongPath reasons.LongPath = true
is_one_reason reasons.BadName reasons.BadName = true
is_one_reason a b = false

-- the words for a kind of node (this project)
abbrev pub kind_text : NodeKind → List ℕ
kind_text (nodes.File size) = codes "file"
kind_text nodes.Directory = codes "directory"
kind_text (nodes.Block device) = codes "block special file"
kind_text (nodes.Character device) = codes "character special file"

-- the words for an entry that leads to nothing, for this reason (this project)
abbrev pub left_text : Reason → List ℕ
left_text reasons.NoNode = codes "entry without an i-node"
left_text reasons.OddNode = codes "i-node of no known kind"
left_text reasons.Again = codes "directory met before"
left_text reasons.LongPath = codes "path above 4096 bytes"
left_text reasons.BadName = codes "name that is empty or has a slash"

-- the words for a further name of the file at a path (this project)
abbrev pub link_text : List ℕ → List ℕ
link_text path = codes "link to /" ++ escaped path

-- the words for a node of this kind, with the path of its first name if this is a further one (this project)
abbrev pub node_text : NodeKind → Option (List ℕ) → List ℕ
node_text kind None = kind_text kind
node_text kind (Some path) = link_text path

-- a path of a tree, from the root (this project)
abbrev pub path_text : List ℕ → List ℕ
path_text path = 32 ∷ 47 ∷ escaped path

-- the line of a path that leads to something else (this project)
unfoldable pub turned_line : List ℕ → List ℕ → List ℕ → List ℕ
turned_line path old new = 84 ∷ path_text path ++ (32 ∷ old ++ (codes " -> " ++ (new ++ 10 ∷ [])))

-- the line of a path whose node changed in this way: the changes without the comma before the first; none if nothing changed (this project)
abbrev pub changed_line : List ℕ → List ℕ → List ℕ
changed_line path [] = []
changed_line path (comma ∷ changes) = 77 ∷ path_text path ++ (changes ++ 10 ∷ [])

-- the words for a node of this kind that was or is no further name (this project)
abbrev pub own_text : NodeKind → List ℕ
own_text (nodes.File size) = codes "own file"
own_text nodes.Directory = codes "directory"
own_text (nodes.Block device) = codes "own block special file"
own_text (nodes.Character device) = codes "own character special file"

-- the words for a node of this kind whose names changed: the path of its first name, if this is a further one (this project)
abbrev pub name_text : NodeKind → Option (List ℕ) → List ℕ
name_text kind None = own_text kind
name_text kind (Some path) = link_text path

-- true if a path is the first name of two nodes, or a further one of those with one first name (this project)
abbrev pub is_one_name : Option (List ℕ) → Option (List ℕ) → Bool
is_one_name None None = true
is_one_name (Some a) (Some b) = bytes_eq a b
is_one_name a b = false

-- all that differs between two nodes of one kind, with the first byte that does, each after a comma (this project)
abbrev pub node_changes : Facts → Facts → Option ℕ → List ℕ
node_changes f h first = fact_changes f h ++ bytes_change first

-- the line of two nodes at a path that is no name of one file now, or wasn't: both names, and what differs if they are of one kind (this project)
unfoldable pub renamed_line : List ℕ → Facts → Option (List ℕ) → Facts → Option (List ℕ) → Option ℕ → List ℕ
renamed_line path f a h b first =
    (if is_one_kind f.kind h.kind then 77 else 84)
    ∷ path_text path ++ (32 ∷ name_text f.kind a ++ (codes " -> " ++ (name_text h.kind b
    ++ ((if is_one_kind f.kind h.kind then node_changes f h first else []) ++ 10 ∷ []))))

-- the line of two nodes at a path, if they differ (this project)
abbrev pub nodes_line : List ℕ → Facts → Facts → Option ℕ → List ℕ
nodes_line path f h first =
    if is_one_kind f.kind h.kind then changed_line path (node_changes f h first)
    else turned_line path (kind_text f.kind) (kind_text h.kind)

-- the line of a path at which both trees are left out for this reason, so that it is unknown if it leads to the same (this project)
abbrev pub unseen_line : List ℕ → Reason → List ℕ
unseen_line path reason = 85 ∷ path_text path ++ (32 ∷ left_text reason ++ 10 ∷ [])

-- the line of a path that is left out of two trees, for these reasons; none if they are the same and it leads to nothing (this project)
abbrev pub reasons_line : List ℕ → Reason → Reason → List ℕ
reasons_line path old new =
    if is_one_reason old new then (if is_unseen old then unseen_line path old else []) else turned_line path (left_text old) (left_text new)

-- the line of a path that leads to nodes in two trees, by the paths of their first names if it is a further one; none if they are the same (this project)
abbrev pub named_line : List ℕ → Facts → Option (List ℕ) → Facts → Option (List ℕ) → Option ℕ → List ℕ
named_line path f a h b first = if is_one_name a b then nodes_line path f h first else renamed_line path f a h b first

-- the first byte that differs between nodes of these kinds, if they are of one kind and one does (cmp)
abbrev pub nodes_changed : NodeKind → List ℕ → NodeKind → List ℕ → Option ℕ
nodes_changed old xs new ys = if is_one_kind old new then first_difference xs ys else None

-- the first byte that differs, if a path leads to nodes of one kind and one does (cmp)
abbrev pub first_changed : Content → Content → Option ℕ
first_changed (Node f xs a) (Node h ys b) = nodes_changed f.kind xs h.kind ys
first_changed old new = None

-- the line of a path that leads to different things in two trees, or of which that is unknown; none if it leads to the same (this project)
abbrev pub pair_line : List ℕ → Content → Content → List ℕ
pair_line path (Node f xs a) (Node h ys b) = named_line path f a h b (nodes_changed f.kind xs h.kind ys)
pair_line path (LeftOut r) (LeftOut s) = reasons_line path r s
pair_line path (Node f xs a) (LeftOut s) = turned_line path (node_text f.kind a) (left_text s)
pair_line path (LeftOut r) (Node h ys b) = turned_line path (left_text r) (node_text h.kind b)

-- a remark on a path that only one tree has: a name that is empty or has a slash looks like another path (this project)
abbrev pub name_remark : Content → List ℕ
name_remark (LeftOut reasons.BadName) = codes " (" ++ (left_text reasons.BadName ++ codes ")")
name_remark content = []

-- the line of a path that only one tree has (this project)
abbrev pub lone_line : ℕ → List ℕ → Content → List ℕ
lone_line letter path content = letter ∷ path_text path ++ (name_remark content ++ 10 ∷ [])

-- the line of a path that only the old tree has (this project)
abbrev pub gone_line : List ℕ → Content → List ℕ
gone_line path content = lone_line 68 path content

-- the line of a path that only the new tree has (this project)
abbrev pub added_line : List ℕ → Content → List ℕ
added_line path content = lone_line 65 path content
