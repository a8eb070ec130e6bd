-- The differences between two lists of members.
use Rattle.std.specs.Prelude.{◌≡◌, ℕ, ◌+◌, ◌==◌, nat_lt, if◌then◌else◌, Bool, List, [], ◌∷◌, map, drop, Option, None}
use Rattle.std.specs.List.{flat_map}
use Rattle.std.specs.declared.cmp.Ordering.{Ordering}
use Rattle.std.specs.declared.cmp.Ordering.TheVariants.{Less, Equal, Greater}
use Rattle.vol_layout.specs.declared.geometry.Geometry.{Geometry}
use Rattle.vol_archive.specs.declared.met_entries.MetEntry.{MetEntry}
use Rattle.vol_compare.specs.Lines.{added_line, first_changed, gone_line, pair_line}
use Rattle.vol_compare.specs.Members.{AreMet, Member, member_of, members}
use Rattle.vol_compare.specs.declared.members.MetTree.{MetTree}
use Rattle.vol_compare.specs.declared.merge.Pair.{Pair}
use Rattle.vol_compare.specs.declared.merge.Pair.TheVariants as pairs

-- the place of a byte in the order of paths: a slash is before all others, so that a directory comes before what is in it (this project)
abbrev pub rank : ℕ → ℕ
rank byte = if byte == 47 then 0 else byte + 1

-- the order of two paths (find)
unfoldable pub path_order : List ℕ → List ℕ → Ordering
path_order [] [] = Equal
path_order [] (d ∷ new) = Less
path_order (c ∷ old) [] = Greater
path_order (c ∷ old) (d ∷ new) = if c == d then path_order old new else if nat_lt (rank c) (rank d) then Less else Greater

-- the order of two paths, one of which at least ends where they don't differ yet, by how many bytes each has after that (find)
abbrev pub length_order : ℕ → ℕ → Ordering
length_order old new = if old == 0 then (if new == 0 then Equal else Less) else Greater

-- what two lists of members have at a path: a member that only the old or the new one has, or one of each (this project)
pub data Pairing : Type 0 where
  Gone : Member → Pairing
  Added : Member → Pairing
  Both : Member → Member → Pairing

-- an old member and a list of new ones, and what comes after them: by the order of the paths, the member that only one tree has, or the pair (diff)
abbrev pub turn : Member → (List Member → List Pairing) → Member → List Member → List Pairing → Ordering → List Pairing
turn old later new news more Less = Gone old ∷ later (new ∷ news)
turn old later new news more Greater = Added new ∷ more
turn old later new news more Equal = Both old new ∷ later news

-- an old member, and those after it, with the new ones (diff)
unfoldable pub paired : Member → (List Member → List Pairing) → List Member → List Pairing
paired old later [] = Gone old ∷ later []
paired old later (new ∷ news) = turn old later new news (paired old later news) (path_order old.path new.path)

-- two lists of members, merged by their paths: each member that only one of them has, and each pair (diff)
unfoldable pub merged : List Member → List Member → List Pairing
merged [] news = map Added news
merged (old ∷ olds) news = paired old (merged olds) news

-- the line of what two lists have at a path; none if it is the same (diff)
abbrev pub line_of : Pairing → List ℕ
line_of (Gone old) = gone_line old.path old.content
line_of (Added new) = added_line new.path new.content
line_of (Both old new) = pair_line old.path old.content new.content

-- the first byte that differs, if two lists have nodes of one kind at a path and one does (cmp)
abbrev pub first_of : Pairing → Option ℕ
first_of (Both old new) = first_changed old.content new.content
first_of pairing = None

-- the lines of the differences between two lists of members: one for each member that only one of them has, and one for each pair that differs (diff)
abbrev pub merged_lines : List Member → List Member → List ℕ
merged_lines olds news = flat_map line_of (merged olds news)

-- the order of the first members of two lists, one of which at least has one; an empty list has the greater one (this project)
abbrev pub order_of : List Member → List Member → Ordering
order_of [] news = Greater
order_of (old ∷ olds) [] = Less
order_of (old ∷ olds) (new ∷ news) = path_order old.path new.path

-- the member of an entry of a tree (this project)
abbrev pub member_at : Bool → MetTree → MetEntry → Member
member_at times tree found = member_of times tree.geometry.now tree.image.now tree.founds.items found

-- the members of a tree from an entry on (this project)
unfoldable pub rest_of : Bool → MetTree → ℕ → List Member
rest_of times tree i = map (member_at times tree) (drop i tree.founds.items)

-- the members of a tree: its root, and what is below it (this project)
abbrev pub all_of : Bool → MetTree → List Member
all_of times tree = member_at times tree tree.root ∷ rest_of times tree 0

-- what two trees have at the path of one or two entries (this project)
abbrev pub pairing_of : Bool → MetTree → MetTree → Pair → Pairing
pairing_of times old new (pairs.Gone found) = Gone (member_at times old found.now)
pairing_of times old new (pairs.Added found) = Added (member_at times new found.now)
pairing_of times old new (pairs.Both found other) = Both (member_at times old found.now) (member_at times new other.now)

-- the lines of the differences between two trees (diff)
abbrev pub tree_lines : Bool → MetTree → MetTree → List ℕ
tree_lines times old new = merged_lines (all_of times old) (all_of times new)

-- the text is the differences between the trees of two images: it is empty if and only if they have the same members, no path of which is too long to be
-- followed (diff)
abbrev pub IsTreeText : Bool → Geometry → List ℕ → Geometry → List ℕ → List ℕ → Type 0
IsTreeText times g old h new text =
    (olds : List MetEntry) × AreMet g old olds
    × ((news : List MetEntry) × AreMet h new news × (text ≡ merged_lines (members times g old olds) (members times h new news)))
