-- The image of a directory with given entries, size and shape.
use Rattle.std.proofs.Common.{◌≡◌, ◌∙◌, sym, ap, subst, ℕ, ◌*◌, ◌≤◌, true≢false, List, [], length, None, arith}
use Rattle.std.specs.Option.{unwrap_or}
use Rattle.vol_layout.specs.declared.geometry.Geometry.{Geometry}
use Rattle.vol_layout.specs.declared.mode.Kind.TheVariants as kinds
use Rattle.vol_file.specs.Need.{need}
use Rattle.vol_file.specs.Rules.{size_of, Rules3To7With}
use Rattle.vol_dir.specs.EntryEdits.{HasNamesOnce}
use Rattle.vol_dir.specs.Entries.{IsDirectory, entry_at, slots}
use Rattle.vol_dir.specs.Names.{Names, dot, dot_dot, insert, get, names_of, names_in}
use Rattle.vol_dir.specs.Search.{holds, new_slot}
use Rattle.vol_dir.specs.Tree.{Shape, no_shape, state, tree, shapes, free_count}
use Rattle.vol_dir.specs.Walk.{map_of}
use Rattle.vol_judge.specs.Graph.{graph_of, entry_by}
use Rattle.vol_judge.proofs.ImageGraphs.{directory_to, graph_within}
use Rattle.vol_change.specs.Ready.{entry_need}
use Rattle.vol_change.specs.Contents.{put_entry}
use Rattle.vol_change.specs.Nodes.{no_node}
use Rattle.vol_change.specs.Shapes.{need_in, entry_blocks, shape_with_entry, new_directory_shape}
use Rattle.vol_change.specs.Whole.{Rules3To8}
use Rattle.vol_change.proofs.EntryStates.{names_is, shape_is, size_is}
use Rattle.vol_change.proofs.FileRooms.{entry_room}
use Rattle.vol_change.proofs.PlaceCounts.{first_in}
use Rattle.vol_change.proofs.WrittenStates.{IsKind}
use Rattle.vol_change.specs.Beside.{StaysBeside}
use Rattle.vol_change.specs.Dots.{HoldsNames}
use Rattle.vol_change.proofs.DotRooms.{second_need}
use Rattle.vol_change.proofs.DotStates.{entry_held, dots_shape}
use Rattle.vol_change.proofs.ReadyLaws.{directory_kept}

-- a directory is an i-number of the volume whose kind is directory
is_kind : (geometry : Geometry) (image : List ℕ) (i : ℕ) → IsDirectory geometry image i → IsKind geometry image i kinds.Directory
is_kind geometry image i is = record { first = is.first; last = is.last; kind = is.kind }

-- the names in its slots are those given by the state
pub names_held : (geometry : Geometry) (image : List ℕ) (i size : ℕ) (names : Names) (shape : Shape) → IsDirectory geometry image i
    → HoldsNames (state geometry image) i names size shape → names_of (slots geometry image i) ≡ names
names_held geometry image i size names shape is has =
    sym (names_is geometry image i (is_kind geometry image i is))
    ∙ (ap (λ node. unwrap_or (map_of (unwrap_or node no_node).content) []) has.is ∙ ap (λ content. unwrap_or (map_of content) []) has.content)

-- its size is the one given by the state
pub size_held : (geometry : Geometry) (image : List ℕ) (i size : ℕ) (names : Names) (shape : Shape) → IsDirectory geometry image i
    → HoldsNames (state geometry image) i names size shape → size_of geometry image i ≡ size
size_held geometry image i size names shape is has =
    sym (size_is geometry image i (is_kind geometry image i is)) ∙ (ap (λ node. (unwrap_or node no_node).size) has.is ∙ has.size)

-- its slots are those given by its shape
slots_held : (geometry : Geometry) (image : List ℕ) (i size : ℕ) (names : Names) (shape : Shape) → IsDirectory geometry image i
    → HoldsNames (state geometry image) i names size shape → names_in (slots geometry image i) ≡ shape.slots
slots_held geometry image i size names shape is has =
    ap (λ (x : Shape). x.slots) (sym (shape_is geometry image i (is_kind geometry image i is)) ∙ has.shape)

-- the slot for `.` is slot 0
pub first_slot : (geometry : Geometry) (image : List ℕ) (i : ℕ) → IsDirectory geometry image i → HoldsNames (state geometry image) i [] 0 no_shape
    → new_slot (names_in (slots geometry image i)) ≡ 0
first_slot geometry image i is has = ap new_slot (slots_held geometry image i 0 [] no_shape is has)

-- a directory of size 0 has no entries
pub no_entry : (geometry : Geometry) (image : List ℕ) (i s : ℕ) (shape : Shape) → IsDirectory geometry image i
    → HoldsNames (state geometry image) i [] 0 shape → entry_at geometry image i s ≡ None
no_entry geometry image i s shape is has =
    let size = size_held geometry image i 0 [] shape is has in
    sym (ap (λ k. entry_by k geometry image i s) (directory_to geometry image i is))
    ∙ (graph_within geometry image).slots i s (omega (arith, size))

-- a directory of size 0 has no name twice
pub none_twice : (geometry : Geometry) (image : List ℕ) (i : ℕ) (shape : Shape) → IsDirectory geometry image i
    → HoldsNames (state geometry image) i [] 0 shape → HasNamesOnce geometry image i
none_twice geometry image i shape is has = record {
  once = λ name s t first second.
      absurd (true≢false (sym first ∙ ap (holds name) (no_entry geometry image i s shape is has)));
}

-- the entry `.` needs one block
pub dot_need : (geometry : Geometry) (image : List ℕ) (i : ℕ) → HoldsNames (state geometry image) i [] 0 no_shape
    → entry_need (state geometry image) i ≡ 1
unfolding tree
dot_need geometry image i has =
    ap (λ (x : Shape). need_in geometry.edition x (entry_blocks x)) has.shape ∙ first_in geometry.edition

-- the entry `..` needs no further block
pub dot_dot_need : (geometry : Geometry) (image : List ℕ) (i : ℕ) (names : Names)
    → HoldsNames (state geometry image) i names 16 (shape_with_entry geometry.edition no_shape dot) → entry_need (state geometry image) i ≡ 0
unfolding tree
dot_dot_need geometry image i names has =
    ap (λ (x : Shape). need_in geometry.edition x (entry_blocks x)) has.shape ∙ second_need geometry.edition

-- if a block is free, there is room for `.`
pub dot_room : (geometry : Geometry) (image : List ℕ) (i : ℕ) → Rules3To8 geometry image → IsDirectory geometry image i
    → HoldsNames (state geometry image) i [] 0 no_shape → 1 ≤ free_count geometry (shapes geometry image)
    → (free : List ℕ) → Rules3To7With geometry image free → need geometry image i (16 * new_slot (names_in (slots geometry image i))) 16 ≤ length free
unfolding tree
dot_room geometry image i rules is has room =
    let one = dot_need geometry image i has in
    entry_room geometry image i rules (is_kind geometry image i is) (omega (arith, one, room))

-- there is always room for `..` after `.`
pub dot_dot_room : (geometry : Geometry) (image : List ℕ) (i : ℕ) (names : Names) → Rules3To8 geometry image → IsDirectory geometry image i
    → HoldsNames (state geometry image) i names 16 (shape_with_entry geometry.edition no_shape dot)
    → (free : List ℕ) → Rules3To7With geometry image free → need geometry image i (16 * new_slot (names_in (slots geometry image i))) 16 ≤ length free
unfolding tree
dot_dot_room geometry image i names rules is has =
    let none = dot_dot_need geometry image i names has in
    entry_room geometry image i rules (is_kind geometry image i is) (omega (arith, none))

-- adding `.` to an empty directory gives a directory with only `.`
dot_held : (geometry : Geometry) (old new : List ℕ) (i : ℕ) → HoldsNames (state geometry old) i [] 0 no_shape
    → state geometry new ≡ put_entry i dot i (state geometry old)
    → HoldsNames (state geometry new) i (insert [] dot i) 16 (shape_with_entry geometry.edition no_shape dot)
unfolding tree
dot_held geometry old new i has makes =
    subst (λ s. HoldsNames s i (insert [] dot i) 16 (shape_with_entry geometry.edition no_shape dot)) (sym makes)
    (entry_held (state geometry old) i i 0 dot [] no_shape has)

-- adding `..` to a directory with only `.` gives a directory with both
dot_dot_held : (geometry : Geometry) (old new : List ℕ) (i d : ℕ)
    → HoldsNames (state geometry old) i (insert [] dot i) 16 (shape_with_entry geometry.edition no_shape dot)
    → state geometry new ≡ put_entry i dot_dot d (state geometry old)
    → HoldsNames (state geometry new) i (insert (insert [] dot i) dot_dot d) 32
    (shape_with_entry geometry.edition (shape_with_entry geometry.edition no_shape dot) dot_dot)
unfolding tree
dot_dot_held geometry old new i d has makes =
    subst (λ s. HoldsNames s i (insert (insert [] dot i) dot_dot d) 32
    (shape_with_entry geometry.edition (shape_with_entry geometry.edition no_shape dot) dot_dot)) (sym makes)
    (entry_held (state geometry old) i d 16 dot_dot (insert [] dot i) (shape_with_entry geometry.edition no_shape dot) has)

-- directory i has only the entry `.`
pub record HasDot (geometry : Geometry) (image : List ℕ) (i : ℕ) : Type 0 where
  pub is : IsDirectory geometry image i
  pub has : HoldsNames (state geometry image) i (insert [] dot i) 16 (shape_with_entry geometry.edition no_shape dot)

-- after `.` is added to an empty directory, it has only `.`
pub dot_there : (geometry : Geometry) (old new : List ℕ) (i : ℕ) → IsDirectory geometry old i → HoldsNames (state geometry old) i [] 0 no_shape
    → state geometry new ≡ put_entry i dot i (state geometry old) → StaysBeside (graph_of geometry old) (graph_of geometry new) i
    → HasDot geometry new i
dot_there geometry old new i is has makes beside = record {
  is = directory_kept geometry old new i (beside.kind i) is;
  has = dot_held geometry old new i has makes;
}

-- the slot for `..` is slot 1
pub second_slot : (geometry : Geometry) (image : List ℕ) (i : ℕ) → HasDot geometry image i → new_slot (names_in (slots geometry image i)) ≡ 1
second_slot geometry image i dotted =
    ap new_slot (slots_held geometry image i 16 (insert [] dot i) (shape_with_entry geometry.edition no_shape dot) dotted.is dotted.has)

-- the directory doesn't have `..` yet
pub dot_dot_new : (geometry : Geometry) (image : List ℕ) (i : ℕ) → HasDot geometry image i → get (names_of (slots geometry image i)) dot_dot ≡ None
dot_dot_new geometry image i dotted =
    ap (λ names. get names dot_dot) (names_held geometry image i 16 (insert [] dot i) (shape_with_entry geometry.edition no_shape dot) dotted.is dotted.has)

-- after both entries are added, the directory's shape is `new_directory_shape`
pub dots_places : (geometry : Geometry) (old new : List ℕ) (i d : ℕ) → HasDot geometry old i
    → state geometry new ≡ put_entry i dot_dot d (state geometry old) → shapes geometry new i ≡ new_directory_shape geometry.edition
dots_places geometry old new i d dotted makes = (dot_dot_held geometry old new i d dotted.has makes).shape ∙ dots_shape geometry.edition

-- after both entries are added, the directory's size is 32
pub dots_size : (geometry : Geometry) (old new : List ℕ) (i d : ℕ) → HasDot geometry old i
    → state geometry new ≡ put_entry i dot_dot d (state geometry old) → StaysBeside (graph_of geometry old) (graph_of geometry new) i
    → size_of geometry new i ≡ 32
dots_size geometry old new i d dotted makes beside =
    size_held geometry new i 32 (insert (insert [] dot i) dot_dot d)
    (shape_with_entry geometry.edition (shape_with_entry geometry.edition no_shape dot) dot_dot)
    (directory_kept geometry old new i (beside.kind i) dotted.is) (dot_dot_held geometry old new i d dotted.has makes)
