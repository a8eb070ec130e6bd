-- The change of an image's graph when the image changes.
use Rattle.std.proofs.Common.{◌≡◌, ◌≢◌, ◌∙◌, sym, ap, refl, ℕ, ◌%◌, ◌≤◌, ◌==◌, true, false, if◌then◌else◌, List, [], Option, None, Some, inl, inr}
use Rattle.std.specs.List.{list_any}
use Rattle.std.proofs.lemmas.Bool.{cases_Bool, and_parts, leb-true, not-false}
use Rattle.vol_layout.specs.Inode.{inode_of}
use Rattle.vol_layout.specs.declared.geometry.Geometry.{Geometry}
use Rattle.vol_layout.specs.declared.mode.Kind.TheVariants as kinds
use Rattle.vol_file.specs.Rules.{size_of, kind_at}
use Rattle.vol_file.proofs.PlaceLists.{bytes_same}
use Rattle.vol_dir.specs.Entries.{entry_at, slots, IsDirectory}
use Rattle.vol_dir.specs.Names.{get, names_of, is_dots}
use Rattle.vol_dir.specs.Search.{holds, holds_other}
use Rattle.vol_dir.specs.Tree.{is_number}
use Rattle.vol_dir.proofs.NewEntries.{not_held}
use Rattle.vol_dir.proofs.PutSlots.{Replaces}
use Rattle.vol_judge.specs.Graph.{entry_by, kind_in, graph_of}
use Rattle.vol_judge.specs.GraphEdits.{IsSameGraph, IsNewName, ChangesSlot, KeepsOthers}
use Rattle.vol_judge.proofs.GraphParts.{is_directory}
use Rattle.vol_judge.proofs.ImageGraphs.{kind_inside, inside_from, directory_to, directory_from, entry_from, other_by}

-- if x has the same kind in both images, or isn't an i-number of the volume, it has the same kind in both graphs
pub kind_kept : (geometry : Geometry) (old new : List ℕ) (x : ℕ)
    → (1 ≤ x → x ≤ geometry.last_inode → kind_at geometry new x ≡ kind_at geometry old x) → kind_in geometry new x ≡ kind_in geometry old x
kind_kept geometry old new x same = elim (cases_Bool (is_number geometry x)) [
  | inl is ↦
      let parts = and_parts _ _ is in
      ap (λ k. if is_number geometry x then k else kinds.Free) (same (leb-true 1 x parts.0) (leb-true x geometry.last_inode parts.1))
  | inr other ↦
      ap (λ b. if b then kind_at geometry new x else kinds.Free) other
      ∙ sym (ap (λ b. if b then kind_at geometry old x else kinds.Free) other)
]

-- if the slots of a directory are the same in both images, its entries are the same in both graphs; other nodes have none
pub entry_kept : (geometry : Geometry) (old new : List ℕ) (x t : ℕ) → kind_in geometry new x ≡ kind_in geometry old x
    → (IsDirectory geometry old x → entry_at geometry new x t ≡ entry_at geometry old x t)
    → (graph_of geometry new).entry x t ≡ (graph_of geometry old).entry x t
entry_kept geometry old new x t kind same =
    ap (λ k. entry_by k geometry new x t) kind
    ∙ elim (is_directory (kind_in geometry old x)) [
      | inl is ↦
          ap (λ k. entry_by k geometry new x t) is
          ∙ (same (directory_from geometry old x is) ∙ sym (ap (λ k. entry_by k geometry old x t) is))
      | inr other ↦ other_by (kind_in geometry old x) geometry new x t other ∙ sym (other_by (kind_in geometry old x) geometry old x t other)
    ]

-- if only d and i change in the image, only they change in the graph
pub keeps_others : (geometry : Geometry) (old new : List ℕ) (d i : ℕ)
    → ((x : ℕ) → 1 ≤ x → x ≤ geometry.last_inode → x ≢ i → kind_at geometry new x ≡ kind_at geometry old x)
    → ((x : ℕ) → IsDirectory geometry old x → x ≢ d → x ≢ i → size_of geometry new x ≡ size_of geometry old x)
    → ((x t : ℕ) → IsDirectory geometry old x → x ≢ d → x ≢ i → entry_at geometry new x t ≡ entry_at geometry old x t)
    → KeepsOthers (graph_of geometry old) (graph_of geometry new) d i
keeps_others geometry old new d i kind size entry = record {
  kind = λ x other. kind_kept geometry old new x (λ first last. kind x first last other);
  size = λ x away other is. size x (directory_from geometry old x is) away other;
  entry = λ x t away other.
      entry_kept geometry old new x t (kind_kept geometry old new x (λ first last. kind x first last other)) (λ is. entry x t is away other);
}

-- if kinds, link counts, and the sizes and entries of directories are the same in both images, so are the graphs
pub same_graph : (geometry : Geometry) (old new : List ℕ)
    → ((x : ℕ) → 1 ≤ x → x ≤ geometry.last_inode → kind_at geometry new x ≡ kind_at geometry old x)
    → ((x : ℕ) → 1 ≤ x → x ≤ geometry.last_inode → (inode_of geometry.edition new x).links ≡ (inode_of geometry.edition old x).links)
    → ((x : ℕ) → IsDirectory geometry old x → size_of geometry new x ≡ size_of geometry old x)
    → ((x t : ℕ) → IsDirectory geometry old x → entry_at geometry new x t ≡ entry_at geometry old x t)
    → IsSameGraph (graph_of geometry old) (graph_of geometry new)
same_graph geometry old new kind links size entry = record {
  kind = λ x. kind_kept geometry old new x (kind x);
  links = λ x used. let inside = inside_from geometry old x used in links x inside.0 inside.1;
  size = λ x is. size x (directory_from geometry old x is);
  entry = λ x t. entry_kept geometry old new x t (kind_kept geometry old new x (kind x)) (entry x t);
}

-- replacing an entry of a directory in the image changes one slot in the graph
pub changes_slot : (geometry : Geometry) (old new : List ℕ) (d s : ℕ) (before after : Option (List ℕ × ℕ)) → IsDirectory geometry old d
    → kind_at geometry new d ≡ kinds.Directory → size_of geometry new d % 16 ≡ 0 → entry_at geometry old d s ≡ before
    → Replaces geometry old new d s after → ChangesSlot (graph_of geometry old) (graph_of geometry new) d s before after
changes_slot geometry old new d s before after directory kind whole was replaced =
    let old_kind = directory_to geometry old d directory in
    let new_kind : kind_in geometry new d ≡ kinds.Directory = kind_inside geometry new d directory.first directory.last ∙ kind in
    record {
      directory = old_kind;
      was = ap (λ k. entry_by k geometry old d s) old_kind ∙ was;
      is = ap (λ k. entry_by k geometry new d s) new_kind ∙ replaced.here;
      beside = λ t other.
          ap (λ k. entry_by k geometry new d t) new_kind
          ∙ (replaced.others t other ∙ sym (ap (λ k. entry_by k geometry old d t) old_kind));
      whole = whole;
    }

-- a valid name that isn't in the map of a directory is new in the graph
pub new_name : (geometry : Geometry) (image name : List ℕ) (d : ℕ) → get (names_of (slots geometry image d)) name ≡ None → name ≢ []
    → list_any (λ c. c == 47) name ≡ false → IsNewName (graph_of geometry image) d name
new_name geometry image name d none some plain = record {
  fresh = λ s i entry.
      not_held geometry image d s name none (ap (holds name) (entry_from geometry image name d s i entry).entry ∙ bytes_same name name refl);
  some = some;
  plain = plain;
}

-- a directory in which no slot holds a name other than `.` and `..` has only these entries in the graph
pub only_dots : (geometry : Geometry) (image word : List ℕ) (i t j : ℕ) → ((s : ℕ) → holds_other (entry_at geometry image i s) ≡ false)
    → (graph_of geometry image).entry i t ≡ Some (word, j) → is_dots word ≡ true
only_dots geometry image word i t j none some =
    not-false (is_dots word) (sym (ap holds_other (entry_from geometry image word i t j some).entry) ∙ none t)
