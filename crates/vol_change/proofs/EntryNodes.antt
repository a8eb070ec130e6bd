-- The node that an entry in a directory of a sound image is for.
use Rattle.std.proofs.Common.{◌≡◌, ◌≢◌, ◌∙◌, sym, ap, ℕ, ◌<◌, ◌≤◌, not, true, false, true≢false, List, length, None, Some, inl, inr, arith}
use Rattle.std.specs.List.{list_any}
use Rattle.std.specs.Option.{IsSome, is_some, option_map}
use Rattle.std.proofs.lemmas.Bool.{cases_lt, cases_eq, cases_Bool}
use Rattle.std.proofs.lemmas.List.Folds.{list_any_at}
use Rattle.vol_layout.specs.Edition.{constants}
use Rattle.vol_layout.specs.Inode.{inode_of}
use Rattle.vol_layout.specs.declared.geometry.Geometry.{Geometry}
use Rattle.vol_layout.specs.declared.mode.Kind.TheVariants as kinds
use Rattle.vol_file.specs.Rules.{kind_at}
use Rattle.vol_file.proofs.StoredNames.{root_first}
use Rattle.vol_dir.specs.Entries.{IsDirectory, IsInUse, entry_at, slots}
use Rattle.vol_dir.specs.Names.{get, names_of, is_dots, dot}
use Rattle.vol_dir.specs.Search.{holds_other, slot_named}
use Rattle.vol_dir.specs.Tree.{tree}
use Rattle.vol_dir.proofs.NameMaps.{any_other}
use Rattle.vol_dir.proofs.ReadSlots.{slot_is, length-slots, entry_at_past}
use Rattle.vol_judge.specs.Graph.{graph_of}
use Rattle.vol_judge.proofs.EditedGraphs.{only_dots}
use Rattle.vol_judge.proofs.GraphParts.{not_free}
use Rattle.vol_judge.proofs.ImageGraphs.{entry_to, used_from, directory_to}
use Rattle.vol_change.specs.Nodes.{names_at}
use Rattle.vol_change.proofs.EntryStates.{names_is, named_slot}
use Rattle.vol_change.specs.Ready.{Rules1To12}
use Rattle.vol_change.proofs.ReadyLaws.{ready_whole, ready_graph}

-- an i-number that the tree gives for a name is given by the directory's slots
pub name_found : (geometry : Geometry) (image name : List ℕ) (d i : ℕ) → IsDirectory geometry image d
    → get (names_at (tree geometry image) d) name ≡ Some i → get (names_of (slots geometry image d)) name ≡ Some i
name_found geometry image name d i is named =
    ap (λ names. get names name) (sym (names_is geometry image d (record { first = is.first; last = is.last; kind = is.kind }))) ∙ named

-- a slot of the directory has the name
pub name_there : (geometry : Geometry) (image name : List ℕ) (d i : ℕ) → IsDirectory geometry image d
    → get (names_at (tree geometry image) d) name ≡ Some i → IsSome (get (names_of (slots geometry image d)) name)
name_there geometry image name d i is named = ap is_some (name_found geometry image name d i is named)

-- the entry is in the slot of the name
pub named_entry : (geometry : Geometry) (image name : List ℕ) (d i : ℕ) → IsDirectory geometry image d
    → get (names_at (tree geometry image) d) name ≡ Some i
    → (graph_of geometry image).entry d (slot_named name (slots geometry image d)) ≡ Some (name, i)
named_entry geometry image name d i is named =
    let found = name_found geometry image name d i is named in
    let holds = named_slot geometry image name d (ap is_some found) in
    entry_to geometry image name d (slot_named name (slots geometry image d)) i
    (record { directory = is; entry = holds.entry ∙ ap (option_map (λ (j : ℕ). (name, j))) found })

-- a node that an entry in a directory of a sound image is for is in use
pub named_used : (geometry : Geometry) (image name : List ℕ) (d i : ℕ) → Rules1To12 geometry image → IsDirectory geometry image d
    → get (names_at (tree geometry image) d) name ≡ Some i → IsInUse geometry image i
named_used geometry image name d i ready is named =
    let parts = (ready_graph geometry image ready).allocated d (slot_named name (slots geometry image d)) i name (named_entry geometry image name d i is named) in
    let inside = used_from geometry image i parts.1 in
    record { first = parts.0; last = inside.1; allocated = inside.2 }

-- an i-number in use is at least 1
pub used_first : (geometry : Geometry) (image : List ℕ) (i : ℕ) → IsInUse geometry image i → 1 ≤ i
used_first geometry image i used = let root = root_first geometry.edition in omega (arith, root, used.first)

-- an i-number in use that isn't a directory is above the root's
pub file_above : (geometry : Geometry) (image : List ℕ) (i : ℕ) → Rules1To12 geometry image → IsInUse geometry image i
    → kind_at geometry image i ≢ kinds.Directory → (constants geometry.edition).root < i
file_above geometry image i ready used other = elim (cases_eq i (constants geometry.edition).root) [
  | inl same ↦ absurd (other (ap (kind_at geometry image) same ∙ (ready_whole geometry image ready).sound.kinds.root))
  | inr apart ↦ let first = used.first in omega arith
]

-- an i-number with a name other than `.` and `..` is above the root's
pub directory_above : (geometry : Geometry) (image name : List ℕ) (d i : ℕ) → Rules1To12 geometry image → IsDirectory geometry image d
    → get (names_at (tree geometry image) d) name ≡ Some i → is_dots name ≡ false → (constants geometry.edition).root < i
directory_above geometry image name d i ready is named plain =
    let entry = named_entry geometry image name d i is named in
    let used = named_used geometry image name d i ready is named in
    elim (cases_eq i (constants geometry.edition).root) [
      | inl same ↦
          absurd ((ready_graph geometry image ready).root_none d (slot_named name (slots geometry image d))
          (name, entry ∙ ap (λ (n : ℕ). Some (name, n)) same, plain))
      | inr apart ↦ let first = used.first in omega arith
    ]

-- a directory of a sound image has at least one link
pub directory_linked : (geometry : Geometry) (image : List ℕ) (d : ℕ) → Rules1To12 geometry image → IsDirectory geometry image d
    → 1 ≤ (inode_of geometry.edition image d).links
directory_linked geometry image d ready is =
    let sound = ready_graph geometry image ready in
    let kind = directory_to geometry image d is in
    let self = sound.itself d kind in
    sound.linked d (sound.allocated d self.0 d dot self.1).0 (not_free ((graph_of geometry image).kind d) kind)

-- if the list of slots holds no name other than `.` and `..`, no single slot does
other_none : (geometry : Geometry) (image : List ℕ) (i s : ℕ) → list_any holds_other (slots geometry image i) ≡ false
    → holds_other (entry_at geometry image i s) ≡ false
other_none geometry image i s none = elim (cases_lt s (length (slots geometry image i))) [
  | inl low ↦ elim (cases_Bool (holds_other (entry_at geometry image i s))) [
    | inl held ↦
        absurd (true≢false (sym (list_any_at holds_other (slots geometry image i) s None low (ap holds_other (slot_is geometry image i s) ∙ held)) ∙ none))
    | inr free ↦ free
  ]
  | inr past ↦
      let len = length-slots geometry image i in
      ap holds_other (entry_at_past geometry image i s (omega (arith, past, len)))
]

-- if the map has only `.` and `..`, all entries are `.` or `..`
pub dots_only : (geometry : Geometry) (image word : List ℕ) (i t j : ℕ) → IsDirectory geometry image i
    → list_any (λ (entry : List ℕ × ℕ). not (is_dots entry.0)) (names_at (tree geometry image) i) ≡ false
    → (graph_of geometry image).entry i t ≡ Some (word, j) → is_dots word ≡ true
dots_only geometry image word i t j is only some =
    let names = names_is geometry image i (record { first = is.first; last = is.last; kind = is.kind }) in
    let none : list_any holds_other (slots geometry image i) ≡ false =
    sym (any_other (slots geometry image i)) ∙ (ap (list_any (λ (entry : List ℕ × ℕ). not (is_dots entry.0))) (sym names) ∙ only) in
    only_dots geometry image word i t j (λ s. other_none geometry image i s none) some
