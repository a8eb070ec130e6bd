-- A node that is created or gets a link, and then gets a name.
use Rattle.std.proofs.Common.{◌≡◌, ◌≢◌, ◌∙◌, sym, ap, refl, ℕ, ◌+◌, List, length, Option, None, Some, arith}
use Rattle.std.proofs.lemmas.Slice.Eq.{bytes_eq-Decides}
use Rattle.vol_layout.specs.declared.geometry.Geometry.{Geometry}
use Rattle.vol_layout.specs.declared.mode.Kind.{Kind}
use Rattle.vol_layout.specs.declared.mode.Kind.TheVariants as kinds
use Rattle.vol_dir.specs.Entries.{IsDirectory}
use Rattle.vol_dir.specs.Names.{get}
use Rattle.vol_dir.specs.Search.{holds}
use Rattle.vol_dir.specs.Tree.{state}
use Rattle.vol_dir.specs.Walk.{IsComponent}
use Rattle.vol_dir.proofs.NewEntries.{not_held}
use Rattle.vol_judge.specs.Directories.{root_of}
use Rattle.vol_judge.specs.Graph.{Graph, graph_of, IsGraphSound}
use Rattle.vol_judge.specs.GraphEdits.{IsNewName, ChangesSlot, KeepsOthers, AddsFile, AddsLink}
use Rattle.vol_judge.proofs.ImageGraphs.{entry_from}
use Rattle.vol_change.specs.Beside.{StaysBeside}
use Rattle.vol_change.specs.NodeGraphs.{SetsLinks, AddsNode}
use Rattle.vol_change.specs.Whole.{Keeps}
use Rattle.vol_change.proofs.EntryStates.{names_is}
use Rattle.vol_change.specs.Ready.{Rules1To12, TakesName}
use Rattle.vol_change.proofs.ReadyLaws.{ready_graph, ready_from}
use Rattle.vol_change.proofs.SideStates.{KeepsDirectory}

-- a directory isn't the node that was free
pub not_made : (graph : Graph) (d made : ℕ) → graph.kind d ≡ kinds.Directory → graph.kind made ≡ kinds.Free → d ≢ made
not_made graph d made is free same = let clash : kinds.Directory ≡ kinds.Free = sym is ∙ (ap graph.kind same ∙ free) in cc

-- creating a node changes no directory
pub made_keeps : (old new : Graph) (d made : ℕ) (kind : Kind) (count : ℕ) → AddsNode old new made kind count → old.kind d ≡ kinds.Directory
    → KeepsDirectory old new d
made_keeps old new d made kind count adds is =
    let other = not_made old d made is adds.was in
    record {
      kind = adds.others.kind d other;
      size = adds.others.size d other other is;
      entry = λ s. adds.others.entry d s other other;
    }

-- changing a link count changes no directory
pub linked_keeps : (old new : Graph) (d i count : ℕ) → SetsLinks old new i count → old.kind d ≡ kinds.Directory → KeepsDirectory old new d
linked_keeps old new d i count sets is = record { kind = sets.kind d; size = sets.size d is; entry = sets.entry d }

-- a change of a slot of d, after a change that leaves d unchanged, is a change of the slot
pub slot_then : (old mid new : Graph) (d s : ℕ) (was is : Option (List ℕ × ℕ)) → KeepsDirectory old mid d → old.kind d ≡ kinds.Directory
    → ChangesSlot mid new d s was is → ChangesSlot old new d s was is
slot_then old mid new d s was is kept directory slot = record {
  directory = directory;
  was = sym (kept.entry s) ∙ slot.was;
  is = slot.is;
  beside = λ t other. slot.beside t other ∙ kept.entry t;
  whole = slot.whole;
}

-- if one change leaves everything but node i unchanged, and the next everything but directory d, both leave everything but i and d unchanged
pub others_then : (old mid new : Graph) (d i : ℕ) → KeepsOthers old mid i i → StaysBeside mid new d → KeepsOthers old new d i
others_then old mid new d i others beside = record {
  kind = λ x away. beside.kind x ∙ others.kind x away;
  size = λ x other away is. beside.size x other (others.kind x away ∙ is) ∙ others.size x away away is;
  entry = λ x t other away. beside.entry x t other ∙ others.entry x t away away;
}

-- if one change leaves all link counts but that of i unchanged, and the next changes only entries of d, both leave all link counts but that of i
-- unchanged
kept_then : (old mid new : Graph) (d i : ℕ) → ((x : ℕ) → x ≢ i → mid.kind x ≡ old.kind x)
    → ((x : ℕ) → x ≢ i → old.kind x ≢ kinds.Free → mid.links x ≡ old.links x) → StaysBeside mid new d
    → (x : ℕ) → x ≢ i → old.kind x ≢ kinds.Free → new.links x ≡ old.links x
kept_then old mid new d i kind kept beside x other used = beside.links x (λ free. used (sym (kind x other) ∙ free)) ∙ kept x other used

-- creating a node that is no directory and then its entry is `AddsFile`
pub file_added : (old mid new : Graph) (made d s : ℕ) (name : List ℕ) (kind : Kind) → kind ≢ kinds.Free → kind ≢ kinds.Directory
    → AddsNode old mid made kind 1 → old.kind d ≡ kinds.Directory
    → ChangesSlot mid new d s None (Some (name, made)) → StaysBeside mid new d → AddsFile old new made d s name
file_added old mid new made d s name kind used other adds is slot beside = record {
  slot = slot_then old mid new d s None (Some (name, made)) (made_keeps old mid d made kind 1 adds is) is slot;
  others = others_then old mid new d made adds.others beside;
  was = adds.was;
  used = λ free. used (sym adds.kind ∙ (sym (beside.kind made) ∙ free));
  other = λ dir. other (sym adds.kind ∙ (sym (beside.kind made) ∙ dir));
  links = beside.links made (λ free. used (sym adds.kind ∙ free)) ∙ adds.links;
  kept = kept_then old mid new d made adds.others.kind adds.kept beside;
}

-- adding a link and then an entry is `AddsLink`
pub link_added : (old mid new : Graph) (i d s : ℕ) (name : List ℕ) → SetsLinks old mid i (old.links i + 1) → old.kind i ≢ kinds.Free
    → old.kind i ≢ kinds.Directory → old.kind d ≡ kinds.Directory → ChangesSlot mid new d s None (Some (name, i)) → StaysBeside mid new d
    → AddsLink old new i d s name
link_added old mid new i d s name sets used other is slot beside =
    let others : KeepsOthers old mid i i = record { kind = λ x away. sets.kind x; size = λ x one two is. sets.size x is; entry = λ x t one two. sets.entry x t } in
    record {
      slot = slot_then old mid new d s None (Some (name, i)) (linked_keeps old mid d i (old.links i + 1) sets is) is slot;
      others = others_then old mid new d i others beside;
      used = used;
      other = other;
      kind = beside.kind i ∙ sets.kind i;
      links = beside.links i (λ free. used (sym (sets.kind i) ∙ free)) ∙ sets.links;
      kept = kept_then old mid new d i (λ x away. sets.kind x) sets.kept beside;
    }

-- a name that isn't in the directory's map is new in the graph
pub new_name : (geometry : Geometry) (image : List ℕ) (d : ℕ) (name : List ℕ) → IsDirectory geometry image d
    → TakesName (state geometry image) d name → IsComponent name → IsNewName (graph_of geometry image) d name
new_name geometry image d name is takes component =
    let none = ap (λ names. get names name) (sym (names_is geometry image d (record { first = is.first; last = is.last; kind = is.kind }))) ∙ takes.fresh in
    record {
      fresh = λ s i e.
          not_held geometry image d s name none
          (ap (holds name) (entry_from geometry image name d s i e).entry ∙ (bytes_eq-Decides name name).1 refl);
      some = λ e. let zero : length name ≡ 0 = ap length e in omega (arith, component.some);
      plain = component.plain;
    }

-- an image in which a directory got a name is sound if its graph stays sound
pub named_ready : (geometry : Geometry) (old new : List ℕ) (d : ℕ) (name : List ℕ) → Rules1To12 geometry old → IsDirectory geometry old d
    → TakesName (state geometry old) d name → IsComponent name → Keeps geometry old new
    → (IsGraphSound (graph_of geometry old) (root_of geometry) geometry.last_inode → IsNewName (graph_of geometry old) d name
    → IsGraphSound (graph_of geometry new) (root_of geometry) geometry.last_inode) → Rules1To12 geometry new
named_ready geometry old new d name ready is takes component keeps sound =
    ready_from geometry old new ready keeps (sound (ready_graph geometry old ready) (new_name geometry old d name is takes component))
