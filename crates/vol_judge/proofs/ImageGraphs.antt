-- Rules 9 to 12 of an image are equivalent to those of its graph.
use Rattle.std.proofs.Common.{◌≡◌, ◌≢◌, ◌∙◌, sym, ap, refl, ℕ, ◌/◌, ◌≤◌, if◌then◌else◌, true, false, List, map, None, Some, inl, inr, arith}
use Rattle.std.specs.List.{count_by, range_with_len}
use Rattle.std.proofs.lemmas.Bool.{le-leb, leb-true, and_parts, and_from, le-ltb}
use Rattle.vol_layout.specs.Edition.{constants}
use Rattle.vol_layout.specs.BlockMaps.{has_places}
use Rattle.vol_layout.specs.Geometry.{Fits}
use Rattle.vol_layout.specs.declared.geometry.Geometry.{Geometry}
use Rattle.vol_layout.specs.declared.mode.Kind.{Kind}
use Rattle.vol_layout.specs.declared.mode.Kind.TheVariants as kinds
use Rattle.vol_file.specs.Rules.{size_of, kind_at, HasKinds, HasSizes}
use Rattle.vol_dir.specs.Entries.{slot_count, entry_at, slots, IsDirectory, HasEntry, HasEntries}
use Rattle.vol_dir.specs.Names.{dot, dot_dot}
use Rattle.vol_dir.specs.Tree.{is_number}
use Rattle.vol_file.proofs.StoredNames.{root_first}
use Rattle.vol_judge.specs.Directories.{is_for, count_in, entry_count, root_of, Enters, IsReached, at_root as root_reached, below as one_reached, HasDots, IsTree, HasLinks}
use Rattle.vol_judge.specs.Graph.{entry_by, kind_in, graph_of, IsGraphWithin, Leads, IsBelow, at_root as root_below, below as one_below, counted_in, counted, IsGraphSound}
use Rattle.vol_judge.proofs.GraphParts.{is_directory}
use Rattle.vol_judge.proofs.GraphCounts.{sum_same, slots_none}

-- an i-number of the volume has the same kind in the image and in the graph
pub kind_inside : (geometry : Geometry) (image : List ℕ) (i : ℕ) → 1 ≤ i → i ≤ geometry.last_inode → kind_in geometry image i ≡ kind_at geometry image i
kind_inside geometry image i first last =
    ap (λ b. if b then kind_at geometry image i else kinds.Free) (and_from _ _ (le-leb 1 i first) (le-leb i geometry.last_inode last))

-- a node that isn't free in the graph has an i-number of the volume
pub inside_from : (geometry : Geometry) (image : List ℕ) (i : ℕ) → kind_in geometry image i ≢ kinds.Free → (1 ≤ i) × (i ≤ geometry.last_inode)
inside_from geometry image i used = elim (is_number geometry i) as (λ b. is_number geometry i ≡ b → (1 ≤ i) × (i ≤ geometry.last_inode)) [
  | true ↦ λ e. let parts = and_parts _ _ e in (leb-true 1 i parts.0, leb-true i geometry.last_inode parts.1)
  | false ↦ λ e. absurd (used (ap (λ b. if b then kind_at geometry image i else kinds.Free) e))
] refl

-- a directory of the image is a directory of the graph
pub directory_to : (geometry : Geometry) (image : List ℕ) (d : ℕ) → IsDirectory geometry image d → kind_in geometry image d ≡ kinds.Directory
directory_to geometry image d directory = kind_inside geometry image d directory.first directory.last ∙ directory.kind

-- a directory of the graph is a directory of the image
pub directory_from : (geometry : Geometry) (image : List ℕ) (d : ℕ) → kind_in geometry image d ≡ kinds.Directory → IsDirectory geometry image d
directory_from geometry image d is =
    let inside = inside_from geometry image d (λ e. let clash : kinds.Directory ≡ kinds.Free = sym is ∙ e in cc) in
    record { first = inside.0; last = inside.1; kind = sym (kind_inside geometry image d inside.0 inside.1) ∙ is }

-- an entry of the image is an entry of the graph
pub entry_to : (geometry : Geometry) (image name : List ℕ) (d s i : ℕ) → HasEntry geometry image d s name i
    → (graph_of geometry image).entry d s ≡ Some (name, i)
entry_to geometry image name d s i has = ap (λ k. entry_by k geometry image d s) (directory_to geometry image d has.directory) ∙ has.entry

-- an entry of the graph is an entry of the image
pub entry_from : (geometry : Geometry) (image name : List ℕ) (d s i : ℕ) → (graph_of geometry image).entry d s ≡ Some (name, i)
    → HasEntry geometry image d s name i
entry_from geometry image name d s i is =
    elim (kind_in geometry image d) as (λ k. kind_in geometry image d ≡ k → entry_by k geometry image d s ≡ Some (name, i) → HasEntry geometry image d s name i) [
      | kinds.Directory ↦ λ e entry. record { directory = directory_from geometry image d e; entry = entry }
      | kinds.Free ↦ λ e entry. cc
      | kinds.Regular ↦ λ e entry. cc
      | kinds.Special ↦ λ e entry. cc
      | kinds.Odd ↦ λ e entry. cc
    ] refl is

-- an entry of the image, other than `.` and `..`, is also in the graph
pub leads_to : (geometry : Geometry) (image : List ℕ) (d s i : ℕ) → Enters geometry image d s i → Leads (graph_of geometry image) d s i
leads_to geometry image d s i enters = (enters.0, entry_to geometry image enters.0 d s i enters.1, enters.2)

-- an entry of the graph, other than `.` and `..`, is also in the image
pub leads_from : (geometry : Geometry) (image : List ℕ) (d s i : ℕ) → Leads (graph_of geometry image) d s i → Enters geometry image d s i
leads_from geometry image d s i leads = (leads.0, entry_from geometry image leads.0 d s i leads.1, leads.2)

-- a node reached from the root in the image is below the root in the graph
pub reached_to : (geometry : Geometry) (image : List ℕ) (i : ℕ) → IsReached geometry image i → IsBelow (graph_of geometry image) (root_of geometry) i
reached_to geometry image i root_reached = root_below
reached_to geometry image i (one_reached d s j above enters) =
    one_below d s j (reached_to geometry image d above) (leads_to geometry image d s j enters)

-- a node below the root in the graph is reached from the root in the image
pub reached_from : (geometry : Geometry) (image : List ℕ) (i : ℕ) → IsBelow (graph_of geometry image) (root_of geometry) i → IsReached geometry image i
reached_from geometry image i root_below = root_reached
reached_from geometry image i (one_below d s j above leads) =
    one_reached d s j (reached_from geometry image d above) (leads_from geometry image d s j leads)

-- a slot past the size of a directory is empty
slot_past : (geometry : Geometry) (image : List ℕ) (d s : ℕ) → size_of geometry image d / 16 ≤ s → entry_at geometry image d s ≡ None
unfolding entry_at
slot_past geometry image d s past = rw (le-ltb s (slot_count geometry image d) (omega (arith, past)))

-- a slot without an entry has none in the graph either, for any kind of i-node
pub empty_by : (kind : Kind) (geometry : Geometry) (image : List ℕ) (d s : ℕ) → entry_at geometry image d s ≡ None → entry_by kind geometry image d s ≡ None
empty_by kinds.Directory geometry image d s none = none
empty_by kinds.Free geometry image d s none = refl
empty_by kinds.Regular geometry image d s none = refl
empty_by kinds.Special geometry image d s none = refl
empty_by kinds.Odd geometry image d s none = refl

-- only directories have slots
pub other_by : (kind : Kind) (geometry : Geometry) (image : List ℕ) (d s : ℕ) → kind ≢ kinds.Directory → entry_by kind geometry image d s ≡ None
other_by kinds.Directory geometry image d s other = absurd (other refl)
other_by kinds.Free geometry image d s other = refl
other_by kinds.Regular geometry image d s other = refl
other_by kinds.Special geometry image d s other = refl
other_by kinds.Odd geometry image d s other = refl

-- the graph of an image has no node outside the volume's i-numbers, and no entry past a directory's size
pub graph_within : (geometry : Geometry) (image : List ℕ) → IsGraphWithin (graph_of geometry image) geometry.last_inode
graph_within geometry image = record {
  numbers = inside_from geometry image;
  slots = λ d s past. empty_by (kind_in geometry image d) geometry image d s (slot_past geometry image d s past);
  directories = λ d s other. other_by (kind_in geometry image d) geometry image d s other;
}

-- an i-number that isn't a directory has no entries to count
other_count : (kind : Kind) (geometry : Geometry) (image : List ℕ) (i d : ℕ) → kind ≢ kinds.Directory → count_in geometry image i d kind ≡ 0
other_count kinds.Directory geometry image i d other = absurd (other refl)
other_count kinds.Free geometry image i d other = refl
other_count kinds.Regular geometry image i d other = refl
other_count kinds.Special geometry image i d other = refl
other_count kinds.Odd geometry image i d other = refl

-- the number of entries for i in one directory is the same in the image and in the graph
count_to_graph : (geometry : Geometry) (image : List ℕ) (i d : ℕ) → HasSizes geometry image → 1 ≤ d → d ≤ geometry.last_inode
    → count_in geometry image i d (kind_at geometry image d) ≡ counted_in (graph_of geometry image) i d
unfolding slots
count_to_graph geometry image i d sizes first last = elim (is_directory (kind_at geometry image d)) [
  | inl directory ↦
      let limit : size_of geometry image d ≤ (constants geometry.edition).greatest =
      sizes.greatest d (record { first = first; last = last; kind = ap has_places directory }) in
      let count : slot_count geometry image d ≡ size_of geometry image d / 16 = omega (arith, limit) in
      let kind : kind_in geometry image d ≡ kinds.Directory = kind_inside geometry image d first last ∙ directory in
      ap (count_in geometry image i d) directory
      ∙ (ap (λ n. count_by (is_for i) (map (entry_at geometry image d) (range_with_len 0 n))) count
      ∙ ap (λ k. count_by (is_for i) (map (λ s. entry_by k geometry image d s) (range_with_len 0 (size_of geometry image d / 16)))) (sym kind))
  | inr other ↦
      let none : kind_in geometry image d ≢ kinds.Directory = λ e. other (sym (kind_inside geometry image d first last) ∙ e) in
      other_count (kind_at geometry image d) geometry image i d other
      ∙ sym (slots_none (graph_of geometry image) i d
      (λ t name e. let empty : (graph_of geometry image).entry d t ≡ None = (graph_within geometry image).directories d t none in cc))
]

-- the number of all entries for i is the same in the image and in the graph
pub counted_to_graph : (geometry : Geometry) (image : List ℕ) (i : ℕ) → HasSizes geometry image
    → entry_count geometry image i ≡ counted (graph_of geometry image) geometry.last_inode i
unfolding entry_count counted
counted_to_graph geometry image i sizes =
    sum_same (λ d. count_in geometry image i d (kind_at geometry image d)) (counted_in (graph_of geometry image) i) 1 geometry.last_inode
    (λ d low high. count_to_graph geometry image i d sizes low (omega (arith, high)))

-- an i-number from the root's to the last that isn't free in the image isn't free in the graph
pub used_to : (geometry : Geometry) (image : List ℕ) (i : ℕ) → root_of geometry ≤ i → i ≤ geometry.last_inode → kind_at geometry image i ≢ kinds.Free
    → kind_in geometry image i ≢ kinds.Free
used_to geometry image i from to used e =
    let one = root_first geometry.edition in
    let first : 1 ≤ i = omega (arith, one, from) in used (sym (kind_inside geometry image i first to) ∙ e)

-- a node that isn't free in the graph isn't free in the image
pub used_from : (geometry : Geometry) (image : List ℕ) (i : ℕ) → kind_in geometry image i ≢ kinds.Free
    → (1 ≤ i) × (i ≤ geometry.last_inode) × (kind_at geometry image i ≢ kinds.Free)
used_from geometry image i used =
    let inside = inside_from geometry image i used in
    (inside.0, inside.1, (λ e. used (kind_inside geometry image i inside.0 inside.1 ∙ e)))

-- if rule 3 holds, the root is a directory
root_is : (geometry : Geometry) (image : List ℕ) → Fits geometry image → HasKinds geometry image → IsDirectory geometry image (root_of geometry)
root_is geometry image fits kept = record { first = root_first geometry.edition; last = let low = fits.root in omega (arith, low); kind = kept.root }

-- if rules 3, 4 and 9 to 12 hold for an image, rules 9 to 12 hold for its graph
pub graph_from_rules : (geometry : Geometry) (image : List ℕ) → Fits geometry image → HasKinds geometry image → HasSizes geometry image
    → HasEntries geometry image → HasDots geometry image → IsTree geometry image → HasLinks geometry image → IsGraphSound (graph_of geometry image) (root_of geometry) geometry.last_inode
graph_from_rules geometry image fits known sizes entries dots tree links = record {
  whole = λ d is. entries.whole d (directory_from geometry image d is);
  named = λ d s i name e. entries.named d s i name (entry_from geometry image name d s i e);
  allocated = λ d s i name e.
      let used = entries.allocated d s i name (entry_from geometry image name d s i e) in (used.0, used_to geometry image i used.0 used.1 used.2);
  once = λ d s t i j name e f. entries.once d s t i j name (entry_from geometry image name d s i e) (entry_from geometry image name d t j f);
  itself = λ d is. let self = dots.itself d (directory_from geometry image d is) in (self.0, entry_to geometry image dot d self.0 d self.1);
  of_root =
      let up = dots.root (root_is geometry image fits known) in (up.0, entry_to geometry image dot_dot (root_of geometry) up.0 (root_of geometry) up.1);
  parent = λ d is other.
      let above = dots.parent d (directory_from geometry image d is) other in
      (above.0, above.1, above.2, entry_to geometry image dot_dot d above.0 above.1 above.3, leads_to geometry image above.1 above.2 d above.4);
  reached = λ d is. reached_to geometry image d (tree.reached d (directory_from geometry image d is));
  one = λ d e s f t is first second.
      tree.one d e s f t (directory_from geometry image d is) (leads_from geometry image e s d first) (leads_from geometry image f t d second);
  root_none = λ e s leads. tree.root_none e s (leads_from geometry image e s (root_of geometry) leads);
  counts = λ i used.
      let inside = used_from geometry image i used in links.counts i inside.0 inside.1 inside.2 ∙ counted_to_graph geometry image i sizes;
  linked = λ i from used. let inside = used_from geometry image i used in links.linked i from inside.1 inside.2;
}

-- if rules 9 to 12 hold for the graph of an image, they hold for the image
pub rules_from_graph : (geometry : Geometry) (image : List ℕ) → HasSizes geometry image
    → IsGraphSound (graph_of geometry image) (root_of geometry) geometry.last_inode
    → HasEntries geometry image × HasDots geometry image × IsTree geometry image × HasLinks geometry image
rules_from_graph geometry image sizes sound = (
  record {
    whole = λ d is. sound.whole d (directory_to geometry image d is);
    named = λ d s i name e. sound.named d s i name (entry_to geometry image name d s i e);
    allocated = λ d s i name e.
        let used = sound.allocated d s i name (entry_to geometry image name d s i e) in
        let inside = used_from geometry image i used.1 in (used.0, inside.1, inside.2);
    once = λ d s t i j name e f. sound.once d s t i j name (entry_to geometry image name d s i e) (entry_to geometry image name d t j f);
  },
  record {
    itself = λ d is. let self = sound.itself d (directory_to geometry image d is) in (self.0, entry_from geometry image dot d self.0 d self.1);
    root = λ is. (sound.of_root.0, entry_from geometry image dot_dot (root_of geometry) sound.of_root.0 (root_of geometry) sound.of_root.1);
    parent = λ d is other.
        let above = sound.parent d (directory_to geometry image d is) other in
        (above.0, above.1, above.2, entry_from geometry image dot_dot d above.0 above.1 above.3, leads_from geometry image above.1 above.2 d above.4);
  },
  record {
    reached = λ d is. reached_from geometry image d (sound.reached d (directory_to geometry image d is));
    one = λ d e s f t is first second.
        sound.one d e s f t (directory_to geometry image d is) (leads_to geometry image e s d first) (leads_to geometry image f t d second);
    root_none = λ e s enters. sound.root_none e s (leads_to geometry image e s (root_of geometry) enters);
  },
  record {
    counts = λ i first last used.
        sound.counts i (λ e. used (sym (kind_inside geometry image i first last) ∙ e)) ∙ sym (counted_to_graph geometry image i sizes);
    linked = λ i from last used. sound.linked i from (used_to geometry image i from last used);
  },
)
