-- Consequences of the rules of a graph.
use Rattle.std.proofs.Common.{◌≡◌, ◌≢◌, ◌∙◌, sym, ap, refl, ℕ, ◌+◌, true, false, List, Option, Some, inl, inr, ◌⊎◌, arith}
use Rattle.std.specs.Option.{option_map_or}
use Rattle.std.specs.Str.{bytes_eq}
use Rattle.std.proofs.lemmas.Bool.{cases_eq, or_cases, or_from, false_from_ne_true}
use Rattle.vol_file.proofs.PlaceLists.{same_bytes}
use Rattle.vol_dir.specs.Names.{dot, dot_dot, is_dots}
use Rattle.vol_judge.specs.Graph.{Graph, IsGraphWithin, Leads, IsBelow, at_root, below, counted, IsGraphSound}
use Rattle.vol_judge.specs.GraphEdits.{IsSameGraph, IsNewName, ChangesSlot, KeepsOthers}
use Rattle.vol_judge.proofs.GraphCounts.{one_for, counted_none, counted_same, counted_but, slots_same, slot_changed}
use Rattle.vol_layout.specs.declared.mode.Kind.{Kind}
use Rattle.vol_layout.specs.declared.mode.Kind.TheVariants as kinds

-- an i-node is a directory, or not
pub is_directory : (kind : Kind) → (kind ≡ kinds.Directory) ⊎ (kind ≢ kinds.Directory)
is_directory kinds.Directory = inl refl
is_directory kinds.Free = inr (λ e. cc)
is_directory kinds.Regular = inr (λ e. cc)
is_directory kinds.Special = inr (λ e. cc)
is_directory kinds.Odd = inr (λ e. cc)

-- a directory isn't free
pub not_free : (kind : Kind) → kind ≡ kinds.Directory → kind ≢ kinds.Free
not_free kind is e = cc

-- a free i-node isn't a directory
pub not_directory : (kind : Kind) → kind ≡ kinds.Free → kind ≢ kinds.Directory
not_directory kind is e = cc

-- a node with an entry is a directory
pub has_entry : (graph : Graph) (last d s : ℕ) (entry : List ℕ × ℕ) → IsGraphWithin graph last → graph.entry d s ≡ Some entry
    → graph.kind d ≡ kinds.Directory
has_entry graph last d s entry within some = elim (is_directory (graph.kind d)) [
  | inl is ↦ is
  | inr other ↦ let none = within.directories d s other in absurd (cc)
]

-- equal entries have equal names and i-numbers
pub entry_parts : (name word : List ℕ) (i j : ℕ) → ◌≡◌ {A = Option (List ℕ × ℕ)} (Some (name, i)) (Some (word, j)) → (name ≡ word) × (i ≡ j)
entry_parts name word i j e =
    (ap (λ o. option_map_or (λ (entry : List ℕ × ℕ). entry.0) o name) e, ap (λ o. option_map_or (λ (entry : List ℕ × ℕ). entry.1) o i) e)

-- the root is a directory
pub root_directory : (graph : Graph) (root last : ℕ) → IsGraphWithin graph last → IsGraphSound graph root last → graph.kind root ≡ kinds.Directory
root_directory graph root last within sound = has_entry graph last root sound.of_root.0 (dot_dot, root) within sound.of_root.1

-- a directory has `..`
pub has_dot_dot : (graph : Graph) (root last d : ℕ) → IsGraphSound graph root last → graph.kind d ≡ kinds.Directory
    → (s : ℕ) × (e : ℕ) × (graph.entry d s ≡ Some (dot_dot, e))
has_dot_dot graph root last d sound is = elim (cases_eq d root) [
  | inl here ↦ (sound.of_root.0, root, ap (λ x. graph.entry x sound.of_root.0) here ∙ sound.of_root.1)
  | inr other ↦ let above = sound.parent d is other in (above.0, above.1, above.3)
]

-- a new name isn't `.` or `..`, since a directory has these
pub not_dots : (graph : Graph) (root last d : ℕ) (name : List ℕ) → IsGraphSound graph root last → graph.kind d ≡ kinds.Directory
    → IsNewName graph d name → is_dots name ≡ false
not_dots graph root last d name sound is new =
    let self = sound.itself d is in
    let up = has_dot_dot graph root last d sound is in
    or_from _ _
    (false_from_ne_true (bytes_eq name dot) (λ e. new.fresh self.0 d (self.1 ∙ ap (λ n. Some (n, d)) (sym (same_bytes name dot e)))))
    (false_from_ne_true (bytes_eq name dot_dot) (λ e. new.fresh up.0 up.1 (up.2 ∙ ap (λ n. Some (n, up.1)) (sym (same_bytes name dot_dot e)))))

-- there are no entries for a free i-node
pub counted_free : (graph : Graph) (root last i : ℕ) → IsGraphSound graph root last → graph.kind i ≡ kinds.Free → counted graph last i ≡ 0
counted_free graph root last i sound free = counted_none graph last i (λ d t name e. (sound.allocated d t i name e).1 free)

-- if i is a directory neither before nor after the change, only entries of d change
pub elsewhere : (old new : Graph) (last d i : ℕ) → IsGraphWithin old last → IsGraphWithin new last → KeepsOthers old new d i
    → old.kind i ≢ kinds.Directory → new.kind i ≢ kinds.Directory → (x t : ℕ) → x ≢ d → new.entry x t ≡ old.entry x t
elsewhere old new last d i before after others was is x t other = elim (cases_eq x i) [
  | inl here ↦
      ap (λ y. new.entry y t) here ∙ (after.directories i t is ∙ sym (ap (λ y. old.entry y t) here ∙ before.directories i t was))
  | inr away ↦ others.entry x t other away
]

-- if one slot changes, the number of entries for j changes by the entries for j in that slot
pub counted_slot : (old new : Graph) (last d s j : ℕ) (was is : Option (List ℕ × ℕ)) → IsGraphWithin old last → IsGraphWithin new last
    → ChangesSlot old new d s was is → ((x t : ℕ) → x ≢ d → new.entry x t ≡ old.entry x t)
    → counted new last j + one_for j was ≡ counted old last j + one_for j is
counted_slot old new last d s j was is before after slot away =
    let inside = before.numbers d (not_free (old.kind d) slot.directory) in
    let all = counted_but old new last j d inside.0 inside.1 (λ x other. slots_same old new last j x before after (λ t. away x t other)) in
    let here = slot_changed old new last j d s before after slot.beside in
    let first : one_for j (old.entry d s) ≡ one_for j was = ap (one_for j) slot.was in
    let second : one_for j (new.entry d s) ≡ one_for j is = ap (one_for j) slot.is in
    omega (arith, all, here, first, second)

-- a node below the root stays below it if all entries stay
pub below_same : (old new : Graph) (root i : ℕ) → ((d s j : ℕ) → Leads old d s j → Leads new d s j) → IsBelow old root i → IsBelow new root i
below_same old new root i stays at_root = at_root
below_same old new root i stays (below d s j above leads) = below d s j (below_same old new root d stays above) (stays d s j leads)

-- a node other than i stays below the root if no entry is in i and all entries for other nodes stay
pub below_kept : (old new : Graph) (root i x : ℕ) → ((e t j : ℕ) → Leads old e t j → e ≢ i)
    → ((e t j : ℕ) → j ≢ i → Leads old e t j → Leads new e t j) → IsBelow old root x → x ≢ i → IsBelow new root x
below_kept old new root i x apart stays at_root other = at_root
below_kept old new root i x apart stays (below e t j above leads) other =
    below e t j (below_kept old new root i e apart stays above (apart e t j leads)) (stays e t j other leads)

-- a name for which `is_dots` is true is `.` or `..`
pub dots_cases : (name : List ℕ) → is_dots name ≡ true → (name ≡ dot) ⊎ (name ≡ dot_dot)
dots_cases name e = elim (or_cases (bytes_eq name dot) (bytes_eq name dot_dot) e) [
  | inl one ↦ inl (same_bytes name dot one)
  | inr two ↦ inr (same_bytes name dot_dot two)
]

-- an entry `.` is for the directory itself
pub dot_is : (graph : Graph) (root last d s i : ℕ) → IsGraphSound graph root last → graph.kind d ≡ kinds.Directory
    → graph.entry d s ≡ Some (dot, i) → i ≡ d
dot_is graph root last d s i sound is some =
    let self = sound.itself d is in
    let place = sound.once d s self.0 i d dot some self.1 in
    (entry_parts dot dot i d (sym some ∙ (ap (graph.entry d) place ∙ self.1))).1

-- a graph stays sound if no directory changes
pub same_sound : (old new : Graph) (root last : ℕ) → IsGraphWithin old last → IsGraphWithin new last → IsGraphSound old root last
    → IsSameGraph old new → IsGraphSound new root last
same_sound old new root last before after sound same =
    let is : (d : ℕ) → new.kind d ≡ kinds.Directory → old.kind d ≡ kinds.Directory = λ d e. sym (same.kind d) ∙ e in
    let used : (i : ℕ) → new.kind i ≢ kinds.Free → old.kind i ≢ kinds.Free = λ i some e. some (same.kind i ∙ e) in
    let leads_on : (d s i : ℕ) → Leads old d s i → Leads new d s i = λ d s i leads. (leads.0, same.entry d s ∙ leads.1, leads.2) in
    let leads_back : (d s i : ℕ) → Leads new d s i → Leads old d s i = λ d s i leads. (leads.0, sym (same.entry d s) ∙ leads.1, leads.2) in
    record {
      whole = λ d e. let size = same.size d (is d e) in let whole = sound.whole d (is d e) in omega (arith, size, whole);
      named = λ d s i name e. sound.named d s i name (sym (same.entry d s) ∙ e);
      allocated = λ d s i name e.
          let some = sound.allocated d s i name (sym (same.entry d s) ∙ e) in (some.0, (λ none. some.1 (sym (same.kind i) ∙ none)));
      once = λ d s t i j name e f. sound.once d s t i j name (sym (same.entry d s) ∙ e) (sym (same.entry d t) ∙ f);
      itself = λ d e. let self = sound.itself d (is d e) in (self.0, same.entry d self.0 ∙ self.1);
      of_root = (sound.of_root.0, same.entry root sound.of_root.0 ∙ sound.of_root.1);
      parent = λ d e other.
          let above = sound.parent d (is d e) other in
          (above.0, above.1, above.2, same.entry d above.0 ∙ above.3, leads_on above.1 above.2 d above.4);
      reached = λ d e. below_same old new root d leads_on (sound.reached d (is d e));
      one = λ d e s f t of_d first second. sound.one d e s f t (is d of_d) (leads_back e s d first) (leads_back f t d second);
      root_none = λ e s leads. sound.root_none e s (leads_back e s root leads);
      counts = λ i some.
          same.links i (used i some) ∙ (sound.counts i (used i some)
          ∙ sym (counted_same old new last i (λ x. slots_same old new last i x before after (same.entry x))));
      linked = λ i from some. let links = same.links i (used i some) in let old_links = sound.linked i from (used i some) in omega (arith, links, old_links);
    }
