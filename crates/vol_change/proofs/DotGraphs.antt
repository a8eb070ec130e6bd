-- The graph after a directory is created.
use Rattle.std.proofs.Common.{◌≡◌, ◌≢◌, ◌∙◌, sym, ap, subst, ℕ, ◌+◌, ◌%◌, List, None, Some, arith}
use Rattle.vol_dir.specs.Names.{dot, dot_dot}
use Rattle.vol_judge.specs.Graph.{Graph}
use Rattle.vol_judge.specs.GraphEdits.{ChangesSlot, AddsDirectory}
use Rattle.vol_judge.proofs.GraphParts.{not_free}
use Rattle.vol_layout.specs.declared.mode.Kind.TheVariants as kinds
use Rattle.vol_change.specs.Beside.{StaysBeside}
use Rattle.vol_change.specs.NodeGraphs.{AddsNode, SetsLinks}
use Rattle.vol_change.specs.Dots.{AddsDots}

-- two changes of one directory's entries leave the rest of the graph unchanged
beside_then : (old mid new : Graph) (d : ℕ) → StaysBeside old mid d → StaysBeside mid new d → StaysBeside old new d
beside_then old mid new d a b = record {
  kind = λ x. b.kind x ∙ a.kind x;
  links = λ x used. b.links x (λ free. used (sym (a.kind x) ∙ free)) ∙ a.links x used;
  size = λ x other is. b.size x other (a.kind x ∙ is) ∙ a.size x other is;
  entry = λ x s other. b.entry x s other ∙ a.entry x s other;
}

-- adding two entries to an empty directory, in slots 0 and 1, is `AddsDots`
pub dots_added : (old mid new : Graph) (i d s t : ℕ) → ChangesSlot old mid i s None (Some (dot, i)) → StaysBeside old mid i
    → ChangesSlot mid new i t None (Some (dot_dot, d)) → StaysBeside mid new i → s ≡ 0 → t ≡ 1 → new.size i ≡ 32
    → ((k : ℕ) → old.entry i k ≡ None) → AddsDots old new i d
dots_added old mid new i d s t first beside second later is_s is_t size none =
    let one = subst (λ k. ChangesSlot old mid i k None (Some (dot, i))) is_s first in
    let two = subst (λ k. ChangesSlot mid new i k None (Some (dot_dot, d))) is_t second in
    record {
      beside = beside_then old mid new i beside later;
      size = size;
      itself = two.beside 0 (λ e. omega arith) ∙ one.is;
      parent = two.is;
      rest = λ k from. two.beside k (λ e. omega arith) ∙ (one.beside k (λ e. omega arith) ∙ none k);
    }

-- until the parent gets its link, no link count other than that of the new directory changes
pub dotted_links : (old bare named dotted : Graph) (made d x : ℕ) → AddsNode old bare made kinds.Directory 2 → StaysBeside bare named d
    → AddsDots named dotted made d → x ≢ made → old.kind x ≢ kinds.Free → dotted.links x ≡ old.links x
dotted_links old bare named dotted made d x adds beside dots other used =
    dots.beside.links x (λ free. used (sym (adds.others.kind x other) ∙ (sym (beside.kind x) ∙ free)))
    ∙ (beside.links x (λ free. used (sym (adds.others.kind x other) ∙ free)) ∙ adds.kept x other used)

-- a new i-node, its name in d, its own two entries, and one more link for d are together `AddsDirectory`
pub directory_added : (old bare named dotted new : Graph) (made d s : ℕ) (name : List ℕ) → made ≢ d
    → AddsNode old bare made kinds.Directory 2 → ChangesSlot bare named d s None (Some (name, made)) → StaysBeside bare named d
    → AddsDots named dotted made d → SetsLinks dotted new d (dotted.links d + 1) → AddsDirectory old new made d s name
directory_added old bare named dotted new made d s name apart adds slot beside dots more =
    let away : d ≢ made = λ e. apart (sym e) in
    let was : old.kind d ≡ kinds.Directory = sym (adds.others.kind d away) ∙ slot.directory in
    let named_d : named.kind d ≡ kinds.Directory = beside.kind d ∙ slot.directory in
    let named_made : named.kind made ≡ kinds.Directory = beside.kind made ∙ adds.kind in
    let dotted_d : dotted.kind d ≡ kinds.Directory = dots.beside.kind d ∙ named_d in
    let dotted_made : dotted.kind made ≡ kinds.Directory = dots.beside.kind made ∙ named_made in
    let kept = λ (x : ℕ) (other : x ≢ made) (used : old.kind x ≢ kinds.Free). dotted_links old bare named dotted made d x adds beside dots other used in
    record {
      slot = record {
        directory = was;
        was = sym (adds.others.entry d s away away) ∙ slot.was;
        is = more.entry d s ∙ (dots.beside.entry d s away ∙ slot.is);
        beside = λ t other. more.entry d t ∙ (dots.beside.entry d t away ∙ (slot.beside t other ∙ adds.others.entry d t away away));
        whole = ap (λ n. n % 16) (more.size d dotted_d ∙ dots.beside.size d away named_d) ∙ slot.whole;
      };
      others = record {
        kind = λ x other. more.kind x ∙ (dots.beside.kind x ∙ (beside.kind x ∙ adds.others.kind x other));
        size = λ x out other is.
            let bare_x = adds.others.kind x other ∙ is in
            let named_x = beside.kind x ∙ bare_x in
            more.size x (dots.beside.kind x ∙ named_x)
            ∙ (dots.beside.size x other named_x ∙ (beside.size x out bare_x ∙ adds.others.size x other other is));
        entry = λ x t out other.
            more.entry x t ∙ (dots.beside.entry x t other ∙ (beside.entry x t out ∙ adds.others.entry x t other other));
      };
      was = adds.was;
      kind = more.kind made ∙ dotted_made;
      links = more.kept made apart (not_free (dotted.kind made) dotted_made)
          ∙ (dots.beside.links made (not_free (named.kind made) named_made)
          ∙ (beside.links made (not_free (bare.kind made) adds.kind) ∙ adds.links));
      size = more.size made dotted_made ∙ dots.size;
      itself = more.entry made 0 ∙ dots.itself;
      parent = more.entry made 1 ∙ dots.parent;
      rest = λ t from. more.entry made t ∙ dots.rest t from;
      more = more.links ∙ ap (λ n. n + 1) (kept d away (not_free (old.kind d) was));
      kept = λ x other out used.
          more.kept x out
          (λ free. used (sym (adds.others.kind x other) ∙ (sym (beside.kind x) ∙ (sym (dots.beside.kind x) ∙ free))))
          ∙ kept x other used;
    }
