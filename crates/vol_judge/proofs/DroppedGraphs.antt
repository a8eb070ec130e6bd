-- A graph in which a node that isn't a directory loses a name.
use Rattle.std.proofs.Common.{◌≡◌, ◌≢◌, ◌∙◌, sym, ap, ℕ, ◌+◌, ◌%◌, ◌≤◌, List, None, Some, inl, inr, arith}
use Rattle.std.proofs.lemmas.Bool.{cases_eq}
use Rattle.vol_dir.specs.Names.{dot, dot_dot}
use Rattle.vol_judge.specs.Graph.{Graph, IsGraphWithin, Leads, counted, IsGraphSound}
use Rattle.vol_judge.specs.GraphEdits.{ChangesSlot, KeepsOthers, DropsName, DropsFile}
use Rattle.vol_judge.proofs.GraphCounts.{one_for, one_here, one_else, counted_some}
use Rattle.vol_judge.proofs.GraphParts.{has_entry, not_free, not_directory, entry_parts, root_directory, elsewhere, counted_slot, below_kept}
use Rattle.vol_layout.specs.declared.mode.Kind.TheVariants as kinds

-- after an entry is removed, every entry existed before
pub was_there : (old new : Graph) (d s x t : ℕ) (entry gone : List ℕ × ℕ) → ChangesSlot old new d s (Some gone) None
    → (x ≢ d → new.entry x t ≡ old.entry x t) → new.entry x t ≡ Some entry → old.entry x t ≡ Some entry
was_there old new d s x t entry gone slot away some = elim (cases_eq x d) [
  | inl here ↦ elim (cases_eq t s) [
    | inl same ↦ let none : new.entry x t ≡ None = ap (λ y. new.entry y t) here ∙ (ap (new.entry d) same ∙ slot.is) in absurd (cc)
    | inr other ↦ ap (λ y. old.entry y t) here ∙ (sym (slot.beside t other) ∙ (sym (ap (λ y. new.entry y t) here) ∙ some))
  ]
  | inr there ↦ sym (away there) ∙ some
]

-- an entry for another i-number isn't removed
pub stays_there : (old new : Graph) (d s x t i j : ℕ) (name word : List ℕ) → ChangesSlot old new d s (Some (name, i)) None
    → (x ≢ d → new.entry x t ≡ old.entry x t) → j ≢ i → old.entry x t ≡ Some (word, j) → new.entry x t ≡ Some (word, j)
stays_there old new d s x t i j name word slot away apart some = elim (cases_eq x d) [
  | inl here ↦ elim (cases_eq t s) [
    | inl same ↦
        let parts = entry_parts word name j i (sym some ∙ (ap (λ y. old.entry y t) here ∙ (ap (old.entry d) same ∙ slot.was))) in
        absurd (apart parts.1)
    | inr other ↦ ap (λ y. new.entry y t) here ∙ (slot.beside t other ∙ (sym (ap (λ y. old.entry y t) here) ∙ some))
  ]
  | inr there ↦ away there ∙ some
]

-- i, which isn't a directory, loses its name in slot s of d; then i is free and there are no entries for it, or its link count is the number of
-- entries for it and at least 1
pub record IsUnnamed (old new : Graph) (last i d s : ℕ) (name : List ℕ) : Type 0 where
  pub before : IsGraphWithin old last
  pub after : IsGraphWithin new last
  pub slot : ChangesSlot old new d s (Some (name, i)) None
  pub others : KeepsOthers old new d i
  pub was_other : old.kind i ≢ kinds.Directory
  pub other : new.kind i ≢ kinds.Directory
  pub unused : new.kind i ≡ kinds.Free → counted new last i ≡ 0
  pub links : new.kind i ≢ kinds.Free → (new.links i ≡ counted new last i) × (1 ≤ new.links i)
  pub kept : (x : ℕ) → x ≢ i → old.kind x ≢ kinds.Free → new.links x ≡ old.links x

-- there is one entry less for i than before, and as many as before for every other i-number
dropped_count : (old new : Graph) (last i d s j : ℕ) (name : List ℕ) → IsGraphWithin old last → IsGraphWithin new last
    → ChangesSlot old new d s (Some (name, i)) None → KeepsOthers old new d i → old.kind i ≢ kinds.Directory → new.kind i ≢ kinds.Directory
    → counted new last j + one_for j (Some (name, i)) ≡ counted old last j
dropped_count old new last i d s j name before after slot others was is =
    let change = counted_slot old new last d s j (Some (name, i)) None before after slot (elsewhere old new last d i before after others was is) in
    omega (arith, change)

-- if i loses its name in this way, the graph stays sound
pub unnamed_sound : (old new : Graph) (root last i d s : ℕ) (name : List ℕ) → IsGraphSound old root last → IsUnnamed old new last i d s name
    → IsGraphSound new root last
unnamed_sound old new root last i d s name sound drops =
    let away = elsewhere old new last d i drops.before drops.after drops.others drops.was_other drops.other in
    let apart : (x : ℕ) → new.kind x ≡ kinds.Directory → x ≢ i = λ x is e. drops.other (ap new.kind (sym e) ∙ is) in
    let was : (x : ℕ) → new.kind x ≡ kinds.Directory → old.kind x ≡ kinds.Directory = λ x is. sym (drops.others.kind x (apart x is)) ∙ is in
    let back : (x t : ℕ) (entry : List ℕ × ℕ) → new.entry x t ≡ Some entry → old.entry x t ≡ Some entry =
    λ x t entry some. was_there old new d s x t entry (name, i) drops.slot (away x t) some in
    let stays : (x t j : ℕ) (word : List ℕ) → j ≢ i → old.entry x t ≡ Some (word, j) → new.entry x t ≡ Some (word, j) =
    λ x t j word other some. stays_there old new d s x t i j name word drops.slot (away x t) other some in
    let leads_on : (x t j : ℕ) → j ≢ i → Leads old x t j → Leads new x t j =
    λ x t j other leads. (leads.0, stays x t j leads.0 other leads.1, leads.2) in
    let leads_back : (x t j : ℕ) → Leads new x t j → Leads old x t j = λ x t j leads. (leads.0, back x t (leads.0, j) leads.1, leads.2) in
    record {
      whole = λ x is. elim (cases_eq x d) [
        | inl here ↦ ap (λ y. new.size y % 16) here ∙ drops.slot.whole
        | inr there ↦
            let size = drops.others.size x there (apart x is) (was x is) in
            let whole = sound.whole x (was x is) in omega (arith, size, whole)
      ];
      named = λ x t j word some. sound.named x t j word (back x t (word, j) some);
      allocated = λ x t j word some.
          let parts = sound.allocated x t j word (back x t (word, j) some) in (
            parts.0,
            (λ free. elim (cases_eq j i) [
              | inl same ↦
                  let inside = drops.after.numbers x (not_free (new.kind x) (has_entry new last x t (word, j) drops.after some)) in
                  let count = counted_some new last i x t word drops.after inside.0 inside.1 (some ∙ ap (λ n. Some (word, n)) same) in
                  let none = drops.unused (ap new.kind (sym same) ∙ free) in omega (arith, count, none)
              | inr other ↦ parts.1 (sym (drops.others.kind j other) ∙ free)
            ]),
          );
      once = λ x t u j k word first second. sound.once x t u j k word (back x t (word, j) first) (back x u (word, k) second);
      itself = λ x is. let self = sound.itself x (was x is) in (self.0, stays x self.0 x dot (apart x is) self.1);
      of_root = (
        sound.of_root.0,
        stays root sound.of_root.0 root dot_dot
            (λ same. drops.was_other (ap old.kind (sym same) ∙ root_directory old root last drops.before sound)) sound.of_root.1,
      );
      parent = λ x is other.
          let above = sound.parent x (was x is) other in
          let kind = has_entry old last above.1 above.2 (above.4.0, x) drops.before above.4.1 in (
            above.0,
            above.1,
            above.2,
            stays x above.0 above.1 dot_dot (λ same. drops.was_other (ap old.kind (sym same) ∙ kind)) above.3,
            leads_on above.1 above.2 x (apart x is) above.4,
          );
      reached = λ x is. below_kept old new root i x
          (λ e t j leads same. drops.was_other (ap old.kind (sym same) ∙ has_entry old last e t (leads.0, j) drops.before leads.1)) leads_on
          (sound.reached x (was x is)) (apart x is);
      one = λ x e t f u is first second. sound.one x e t f u (was x is) (leads_back e t x first) (leads_back f u x second);
      root_none = λ e t leads. sound.root_none e t (leads_back e t root leads);
      counts = λ j some. elim (cases_eq j i) [
        | inl same ↦ ap new.links same ∙ ((drops.links (λ free. some (ap new.kind same ∙ free))).0 ∙ ap (counted new last) (sym same))
        | inr other ↦
            let count = dropped_count old new last i d s j name drops.before drops.after drops.slot drops.others drops.was_other drops.other in
            let none = one_else j i name (λ e. other (sym e)) in
            let kept = drops.kept j other (λ free. some (drops.others.kind j other ∙ free)) in
            let links = sound.counts j (λ free. some (drops.others.kind j other ∙ free)) in
            omega (arith, count, none, kept, links)
      ];
      linked = λ j low some. elim (cases_eq j i) [
        | inl same ↦
            let most = (drops.links (λ free. some (ap new.kind same ∙ free))).1 in
            let links : new.links j ≡ new.links i = ap new.links same in omega (arith, most, links)
        | inr other ↦
            let kept = drops.kept j other (λ free. some (drops.others.kind j other ∙ free)) in
            let links = sound.linked j low (λ free. some (drops.others.kind j other ∙ free)) in omega (arith, kept, links)
      ];
    }

-- a graph in which a file loses a name but has another stays sound
pub dropped_name_sound : (old new : Graph) (root last i d s : ℕ) (name : List ℕ) → IsGraphWithin old last → IsGraphWithin new last
    → IsGraphSound old root last → DropsName old new i d s name → IsGraphSound new root last
dropped_name_sound old new root last i d s name before after sound drops =
    let is_other : new.kind i ≢ kinds.Directory = λ e. drops.other (sym drops.kind ∙ e) in
    let used = (sound.allocated d s i name drops.slot.was).1 in
    let links = sound.counts i used in
    let count = dropped_count old new last i d s i name before after drops.slot drops.others drops.other is_other in
    let one = one_here i name in
    unnamed_sound old new root last i d s name sound (record {
      before = before;
      after = after;
      slot = drops.slot;
      others = drops.others;
      was_other = drops.other;
      other = is_other;
      unused = λ free. absurd (used (sym drops.kind ∙ free));
      links = λ some. (omega (arith, links, count, one, drops.links), omega (arith, drops.most, drops.links));
      kept = drops.kept;
    })

-- a graph in which a file loses its last name and is freed stays sound
pub dropped_file_sound : (old new : Graph) (root last i d s : ℕ) (name : List ℕ) → IsGraphWithin old last → IsGraphWithin new last
    → IsGraphSound old root last → DropsFile old new i d s name → IsGraphSound new root last
dropped_file_sound old new root last i d s name before after sound drops =
    let is_other : new.kind i ≢ kinds.Directory = not_directory (new.kind i) drops.kind in
    let used = (sound.allocated d s i name drops.slot.was).1 in
    let links = sound.counts i used in
    let count = dropped_count old new last i d s i name before after drops.slot drops.others drops.other is_other in
    let one = one_here i name in
    unnamed_sound old new root last i d s name sound (record {
      before = before;
      after = after;
      slot = drops.slot;
      others = drops.others;
      was_other = drops.other;
      other = is_other;
      unused = λ free. omega (arith, links, count, one, drops.last);
      links = λ some. absurd (some drops.kind);
      kept = drops.kept;
    })
