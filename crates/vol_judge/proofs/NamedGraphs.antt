-- A graph in which a node that isn't a directory gets a new name.
use Rattle.std.proofs.Common.{◌≡◌, ◌≢◌, ◌∙◌, sym, ap, ℕ, ◌+◌, ◌%◌, ◌≤◌, ◌==◌, List, Option, None, Some, inl, inr, ◌⊎◌, arith}
use Rattle.std.specs.List.{list_any}
use Rattle.std.proofs.lemmas.Bool.{cases_eq}
use Rattle.vol_dir.specs.Names.{dot, dot_dot}
use Rattle.vol_judge.specs.Graph.{Graph, IsGraphWithin, Leads, counted, IsGraphSound}
use Rattle.vol_judge.specs.GraphEdits.{IsNewName, ChangesSlot, KeepsOthers, AddsFile, AddsLink}
use Rattle.vol_judge.proofs.GraphCounts.{one_for, one_here, one_else}
use Rattle.vol_judge.proofs.GraphParts.{not_directory, entry_parts, root_directory, counted_free, elsewhere, counted_slot, below_same}
use Rattle.vol_layout.specs.declared.mode.Kind.TheVariants as kinds

-- after an entry is added, each entry is the new one or existed before
pub added_or_old : (old new : Graph) (d s i x t j : ℕ) (name word : List ℕ) → ChangesSlot old new d s None (Some (name, i))
    → (x ≢ d → new.entry x t ≡ old.entry x t) → new.entry x t ≡ Some (word, j)
    → ((x ≡ d) × (t ≡ s) × (word ≡ name) × (j ≡ i)) ⊎ (old.entry x t ≡ Some (word, j))
added_or_old old new d s i x t j name word slot away some = elim (cases_eq x d) [
  | inl here ↦ elim (cases_eq t s) [
    | inl same ↦
        let parts = entry_parts word name j i (sym some ∙ (ap (λ y. new.entry y t) here ∙ (ap (new.entry d) same ∙ slot.is))) in
        inl (here, same, parts.0, parts.1)
    | inr other ↦ inr (ap (λ y. old.entry y t) here ∙ (sym (slot.beside t other) ∙ (sym (ap (λ y. new.entry y t) here) ∙ some)))
  ]
  | inr there ↦ inr (sym (away there) ∙ some)
]

-- after an entry is added, every old entry still exists
pub old_stays : (old new : Graph) (d s x t : ℕ) (entry : List ℕ × ℕ) (added : Option (List ℕ × ℕ)) → ChangesSlot old new d s None added
    → (x ≢ d → new.entry x t ≡ old.entry x t) → old.entry x t ≡ Some entry → new.entry x t ≡ Some entry
old_stays old new d s x t entry added slot away some = elim (cases_eq x d) [
  | inl here ↦ elim (cases_eq t s) [
    | inl same ↦
        let none : old.entry x t ≡ None = ap (λ y. old.entry y t) here ∙ (ap (old.entry d) same ∙ slot.was) in absurd (cc)
    | inr other ↦ ap (λ y. new.entry y t) here ∙ (slot.beside t other ∙ (sym (ap (λ y. old.entry y t) here) ∙ some))
  ]
  | inr there ↦ away there ∙ some
]

-- i, which isn't a directory, gets a new name in slot s of d, and its link count is then the number of entries for it
pub record IsNamed (old new : Graph) (last i d s : ℕ) (name : List ℕ) : Type 0 where
  pub before : IsGraphWithin old last
  pub after : IsGraphWithin new last
  pub slot : ChangesSlot old new d s None (Some (name, i))
  pub others : KeepsOthers old new d i
  pub was_other : old.kind i ≢ kinds.Directory
  pub other : new.kind i ≢ kinds.Directory
  pub used : new.kind i ≢ kinds.Free
  pub links : new.links i ≡ counted old last i + 1
  pub kept : (x : ℕ) → x ≢ i → old.kind x ≢ kinds.Free → new.links x ≡ old.links x

-- there is one entry more for i than before, and as many as before for every other i-number
named_count : (old new : Graph) (last i d s j : ℕ) (name : List ℕ) → IsNamed old new last i d s name
    → counted new last j ≡ counted old last j + one_for j (Some (name, i))
named_count old new last i d s j name named =
    let change =
    counted_slot old new last d s j None (Some (name, i)) named.before named.after named.slot
    (elsewhere old new last d i named.before named.after named.others named.was_other named.other) in
    omega (arith, change)

-- if i gets a name in this way, the graph stays sound
pub named_sound : (old new : Graph) (root last i d s : ℕ) (name : List ℕ) → IsGraphSound old root last → IsNewName old d name → root ≤ i
    → IsNamed old new last i d s name → IsGraphSound new root last
named_sound old new root last i d s name sound fresh from named =
    let away = elsewhere old new last d i named.before named.after named.others named.was_other named.other in
    let apart : (x : ℕ) → new.kind x ≡ kinds.Directory → x ≢ i = λ x is e. named.other (ap new.kind (sym e) ∙ is) in
    let was : (x : ℕ) → new.kind x ≡ kinds.Directory → old.kind x ≡ kinds.Directory = λ x is. sym (named.others.kind x (apart x is)) ∙ is in
    let stays : (x t : ℕ) (entry : List ℕ × ℕ) → old.entry x t ≡ Some entry → new.entry x t ≡ Some entry =
    λ x t entry some. old_stays old new d s x t entry (Some (name, i)) named.slot (away x t) some in
    let leads_on : (x t j : ℕ) → Leads old x t j → Leads new x t j = λ x t j leads. (leads.0, stays x t (leads.0, j) leads.1, leads.2) in
    let leads_back : (x t j : ℕ) → j ≢ i → Leads new x t j → Leads old x t j =
    λ x t j other leads. elim (added_or_old old new d s i x t j name leads.0 named.slot (away x t) leads.1) [
      | inl added ↦ absurd (other added.3)
      | inr was ↦ (leads.0, was, leads.2)
    ] in
    record {
      whole = λ x is. elim (cases_eq x d) [
        | inl here ↦ ap (λ y. new.size y % 16) here ∙ named.slot.whole
        | inr there ↦
            let size = named.others.size x there (apart x is) (was x is) in
            let whole = sound.whole x (was x is) in omega (arith, size, whole)
      ];
      named = λ x t j word some. elim (added_or_old old new d s i x t j name word named.slot (away x t) some) [
        | inl added ↦ ((λ e. fresh.some (sym added.2 ∙ e)), ap (list_any (λ c. c == 47)) added.2 ∙ fresh.plain)
        | inr was ↦ sound.named x t j word was
      ];
      allocated = λ x t j word some. elim (cases_eq j i) [
        | inl same ↦ (omega (arith, from, same), (λ none. named.used (ap new.kind (sym same) ∙ none)))
        | inr other ↦ elim (added_or_old old new d s i x t j name word named.slot (away x t) some) [
          | inl added ↦ absurd (other added.3)
          | inr was ↦
              let parts = sound.allocated x t j word was in
              (parts.0, (λ none. parts.1 (sym (named.others.kind j other) ∙ none)))
        ]
      ];
      once = λ x t u j k word first second. elim (added_or_old old new d s i x t j name word named.slot (away x t) first) [
        | inl added ↦ elim (added_or_old old new d s i x u k name word named.slot (away x u) second) [
          | inl again ↦ added.1 ∙ sym again.1
          | inr was ↦
              absurd (fresh.fresh u k (sym (ap (λ y. old.entry y u) added.0) ∙ (was ∙ ap (λ n. Some (n, k)) added.2)))
        ]
        | inr was ↦ elim (added_or_old old new d s i x u k name word named.slot (away x u) second) [
          | inl again ↦
              absurd (fresh.fresh t j (sym (ap (λ y. old.entry y t) again.0) ∙ (was ∙ ap (λ n. Some (n, j)) again.2)))
          | inr too ↦ sound.once x t u j k word was too
        ]
      ];
      itself = λ x is. let self = sound.itself x (was x is) in (self.0, stays x self.0 (dot, x) self.1);
      of_root = (sound.of_root.0, stays root sound.of_root.0 (dot_dot, root) sound.of_root.1);
      parent = λ x is other.
          let above = sound.parent x (was x is) other in
          (above.0, above.1, above.2, stays x above.0 (dot_dot, above.1) above.3, leads_on above.1 above.2 x above.4);
      reached = λ x is. below_same old new root x leads_on (sound.reached x (was x is));
      one = λ x e t f u is first second.
          sound.one x e t f u (was x is) (leads_back e t x (apart x is) first) (leads_back f u x (apart x is) second);
      root_none = λ e t leads.
          sound.root_none e t
          (leads_back e t root (λ same. named.was_other (ap old.kind (sym same) ∙ root_directory old root last named.before sound)) leads);
      counts = λ j some. elim (cases_eq j i) [
        | inl same ↦
            let count = named_count old new last i d s i name named in
            let one = one_here i name in
            ap new.links same ∙ (named.links ∙ (omega (arith, count, one) ∙ ap (counted new last) (sym same)))
        | inr other ↦
            let count = named_count old new last i d s j name named in
            let none = one_else j i name (λ e. other (sym e)) in
            let kept = named.kept j other (λ free. some (named.others.kind j other ∙ free)) in
            let was = sound.counts j (λ free. some (named.others.kind j other ∙ free)) in
            omega (arith, count, none, kept, was)
      ];
      linked = λ j low some. elim (cases_eq j i) [
        | inl same ↦
            let links : new.links j ≡ counted old last i + 1 = ap new.links same ∙ named.links in omega (arith, links)
        | inr other ↦
            let kept = named.kept j other (λ free. some (named.others.kind j other ∙ free)) in
            let was = sound.linked j low (λ free. some (named.others.kind j other ∙ free)) in omega (arith, kept, was)
      ];
    }

-- a graph in which a file is created stays sound
pub added_file_sound : (old new : Graph) (root last made d s : ℕ) (name : List ℕ) → IsGraphWithin old last → IsGraphWithin new last
    → IsGraphSound old root last → IsNewName old d name → root ≤ made → AddsFile old new made d s name → IsGraphSound new root last
added_file_sound old new root last made d s name before after sound fresh from adds =
    named_sound old new root last made d s name sound fresh from (record {
      before = before;
      after = after;
      slot = adds.slot;
      others = adds.others;
      was_other = not_directory (old.kind made) adds.was;
      other = adds.other;
      used = adds.used;
      links = adds.links ∙ ap (λ n. n + 1) (sym (counted_free old root last made sound adds.was));
      kept = adds.kept;
    })

-- a graph in which a file gets another name stays sound
pub added_link_sound : (old new : Graph) (root last i d s : ℕ) (name : List ℕ) → IsGraphWithin old last → IsGraphWithin new last
    → IsGraphSound old root last → IsNewName old d name → root ≤ i → AddsLink old new i d s name → IsGraphSound new root last
added_link_sound old new root last i d s name before after sound fresh from adds =
    named_sound old new root last i d s name sound fresh from (record {
      before = before;
      after = after;
      slot = adds.slot;
      others = adds.others;
      was_other = adds.other;
      other = λ e. adds.other (sym adds.kind ∙ e);
      used = λ e. adds.used (sym adds.kind ∙ e);
      links = adds.links ∙ ap (λ n. n + 1) (sound.counts i adds.used);
      kept = adds.kept;
    })
