-- A graph from which a directory is removed.
use Rattle.std.proofs.Common.{◌≡◌, ◌≢◌, ◌∙◌, sym, ap, refl, ℕ, ◌+◌, ◌%◌, true≢false, List, None, Some, inl, inr, arith}
use Rattle.std.proofs.lemmas.Bool.{cases_eq, cases_Bool}
use Rattle.vol_dir.specs.Names.{dot, dot_dot, is_dots}
use Rattle.vol_judge.specs.Graph.{Graph, IsGraphWithin, Leads, counted_in, counted, IsGraphSound}
use Rattle.vol_judge.specs.GraphEdits.{DropsDirectory}
use Rattle.vol_judge.proofs.GraphCounts.{one_for, one_else, slots_none, slots_one, slots_same, slot_changed, counted_but_two, counted_some}
use Rattle.vol_judge.proofs.GraphParts.{not_free, not_directory, has_entry, entry_parts, below_kept, dots_cases, dot_is}
use Rattle.vol_judge.proofs.DroppedGraphs.{was_there, stays_there}
use Rattle.vol_layout.specs.declared.mode.Kind.TheVariants as kinds

-- no entry other than `.` and `..` is in the removed directory
leads_not : (old new : Graph) (i d s e t j : ℕ) (name : List ℕ) → DropsDirectory old new i d s name → Leads old e t j → e ≢ i
leads_not old new i d s e t j name drops leads same =
    true≢false (sym (drops.only t j leads.0 (sym (ap (λ y. old.entry y t) same) ∙ leads.1)) ∙ leads.2)

-- before the removal, slot s of d leads to the removed directory
leads_to : (old new : Graph) (i d s : ℕ) (name : List ℕ) → DropsDirectory old new i d s name → Leads old d s i
leads_to old new i d s name drops = (name, drops.slot.was, drops.named)

-- the removed directory isn't d
apart_from : (old new : Graph) (i d s : ℕ) (name : List ℕ) → DropsDirectory old new i d s name → d ≢ i
apart_from old new i d s name drops = leads_not old new i d s d s i name drops (leads_to old new i d s name drops)

-- the removed directory isn't the root
root_apart : (old new : Graph) (root last i d s : ℕ) (name : List ℕ) → IsGraphSound old root last → DropsDirectory old new i d s name → root ≢ i
root_apart old new root last i d s name sound drops same =
    sound.root_none d s (name, drops.slot.was ∙ ap (λ n. Some (name, n)) (sym same), drops.named)

-- the entries of nodes other than d and the removed directory don't change
beyond : (old new : Graph) (i d s x t : ℕ) (name : List ℕ) → DropsDirectory old new i d s name → x ≢ i → x ≢ d → new.entry x t ≡ old.entry x t
beyond old new i d s x t name drops other away = drops.others.entry x t away other

-- after the removal, the removed directory has no entries
gone_entry : (old new : Graph) (last i d s t : ℕ) (name : List ℕ) → IsGraphWithin new last → DropsDirectory old new i d s name → new.entry i t ≡ None
gone_entry old new last i d s t name after drops = after.directories i t (not_directory (new.kind i) drops.kind)

-- after the removal, every entry existed before
kept_entry : (old new : Graph) (last i d s x t : ℕ) (name : List ℕ) (entry : List ℕ × ℕ) → IsGraphWithin new last
    → DropsDirectory old new i d s name → new.entry x t ≡ Some entry → (x ≢ i) × (old.entry x t ≡ Some entry)
kept_entry old new last i d s x t name entry after drops some = elim (cases_eq x i) [
  | inl same ↦ let none : new.entry x t ≡ None = ap (λ y. new.entry y t) same ∙ gone_entry old new last i d s t name after drops in absurd (cc)
  | inr other ↦ (other, was_there old new d s x t entry (name, i) drops.slot (beyond old new i d s x t name drops other) some)
]

-- the `..` of a directory other than the root is for a directory with an entry for it
up_leads : (graph : Graph) (root last x t j : ℕ) → IsGraphSound graph root last → graph.kind x ≡ kinds.Directory → x ≢ root
    → graph.entry x t ≡ Some (dot_dot, j) → (u : ℕ) × Leads graph j u x
up_leads graph root last x t j sound is other some =
    let above = sound.parent x is other in
    let place = sound.once x t above.0 j above.1 dot_dot some above.3 in
    let same : j ≡ above.1 = (entry_parts dot_dot dot_dot j above.1 (sym some ∙ (ap (graph.entry x) place ∙ above.3))).1 in
    (above.2, (above.4.0, ap (λ e. graph.entry e above.2) same ∙ above.4.1, above.4.2))

-- the root's `..` is for the root
root_up : (graph : Graph) (root last t j : ℕ) → IsGraphSound graph root last → graph.entry root t ≡ Some (dot_dot, j) → j ≡ root
root_up graph root last t j sound some =
    let place = sound.once root t sound.of_root.0 j root dot_dot some sound.of_root.1 in
    (entry_parts dot_dot dot_dot j root (sym some ∙ (ap (graph.entry root) place ∙ sound.of_root.1))).1

-- after the removal, there is no entry for the removed directory
none_left : (old new : Graph) (root last i d s x t : ℕ) (name word : List ℕ) → IsGraphWithin old last → IsGraphWithin new last
    → IsGraphSound old root last → DropsDirectory old new i d s name → new.entry x t ≡ Some (word, i) → ⊥
none_left old new root last i d s x t name word before after sound drops some =
    let kept = kept_entry old new last i d s x t name (word, i) after drops some in
    let kind = has_entry old last x t (word, i) before kept.1 in
    elim (cases_Bool (is_dots word)) [
      | inl dots ↦ elim (dots_cases word dots) [
        | inl self ↦ kept.0 (sym (dot_is old root last x t i sound kind (kept.1 ∙ ap (λ n. Some (n, i)) self)))
        | inr up ↦
            let entry : old.entry x t ≡ Some (dot_dot, i) = kept.1 ∙ ap (λ n. Some (n, i)) up in
            elim (cases_eq x root) [
              | inl top ↦
                  root_apart old new root last i d s name sound drops
                  (sym (root_up old root last t i sound (sym (ap (λ y. old.entry y t) top) ∙ entry)))
              | inr other ↦
                  let leads = up_leads old root last x t i sound kind other entry in
                  leads_not old new i d s i leads.0 x name drops leads.1 refl
            ]
      ]
      | inr plain ↦
          let same = sound.one i x t d s drops.was (word, kept.1, plain) (leads_to old new i d s name drops) in
          let none : new.entry x t ≡ None = ap (λ y. new.entry y t) same.0 ∙ (ap (new.entry d) same.1 ∙ drops.slot.is) in cc
    ]

-- the removed directory has exactly one entry for d
count_up : (old new : Graph) (root last i d s : ℕ) (name : List ℕ) → IsGraphWithin old last → IsGraphSound old root last
    → DropsDirectory old new i d s name → counted_in old d i ≡ 1
count_up old new root last i d s name before sound drops =
    let apart = apart_from old new i d s name drops in
    let above = sound.parent i drops.was (λ e. root_apart old new root last i d s name sound drops (sym e)) in
    let same = sound.one i above.1 above.2 d s drops.was above.4 (leads_to old new i d s name drops) in
    let up : old.entry i above.0 ≡ Some (dot_dot, d) = above.3 ∙ ap (λ n. Some (dot_dot, n)) same.0 in
    slots_one old last d i above.0 dot_dot before up
    (λ t word other some. elim (dots_cases word (drops.only t d word some)) [
      | inl self ↦ apart (dot_is old root last i t d sound drops.was (some ∙ ap (λ n. Some (n, d)) self))
      | inr again ↦ other (sound.once i t above.0 d d dot_dot (some ∙ ap (λ n. Some (n, d)) again) up)
    ])

-- the removed directory has no entries for other i-numbers than d and itself
count_others : (old new : Graph) (root last i d s j : ℕ) (name : List ℕ) → IsGraphSound old root last → DropsDirectory old new i d s name
    → j ≢ i → j ≢ d → counted_in old j i ≡ 0
count_others old new root last i d s j name sound drops apart other =
    slots_none old j i
    (λ t word some. elim (dots_cases word (drops.only t j word some)) [
      | inl self ↦ apart (dot_is old root last i t j sound drops.was (some ∙ ap (λ n. Some (n, j)) self))
      | inr up ↦
          let leads =
          up_leads old root last i t j sound drops.was (λ e. root_apart old new root last i d s name sound drops (sym e))
          (some ∙ ap (λ n. Some (n, j)) up) in
          other (sound.one i j leads.0 d s drops.was leads.1 (leads_to old new i d s name drops)).0
    ])

-- the number of entries for each i-number falls by the entries in slot s of d and in the removed directory
emptied_count : (old new : Graph) (last i d s j : ℕ) (name : List ℕ) → IsGraphWithin old last → IsGraphWithin new last
    → DropsDirectory old new i d s name → counted new last j + one_for j (Some (name, i)) + counted_in old j i ≡ counted old last j
emptied_count old new last i d s j name before after drops =
    let in_d = before.numbers d (not_free (old.kind d) drops.slot.directory) in
    let in_i = before.numbers i (not_free (old.kind i) drops.was) in
    let all =
    counted_but_two old new last j d i (apart_from old new i d s name drops) in_d.0 in_d.1 in_i.0 in_i.1
    (λ x other away. slots_same old new last j x before after (λ t. beyond old new i d s x t name drops away other)) in
    let here = slot_changed old new last j d s before after drops.slot.beside in
    let was : one_for j (old.entry d s) ≡ one_for j (Some (name, i)) = ap (one_for j) drops.slot.was in
    let is : one_for j (new.entry d s) ≡ 0 = ap (one_for j) drops.slot.is in
    let none = slots_none new j i (λ t word e. let empty = gone_entry old new last i d s t name after drops in cc) in
    omega (arith, all, here, was, is, none)

-- after the removal, the link counts are right
emptied_links : (old new : Graph) (root last i d s j : ℕ) (name : List ℕ) → IsGraphWithin old last → IsGraphWithin new last
    → IsGraphSound old root last → DropsDirectory old new i d s name → new.kind j ≢ kinds.Free → new.links j ≡ counted new last j
emptied_links old new root last i d s j name before after sound drops some =
    let apart : j ≢ i = λ e. some (ap new.kind e ∙ drops.kind) in
    let links = sound.counts j (λ free. some (drops.others.kind j apart ∙ free)) in
    let count = emptied_count old new last i d s j name before after drops in
    let slot = one_else j i name (λ e. apart (sym e)) in
    elim (cases_eq j d) [
      | inl same ↦
          let up : counted_in old j i ≡ 1 = ap (λ n. counted_in old n i) same ∙ count_up old new root last i d s name before sound drops in
          let new_links : new.links j ≡ new.links d = ap new.links same in
          let old_links : old.links j ≡ old.links d = ap old.links same in
          omega (arith, links, count, slot, up, drops.less, new_links, old_links)
      | inr other ↦
          let none = count_others old new root last i d s j name sound drops apart other in
          let kept = drops.kept j apart other (λ free. some (drops.others.kind j apart ∙ free)) in omega (arith, links, count, slot, none, kept)
    ]

-- a graph from which a directory is removed stays sound
pub dropped_directory_sound : (old new : Graph) (root last i d s : ℕ) (name : List ℕ) → IsGraphWithin old last → IsGraphWithin new last
    → IsGraphSound old root last → DropsDirectory old new i d s name → IsGraphSound new root last
dropped_directory_sound old new root last i d s name before after sound drops =
    let apart : (x : ℕ) → new.kind x ≡ kinds.Directory → x ≢ i = λ x is e. not_free (new.kind x) is (ap new.kind e ∙ drops.kind) in
    let was : (x : ℕ) → new.kind x ≡ kinds.Directory → old.kind x ≡ kinds.Directory = λ x is. sym (drops.others.kind x (apart x is)) ∙ is in
    let back : (x t : ℕ) (entry : List ℕ × ℕ) → new.entry x t ≡ Some entry → old.entry x t ≡ Some entry =
    λ x t entry some. (kept_entry old new last i d s x t name entry after drops some).1 in
    let stays : (x t j : ℕ) (word : List ℕ) → x ≢ i → j ≢ i → old.entry x t ≡ Some (word, j) → new.entry x t ≡ Some (word, j) =
    λ x t j word away other some. stays_there old new d s x t i j name word drops.slot (beyond old new i d s x t name drops away) other some in
    let leads_on : (x t j : ℕ) → j ≢ i → Leads old x t j → Leads new x t j =
    λ x t j other leads.
    (leads.0, stays x t j leads.0 (leads_not old new i d s x t j name drops leads) other leads.1, leads.2) in
    let leads_back : (x t j : ℕ) → Leads new x t j → Leads old x t j = λ x t j leads. (leads.0, back x t (leads.0, j) leads.1, leads.2) in
    let root_other = root_apart old new root last i d s name sound drops in
    record {
      whole = λ x is. elim (cases_eq x d) [
        | inl here ↦ ap (λ y. new.size y % 16) here ∙ drops.slot.whole
        | inr there ↦
            let size = drops.others.size x there (apart x is) (was x is) in
            let whole = sound.whole x (was x is) in omega (arith, size, whole)
      ];
      named = λ x t j word some. sound.named x t j word (back x t (word, j) some);
      allocated = λ x t j word some.
          let parts = sound.allocated x t j word (back x t (word, j) some) in (
            parts.0,
            (λ free. elim (cases_eq j i) [
              | inl same ↦
                  none_left old new root last i d s x t name word before after sound drops (some ∙ ap (λ n. Some (word, n)) same)
              | inr other ↦ parts.1 (sym (drops.others.kind j other) ∙ free)
            ]),
          );
      once = λ x t u j k word first second. sound.once x t u j k word (back x t (word, j) first) (back x u (word, k) second);
      itself = λ x is. let self = sound.itself x (was x is) in (self.0, stays x self.0 x dot (apart x is) (apart x is) self.1);
      of_root = (sound.of_root.0, stays root sound.of_root.0 root dot_dot root_other root_other sound.of_root.1);
      parent = λ x is other.
          let above = sound.parent x (was x is) other in
          let up = leads_not old new i d s above.1 above.2 x name drops above.4 in
          (above.0, above.1, above.2, stays x above.0 above.1 dot_dot (apart x is) up above.3, leads_on above.1 above.2 x (apart x is) above.4);
      reached = λ x is.
          below_kept old new root i x (λ e t j leads. leads_not old new i d s e t j name drops leads) leads_on (sound.reached x (was x is))
          (apart x is);
      one = λ x e t f u is first second. sound.one x e t f u (was x is) (leads_back e t x first) (leads_back f u x second);
      root_none = λ e t leads. sound.root_none e t (leads_back e t root leads);
      counts = λ j some. emptied_links old new root last i d s j name before after sound drops some;
      linked = λ j low some.
          let other : j ≢ i = λ e. some (ap new.kind e ∙ drops.kind) in
          let links = emptied_links old new root last i d s j name before after sound drops some in
          elim (cases_eq j d) [
            | inl same ↦
                let away = apart_from old new i d s name drops in
                let self = sound.itself d drops.slot.directory in
                let entry = stays d self.0 d dot away away self.1 in
                let inside = before.numbers d (not_free (old.kind d) drops.slot.directory) in
                let count = counted_some new last d d self.0 dot after inside.0 inside.1 entry in
                let is : counted new last j ≡ counted new last d = ap (counted new last) same in omega (arith, links, count, is)
            | inr away ↦
                let kept = drops.kept j other away (λ free. some (drops.others.kind j other ∙ free)) in
                let first = sound.linked j low (λ free. some (drops.others.kind j other ∙ free)) in omega (arith, kept, first)
          ];
    }
