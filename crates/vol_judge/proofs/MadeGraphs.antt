-- A graph in which a directory is created.
use Rattle.std.proofs.Common.{◌≡◌, ◌≢◌, ◌∙◌, sym, ap, ℕ, ◌+◌, ◌/◌, ◌%◌, ◌≤◌, ◌==◌, true≢false, List, None, Some, inl, inr, ◌⊎◌, arith}
use Rattle.std.specs.List.{list_any, sum_by, range_with_len}
use Rattle.std.proofs.lemmas.Bool.{cases_eq}
use Rattle.vol_dir.specs.Names.{dot, dot_dot, is_dots}
use Rattle.vol_judge.specs.Graph.{Graph, IsGraphWithin, Leads, below, counted, IsGraphSound}
use Rattle.vol_judge.specs.GraphEdits.{IsNewName, AddsDirectory}
use Rattle.vol_judge.proofs.GraphCounts.{one_for, one_here, one_else, counted_to, slots_none, slots_same, slot_changed, counted_but_two}
use Rattle.vol_judge.proofs.GraphParts.{not_free, not_directory, entry_parts, root_directory, not_dots, counted_free, below_same}
use Rattle.vol_judge.proofs.NamedGraphs.{added_or_old, old_stays}
use Rattle.vol_layout.specs.declared.mode.Kind.TheVariants as kinds

-- directory d isn't the new directory
apart_from : (old new : Graph) (made d s : ℕ) (name : List ℕ) → AddsDirectory old new made d s name → d ≢ made
apart_from old new made d s name adds same = not_free (old.kind d) adds.slot.directory (ap old.kind same ∙ adds.was)

-- the entries of nodes other than d and the new directory don't change
beyond : (old new : Graph) (made d s x t : ℕ) (name : List ℕ) → AddsDirectory old new made d s name → x ≢ made → x ≢ d
    → new.entry x t ≡ old.entry x t
beyond old new made d s x t name adds other away = adds.others.entry x t away other

-- the entries of the new directory are `.` in slot 0 and `..` in slot 1
made_entry : (old new : Graph) (made d s t j : ℕ) (name word : List ℕ) → AddsDirectory old new made d s name
    → new.entry made t ≡ Some (word, j)
    → ((t ≡ 0) × (word ≡ dot) × (j ≡ made)) ⊎ ((t ≡ 1) × (word ≡ dot_dot) × (j ≡ d))
made_entry old new made d s t j name word adds some = elim (cases_eq t 0) [
  | inl first ↦
      let parts = entry_parts word dot j made (sym some ∙ (ap (new.entry made) first ∙ adds.itself)) in inl (first, parts.0, parts.1)
  | inr later ↦ elim (cases_eq t 1) [
    | inl second ↦
        let parts = entry_parts word dot_dot j d (sym some ∙ (ap (new.entry made) second ∙ adds.parent)) in inr (second, parts.0, parts.1)
    | inr behind ↦ let none = adds.rest t (omega (arith, later, behind)) in absurd (cc)
  ]
]

-- after a directory is created, an entry other than `.` and `..` is the new one in slot s of d, or existed before
lead_cases : (old new : Graph) (made d s x t j : ℕ) (name : List ℕ) → AddsDirectory old new made d s name → Leads new x t j
    → ((x ≡ d) × (t ≡ s) × (j ≡ made)) ⊎ Leads old x t j
lead_cases old new made d s x t j name adds leads = elim (cases_eq x made) [
  | inl here ↦ elim (made_entry old new made d s t j name leads.0 adds (sym (ap (λ y. new.entry y t) here) ∙ leads.1)) [
    | inl self ↦ absurd (true≢false (sym (ap is_dots self.1) ∙ leads.2))
    | inr up ↦ absurd (true≢false (sym (ap is_dots up.1) ∙ leads.2))
  ]
  | inr other ↦ elim (added_or_old old new d s made x t j name leads.0 adds.slot (beyond old new made d s x t name adds other) leads.1) [
    | inl added ↦ inl (added.0, added.1, added.3)
    | inr was ↦ inr (leads.0, was, leads.2)
  ]
]

-- after a directory is created, every old entry still exists
made_stays : (old new : Graph) (last made d s x t : ℕ) (name : List ℕ) (entry : List ℕ × ℕ) → IsGraphWithin old last
    → AddsDirectory old new made d s name → old.entry x t ≡ Some entry → new.entry x t ≡ Some entry
made_stays old new last made d s x t name entry before adds some = elim (cases_eq x made) [
  | inl here ↦
      let none : old.entry x t ≡ None =
      before.directories x t (not_directory (old.kind x) (ap old.kind here ∙ adds.was)) in absurd (cc)
  | inr other ↦ old_stays old new d s x t entry (Some (name, made)) adds.slot (beyond old new made d s x t name adds other) some
]

-- a sum of two terms is their sum
sum_two : (f : ℕ → ℕ) → sum_by f (range_with_len 0 2) ≡ f 0 + f 1
sum_two f = omega arith

-- the number of entries for each i-number grows by the entries in the three new slots
made_count : (old new : Graph) (last made d s j : ℕ) (name : List ℕ) → IsGraphWithin old last → IsGraphWithin new last
    → AddsDirectory old new made d s name
    → counted new last j ≡ counted old last j + one_for j (Some (name, made)) + one_for j (Some (dot, made)) + one_for j (Some (dot_dot, d))
made_count old new last made d s j name before after adds =
    let in_d = before.numbers d (not_free (old.kind d) adds.slot.directory) in
    let in_made = after.numbers made (not_free (new.kind made) adds.kind) in
    let all =
    counted_but_two old new last j d made (apart_from old new made d s name adds) in_d.0 in_d.1 in_made.0 in_made.1
    (λ x other away. slots_same old new last j x before after (λ t. beyond old new made d s x t name adds away other)) in
    let here = slot_changed old new last j d s before after adds.slot.beside in
    let was : one_for j (old.entry d s) ≡ 0 = ap (one_for j) adds.slot.was in
    let is : one_for j (new.entry d s) ≡ one_for j (Some (name, made)) = ap (one_for j) adds.slot.is in
    let none =
    slots_none old j made
    (λ t word e. let empty = before.directories made t (not_directory (old.kind made) adds.was) in cc) in
    let far : new.size made / 16 ≤ 2 = omega (arith, adds.size) in
    let two = counted_to new last j made 2 after far ∙ sum_two (λ t. one_for j (new.entry made t)) in
    let first : one_for j (new.entry made 0) ≡ one_for j (Some (dot, made)) = ap (one_for j) adds.itself in
    let second : one_for j (new.entry made 1) ≡ one_for j (Some (dot_dot, d)) = ap (one_for j) adds.parent in
    omega (arith, all, here, was, is, none, two, first, second)

-- after a directory is created, no name occurs twice in a directory
made_once : (old new : Graph) (root last made d s : ℕ) (name : List ℕ) → IsGraphWithin old last → IsGraphSound old root last
    → IsNewName old d name → AddsDirectory old new made d s name → (x t u j k : ℕ) (word : List ℕ) → new.entry x t ≡ Some (word, j)
    → new.entry x u ≡ Some (word, k) → t ≡ u
made_once old new root last made d s name before sound fresh adds x t u j k word first second = elim (cases_eq x made) [
  | inl here ↦
      let one = made_entry old new made d s t j name word adds (sym (ap (λ y. new.entry y t) here) ∙ first) in
      let two = made_entry old new made d s u k name word adds (sym (ap (λ y. new.entry y u) here) ∙ second) in
      elim one [
        | inl self ↦ elim two [
          | inl again ↦ self.0 ∙ sym again.0
          | inr up ↦ let clash : dot ≡ dot_dot = sym self.1 ∙ up.1 in absurd (cc)
        ]
        | inr up ↦ elim two [
          | inl self ↦ let clash : dot ≡ dot_dot = sym self.1 ∙ up.1 in absurd (cc)
          | inr again ↦ up.0 ∙ sym again.0
        ]
      ]
  | inr other ↦
      let one = added_or_old old new d s made x t j name word adds.slot (beyond old new made d s x t name adds other) first in
      let two = added_or_old old new d s made x u k name word adds.slot (beyond old new made d s x u name adds other) second in
      elim one [
        | inl added ↦ elim two [
          | inl again ↦ added.1 ∙ sym again.1
          | inr was ↦ absurd (fresh.fresh u k (sym (ap (λ y. old.entry y u) added.0) ∙ (was ∙ ap (λ n. Some (n, k)) added.2)))
        ]
        | inr was ↦ elim two [
          | inl again ↦ absurd (fresh.fresh t j (sym (ap (λ y. old.entry y t) again.0) ∙ (was ∙ ap (λ n. Some (n, j)) again.2)))
          | inr too ↦ sound.once x t u j k word was too
        ]
      ]
]

-- a graph in which a directory is created stays sound
pub added_directory_sound : (old new : Graph) (root last made d s : ℕ) (name : List ℕ) → IsGraphWithin old last → IsGraphWithin new last
    → IsGraphSound old root last → IsNewName old d name → root ≤ made → AddsDirectory old new made d s name → IsGraphSound new root last
added_directory_sound old new root last made d s name before after sound fresh from adds =
    let apart = apart_from old new made d s name adds in
    let was : (x : ℕ) → x ≢ made → new.kind x ≡ kinds.Directory → old.kind x ≡ kinds.Directory = λ x other is. sym (adds.others.kind x other) ∙ is in
    let stays : (x t : ℕ) (entry : List ℕ × ℕ) → old.entry x t ≡ Some entry → new.entry x t ≡ Some entry =
    λ x t entry some. made_stays old new last made d s x t name entry before adds some in
    let leads_on : (x t j : ℕ) → Leads old x t j → Leads new x t j = λ x t j leads. (leads.0, stays x t (leads.0, j) leads.1, leads.2) in
    let unmade : (x t j : ℕ) (word : List ℕ) → old.entry x t ≡ Some (word, j) → j ≢ made =
    λ x t j word some same. (sound.allocated x t j word some).1 (ap old.kind same ∙ adds.was) in
    let dots = not_dots old root last d name sound adds.slot.directory fresh in
    let self_d = sound.itself d adds.slot.directory in
    let low_d = (sound.allocated d self_d.0 d dot self_d.1).0 in
    let kind_d : new.kind d ≡ kinds.Directory = adds.others.kind d apart ∙ adds.slot.directory in
    record {
      whole = λ x is. elim (cases_eq x made) [
        | inl here ↦ let size : new.size x ≡ 32 = ap new.size here ∙ adds.size in omega (arith, size)
        | inr other ↦ elim (cases_eq x d) [
          | inl here ↦ ap (λ y. new.size y % 16) here ∙ adds.slot.whole
          | inr there ↦
              let size = adds.others.size x there other (was x other is) in
              let whole = sound.whole x (was x other is) in omega (arith, size, whole)
        ]
      ];
      named = λ x t j word some. elim (cases_eq x made) [
        | inl here ↦ elim (made_entry old new made d s t j name word adds (sym (ap (λ y. new.entry y t) here) ∙ some)) [
          | inl self ↦ ((λ e. let word_is = self.1 in cc), ap (list_any (λ c. c == 47)) self.1)
          | inr up ↦ ((λ e. let word_is = up.1 in cc), ap (list_any (λ c. c == 47)) up.1)
        ]
        | inr other ↦ elim (added_or_old old new d s made x t j name word adds.slot (beyond old new made d s x t name adds other) some) [
          | inl added ↦ ((λ e. fresh.some (sym added.2 ∙ e)), ap (list_any (λ c. c == 47)) added.2 ∙ fresh.plain)
          | inr old_one ↦ sound.named x t j word old_one
        ]
      ];
      allocated = λ x t j word some. elim (cases_eq x made) [
        | inl here ↦ elim (made_entry old new made d s t j name word adds (sym (ap (λ y. new.entry y t) here) ∙ some)) [
          | inl self ↦ (omega (arith, from, self.2), not_free (new.kind j) (ap new.kind self.2 ∙ adds.kind))
          | inr up ↦ (omega (arith, low_d, up.2), not_free (new.kind j) (ap new.kind up.2 ∙ kind_d))
        ]
        | inr other ↦ elim (added_or_old old new d s made x t j name word adds.slot (beyond old new made d s x t name adds other) some) [
          | inl added ↦ (omega (arith, from, added.3), not_free (new.kind j) (ap new.kind added.3 ∙ adds.kind))
          | inr old_one ↦
              let parts = sound.allocated x t j word old_one in
              (parts.0, (λ none. parts.1 (sym (adds.others.kind j (unmade x t j word old_one)) ∙ none)))
        ]
      ];
      once = made_once old new root last made d s name before sound fresh adds;
      itself = λ x is. elim (cases_eq x made) [
        | inl here ↦ (0, ap (λ y. new.entry y 0) here ∙ (adds.itself ∙ ap (λ n. Some (dot, n)) (sym here)))
        | inr other ↦ let self = sound.itself x (was x other is) in (self.0, stays x self.0 (dot, x) self.1)
      ];
      of_root = (sound.of_root.0, stays root sound.of_root.0 (dot_dot, root) sound.of_root.1);
      parent = λ x is away. elim (cases_eq x made) [
        | inl here ↦
            (1, d, s, ap (λ y. new.entry y 1) here ∙ adds.parent, (name, adds.slot.is ∙ ap (λ n. Some (name, n)) (sym here), dots))
        | inr other ↦
            let above = sound.parent x (was x other is) away in
            (above.0, above.1, above.2, stays x above.0 (dot_dot, above.1) above.3, leads_on above.1 above.2 x above.4)
      ];
      reached = λ x is. elim (cases_eq x made) [
        | inl here ↦
            below d s x (below_same old new root d leads_on (sound.reached d adds.slot.directory))
            (name, adds.slot.is ∙ ap (λ n. Some (name, n)) (sym here), dots)
        | inr other ↦ below_same old new root x leads_on (sound.reached x (was x other is))
      ];
      one = λ x e t f u is first second. elim (lead_cases old new made d s e t x name adds first) [
        | inl added ↦ elim (lead_cases old new made d s f u x name adds second) [
          | inl again ↦ (added.0 ∙ sym again.0, added.1 ∙ sym again.1)
          | inr old_one ↦ absurd (unmade f u x old_one.0 old_one.1 added.2)
        ]
        | inr old_one ↦ elim (lead_cases old new made d s f u x name adds second) [
          | inl again ↦ absurd (unmade e t x old_one.0 old_one.1 again.2)
          | inr too ↦ sound.one x e t f u (was x (unmade e t x old_one.0 old_one.1) is) old_one too
        ]
      ];
      root_none = λ e t leads. elim (lead_cases old new made d s e t root name adds leads) [
        | inl added ↦ not_free (old.kind root) (root_directory old root last before sound) (ap old.kind added.2 ∙ adds.was)
        | inr old_one ↦ sound.root_none e t old_one
      ];
      counts = λ j some.
          let count = made_count old new last made d s j name before after adds in
          elim (cases_eq j made) [
            | inl same ↦
                let none = counted_free old root last j sound (ap old.kind same ∙ adds.was) in
                let links : new.links j ≡ 2 = ap new.links same ∙ adds.links in
                let one : one_for j (Some (name, made)) ≡ 1 = ap (λ n. one_for j (Some (name, n))) (sym same) ∙ one_here j name in
                let two : one_for j (Some (dot, made)) ≡ 1 = ap (λ n. one_for j (Some (dot, n))) (sym same) ∙ one_here j dot in
                let up = one_else j d dot_dot (λ e. apart (e ∙ same)) in
                omega (arith, count, none, links, one, two, up)
            | inr other ↦
                let one = one_else j made name (λ e. other (sym e)) in
                let two = one_else j made dot (λ e. other (sym e)) in
                let links = sound.counts j (λ free. some (adds.others.kind j other ∙ free)) in
                elim (cases_eq j d) [
                  | inl same ↦
                      let more : new.links j ≡ old.links j + 1 = ap new.links same ∙ (adds.more ∙ ap (λ n. old.links n + 1) (sym same)) in
                      let up : one_for j (Some (dot_dot, d)) ≡ 1 = ap (λ n. one_for j (Some (dot_dot, n))) (sym same) ∙ one_here j dot_dot in
                      omega (arith, count, one, two, links, more, up)
                  | inr away ↦
                      let kept = adds.kept j other away (λ free. some (adds.others.kind j other ∙ free)) in
                      let up = one_else j d dot_dot (λ e. away (sym e)) in
                      omega (arith, count, one, two, links, kept, up)
                ]
          ];
      linked = λ j low some. elim (cases_eq j made) [
        | inl same ↦ let links : new.links j ≡ 2 = ap new.links same ∙ adds.links in omega (arith, links)
        | inr other ↦ elim (cases_eq j d) [
          | inl same ↦ let more : new.links j ≡ old.links d + 1 = ap new.links same ∙ adds.more in omega (arith, more)
          | inr away ↦
              let kept = adds.kept j other away (λ free. some (adds.others.kind j other ∙ free)) in
              let links = sound.linked j low (λ free. some (adds.others.kind j other ∙ free)) in omega (arith, kept, links)
        ]
      ];
    }
