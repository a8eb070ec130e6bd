-- Walking up from a directory, from parent to parent.
use Rattle.std.proofs.Common.{◌≡◌, ◌≢◌, ℕ, ◌<◌, ◌∙◌, ◌⊎◌, inl, inr, List, Option, None, Some, length, get_or, refl, sym, arith, get_or-set_other, get_or-set_same}
use Rattle.std.proofs.Math.ListN.{set, length-set}
use Rattle.std.proofs.lemmas.Bool.{cases_eq}
use Rattle.vol_layout.specs.declared.geometry.Geometry.{Geometry}
use Rattle.vol_judge.specs.Directories.{root_of, Enters, IsReached, at_root, below}
use Rattle.vol_judge.specs.Reach.{WalksUp}
use Rattle.vol_judge.specs.DirectoryTree.{KnowsParents}

-- after the mark of n is set to d, it is d, and so is each mark that was d before
set_walk : (walks : List ℕ) (n d i : ℕ) → n < length walks → (get_or walks i 0 ≡ d) ⊎ (i ≡ n) → get_or (set walks n d) i 0 ≡ d
set_walk walks n d i room (inr same) = rw same (rw get_or-set_same refl)
set_walk walks n d i room (inl walked) =
    elim (cases_eq i n) [
      | inl same ↦ rw same (rw get_or-set_same refl)
      | inr apart ↦ rw get_or-set_other walked
    ]

-- if a mark of an i-number other than n is d after the mark of n is set, it was d before
was_walk : (walks : List ℕ) (n d i : ℕ) → (i ≡ n → ⊥) → get_or (set walks n d) i 0 ≡ d → get_or walks i 0 ≡ d
was_walk walks n d i apart same = rw get_or-set_other at same

-- the walk may move on to the parent, after marking the present directory
pub goes_on : {geometry : Geometry} {image walks : List ℕ} {parents : List (Option ℕ)} {d place : ℕ} (up : ℕ) → KnowsParents geometry image parents
    → WalksUp geometry image parents d place walks → place ≢ root_of geometry → place < length walks → get_or parents place None ≡ Some up
    → WalksUp geometry image parents d up (set walks place d)
goes_on {geometry = geometry} {image = image} {walks = walks} {parents = parents} {d = d} {place = place} up known is other room named =
    let above = known.only place up named in
    let enters : Enters geometry image up above.0 place = above.1 in
    record {
      room = simp length-set is.room;
      root = let apart : root_of geometry ≢ place = λ same. other (sym same) in rw get_or-set_other is.root;
      early = λ i apart' some.
          elim (cases_eq i place) [
            | inl same ↦ rw same (rw get_or-set_same (omega arith))
            | inr apart ↦ rw get_or-set_other (is.early i apart' (λ zero. some (rw get_or-set_other zero)))
          ];
      reached = λ i some more.
          elim (cases_eq i place) [
            | inl same ↦ absurd (more (set_walk walks place d i room (inr same)))
            | inr apart ↦ is.reached i (λ zero. some (rw get_or-set_other zero)) (λ walked. more (rw get_or-set_other walked))
          ];
      directory = enters.1.directory;
      onto = λ i walked reached.
          let here : IsReached geometry image place = below up above.0 place reached enters in
          elim (cases_eq i place) [
            | inl same ↦ rw same here
            | inr apart ↦ is.onto i (was_walk walks place d i apart walked) here
          ];
      way = λ i walked.
          elim (cases_eq i place) [
            | inl same ↦ rw same is.directory
            | inr apart ↦ is.way i (was_walk walks place d i apart walked)
          ];
      next = λ i e walked names.
          elim (cases_eq i place) [
            | inl same ↦
                let names' = rw same at names in
                inl (let both : Some e ≡ Some up = sym names' ∙ named in cc)
            | inr apart ↦ elim (is.next i e (was_walk walks place d i apart walked) names) [
              | inl here ↦ inr (set_walk walks place d e room (inr here))
              | inr there ↦ inr (set_walk walks place d e room (inl there))
            ]
          ];
      begun = elim is.begun [
        | inl same ↦ inr (set_walk walks place d d room (inr (sym same)))
        | inr walked ↦ inr (set_walk walks place d d room (inl walked))
      ];
    }

-- if entries for marked directories are only in marked directories, and the root isn't marked, no marked directory can be reached
closed : {geometry : Geometry} {image : List ℕ} {d : ℕ} (walks : List ℕ) (i : ℕ) → get_or walks (root_of geometry) 0 ≢ d
    → ((i e s : ℕ) → get_or walks i 0 ≡ d → Enters geometry image e s i → get_or walks e 0 ≡ d)
    → IsReached geometry image i → get_or walks i 0 ≡ d → ⊥
closed walks _ root from at_root walked = root walked
closed walks _ root from (below e s i reached enters) walked = closed walks e root from reached (from i e s walked enters)

-- a directory whose walk returns to a directory of the same walk can't be reached
pub goes_round : {geometry : Geometry} {image walks : List ℕ} {parents : List (Option ℕ)} {d place : ℕ} → KnowsParents geometry image parents
    → WalksUp geometry image parents d place walks → get_or walks place 0 ≡ d → d ≢ root_of geometry → IsReached geometry image d → ⊥
goes_round {geometry = geometry} {walks = walks} {d = d} known is top other reached =
    closed walks d (λ root. other (sym root ∙ is.root))
    (λ i e s walked enters. elim (is.next i e walked (known.all e s i (is.way i walked) enters)) [
      | inl here ↦ rw here top
      | inr there ↦ there
    ])
    reached (elim is.begun [ inl same ↦ rw same at top | inr walked ↦ walked ])

-- a directory whose walk meets a directory without a parent can't be reached
pub goes_nowhere : {geometry : Geometry} {image walks : List ℕ} {parents : List (Option ℕ)} {d place : ℕ} → KnowsParents geometry image parents
    → WalksUp geometry image parents d place walks → place ≢ root_of geometry → place < length walks → d ≢ root_of geometry
    → get_or parents place None ≡ None → IsReached geometry image d → ⊥
goes_nowhere {geometry = geometry} {walks = walks} {d = d} {place = place} known is apart room other none reached =
    let marks = set walks place d in
    let root : get_or marks (root_of geometry) 0 ≢ d =
    λ same.
    let away : root_of geometry ≢ place = λ at. apart (sym at) in
    other (sym (was_walk walks place d (root_of geometry) away same) ∙ is.root) in
    closed marks d root
    (λ i e s walked enters. elim (cases_eq i place) [
      | inl here ↦
          let enters' = rw here at enters in
          let parent = known.all e s place is.directory enters' in
          absurd (let both = sym none ∙ parent in cc)
      | inr away ↦
          let before = was_walk walks place d i away walked in
          elim (is.next i e before (known.all e s i (is.way i before) enters)) [
            | inl here ↦ set_walk walks place d e room (inr here)
            | inr there ↦ set_walk walks place d e room (inl there)
          ]
    ])
    reached
    (elim is.begun [
      | inl same ↦ set_walk walks place d d room (inr (sym same))
      | inr walked ↦ set_walk walks place d d room (inl walked)
    ])
