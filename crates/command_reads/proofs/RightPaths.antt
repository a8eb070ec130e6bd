-- What a path leads to, if nothing is lost on the way, is the same in every image that agrees outside the lost blocks.
use Rattle.std.proofs.Common.{◌≡◌, ◌≢◌, ℕ, ◌≤◌, ◌&&◌, ◌||◌, ◌∙◌, Bool, true, false, not, if◌then◌else◌, List, [], ◌∷◌, Option, None, Some, Ok, Err, inl, inr, refl, ap, sym, true≢false}
use Rattle.std.specs.Prelude.{codes}
use Rattle.std.specs.Option.{ok_or, option_map_or}
use Rattle.std.proofs.lemmas.Bool.{and_parts, cases_Bool, leb-true, or_parts}
use Rattle.pdp_words.specs.Steps.{and_then}
use Rattle.vol_layout.specs.Edition.{constants}
use Rattle.vol_layout.specs.Geometry.{Fits}
use Rattle.vol_layout.specs.Inode.{kind_of}
use Rattle.vol_layout.specs.declared.geometry.Geometry.{Geometry}
use Rattle.vol_layout.specs.declared.mode.Kind.{Kind}
use Rattle.vol_layout.specs.declared.mode.Kind.TheVariants as kinds
use Rattle.vol_layout.proofs.InodeLaws.{mode_kept}
use Rattle.vol_file.specs.Rules.{kind_at}
use Rattle.vol_dir.specs.Access.{user}
use Rattle.vol_dir.specs.Directories.{directory, directory_of, walked_to}
use Rattle.vol_dir.specs.Entries.{slots}
use Rattle.vol_dir.specs.Names.{get, names_of}
use Rattle.vol_dir.specs.Tree.{is_number, tree}
use Rattle.vol_dir.specs.Walk.{components, find_in, has_zero, search, search_node, walk_from}
use Rattle.vol_dir.specs.declared.refusal.Refusal.{Refusal}
use Rattle.vol_dir.specs.declared.refusal.Refusal.TheVariants as refusals
use Rattle.vol_dir.proofs.WalkLaws.{search-directory, search-other, search-outside, walk-begins}
use Rattle.vol_losses.specs.Losses.{AgreesOutside, is_lost, is_whole, node_block}
use Rattle.vol_losses.proofs.Agreement.{node_agrees}
use Rattle.vol_losses.proofs.BadLaws.{rescue_agrees}
use Rattle.vol_losses.proofs.SureFlags.{whole_is}
use Rattle.vol_losses.proofs.SureNames.{nodes_same}
use Rattle.vol_archive.specs.Export.{is_directory, is_directory_kind}
use Rattle.vol_archive.specs.declared.met_entries.MetEntry.{MetEntry}
use Rattle.vol_listing.specs.Places.{joined}
use Rattle.command_reads.specs.BadLaws.{PathsAreRight}
use Rattle.command_reads.specs.Ways.{is_unsure_node, last_seen, last_unsure, number_in, way_entry}

-- only a directory has a directory's kind
kind_is : (kind : Kind) → is_directory_kind kind ≡ true → kind ≡ kinds.Directory
kind_is kinds.Directory is = refl
kind_is kinds.Free is = absurd (true≢false (sym is))
kind_is kinds.Regular is = absurd (true≢false (sym is))
kind_is kinds.Special is = absurd (true≢false (sym is))
kind_is kinds.Odd is = absurd (true≢false (sym is))

kind_not : (kind : Kind) → is_directory_kind kind ≡ false → kind ≢ kinds.Directory
kind_not kind is = λ e. true≢false (sym (ap is_directory_kind e) ∙ is)

-- a number that isn't lost as a flag
whole_of : (w : Bool) → not w ≡ false → w ≡ true
whole_of true is = refl
whole_of false is = absurd (true≢false is)

-- a number of the volume is at least 1 and at most the last
in_list : (g : Geometry) (i : ℕ) → is_number g i ≡ true → (1 ≤ i) × (i ≤ g.last_inode)
in_list g i number =
    let parts = and_parts _ _ number in (leb-true 1 i parts.0, leb-true i g.last_inode parts.1)

-- searching a node finds its map if it is a directory, else nothing
searched_is : (g : Geometry) (image : List ℕ) (i : ℕ) (b : Bool) → is_directory g image i ≡ b
    → search (tree g image) user i ≡ (if b then Ok (names_of (slots g image i)) else Err refusals.NotDirectory)
searched_is g image i true is =
    let parts = and_parts (is_number g i) (is_directory_kind (kind_at g image i)) is in
    let numbers = in_list g i parts.0 in
    search-directory g image user i true (record { first = numbers.0; last = numbers.1; kind = kind_is (kind_at g image i) parts.1 }) refl
searched_is g image i false is = elim (cases_Bool (is_number g i)) [
  | inl number ↦
      let numbers = in_list g i number in
      search-other g image user i numbers.0 numbers.1 (kind_not (kind_at g image i) (sym (ap (λ b. b && is_directory_kind (kind_at g image i)) number) ∙ is))
  | inr outside ↦ search-outside g image user i outside
]

-- looking a name up in a node
found_is : (g : Geometry) (image : List ℕ) (i : ℕ) (name : List ℕ) (b : Bool) → is_directory g image i ≡ b
    → find_in (tree g image) user i name ≡ (if b then ok_or (get (names_of (slots g image i)) name) refusals.NoEntry else Err refusals.NotDirectory)
found_is g image i name true is = ap (λ r. and_then r (λ names. ok_or (get names name) refusals.NoEntry)) (searched_is g image i true is)
found_is g image i name false is = ap (λ r. and_then r (λ names. ok_or (get names name) refusals.NoEntry)) (searched_is g image i false is)

-- it finds the number that the name has
found_some : (g : Geometry) (image : List ℕ) (i next : ℕ) (name : List ℕ) → number_in g image i name ≡ Some next → find_in (tree g image) user i name ≡ Ok next
found_some g image i next name is = elim (cases_Bool (is_directory g image i)) [
  | inl directory ↦
      found_is g image i name true directory
      ∙ ap (λ o. ok_or o refusals.NoEntry) (sym (ap (λ b. if b then get (names_of (slots g image i)) name else None) directory) ∙ is)
  | inr other ↦
      let none : None ≡ Some next = sym (ap (λ b. if b then get (names_of (slots g image i)) name else None) other) ∙ is in absurd (cc)
]

-- or it is refused
found_none : (g : Geometry) (image : List ℕ) (i : ℕ) (name : List ℕ) → number_in g image i name ≡ None
    → (refusal : Refusal) × (find_in (tree g image) user i name ≡ Err refusal)
found_none g image i name is = elim (cases_Bool (is_directory g image i)) [
  | inl directory ↦ (
    refusals.NoEntry,
    found_is g image i name true directory
        ∙ ap (λ o. ok_or o refusals.NoEntry) (sym (ap (λ b. if b then get (names_of (slots g image i)) name else None) directory) ∙ is),
  )
  | inr other ↦ (refusals.NotDirectory, found_is g image i name false other)
]

module _ (g : Geometry) (lost : List Bool) (old new : List ℕ) (fits : Fits g old) (agrees : AgreesOutside g lost old new) where
  kind_same : (i : ℕ) → is_number g i ≡ true → is_lost lost (node_block g.edition i) ≡ false → kind_at g new i ≡ kind_at g old i
  kind_same i number node =
      let numbers = in_list g i number in
      ap (kind_of g.edition) (mode_kept g old new i (node_agrees g lost old new i fits numbers.0 numbers.1 agrees node))

  -- what isn't lost of a node of the volume from which it can be trusted where paths lead
  sure_parts : (i : ℕ) → is_number g i ≡ true → is_unsure_node g old lost i ≡ false
      → (is_lost lost (node_block g.edition i) ≡ false) × ((is_directory g old i && not (is_whole g old lost i)) ≡ false)
  sure_parts i number sure =
      or_parts (is_lost lost (node_block g.edition i)) (is_directory g old i && not (is_whole g old lost i))
      (sym (ap (λ b. b && (is_lost lost (node_block g.edition i) || (is_directory g old i && not (is_whole g old lost i)))) number) ∙ sure)

  -- a search of it is the same
  searched_same : (i : ℕ) → is_unsure_node g old lost i ≡ false → search (tree g new) user i ≡ search (tree g old) user i
  searched_same i sure = elim (cases_Bool (is_number g i)) [
    | inr outside ↦ search-outside g new user i outside ∙ sym (search-outside g old user i outside)
    | inl number ↦
        let parts = sure_parts i number sure in
        elim (cases_Bool (is_directory g old i)) [
          | inl directory ↦
              let whole = whole_of (is_whole g old lost i) (sym (ap (λ b. b && not (is_whole g old lost i)) directory) ∙ parts.1) in
              ap (λ node. option_map_or (search_node user) node (Err refusals.NotDirectory)) (nodes_same g lost old new i fits agrees (whole_is g old lost i whole))
          | inr other ↦
              searched_is g new i false (ap (λ k. is_number g i && is_directory_kind k) (kind_same i number parts.0) ∙ other)
              ∙ sym (searched_is g old i false other)
        ]
  ]

  -- and so is whether it is a directory
  directory_same : (i : ℕ) → is_unsure_node g old lost i ≡ false → directory g new i ≡ directory g old i
  unfolding directory
  directory_same i sure = elim (cases_Bool (is_number g i)) [
    | inl number ↦ ap (λ k. if is_number g i then directory_of i k else Err refusals.NotDirectory) (kind_same i number (sure_parts i number sure).0)
    | inr outside ↦
        ap (λ b. if b then directory_of i (kind_at g new i) else Err refusals.NotDirectory) outside
        ∙ sym (ap (λ b. if b then directory_of i (kind_at g old i) else Err refusals.NotDirectory) outside)
  ]

  -- if nothing is seen up to a node, nothing was seen before, and it can be trusted where paths lead from it
  seen_none : (seen : Option MetEntry) (place : List ℕ) (i : ℕ) → last_seen g old lost seen place i ≡ None → (seen ≡ None) × (is_unsure_node g old lost i ≡ false)
  seen_none seen place i =
      elim (is_unsure_node g old lost i) as (λ b. (if b then Some (way_entry place i) else seen) ≡ None → (seen ≡ None) × (b ≡ false)) [
        | true ↦ λ e. absurd (cc)
        | false ↦ λ e. (e, refl)
      ]

  first_none : (names : List (List ℕ)) (seen : Option MetEntry) (place : List ℕ) (i : ℕ) → last_unsure g old lost seen place i names ≡ None → seen ≡ None
  unfolding last_unsure
  first_none [] seen place i none = none
  first_none (name ∷ names) seen place i none =
      elim (number_in g old i name) as (λ o. option_map_or (λ next. last_unsure g old lost (last_seen g old lost seen (joined place name) next) (joined place name) next names) o seen ≡ None → seen ≡ None) [
        | None ↦ λ n. n
        | Some next ↦ λ n.
            (seen_none seen (joined place name) next (first_none names (last_seen g old lost seen (joined place name) next) (joined place name) next n)).0
      ] none

  -- names lead from a node to the same directory, or to the same refusal
  led_same : (names : List (List ℕ)) (seen : Option MetEntry) (place : List ℕ) (i : ℕ) → is_unsure_node g old lost i ≡ false
      → last_unsure g old lost seen place i names ≡ None
      → walked_to g new (walk_from (tree g new) user i names) ≡ walked_to g old (walk_from (tree g old) user i names)
  unfolding last_unsure
  led_same [] seen place i sure none = directory_same i sure
  led_same (name ∷ names) seen place i sure none =
      let here : find_in (tree g new) user i name ≡ find_in (tree g old) user i name =
      ap (λ r. and_then r (λ names. ok_or (get names name) refusals.NoEntry)) (searched_same i sure) in
      elim (number_in g old i name) as (λ o. number_in g old i name ≡ o
      → option_map_or (λ next. last_unsure g old lost (last_seen g old lost seen (joined place name) next) (joined place name) next names) o seen ≡ None
      → walked_to g new (walk_from (tree g new) user i (name ∷ names)) ≡ walked_to g old (walk_from (tree g old) user i (name ∷ names))) [
        | None ↦ λ e n.
            let missing = found_none g old i name e in
            ap (λ r. walked_to g new (and_then r (λ next. walk_from (tree g new) user next names))) (here ∙ missing.1)
            ∙ sym (ap (λ r. walked_to g old (and_then r (λ next. walk_from (tree g old) user next names))) missing.1)
        | Some next ↦ λ e n.
            let there = found_some g old i next name e in
            let seen_on = last_seen g old lost seen (joined place name) next in
            let next_sure = (seen_none seen (joined place name) next (first_none names seen_on (joined place name) next n)).1 in
            ap (λ r. walked_to g new (and_then r (λ next. walk_from (tree g new) user next names))) (here ∙ there)
            ∙ (led_same names seen_on (joined place name) next next_sure n
            ∙ sym (ap (λ r. walked_to g old (and_then r (λ next. walk_from (tree g old) user next names))) there))
      ] refl none

-- a path on which nothing is lost leads where it leads in the volume
pub paths_right : PathsAreRight
paths_right edition ranges at sizes bytes volume image lost g path rescued has fits none =
    let agrees = rescue_agrees g edition ranges at sizes bytes volume image lost fits rescued has in
    let root = (constants g.edition).root in
    let seen = last_seen g image lost None (codes "/") root in
    let sure = (seen_none g lost image volume fits agrees None (codes "/") root (first_none g lost image volume fits agrees (components path) seen (codes "/") root none)).1 in
    ap (λ r. if has_zero path then Err refusals.Invalid else r)
    (ap (walked_to g volume) (sym (walk-begins g volume user path))
    ∙ (led_same g lost image volume fits agrees (components path) seen (codes "/") root sure none
    ∙ ap (walked_to g image) (walk-begins g image user path)))
