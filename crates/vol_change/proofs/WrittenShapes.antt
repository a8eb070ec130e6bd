-- The i-node and the shape of a file after a write.
use Rattle.std.proofs.Common.{◌≡◌, ◌∙◌, sym, ap, subst, refl, ℕ, ◌+◌, ◌&&◌, Bool, not, cond, if◌then◌else◌, List, [], ◌∷◌, length, true, false, arith, inl, inr}
use Rattle.std.specs.Prelude.{◌||◌}
use Rattle.std.specs.List.{count_by}
use Rattle.std.proofs.lemmas.Bool.{cases_Bool}
use Rattle.std.proofs.lemmas.List.Sums.{sum_by-cons}
use Rattle.vol_layout.specs.Inode.{inode_place, inode_of, is_large}
use Rattle.vol_layout.specs.BlockPointers.{mode_of, form_at, IsFile}
use Rattle.vol_layout.specs.BlockMaps.{places}
use Rattle.vol_layout.specs.declared.geometry.Geometry.{Geometry}
use Rattle.vol_layout.specs.declared.block_map.BlockMap.{BlockMap}
use Rattle.vol_layout.specs.declared.block_map.BlockMap.TheVariants.{Large}
use Rattle.vol_file.specs.Changes.{Writes}
use Rattle.vol_file.specs.Laws.{IsAmong}
use Rattle.vol_file.specs.Need.{missing_count, need_of}
use Rattle.vol_file.specs.Rules.{kind_at}
use Rattle.vol_file.specs.Shape.{is_named, touched, is_on_ways, grows_large, moved_down, fit_form, filled}
use Rattle.vol_file.proofs.PlaceLists.{places_among}
use Rattle.vol_dir.specs.Tree.{form_in, is_place, is_named_place}
use Rattle.vol_change.proofs.FreeCounts.{form_shape}
use Rattle.vol_change.proofs.FileInodes.{KeepsMode, KeepsFields, touched_mode, touched_form, fields_kept}
use Rattle.vol_dir.proofs.PlaceTests.{place_passed}
use Rattle.vol_change.proofs.ShapePlaces.{guarded, filled_places, ways_place}

-- file i after these logical blocks are stored
pub record StoresBlocks (geometry : Geometry) (old new : List ℕ) (i : ℕ) (blocks : List ℕ) : Type 0 where
  pub kind : kind_at geometry new i ≡ kind_at geometry old i
  pub fields : KeepsFields (inode_of geometry.edition old i) (inode_of geometry.edition new i)
  pub large : is_large geometry.edition (mode_of geometry new i)
      ≡ (is_large geometry.edition (mode_of geometry old i) || grows_large (form_in geometry.edition (is_large geometry.edition (mode_of geometry old i))) blocks)
  pub names : (p : List ℕ) → is_named_place geometry new i p
      ≡ filled (form_in geometry.edition (is_large geometry.edition (mode_of geometry old i))) (is_named_place geometry old i) blocks p

-- a write stores the logical blocks that it touches
pub stores_blocks : (geometry : Geometry) (old new free : List ℕ) (i offset : ℕ) (text : List ℕ) → IsFile geometry old i
    → Writes geometry old new i offset text free → StoresBlocks geometry old new i (touched offset (length text))
stores_blocks geometry old new free i offset text file writes =
    let blocks = touched offset (length text) in
    let edition = geometry.edition in
    let mode : KeepsMode edition (mode_of geometry old i) (mode_of geometry new i) (is_large edition (mode_of geometry old i) || grows_large (form_at geometry old i) blocks) =
    subst (λ m. KeepsMode edition (mode_of geometry old i) m (is_large edition (mode_of geometry old i) || grows_large (form_at geometry old i) blocks))
    (sym writes.mode) (touched_mode edition (mode_of geometry old i) blocks file.kind) in
    let fit : form_at geometry new i ≡ fit_form (form_at geometry old i) blocks =
    touched_form edition (mode_of geometry old i) (mode_of geometry new i) blocks file.kind mode in
    let form : form_in edition (is_large edition (mode_of geometry old i)) ≡ form_at geometry old i = form_shape edition (mode_of geometry old i) file.kind in
    record {
      kind = mode.kind;
      fields = fields_kept edition old new (inode_place edition i) writes.alone.elsewhere.inode mode.permissions;
      large = mode.flag ∙ sym (ap (λ f. is_large edition (mode_of geometry old i) || grows_large f blocks) form);
      names = λ p.
          guarded (is_place (form_at geometry new i) p) (is_named geometry new i p) (filled (form_at geometry old i) (is_named geometry old i) blocks p)
          (λ passes. writes.names p (place_passed (form_at geometry new i) p passes))
          ∙ (ap (λ f. is_place f p && filled (form_at geometry old i) (is_named geometry old i) blocks p) fit
          ∙ (sym (filled_places (form_at geometry old i) (is_named geometry old i) blocks p)
          ∙ sym (ap (λ f. filled f (is_named_place geometry old i) blocks p) form)));
    }

-- if the count of a list is 0, no item of it passes the test
none_counted : (t : List ℕ → Bool) (p : List ℕ) (ps : List (List ℕ)) → count_by t ps ≡ 0 → IsAmong p ps → t p ≡ false
none_counted t p [] none among = absurd among
none_counted t p (q ∷ ps) none among =
    let split : count_by t (q ∷ ps) ≡ cond (t q) 1 0 + count_by t ps = sum_by-cons (λ x. cond (t x) 1 0) q ps in
    elim among [
      | inl same ↦ rw same (elim (cases_Bool (t q)) [
        | inl passes ↦
            let one : ◌≡◌ {A = ℕ} (cond (t q) 1 0) 1 = ap (λ b. cond b 1 0) passes in absurd (omega (arith, split, one, none))
        | inr fails ↦ fails
      ])
      | inr rest ↦ none_counted t p ps (omega (arith, split, none)) rest
    ]

-- if no block is needed, the file isn't made large
pub grown_need : (form : BlockMap) (names : List ℕ → Bool) (blocks : List ℕ) → need_of form names blocks ≡ 0 → grows_large form blocks ≡ false
unfolding need_of
grown_need form names blocks none = elim (cases_Bool (grows_large form blocks)) [
  | inl grows ↦
      let one : ◌≡◌ {A = ℕ} (if grows_large form blocks then 1 else 0) 1 = ap (λ t. if t then 1 else 0) grows in absurd (omega (arith, one, none))
  | inr stays ↦ stays
]

-- if each chosen position already has a block, adding the chosen positions changes nothing
or_named : (name on : Bool) → (on ≡ true → (on && not name) ≡ false) → (name || on) ≡ name
or_named true on h = refl
or_named false true h = h refl
or_named false false h = refl

-- if no block is needed, storing the blocks changes nothing
pub filled_none : (form : BlockMap) (names : List ℕ → Bool) (blocks p : List ℕ) → need_of form names blocks ≡ 0
    → filled form names blocks p ≡ names p
unfolding need_of missing_count
filled_none form names blocks p none =
    let stays = grown_need form names blocks none in
    let same : filled form names blocks p ≡ (names p || is_on_ways form blocks p) =
    ap (λ t. (if t then moved_down names else names) p || is_on_ways (if t then Large else form) blocks p) stays in
    let count : count_by (λ q. is_on_ways form blocks q && not (names q)) (places form) ≡ 0 =
    let rules : missing_count form names blocks + 0 ≡ 0 =
    sym (ap (λ t. missing_count (if t then Large else form) (if t then moved_down names else names) blocks + (if t then 1 else 0)) stays) ∙ none in
    omega (arith, rules) in
    same ∙ or_named (names p) (is_on_ways form blocks p)
    (λ on. none_counted (λ q. is_on_ways form blocks q && not (names q)) p (places form) count (places_among form p (ways_place form blocks p on)))
