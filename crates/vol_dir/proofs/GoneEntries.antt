-- A directory after an entry was removed.
use Rattle.std.proofs.Common.{◌≡◌, ◌≢◌, ◌∙◌, sym, ap, subst, refl, ℕ, zero, suc, ◌+◌, ◌-◌, ◌*◌, ◌/◌, ◌%◌, ◌<◌, ◌≤◌, Bool, true, false, cond, ◌&&◌, true≢false, not, ◌||◌, List, [], ◌∷◌, map, length, get_or, None, Some, inl, inr, arith, ◌==◌, if◌then◌else◌}
use Rattle.std.specs.Prelude.{Option}
use Rattle.std.specs.List.{list_any, range_with_len, count_by}
use Rattle.std.specs.Str.{bytes_eq}
use Rattle.std.specs.Option.{is_some, option_map_or}
use Rattle.std.proofs.lemmas.Bool.{cases_lt, cases_eq, ne_eqb, lt-leb, or_cases, true_from_ne_false, false_from_ne_true}
use Rattle.std.proofs.lemmas.List.{same_lists, get_or-map, length-map}
use Rattle.std.proofs.lemmas.List.Sums.{fails_before_first, passes_at_first, sum_by-cons}
use Rattle.vol_layout.specs.Geometry.{in_zone, Fits}
use Rattle.vol_layout.specs.BlockPointers.{form_at, stored, named, IsFile}
use Rattle.vol_layout.specs.BlockMaps.{last_place, fronts, way, places}
use Rattle.vol_layout.specs.Body.{body}
use Rattle.vol_layout.specs.Slot.{slot_at}
use Rattle.vol_layout.proofs.BodyLaws.{length-body}
use Rattle.vol_layout.proofs.NameLaws.{named_stops, zero_out, zone_some, stored_is, stored_none}
use Rattle.vol_layout.proofs.PlaceLaws.{has_no_way}
use Rattle.vol_layout.specs.declared.geometry.Geometry.{Geometry}
use Rattle.vol_layout.specs.declared.block_map.BlockMap.{BlockMap}
use Rattle.vol_layout.specs.declared.block_map.BlockMap.TheVariants.{Small, Large, Deep, Bare}
use Rattle.vol_file.specs.Changes.{spliced, Writes}
use Rattle.vol_file.specs.Need.{missing_count, need, need_of}
use Rattle.vol_file.specs.Rules.{size_of, Rules3To7With}
use Rattle.vol_file.specs.Shape.{is_named, touched, is_on_ways, grows_large, moved_down}
use Rattle.vol_file.proofs.PlaceLists.{same_bytes}
use Rattle.vol_dir.specs.EntryEdits.{with_item, HasNamesOnce}
use Rattle.vol_dir.specs.Entries.{slot_count, entry_at, slots}
use Rattle.vol_dir.specs.Search.{holds, slot_named}
use Rattle.vol_dir.specs.Names.{get, names_of}
use Rattle.vol_dir.proofs.NameMaps.{cleared, get_none}
use Rattle.vol_dir.proofs.PutSlots.{Replaces, replaces, spliced_inside, length-with_item, with_item_here, with_item_else}
use Rattle.vol_dir.proofs.ReadSlots.{length-slots, slot_from, slot_is, entry_in_hole, empty_slot}

-- if a position in the block map points to a block, all positions on the path to it point to blocks
fronts_named : (geometry : Geometry) (image : List ℕ) (i : ℕ) (p q : List ℕ) → Fits geometry image → named geometry image i q ≢ 0
    → list_any (bytes_eq p) (fronts q) ≡ true → named geometry image i p ≢ 0
fronts_named geometry image i p [] fits some on = absurd (true≢false (sym on))
fronts_named geometry image i p (j ∷ []) fits some on = elim (or_cases (bytes_eq p (j ∷ [])) false on) [
  | inl here ↦ λ e. some (ap (named geometry image i) (sym (same_bytes p (j ∷ []) here)) ∙ e)
  | inr none ↦ absurd (true≢false (sym none))
]
fronts_named geometry image i p (j ∷ (a ∷ q)) fits some on = elim (or_cases (bytes_eq p (j ∷ (a ∷ q))) (list_any (bytes_eq p) (fronts (a ∷ q))) on) [
  | inl here ↦ λ e. some (ap (named geometry image i) (sym (same_bytes p (j ∷ (a ∷ q)) here)) ∙ e)
  | inr above ↦
      fronts_named geometry image i p (a ∷ q) fits
      (λ e. some (named_stops geometry image i j a q (ap (in_zone geometry) e ∙ zero_out geometry image fits))) above
]

-- a file doesn't become large at a logical block that has a path
grows_not : (form : BlockMap) (b : ℕ) (p : List ℕ) → last_place form b ≡ Some p → grows_large form (b ∷ []) ≡ false
grows_not Small b p e = elim (cases_lt b 8) [
  | inl low ↦ ap (λ t. t || false) (lt-leb 8 b low)
  | inr high ↦ absurd (true≢false (ap is_some (sym e ∙ has_no_way Small b high)))
]
grows_not Large b p e = refl
grows_not Deep b p e = refl
grows_not Bare b p e = refl

-- if no item passes a test, the count is 0
count_none : {X : Type 0} (test : X → Bool) (xs : List X) → ((x : X) → test x ≡ false) → count_by test xs ≡ 0
count_none test [] none = refl
count_none {X} test (x ∷ xs) none =
    let rest = count_none test xs none in
    let first : ◌≡◌ {A = ℕ} (cond (test x) 1 0) 0 = ap (λ b. cond b 1 0) (none x) in
    let split = sum_by-cons {X = X} (λ y. cond (test y) 1 0) x xs in omega (arith, rest, split, first)

-- a position in the block map that points to a block isn't counted as missing
passes_not : (on : Bool) (k : ℕ) → (on ≡ true → k ≢ 0) → ((on || false) && not (not (k == 0))) ≡ false
passes_not true k some = ap (λ b. not (not b)) (ne_eqb k 0 (some refl))
passes_not false k some = refl

-- no block is missing on the path of a logical block whose position in the block map points to a block
none_missing : (geometry : Geometry) (image : List ℕ) (i b : ℕ) (form : BlockMap) (q : List ℕ) → Fits geometry image → last_place form b ≡ Some q
    → named geometry image i q ≢ 0 → missing_count form (is_named geometry image i) (b ∷ []) ≡ 0
unfolding missing_count
none_missing geometry image i b form q fits e some =
    let ways : way form b ≡ fronts q = ap (λ o. option_map_or fronts o []) e in
    count_none (λ p. is_on_ways form (b ∷ []) p && not (is_named geometry image i p)) (places form)
    (λ p. passes_not (list_any (bytes_eq p) (way form b)) (named geometry image i p)
    (λ on. fronts_named geometry image i p q fits some (ap (list_any (bytes_eq p)) (sym ways) ∙ on)))

-- a write of two bytes of a stored logical block needs no block
pub needs_none : (geometry : Geometry) (image : List ℕ) (i b offset : ℕ) → Fits geometry image → offset / 512 ≡ b → (offset + 1) / 512 ≡ b
    → in_zone geometry (stored geometry image i (form_at geometry image i) b) ≡ true → need geometry image i offset 2 ≡ 0
unfolding need_of
needs_none geometry image i b offset fits first last zone =
    let form = form_at geometry image i in
    let names = is_named geometry image i in
    let some = zone_some geometry image (stored geometry image i form b) fits zone in
    let count : (offset + 1) / 512 - offset / 512 + 1 ≡ 1 = omega arith in
    let blocks : touched offset 2 ≡ b ∷ [] = ap (range_with_len (offset / 512)) count ∙ ap (λ n. range_with_len n 1) first in
    elim (last_place form b) as (λ o. last_place form b ≡ o → need geometry image i offset 2 ≡ 0) [
      | None ↦ λ e. absurd (some (stored_none geometry image i form b e))
      | Some p ↦ λ e.
          ap (need_of form names) blocks
          ∙ (ap (λ t. missing_count (if t then Large else form) (if t then moved_down names else names) (b ∷ []) + (if t then 1 else 0)) (grows_not form b p e)
          ∙ ap (λ n. n + 0) (none_missing geometry image i b form p fits e (λ z. some (stored_is geometry image i form b p e ∙ z))))
    ] refl

-- the logical block of a slot with an entry is stored
pub held_zone : (geometry : Geometry) (image name : List ℕ) (d s : ℕ) → s < slot_count geometry image d
    → holds name (entry_at geometry image d s) ≡ true
    → in_zone geometry (stored geometry image d (form_at geometry image d) (s / 32)) ≡ true
held_zone geometry image name d s within held =
    let at = stored geometry image d (form_at geometry image d) (s / 32) in
    let place : 32 * (s / 32) + s % 32 ≡ s = omega arith in
    true_from_ne_false (in_zone geometry at) (λ hole.
    let empty = entry_in_hole geometry image d (s / 32) (s % 32) at (omega arith) (omega arith) refl hole in
    true≢false (sym held ∙ ap (holds name) (ap (entry_at geometry image d) (sym place) ∙ empty)))

-- both bytes of the list `0 ∷ 0 ∷ []` are 0
zero_at : (r : ℕ) → r < 2 → ◌≡◌ {A = ℕ} (get_or (0 ∷ (0 ∷ [])) r 0) 0
zero_at zero h = refl
zero_at (suc zero) h = refl
zero_at (suc (suc r)) h = absurd (omega arith)

-- after two zeros are written, these bytes are 0
zeros_put : (whole bytes : List ℕ) (at r : ℕ) → at ≤ length bytes → r < 2 → whole ≡ spliced bytes at (0 ∷ (0 ∷ [])) → get_or whole (at + r) 0 ≡ 0
zeros_put whole bytes at r start h is =
    ap (λ xs. get_or xs (at + r) 0) is ∙ (spliced_inside bytes at (0 ∷ (0 ∷ [])) r start h ∙ zero_at r h)

-- writing two zeros over the i-number of a slot empties the slot
pub removes : (geometry : Geometry) (old new blocks : List ℕ) (d s : ℕ) → IsFile geometry old d → Rules3To7With geometry old blocks
    → size_of geometry old d % 16 ≡ 0 → s < slot_count geometry old d → Writes geometry old new d (16 * s) (0 ∷ (0 ∷ [])) blocks
    → Replaces geometry old new d s None
removes geometry old new blocks d s file sound whole within writes =
    let limit = sound.sizes.greatest d file in
    let size = writes.size in
    let len_old = length-body geometry old d in
    let start : 16 * s ≤ length (body geometry old d) = omega (arith, len_old, limit, within) in
    let place : 16 * s + 0 ≡ 16 * s = omega arith in
    let low : get_or (body geometry new d) (16 * s) 0 ≡ 0 =
    ap (λ n. get_or (body geometry new d) n 0) (sym place) ∙ zeros_put (body geometry new d) (body geometry old d) (16 * s) 0 start (omega arith) writes.body in
    let high : get_or (body geometry new d) (16 * s + 1) 0 ≡ 0 =
    zeros_put (body geometry new d) (body geometry old d) (16 * s) 1 start (omega arith) writes.body in
    replaces geometry old new d s (0 ∷ (0 ∷ [])) None (record {
      limit = limit;
      whole = whole;
      within = omega arith;
      room = omega (arith, limit, within);
      some = omega arith;
      most = omega arith;
      ends = inl within;
      size = size;
      body = writes.body;
    })
    (empty_slot (slot_at (body geometry new d) (16 * s)) (omega (arith, low, high)))

-- slot `s` of directory `d` has an entry with this name
pub record StandsIn (geometry : Geometry) (image : List ℕ) (d : ℕ) (name : List ℕ) (s : ℕ) : Type 0 where
  pub within : s < slot_count geometry image d
  pub held : holds name (entry_at geometry image d s) ≡ true

stands_there : (geometry : Geometry) (image name : List ℕ) (d : ℕ) → is_some (get (names_of (slots geometry image d)) name) ≡ true
    → StandsIn geometry image d name (slot_named name (slots geometry image d))
stands_there geometry image name d there =
    let all = slots geometry image d in
    let len = length-slots geometry image d in
    elim (cases_lt (slot_named name all) (length all)) [
      | inl low ↦ record {
        within = omega arith;
        held = ap (holds name) (sym (slot_is geometry image d (slot_named name all))) ∙ passes_at_first (holds name) all None low;
      }
      | inr high ↦ absurd (true≢false (sym there
          ∙ ap is_some (get_none all name (λ t h. fails_before_first (holds name) all t None (omega (arith, h, high))))))
    ]

pub stands_in : (geometry : Geometry) (image name : List ℕ) (d s : ℕ) → s ≡ slot_named name (slots geometry image d)
    → is_some (get (names_of (slots geometry image d)) name) ≡ true → StandsIn geometry image d name s
stands_in geometry image name d s is there = subst (StandsIn geometry image d name) (sym is) (stands_there geometry image name d there)

-- removing a name does not change a slot without the name
stays : (name : List ℕ) (slot : Option (List ℕ × ℕ)) → holds name slot ≡ false → slot ≡ cleared name slot
stays name slot e = rw e

-- removing a name empties a slot with the name
goes : (name : List ℕ) (slot : Option (List ℕ × ℕ)) → holds name slot ≡ true → None ≡ cleared name slot
goes name slot e = rw e

-- emptying the slot of a name removes the name from all slots, since no other slot has it
pub slots_cleared : (geometry : Geometry) (image name : List ℕ) (d s : ℕ) → s < slot_count geometry image d → HasNamesOnce geometry image d
    → holds name (entry_at geometry image d s) ≡ true → with_item (slots geometry image d) s None ≡ map (cleared name) (slots geometry image d)
slots_cleared geometry image name d s within names held =
    let len = length-slots geometry image d in
    let with = length-with_item (slots geometry image d) s None (omega arith) in
    let mapped = length-map (slots geometry image d) (cleared name) in
    same_lists (with_item (slots geometry image d) s None) (map (cleared name) (slots geometry image d)) (omega arith)
    (λ k e h.
    let low : k < slot_count geometry image d = omega arith in
    let right : get_or (map (cleared name) (slots geometry image d)) k e ≡ cleared name (entry_at geometry image d k) =
    get_or-map (cleared name) (slots geometry image d) k None e (omega arith) ∙ ap (cleared name) (slot_is geometry image d k) in
    elim (cases_eq k s) [
      | inl same ↦
          ap (λ n. get_or (with_item (slots geometry image d) s None) n e) same
          ∙ (with_item_here (slots geometry image d) s None e (omega arith)
          ∙ (goes name (entry_at geometry image d k) (ap (λ n. holds name (entry_at geometry image d n)) same ∙ held) ∙ sym right))
      | inr other ↦
          with_item_else (slots geometry image d) s k None e (omega arith) other
          ∙ (slot_from geometry image d k e low
          ∙ (stays name (entry_at geometry image d k)
          (false_from_ne_true (holds name (entry_at geometry image d k)) (λ is. other (names.once name k s is held))) ∙ sym right))
    ])

-- after a slot is emptied, no name occurs twice in the directory
pub once_removed : (geometry : Geometry) (old new : List ℕ) (d s : ℕ) → HasNamesOnce geometry old d → Replaces geometry old new d s None
    → HasNamesOnce geometry new d
once_removed geometry old new d s names replaced =
    let away : (name : List ℕ) (t : ℕ) → holds name (entry_at geometry new d t) ≡ true → t ≢ s =
    λ name t held same. true≢false (sym held ∙ ap (holds name) (ap (entry_at geometry new d) same ∙ replaced.here)) in
    let before : (name : List ℕ) (t : ℕ) → holds name (entry_at geometry new d t) ≡ true → holds name (entry_at geometry old d t) ≡ true =
    λ name t held. ap (holds name) (sym (replaced.others t (away name t held))) ∙ held in
    record { once = λ name a b first second. names.once name a b (before name a first) (before name b second) }
