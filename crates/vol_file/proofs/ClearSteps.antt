-- Combining steps of a truncation.
use Rattle.std.proofs.Common.{◌≡◌, ℕ, ◌+◌, ◌-◌, ◌*◌, ◌<◌, ◌≤◌, ◌⊎◌, ◌∙◌, Bool, sym, ap, subst, List, [], ◌∷◌, ◌++◌, slice_index, refl, arith, inl, inr, true, false, true≢false, append_assoc}
use Rattle.vol_layout.specs.Edition.{number}
use Rattle.vol_layout.specs.Geometry.{in_zone, Fits}
use Rattle.vol_layout.specs.BlockMaps.{levels_below, pointer_count}
use Rattle.vol_layout.specs.Laws.{IsFront}
use Rattle.vol_layout.specs.BlockPointers.{form_at, IsPlaceOf, named}
use Rattle.vol_layout.specs.declared.geometry.Geometry.{Geometry}
use Rattle.vol_layout.proofs.InodeLaws.{form_same}
use Rattle.vol_layout.proofs.PlaceLaws.{place_front}
use Rattle.vol_layout.proofs.NameLaws.{entry_in}
use Rattle.vol_file.specs.Rules.{Rules3To7With, IsCovered}
use Rattle.vol_file.specs.Clears.{IsUnder, IsPastUnder, places_among, places_below, IsNamedAt, IsEmptyUnder, Clears}
use Rattle.vol_file.proofs.Alone.{elsewhere_self, elsewhere_then}
use Rattle.vol_file.proofs.BlockLists.{at_nil, from_below}
use Rattle.vol_file.proofs.PastLists.{past_at, past_kept, past_some, past_none, below_same, among_step}
use Rattle.vol_file.proofs.Fronts.{front_zero, front_under, under_front, under_longer, under_later, under_apart, under_more, under_here, under_split}
use Rattle.vol_file.proofs.StoredNames.{place_same}
use Rattle.vol_file.proofs.TakenBlocks.{rest_within}

-- if no position in the block map that must be cleared points to a block, nothing needs to be done
pub clears_none : (geometry : Geometry) (image : List ℕ) (i : ℕ) (Cleared : List ℕ → Type 0) (blocks : List ℕ) → Rules3To7With geometry image blocks
    → ((q : List ℕ) → IsPlaceOf geometry image i q → Cleared q → named geometry image i q ≡ 0)
    → Clears geometry image image i Cleared [] blocks
clears_none geometry image i Cleared blocks sound none = record {
  alone = elsewhere_self geometry image i;
  mode = refl;
  size = refl;
  sound = sound;
  covered = λ covered. covered;
  less = λ q place. inl refl;
  gone = none;
  kept = λ q place apart. refl;
  bytes = λ q r place bottom apart some low. refl;
  unused = λ k r within low. refl;
}

-- two successive steps clear the positions in the block map that each of them clears
pub clears_then : (geometry : Geometry) (old mid new : List ℕ) (i : ℕ) (First Second Both : List ℕ → Type 0) (given more blocks : List ℕ)
    → Fits geometry old → 1 ≤ i
    → ((q : List ℕ) → Both q → First q ⊎ Second q) → ((q : List ℕ) → First q → Both q) → ((q : List ℕ) → Second q → Both q)
    → Clears geometry old mid i First given blocks → Clears geometry mid new i Second more (given ++ blocks)
    → Clears geometry old new i Both (more ++ given) blocks
clears_then geometry old mid new i First Second Both given more blocks fits one split first second s t =
    let list : more ++ (given ++ blocks) ≡ (more ++ given) ++ blocks = sym (append_assoc more given blocks) in
    record {
      alone = elsewhere_then geometry old mid new i fits one s.alone t.alone;
      mode = t.mode ∙ s.mode;
      size = t.size ∙ s.size;
      sound = subst (Rules3To7With geometry new) list t.sound;
      covered = λ covered. subst (IsCovered geometry new) list (t.covered (s.covered covered));
      less = λ q place. elim (t.less q (place_same geometry old mid i q s.mode place)) [
        | inl e ↦ elim (s.less q place) [ inl f ↦ inl (e ∙ f) | inr none ↦ inr (e ∙ none) ]
        | inr none ↦ inr none
      ];
      gone = λ q place both. elim (split q both) [
        | inl f ↦ elim (t.less q (place_same geometry old mid i q s.mode place)) [
          | inl e ↦ e ∙ s.gone q place f
          | inr none ↦ none
        ]
        | inr g ↦ t.gone q (place_same geometry old mid i q s.mode place) g
      ];
      kept = λ q place apart.
          t.kept q (place_same geometry old mid i q s.mode place) (λ g. apart (second q g)) ∙ s.kept q place (λ f. apart (first q f));
      bytes = λ q r place bottom apart some low.
          let same : named geometry mid i q ≡ named geometry old i q = s.kept q place (λ f. apart (first q f)) in
          let leaf : levels_below (form_at geometry mid i) q ≡ 0 = ap (λ f. levels_below f q) (form_same geometry old mid i s.mode) ∙ bottom in
          subst (λ x. slice_index new (512 * x + r) ≡ slice_index mid (512 * x + r)) same
          (t.bytes q r (place_same geometry old mid i q s.mode place) leaf (λ g. apart (second q g)) (λ zero. some (sym same ∙ zero)) low)
          ∙ s.bytes q r place bottom (λ f. apart (first q f)) some low;
      unused = λ k r within low. t.unused k r (rest_within k given blocks (given ++ blocks) refl within) low ∙ s.unused k r within low;
    }

-- a step also clears a larger set of positions in the block map if the additional ones point to no block already; the list of freed blocks can be
-- replaced by an equal list
pub clears_as : (geometry : Geometry) (old new : List ℕ) (i : ℕ) (Cleared Other : List ℕ → Type 0) (given same blocks : List ℕ)
    → given ≡ same
    → ((q : List ℕ) → IsPlaceOf geometry old i q → Other q → Cleared q ⊎ (named geometry new i q ≡ 0)) → ((q : List ℕ) → Cleared q → Other q)
    → Clears geometry old new i Cleared given blocks → Clears geometry old new i Other same blocks
clears_as geometry old new i Cleared Other given same blocks e split other s = record {
  alone = s.alone;
  mode = s.mode;
  size = s.size;
  sound = subst (λ xs. Rules3To7With geometry new (xs ++ blocks)) e s.sound;
  covered = λ covered. subst (λ xs. IsCovered geometry new (xs ++ blocks)) e (s.covered covered);
  less = s.less;
  gone = λ q place o. elim (split q place o) [ inl cleared ↦ s.gone q place cleared | inr none ↦ none ];
  kept = λ q place apart. s.kept q place (λ cleared. apart (other q cleared));
  bytes = λ q r place bottom apart some low. s.bytes q r place bottom (λ cleared. apart (other q cleared)) some low;
  unused = s.unused;
}

-- of the first `count` entries of the block to which position `p` in the block map points, entry `j` and later ones, and the positions below them,
-- are cleared if they are past the blocks kept by a truncation; entry x has `level x` levels below it
abbrev pub ClearsFrom : Geometry → List ℕ → List ℕ → ℕ → (List ℕ → Bool) → ℕ → (ℕ → ℕ) → List ℕ → ℕ → ℕ → List ℕ → Type 0
ClearsFrom geometry old new i past n level p count j blocks =
    Clears geometry old new i (IsPastUnder past p j) (past_at geometry old i past (places_among n level p j (count - j))) blocks

-- before the first step no entry has been cleared
pub from_start : (geometry : Geometry) (image : List ℕ) (i : ℕ) (past : List ℕ → Bool) (n : ℕ) (level : ℕ → ℕ) (p : List ℕ) (count j : ℕ) (blocks : List ℕ)
    → j ≡ count → Rules3To7With geometry image blocks → ((x : ℕ) → IsPlaceOf geometry image i (x ∷ p) → x < count)
    → ClearsFrom geometry image image i past n level p count j blocks
from_start geometry image i past n level p count j blocks e sound few =
    let none : count - j ≡ 0 = omega arith in
    let list : [] ≡ past_at geometry image i past (places_among n level p j (count - j)) =
    sym (ap (λ c. past_at geometry image i past (places_among n level p j c)) none ∙ at_nil geometry image i) in
    subst (λ xs. Clears geometry image image i (IsPastUnder past p j) xs blocks) list
    (clears_none geometry image i (IsPastUnder past p j) blocks sound
    (λ q place past_under.
    let under = past_under.0 in
    let entry : IsPlaceOf geometry image i (under.index ∷ p) =
    record { file = place.file; place = place_front (form_at geometry image i) q (under.index ∷ p) place.place under.front } in
    let low : under.index < count = few under.index entry in
    let from : j ≤ under.index = under.from in
    absurd (omega arith)))

-- an entry is cleared already if no position in the block map at or below it that is past the blocks kept by a truncation points to a block
pub from_none_on : (geometry : Geometry) (old new : List ℕ) (i : ℕ) (past : List ℕ → Bool) (n : ℕ) (level : ℕ → ℕ) (p : List ℕ) (count j k : ℕ) (blocks : List ℕ)
    → k ≡ j + 1 → k ≤ count → Fits geometry old → IsPlaceOf geometry old i (j ∷ p)
    → n ≤ pointer_count (form_at geometry old i) → level j ≤ levels_below (form_at geometry old i) (j ∷ p) → named geometry new i (j ∷ p) ≡ 0
    → ClearsFrom geometry old new i past n level p count k blocks → ClearsFrom geometry old new i past n level p count j blocks
from_none_on geometry old new i past n level p count j k blocks next few fits place many deep none s =
    let less : j < k = omega arith in
    let was : named geometry old i (j ∷ p) ≡ 0 = sym (s.kept (j ∷ p) place (λ under. under_later p j k less under.0)) ∙ none in
    let later = past_at geometry old i past (places_among n level p k (count - k)) in
    let list : past_at geometry old i past (places_among n level p j (count - j)) ≡ later =
    among_step geometry old i past n level p j k (count - j) (count - k) next (omega arith)
    ∙ ap (λ xs. xs ++ later)
    (past_none geometry old i past (form_at geometry old i) n (level j) j p many place.place deep
    (λ q place_q front on. front_zero geometry old i (j ∷ p) q fits was front)) in
    clears_as geometry old new i (IsPastUnder past p k) (IsPastUnder past p j) later
    (past_at geometry old i past (places_among n level p j (count - j))) blocks (sym list)
    (λ q place_q under. elim (under_split p q j k next under.0) [
      | inl later ↦ inl (later, under.1)
      | inr front ↦ inr (front_zero geometry new i (j ∷ p) q s.sound.fits none front)
    ])
    (λ q under. (under_more p q j k (omega arith) under.0, under.1)) s

-- an entry that points to a block is cleared by clearing the positions in the block map below it and then the entry itself
pub from_some_on : (geometry : Geometry) (old mid low new : List ℕ) (i : ℕ) (past : List ℕ → Bool) (n b : ℕ) (level : ℕ → ℕ) (p : List ℕ) (count j k : ℕ) (blocks : List ℕ)
    → k ≡ j + 1 → k ≤ count → Fits geometry old → IsPlaceOf geometry old i (j ∷ p)
    → n ≤ pointer_count (form_at geometry old i) → level j ≤ levels_below (form_at geometry old i) (j ∷ p) → IsNamedAt geometry mid i (j ∷ p) b
    → ((q : List ℕ) → IsFront (j ∷ p) q → past q ≡ true)
    → ClearsFrom geometry old mid i past n level p count k blocks
    → Clears geometry mid low i (IsPastUnder past (j ∷ p) 0) (past_at geometry mid i past (places_below n (j ∷ p) (level j)))
    (past_at geometry old i past (places_among n level p k (count - k)) ++ blocks)
    → Clears geometry low new i (IsFront (j ∷ p)) (b ∷ [])
    (past_at geometry mid i past (places_below n (j ∷ p) (level j)) ++ (past_at geometry old i past (places_among n level p k (count - k)) ++ blocks))
    → ClearsFrom geometry old new i past n level p count j blocks
from_some_on geometry old mid low new i past n b level p count j k blocks next few fits place many deep is all s t u =
    let less : j < k = omega arith in
    let later = past_at geometry old i past (places_among n level p k (count - k)) in
    let below = past_at geometry mid i past (places_below n (j ∷ p) (level j)) in
    let was : named geometry old i (j ∷ p) ≡ b = sym (s.kept (j ∷ p) place (λ under. under_later p j k less under.0)) ∙ is.names in
    let same : below ≡ past_at geometry old i past (places_below n (j ∷ p) (level j)) =
    below_same geometry old mid i past (form_at geometry old i) n (level j) j p many place.place deep
    (λ q place_q front. s.kept q (record { file = place.file; place = place_q }) (λ under. under_apart p q j k less front under.0)) in
    let list : (b ∷ below) ++ later ≡ past_at geometry old i past (places_among n level p j (count - j)) =
    sym (among_step geometry old i past n level p j k (count - j) (count - k) next (omega arith)
    ∙ ap (λ xs. xs ++ later) (ap (past_at geometry old i past) (from_below n (j ∷ p) (level j))
    ∙ (past_some geometry old i b past (j ∷ p) (places_below n (j ∷ p) (level j)) (all (j ∷ p) (inl refl)) was is.some ∙ ap (λ xs. b ∷ xs) (sym same)))) in
    let rest : Clears geometry mid new i (IsFront (j ∷ p)) ((b ∷ []) ++ below) (later ++ blocks) =
    clears_then geometry mid low new i (IsPastUnder past (j ∷ p) 0) (IsFront (j ∷ p)) (IsFront (j ∷ p)) below (b ∷ []) (later ++ blocks)
    s.sound.fits place.file.first (λ q front. inr front) (λ q under. under_front j 0 p q under.0) (λ q front. front) t u in
    let whole : Clears geometry old new i (IsPastUnder past p j) (((b ∷ []) ++ below) ++ later) blocks =
    clears_then geometry old mid new i (IsPastUnder past p k) (IsFront (j ∷ p)) (IsPastUnder past p j) later ((b ∷ []) ++ below) blocks
    fits place.file.first
    (λ q under. elim (under_split p q j k next under.0) [ inl after ↦ inl (after, under.1) | inr front ↦ inr front ])
    (λ q under. (under_more p q j k (omega arith) under.0, under.1))
    (λ q front. (under_here p q j front, all q front)) s rest in
    subst (λ xs. Clears geometry old new i (IsPastUnder past p j) xs blocks) list whole

-- an entry with kept blocks below it is cleared by clearing the positions in the block map below it that are past them
pub from_part_on : (geometry : Geometry) (old mid new : List ℕ) (i : ℕ) (past : List ℕ → Bool) (n : ℕ) (level : ℕ → ℕ) (p : List ℕ) (count j k : ℕ) (blocks : List ℕ)
    → k ≡ j + 1 → k ≤ count → Fits geometry old → IsPlaceOf geometry old i (j ∷ p)
    → n ≤ pointer_count (form_at geometry old i) → level j ≤ levels_below (form_at geometry old i) (j ∷ p) → past (j ∷ p) ≡ false
    → ClearsFrom geometry old mid i past n level p count k blocks
    → Clears geometry mid new i (IsPastUnder past (j ∷ p) 0) (past_at geometry mid i past (places_below n (j ∷ p) (level j)))
    (past_at geometry old i past (places_among n level p k (count - k)) ++ blocks)
    → ClearsFrom geometry old new i past n level p count j blocks
from_part_on geometry old mid new i past n level p count j k blocks next few fits place many deep part s t =
    let less : j < k = omega arith in
    let later = past_at geometry old i past (places_among n level p k (count - k)) in
    let below = past_at geometry mid i past (places_below n (j ∷ p) (level j)) in
    let same : below ≡ past_at geometry old i past (places_below n (j ∷ p) (level j)) =
    below_same geometry old mid i past (form_at geometry old i) n (level j) j p many place.place deep
    (λ q place_q front. s.kept q (record { file = place.file; place = place_q }) (λ under. under_apart p q j k less front under.0)) in
    let list : below ++ later ≡ past_at geometry old i past (places_among n level p j (count - j)) =
    sym (among_step geometry old i past n level p j k (count - j) (count - k) next (omega arith)
    ∙ ap (λ xs. xs ++ later) (ap (past_at geometry old i past) (from_below n (j ∷ p) (level j))
    ∙ (past_kept geometry old i past (j ∷ p) (places_below n (j ∷ p) (level j)) part ∙ sym same))) in
    let whole : Clears geometry old new i (IsPastUnder past p j) (below ++ later) blocks =
    clears_then geometry old mid new i (IsPastUnder past p k) (IsPastUnder past (j ∷ p) 0) (IsPastUnder past p j) later below blocks
    fits place.file.first
    (λ q under. elim (under_split p q j k next under.0) [
      | inl after ↦ inl (after, under.1)
      | inr front ↦ elim (front_under (j ∷ p) q front) [
        | inl e ↦ absurd (true≢false (sym under.1 ∙ (ap past e ∙ part)))
        | inr deeper ↦ inr (deeper, under.1)
      ]
    ])
    (λ q under. (under_more p q j k (omega arith) under.0, under.1))
    (λ q under. (under_here p q j (under_front j 0 p q under.0), under.1)) s t in
    subst (λ xs. Clears geometry old new i (IsPastUnder past p j) xs blocks) list whole

-- entries with only kept blocks below them are cleared already
pub from_kept_on : (geometry : Geometry) (old new : List ℕ) (i : ℕ) (past : List ℕ → Bool) (n : ℕ) (level : ℕ → ℕ) (p : List ℕ) (count j k : ℕ) (blocks : List ℕ)
    → k ≡ j + 1 → k ≤ count → IsPlaceOf geometry old i (j ∷ p)
    → n ≤ pointer_count (form_at geometry old i) → level j ≤ levels_below (form_at geometry old i) (j ∷ p)
    → ((q : List ℕ) → IsPlaceOf geometry old i q → IsFront (j ∷ p) q → past q ≡ false)
    → ClearsFrom geometry old new i past n level p count k blocks → ClearsFrom geometry old new i past n level p count j blocks
from_kept_on geometry old new i past n level p count j k blocks next few place many deep none s =
    let later = past_at geometry old i past (places_among n level p k (count - k)) in
    let list : past_at geometry old i past (places_among n level p j (count - j)) ≡ later =
    among_step geometry old i past n level p j k (count - j) (count - k) next (omega arith)
    ∙ ap (λ xs. xs ++ later)
    (past_none geometry old i past (form_at geometry old i) n (level j) j p many place.place deep
    (λ q place_q front on. absurd (true≢false (sym on ∙ none q (record { file = place.file; place = place_q }) front)))) in
    clears_as geometry old new i (IsPastUnder past p k) (IsPastUnder past p j) later
    (past_at geometry old i past (places_among n level p j (count - j))) blocks (sym list)
    (λ q place_q under. elim (under_split p q j k next under.0) [
      | inl later ↦ inl (later, under.1)
      | inr front ↦ absurd (true≢false (sym under.1 ∙ none q place_q front))
    ])
    (λ q under. (under_more p q j k (omega arith) under.0, under.1)) s

-- clearing entries of a block does not change the position in the block map that points to the block
pub from_above : (geometry : Geometry) (old new : List ℕ) (i : ℕ) (past : List ℕ → Bool) (n m : ℕ) (level : ℕ → ℕ) (p : List ℕ) (count k : ℕ) (blocks : List ℕ)
    → IsNamedAt geometry old i p m → ClearsFrom geometry old new i past n level p count k blocks → IsNamedAt geometry new i p m
from_above geometry old new i past n m level p count k blocks is s = record {
  place = place_same geometry old new i p s.mode is.place;
  names = s.kept p is.place (λ under. under_longer p k under.0) ∙ is.names;
  some = is.some;
}

-- a position in the block map with a level below it points to a block whose entries are positions too
pub entry_place : (geometry : Geometry) (image : List ℕ) (i j a : ℕ) (p : List ℕ) → IsPlaceOf geometry image i (a ∷ p)
    → 1 ≤ levels_below (form_at geometry image i) (a ∷ p) → j < pointer_count (form_at geometry image i) → IsPlaceOf geometry image i (j ∷ (a ∷ p))
entry_place geometry image i j a p place deep low = record { file = place.file; place = (low, deep, place.place) }

-- the number at an entry's position in the block map is the number stored in the entry
pub entry_named : (geometry : Geometry) (image blocks : List ℕ) (i j a m : ℕ) (p : List ℕ) → Rules3To7With geometry image blocks
    → IsNamedAt geometry image i (a ∷ p) m → named geometry image i (j ∷ (a ∷ p)) ≡ number geometry.edition image (512 * m) j
entry_named geometry image blocks i j a m p sound is =
    let zone : in_zone geometry m ≡ true =
    ap (in_zone geometry) (sym is.names) ∙ sound.zoned i (a ∷ p) is.place (λ none. is.some (sym is.names ∙ none)) in
    subst (λ x. named geometry image i (j ∷ (a ∷ p)) ≡ number geometry.edition image (512 * x) j) is.names
    (entry_in geometry image (named geometry image i (a ∷ p)) j (ap (in_zone geometry) is.names ∙ zone))

-- clearing the positions in the block map below a position does not change the position itself
pub below_named : (geometry : Geometry) (old new : List ℕ) (i : ℕ) (past : List ℕ → Bool) (b : ℕ) (q given blocks : List ℕ) → IsNamedAt geometry old i q b
    → Clears geometry old new i (IsPastUnder past q 0) given blocks → IsNamedAt geometry new i q b
below_named geometry old new i past b q given blocks is s = record {
  place = place_same geometry old new i q s.mode is.place;
  names = s.kept q is.place (λ under. under_longer q 0 under.0) ∙ is.names;
  some = is.some;
}

-- after all positions in the block map below a position are cleared, none of them points to a block
pub below_empty : (geometry : Geometry) (old new : List ℕ) (i : ℕ) (past : List ℕ → Bool) (q given blocks : List ℕ)
    → ((p : List ℕ) → IsUnder q 0 p → past p ≡ true) → Clears geometry old new i (IsPastUnder past q 0) given blocks → IsEmptyUnder geometry new i q
below_empty geometry old new i past q given blocks all s p place under =
    s.gone p (place_same geometry new old i p (sym s.mode) place) (under, all p under)
