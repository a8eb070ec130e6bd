-- One more position in the block map of a file points to a block: the first free block, which was cleared.
use Rattle.std.proofs.Common.{◌≡◌, ◌≢◌, ℕ, ◌+◌, ◌*◌, ◌/◌, ◌%◌, ◌<◌, ◌≤◌, ◌∙◌, sym, ap, subst, List, [], ◌∷◌, get_or, refl, arith, inl, inr, true, false, Bool, cond, None, Some, eqb}
use Rattle.std.specs.Prelude.{◌&&◌, ◌||◌, not}
use Rattle.std.specs.Option.{option_map_or}
use Rattle.std.specs.List.{count_by}
use Rattle.std.specs.Str.{bytes_eq}
use Rattle.std.proofs.lemmas.Bool.{cases_eq, ne_eqb}
use Rattle.std.proofs.lemmas.List.Sums.{sum_by-cons}
use Rattle.std.proofs.Math.Bool.{or-false}
use Rattle.vol_layout.specs.Edition.{constants, number}
use Rattle.vol_layout.specs.Geometry.{in_zone, Fits}
use Rattle.vol_layout.specs.BlockMaps.{levels_below, last_place, places}
use Rattle.vol_layout.specs.BlockPointers.{mode_of, form_at, IsFile, IsPlaceOf, named, stored, NamesBlock}
use Rattle.vol_layout.specs.Body.{body_byte, zone_byte}
use Rattle.vol_layout.specs.declared.geometry.Geometry.{Geometry}
use Rattle.vol_layout.specs.declared.edition.Edition.{Edition}
use Rattle.vol_layout.specs.declared.edition.Edition.TheVariants.{V6, V7}
use Rattle.vol_layout.proofs.InodeLaws.{mode_kept, size_kept, form_same}
use Rattle.vol_layout.proofs.PlaceLaws.{last_leaf}
use Rattle.vol_layout.proofs.BodyLaws.{body_byte_is, zone_byte_in, zone_byte_out}
use Rattle.vol_layout.proofs.NameLaws.{zone_some, zero_out, holds_named, named_holds, named_past, entry_in}
use Rattle.vol_layout.proofs.FrameLaws.{zone_byte_kept}
use Rattle.vol_free.specs.Stack.{IsIn, Popped}
use Rattle.vol_free.proofs.Frames.{free_zone}
use Rattle.vol_file.specs.Changes.{StaysElsewhere, KeepsBlocks}
use Rattle.vol_file.specs.Shape.{is_named}
use Rattle.vol_file.specs.Rules.{Rules3To7With, IsCovered}
use Rattle.vol_file.specs.Steps.{lacking, HasName, Extends}
use Rattle.vol_file.proofs.Stores.{Stores}
use Rattle.vol_file.specs.Laws.{IsAmong}
use Rattle.vol_file.proofs.PlaceLists.{bytes_same, other_place, places_once, among_places}
use Rattle.vol_file.proofs.Alone.{fits_len, elsewhere_then, elsewhere_names}
use Rattle.vol_file.proofs.StoredNames.{MayStand, stores_only, stores_sound, place_same}
use Rattle.vol_file.proofs.TakenBlocks.{IsUnnamed, stays_block, stays_inode, zone_two, stays_named, stays_before, stays_elsewhere, first_unnamed, first_zoned, first_once, taken_sound}
use Rattle.vol_file.proofs.Fronts.{same_or}

-- if byte `b` of the image is 0 and `a` is `b`, byte `a` is 0
byte_at : (image : List ℕ) (a b : ℕ) → a ≡ b → get_or image b 0 ≡ 0 → get_or image a 0 ≡ 0
byte_at image a b e zero = ap (λ x. get_or image x 0) e ∙ zero

-- each number in a block of zeros is 0
pub number_zero : (edition : Edition) (image : List ℕ) (b x : ℕ) → ((r : ℕ) → r < 512 → get_or image (512 * b + r) 0 ≡ 0)
    → x < (constants edition).pointers → number edition image (512 * b) x ≡ 0
number_zero V6 image b x zero h =
    let first : get_or image (512 * b + 2 * x) 0 ≡ 0 = zero (2 * x) (omega arith) in
    let second : get_or image (512 * b + 2 * x + 1) 0 ≡ 0 = byte_at image (512 * b + 2 * x + 1) (512 * b + (2 * x + 1)) (omega arith) (zero (2 * x + 1) (omega arith)) in
    omega (arith, first, second)
number_zero V7 image b x zero h =
    let one : get_or image (512 * b + 4 * x) 0 ≡ 0 = zero (4 * x) (omega arith) in
    let two : get_or image (512 * b + 4 * x + 1) 0 ≡ 0 = byte_at image (512 * b + 4 * x + 1) (512 * b + (4 * x + 1)) (omega arith) (zero (4 * x + 1) (omega arith)) in
    let three : get_or image (512 * b + 4 * x + 2) 0 ≡ 0 = byte_at image (512 * b + 4 * x + 2) (512 * b + (4 * x + 2)) (omega arith) (zero (4 * x + 2) (omega arith)) in
    let four : get_or image (512 * b + 4 * x + 2 + 1) 0 ≡ 0 = byte_at image (512 * b + 4 * x + 2 + 1) (512 * b + (4 * x + 3)) (omega arith) (zero (4 * x + 3) (omega arith)) in
    omega (arith, one, two, three, four)

-- the bytes of a body are unchanged if the bytes of the block at each position in the block map for a logical block are unchanged
pub body_same : (geometry : Geometry) (old new : List ℕ) (i : ℕ) → Fits geometry old → form_at geometry new i ≡ form_at geometry old i
    → ((b : ℕ) (p : List ℕ) (r : ℕ) → last_place (form_at geometry old i) b ≡ Some p → r < 512
    → zone_byte geometry new (named geometry new i p) r ≡ zone_byte geometry old (named geometry old i p) r)
    → (n : ℕ) → body_byte geometry new i n ≡ body_byte geometry old i n
body_same geometry old new i fits form same n =
    body_byte_is geometry new i n
    ∙ (ap (λ f. zone_byte geometry new (stored geometry new i f (n / 512)) (n % 512)) form
    ∙ (elim (last_place (form_at geometry old i) (n / 512)) as (λ o. last_place (form_at geometry old i) (n / 512) ≡ o
    → zone_byte geometry new (option_map_or (named geometry new i) o 0) (n % 512) ≡ zone_byte geometry old (option_map_or (named geometry old i) o 0) (n % 512)) [
      | None ↦ λ e. zone_byte_out geometry new 0 (n % 512) (zero_out geometry old fits) ∙ sym (zone_byte_out geometry old 0 (n % 512) (zero_out geometry old fits))
      | Some p ↦ λ e. same (n / 512) p (n % 512) e (omega arith)
    ] refl ∙ sym (body_byte_is geometry old i n)))

-- if two tests differ only on an item that occurs once in a list, one fewer item is counted
pub count_less : (f g : List ℕ → Bool) (q : List ℕ) (qs : List (List ℕ)) (n : ℕ) → count_by (bytes_eq q) qs ≡ n → f q ≡ true → g q ≡ false
    → ((p : List ℕ) → IsAmong p qs → p ≢ q → g p ≡ f p) → count_by g qs + n ≡ count_by f qs
count_less f g q [] n once here gone others = omega (arith, once)
count_less f g q (p ∷ qs) n once here gone others =
    let rest = count_less f g q qs (count_by (bytes_eq q) qs) refl here gone (λ r among differ. others r (inr among) differ) in
    let split_f : count_by f (p ∷ qs) ≡ cond (f p) 1 0 + count_by f qs = sum_by-cons (λ x. cond (f x) 1 0) p qs in
    let split_g : count_by g (p ∷ qs) ≡ cond (g p) 1 0 + count_by g qs = sum_by-cons (λ x. cond (g x) 1 0) p qs in
    let split : count_by (bytes_eq q) (p ∷ qs) ≡ cond (bytes_eq q p) 1 0 + count_by (bytes_eq q) qs = sum_by-cons (λ x. cond (bytes_eq q x) 1 0) p qs in
    elim (same_or p q) [
      | inl e ↦
          let one : ◌≡◌ {A = ℕ} (cond (bytes_eq q p) 1 0) 1 = ap (λ t. cond t 1 0) (bytes_same q p (sym e)) in
          let first : ◌≡◌ {A = ℕ} (cond (f p) 1 0) 1 = ap (λ t. cond t 1 0) (ap f e ∙ here) in
          let second : ◌≡◌ {A = ℕ} (cond (g p) 1 0) 0 = ap (λ t. cond t 1 0) (ap g e ∙ gone) in
          omega (arith, rest, split_f, split_g, split, once, one, first, second)
      | inr differ ↦
          let none : ◌≡◌ {A = ℕ} (cond (bytes_eq q p) 1 0) 0 = ap (λ t. cond t 1 0) (other_place q p (λ e. differ (sym e))) in
          let equal : ◌≡◌ {A = ℕ} (cond (g p) 1 0) (cond (f p) 1 0) = ap (λ t. cond t 1 0) (others p (inl refl) differ) in
          omega (arith, rest, split_f, split_g, split, once, none, equal)
    ]

-- a position in the block map that holds 0 fails the test `is_named`
pub unnamed_false : (geometry : Geometry) (image : List ℕ) (i : ℕ) (p : List ℕ) → named geometry image i p ≡ 0 → is_named geometry image i p ≡ false
unnamed_false geometry image i p e = rw e refl

-- a position in the block map that doesn't hold 0 passes the test `is_named`
pub named_true : (geometry : Geometry) (image : List ℕ) (i : ℕ) (p : List ℕ) → named geometry image i p ≢ 0 → is_named geometry image i p ≡ true
named_true geometry image i p some = ap not (ne_eqb (named geometry image i p) 0 some)

-- after one position in `wanted` gets a block, one fewer is left to fill
lacking_less : (geometry : Geometry) (old new : List ℕ) (i : ℕ) (q : List ℕ) (wanted : List ℕ → Bool) → form_at geometry new i ≡ form_at geometry old i
    → IsPlaceOf geometry old i q → wanted q ≡ true → is_named geometry old i q ≡ false → is_named geometry new i q ≡ true
    → ((p : List ℕ) → IsPlaceOf geometry old i p → p ≢ q → is_named geometry new i p ≡ is_named geometry old i p)
    → lacking geometry new i wanted + 1 ≡ lacking geometry old i wanted
unfolding lacking
lacking_less geometry old new i q wanted form place want before after others =
    ap (λ f. count_by (λ p. wanted p && not (is_named geometry new i p)) (places f) + 1) form
    ∙ count_less (λ p. wanted p && not (is_named geometry old i p)) (λ p. wanted p && not (is_named geometry new i p)) q
    (places (form_at geometry old i)) 1 (places_once (form_at geometry old i) q place.place)
    (rw (want, before) refl) (rw (want, after) refl)
    (λ p among differ. ap (λ t. wanted p && not t)
    (others p (record { file = place.file; place = among_places (form_at geometry old i) p among }) differ))

-- storing the number of a cleared block at a position in the block map does not change the bytes of file `i`
extends_bytes : (geometry : Geometry) (old mid new : List ℕ) (i b : ℕ) (q rest : List ℕ) → Rules3To7With geometry old (b ∷ rest) → IsFile geometry old i
    → IsPlaceOf geometry old i q → named geometry old i q ≡ 0 → Popped geometry old mid b rest → Rules3To7With geometry mid rest
    → mode_of geometry mid i ≡ mode_of geometry old i
    → ((p : List ℕ) → IsPlaceOf geometry old i p → named geometry mid i p ≡ named geometry old i p)
    → Stores geometry mid new i q b rest
    → ((p : List ℕ) → IsPlaceOf geometry mid i p → p ≢ q → named geometry new i p ≡ named geometry mid i p)
    → ((r : ℕ) → r < 512 → get_or new (512 * b + r) 0 ≡ 0)
    → (n : ℕ) → body_byte geometry new i n ≡ body_byte geometry old i n
extends_bytes geometry old mid new i b q rest sound file place none popped after_take mode same stores only zero =
    let zoned = first_zoned geometry old b rest sound in
    let unnamed = first_unnamed geometry old b rest sound in
    body_same geometry old new i sound.fits (form_same geometry old new i (stores.mode ∙ mode))
    (λ c p r e low.
    let leaf = last_leaf (form_at geometry old i) c p e in
    let place_p : IsPlaceOf geometry old i p = record { file = file; place = leaf.place } in
    let place_mid = place_same geometry old mid i p mode place_p in
    elim (same_or p q) [
      | inl here ↦
          let now : named geometry new i p ≡ b = ap (named geometry new i) here ∙ stores.here in
          let was : named geometry old i p ≡ 0 = ap (named geometry old i) here ∙ none in
          ap (λ m. zone_byte geometry new m r) now ∙ (zone_byte_in geometry new b r zoned ∙ (zero r low
          ∙ sym (ap (λ m. zone_byte geometry old m r) was ∙ zone_byte_out geometry old 0 r (zero_out geometry old sound.fits))))
      | inr differ ↦
          let equal : named geometry new i p ≡ named geometry old i p = only p place_mid differ ∙ same p place_p in
          ap (λ m. zone_byte geometry new m r) equal
          ∙ zone_byte_kept geometry old new (named geometry old i p) r
          (λ zone.
          let is : named geometry mid i p ≡ named geometry old i p = same p place_p in
          let apart : (s : List ℕ) → IsPlaceOf geometry mid i s → 1 ≤ levels_below (form_at geometry mid i) s → named geometry mid i s ≢ named geometry old i p =
          λ s place_s deep equal.
          let some : named geometry mid i s ≢ 0 = λ z. zone_some geometry old (named geometry old i p) sound.fits zone (sym equal ∙ z) in
          let twice = after_take.apart i i s p place_s place_mid some (equal ∙ sym is) in
          let bottom : levels_below (form_at geometry mid i) s ≡ 0 =
          ap (λ f. levels_below f s) (form_same geometry old mid i mode) ∙ (ap (levels_below (form_at geometry old i)) twice.1 ∙ leaf.bottom) in
          omega (arith, deep, bottom) in
          stores.bytes (named geometry old i p) r zone apart low
          ∙ (stays_block geometry old mid b 512 (named geometry old i p) popped.stays (omega arith)
          (zone_two geometry old (named geometry old i p) sound.fits zone) (unnamed i p place_p)).bytes r low)
    ])

-- each data block is still free or in a file after the first free block is stored at a position in the block map
extends_covered : (geometry : Geometry) (old new : List ℕ) (i b : ℕ) (q rest : List ℕ) → Rules3To7With geometry old (b ∷ rest) → IsFile geometry old i
    → IsPlaceOf geometry old i q → named geometry old i q ≡ 0 → StaysElsewhere geometry old new i → mode_of geometry new i ≡ mode_of geometry old i
    → named geometry new i q ≡ b → b ≢ 0
    → ((p : List ℕ) → IsPlaceOf geometry old i p → p ≢ q → named geometry new i p ≡ named geometry old i p)
    → IsCovered geometry old (b ∷ rest) → IsCovered geometry new rest
unfolding IsIn
extends_covered geometry old new i b q rest sound file place none stays mode here some only covered k zone =
    let fits : Fits geometry new = fits_len geometry old new stays.len sound.fits in
    let place_new = place_same geometry old new i q mode place in
    elim (covered k zone) [
      | inl (inl e) ↦ inr (i, q, record { place = place_new; holds = named_holds geometry new i q k fits (here ∙ sym e) (λ z. some (sym e ∙ z)) })
      | inl (inr within) ↦ inl within
      | inr (j, p, names) ↦ inr (
        j,
        p,
        elim (cases_eq j i) [
          | inl e ↦
              let names_i : NamesBlock geometry old i p k = subst (λ x. NamesBlock geometry old x p k) e names in
              let held = holds_named geometry old i p k names_i.holds in
              let differ : p ≢ q = λ f. held.1 (sym held.0 ∙ (ap (named geometry old i) f ∙ none)) in
              subst (λ x. NamesBlock geometry new x p k) (sym e) (record {
                place = place_same geometry old new i p mode names_i.place;
                holds = named_holds geometry new i p k fits (only p names_i.place differ ∙ held.0) held.1;
              })
          | inr other ↦ elsewhere_names geometry old new i j p k sound.fits stays file.first other names
        ],
      )
    ]

-- the positions in the block map that point to blocks after one more position got a block
extends_names : (geometry : Geometry) (old new : List ℕ) (i b : ℕ) (q : List ℕ) → named geometry old i q ≡ 0 → named geometry new i q ≡ b → b ≢ 0
    → ((p : List ℕ) → IsPlaceOf geometry old i p → p ≢ q → named geometry new i p ≡ named geometry old i p)
    → (p : List ℕ) → IsPlaceOf geometry old i p → is_named geometry new i p ≡ (is_named geometry old i p || bytes_eq p q)
extends_names geometry old new i b q none here some only p place =
    elim (same_or p q) [
      | inl e ↦
          let now : is_named geometry new i p ≡ true = named_true geometry new i p (λ z. some (sym here ∙ (sym (ap (named geometry new i) e) ∙ z))) in
          let was : is_named geometry old i p ≡ false = unnamed_false geometry old i p (ap (named geometry old i) e ∙ none) in
          now ∙ sym (ap (λ t. t || bytes_eq p q) was ∙ bytes_same p q e)
      | inr differ ↦
          let same : is_named geometry new i p ≡ is_named geometry old i p = ap (λ m. not (eqb m 0)) (only p place differ) in
          same ∙ sym (ap (λ t. is_named geometry old i p || t) (other_place p q differ) ∙ or-false (is_named geometry old i p))
    ]

-- storing the first free block at a position in the block map does not change the bytes of the other free blocks
keeps_stored : (geometry : Geometry) (old mid new : List ℕ) (i b : ℕ) (q rest : List ℕ) → Rules3To7With geometry old (b ∷ rest)
    → Popped geometry old mid b rest → Rules3To7With geometry mid rest → Stores geometry mid new i q b rest → KeepsBlocks old new rest
keeps_stored geometry old mid new i b q rest sound popped after_take stores k r within low =
    let zone = free_zone after_take.free k within in
    let other : k ≢ b = λ e. first_once geometry old b rest sound (subst (λ x. IsIn x rest) e within) in
    stores.bytes k r zone (λ p place deep e. after_take.outside i p place (subst (λ x. IsIn x rest) (sym e) within)) low
    ∙ (stays_block geometry old mid b 512 k popped.stays (omega arith) (zone_two geometry old k sound.fits zone) other).bytes r low

-- storing the first free block at a position in the block map that pointed to no block gives this position a block
pub extends_one : (geometry : Geometry) (old mid new : List ℕ) (i b : ℕ) (q rest : List ℕ) (wanted : List ℕ → Bool)
    → Rules3To7With geometry old (b ∷ rest) → IsPlaceOf geometry old i q → named geometry old i q ≡ 0 → wanted q ≡ true
    → Popped geometry old mid b rest → Stores geometry mid new i q b rest
    → Extends geometry old new i wanted (λ p. bytes_eq p q) (q ∷ []) (b ∷ rest) rest
extends_one geometry old mid new i b q rest wanted sound place none want popped stores =
    let file : IsFile geometry old i = place.file in
    let zoned = first_zoned geometry old b rest sound in
    let some : b ≢ 0 = zone_some geometry old b sound.fits zoned in
    let unnamed : IsUnnamed geometry old b = first_unnamed geometry old b rest sound in
    let kept = stays_inode geometry old mid b 512 i sound.fits popped.stays zoned file.first file.last in
    let mode_mid : mode_of geometry mid i ≡ mode_of geometry old i = mode_kept geometry old mid i kept in
    let same : (j : ℕ) (p : List ℕ) → IsPlaceOf geometry old j p → named geometry mid j p ≡ named geometry old j p =
    λ j p at. stays_named geometry old mid b 512 j p sound.fits popped.stays (omega arith) zoned unnamed at in
    let sound_mid : Rules3To7With geometry mid rest = taken_sound geometry old mid b rest sound popped in
    let place_mid : IsPlaceOf geometry mid i q = place_same geometry old mid i q mode_mid place in
    let none_mid : named geometry mid i q ≡ 0 = same i q place ∙ none in
    let unnamed_mid : IsUnnamed geometry mid b =
    λ j p at e. let before = stays_before geometry old mid b 512 j p sound.fits popped.stays zoned at in unnamed j p before (sym (same j p before) ∙ e) in
    let zero : (r : ℕ) → r < 512 → get_or new (512 * b + r) 0 ≡ 0 =
    λ r low. stores.bytes b r zoned (λ p at deep. unnamed_mid i p at) low ∙ popped.zero (512 * b + r) (omega arith) (omega arith) in
    let only_mid : (p : List ℕ) → IsPlaceOf geometry mid i p → p ≢ q → named geometry new i p ≡ named geometry mid i p =
    stores_only geometry mid new rest i b q sound_mid.fits stores
    (λ x low. entry_in geometry new b x zoned ∙ number_zero geometry.edition new b x zero low)
    (λ x p at front. named_past geometry mid i x p q sound_mid.fits front (ap (in_zone geometry) none_mid ∙ zero_out geometry mid sound_mid.fits)) in
    let sound_new : Rules3To7With geometry new rest =
    stores_sound geometry mid new rest i b q sound_mid place_mid.file stores
    (MayStand.fresh zoned unnamed_mid (first_once geometry old b rest sound)) only_mid in
    let alone : StaysElsewhere geometry old new i =
    elsewhere_then geometry old mid new i sound.fits file.first
    (stays_elsewhere geometry old mid (b ∷ rest) b 512 i sound file popped.stays (omega arith) zoned unnamed) stores.alone in
    let mode : mode_of geometry new i ≡ mode_of geometry old i = stores.mode ∙ mode_mid in
    let only : (p : List ℕ) → IsPlaceOf geometry old i p → p ≢ q → named geometry new i p ≡ named geometry old i p =
    λ p at differ. only_mid p (place_same geometry old mid i p mode_mid at) differ ∙ same i p at in
    let lacks = lacking_less geometry old new i q wanted (form_same geometry old new i mode) place want (unnamed_false geometry old i q none)
    (named_true geometry new i q (λ z. some (sym stores.here ∙ z))) (λ p at differ. ap (λ m. not (eqb m 0)) (only p at differ)) in
    record {
      alone = alone;
      sound = sound_new;
      covered = extends_covered geometry old new i b q rest sound file place none alone mode stores.here some only;
      taken = b ∷ [];
      free = refl;
      count = omega (arith, lacks);
      mode = mode;
      size = stores.size ∙ size_kept geometry old mid i kept;
      names = extends_names geometry old new i b q none stores.here some only;
      bytes = extends_bytes geometry old mid new i b q rest sound file place none popped sound_mid mode_mid (same i) stores only_mid zero;
      kept = λ p at is. only p at (λ e. is (ap (named geometry old i) e ∙ none));
      some = λ p among. elim among [
        | inl e ↦ subst (HasName geometry new i) (sym e)
            (record { place = place_same geometry old new i q mode place; some = λ z. some (sym stores.here ∙ z) })
        | inr nothing ↦ absurd nothing
      ];
      order = ap (λ k. k ∷ []) (sym stores.here);
      unused = keeps_stored geometry old mid new i b q rest sound popped sound_mid stores;
    }
