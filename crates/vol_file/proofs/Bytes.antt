-- Writing bytes to a data block of a file: block numbers are unchanged, and the file's bytes there are the written ones.
use Rattle.std.proofs.Common.{◌≡◌, ◌≢◌, ℕ, ◌+◌, ◌-◌, ◌*◌, ◌/◌, ◌%◌, ◌<◌, ◌≤◌, ◌⊎◌, ◌∙◌, sym, ap, subst, List, get_or, refl, arith, inl, inr, true, Some, None}
use Rattle.std.specs.Option.{option_map_or}
use Rattle.std.proofs.lemmas.Bool.{cases_lt, cases_eq}
use Rattle.pdp_words.specs.Words.{SameOutside}
use Rattle.vol_layout.specs.Geometry.{in_zone, Fits}
use Rattle.vol_layout.specs.Inode.{kind_of}
use Rattle.vol_layout.specs.BlockMaps.{IsPlace, levels_below, last_place}
use Rattle.vol_layout.specs.BlockPointers.{mode_of, form_at, IsFile, IsPlaceOf, named, stored, NamesBlock}
use Rattle.vol_layout.specs.Body.{body_byte, zone_byte}
use Rattle.vol_layout.specs.declared.geometry.Geometry.{Geometry}
use Rattle.vol_layout.specs.declared.block_map.BlockMap.{BlockMap}
use Rattle.pdp_words.proofs.Outside.{widen}
use Rattle.vol_layout.proofs.CopyLaws.{copy_block}
use Rattle.vol_layout.proofs.InodeLaws.{KeepsInode, mode_kept, size_kept}
use Rattle.vol_layout.proofs.PlaceLaws.{last_leaf, last_apart}
use Rattle.vol_layout.proofs.BodyLaws.{body_byte_is, zone_byte_in, zone_byte_out}
use Rattle.vol_layout.proofs.NameLaws.{zone_some, zero_out, holds_named, named_holds, stored_is}
use Rattle.vol_layout.proofs.FrameLaws.{block_keeps_inode, places_kept, named_apart, stored_kept, body_byte_there, body_byte_elsewhere}
use Rattle.vol_free.specs.Stack.{IsIn, IsFree}
use Rattle.vol_free.proofs.Frames.{IsFree-within}
use Rattle.vol_file.specs.Rules.{size_of, Rules3To7With, IsCovered}
use Rattle.vol_file.specs.Steps.{Rewrites}
use Rattle.vol_file.proofs.Alone.{fits_len, elsewhere_self, elsewhere_then, elsewhere_before, elsewhere_named, elsewhere_names, keeps_then}
use Rattle.vol_file.proofs.Cells.{block_elsewhere}
use Rattle.vol_file.proofs.StoredNames.{kinds_kept, sizes_kept, modes_kept, place_same}
use Rattle.vol_file.proofs.TakenBlocks.{zone_two}
use Rattle.vol_file.specs.Changes.{StaysElsewhere}

-- if file `i` keeps its mode and block numbers, each position in the block map in the new image was there before, with the same block number
pub same_names : (geometry : Geometry) (old new : List ℕ) (i j : ℕ) (p : List ℕ) → Fits geometry old → 1 ≤ i → StaysElsewhere geometry old new i
    → mode_of geometry new i ≡ mode_of geometry old i
    → ((q : List ℕ) → IsPlaceOf geometry old i q → named geometry new i q ≡ named geometry old i q)
    → IsPlaceOf geometry new j p → IsPlaceOf geometry old j p × (named geometry new j p ≡ named geometry old j p)
same_names geometry old new i j p fits one stays mode names place =
    elim (cases_eq j i) [
      | inl e ↦
          let place_i : IsPlaceOf geometry new i p = subst (λ x. IsPlaceOf geometry new x p) e place in
          let before : IsPlaceOf geometry old i p = place_same geometry new old i p (sym mode) place_i in (
            subst (λ x. IsPlaceOf geometry old x p) (sym e) before,
            subst (λ x. named geometry new x p ≡ named geometry old x p) (sym e) (names p before),
          )
      | inr other ↦
          let before = elsewhere_before geometry old new i j p fits stays one other place in
          (before, elsewhere_named geometry old new i j p fits stays one other before)
    ]

-- rules 3 to 7 still hold if the block numbers, the kinds, the sizes and the free blocks are unchanged
pub same_sound : (geometry : Geometry) (old new blocks : List ℕ) (i : ℕ) → Rules3To7With geometry old blocks → 1 ≤ i → StaysElsewhere geometry old new i
    → mode_of geometry new i ≡ mode_of geometry old i → size_of geometry new i ≡ size_of geometry old i
    → ((q : List ℕ) → IsPlaceOf geometry old i q → named geometry new i q ≡ named geometry old i q)
    → IsFree geometry new blocks → Rules3To7With geometry new blocks
same_sound geometry old new blocks i sound one stays mode size names free =
    let same : (j : ℕ) (p : List ℕ) → IsPlaceOf geometry new j p → IsPlaceOf geometry old j p × (named geometry new j p ≡ named geometry old j p) =
    λ j p place. same_names geometry old new i j p sound.fits one stays mode names place in
    record {
      fits = fits_len geometry old new stays.len sound.fits;
      kinds = kinds_kept geometry old new sound.fits
          (λ j first last. ap (kind_of geometry.edition) (modes_kept geometry old new i j sound.fits stays one mode first last)) sound.kinds;
      sizes = sizes_kept geometry old new i sound.fits stays one mode size sound.sizes;
      zoned = λ j p place some. let s = same j p place in
          ap (in_zone geometry) s.1 ∙ sound.zoned j p s.0 (λ zero. some (s.1 ∙ zero));
      free = free;
      apart = λ j k p r place place' some equal. let s = same j p place in let t = same k r place' in
          sound.apart j k p r s.0 t.0 (λ zero. some (s.1 ∙ zero)) (sym s.1 ∙ (equal ∙ t.1));
      outside = λ j p place within. let s = same j p place in sound.outside j p s.0 (subst (λ k. IsIn k blocks) s.1 within);
    }

-- each data block is still free or in a file if the block numbers are unchanged
pub same_covered : (geometry : Geometry) (old new blocks : List ℕ) (i : ℕ) → Rules3To7With geometry old blocks → 1 ≤ i → StaysElsewhere geometry old new i
    → mode_of geometry new i ≡ mode_of geometry old i
    → ((q : List ℕ) → IsPlaceOf geometry old i q → named geometry new i q ≡ named geometry old i q)
    → IsCovered geometry old blocks → IsCovered geometry new blocks
same_covered geometry old new blocks i sound one stays mode names covered k zone =
    elim (covered k zone) [
      | inl within ↦ inl within
      | inr (j, p, is) ↦ inr (
        j,
        p,
        elim (cases_eq j i) [
          | inl e ↦
              let is_i : NamesBlock geometry old i p k = subst (λ x. NamesBlock geometry old x p k) e is in
              let held = holds_named geometry old i p k is_i.holds in
              subst (λ x. NamesBlock geometry new x p k) (sym e) (record {
                place = place_same geometry old new i p mode is_i.place;
                holds = named_holds geometry new i p k (fits_len geometry old new stays.len sound.fits) (names p is_i.place ∙ held.0) held.1;
              })
          | inr other ↦ elsewhere_names geometry old new i j p k sound.fits stays one other is
        ],
      )
    ]

-- two logical blocks of a file that are stored in the same data block are the same
stored_once : (geometry : Geometry) (image blocks : List ℕ) (i b c k : ℕ) (p : List ℕ) → Rules3To7With geometry image blocks → IsFile geometry image i
    → last_place (form_at geometry image i) b ≡ Some p → named geometry image i p ≡ k → k ≢ 0
    → stored geometry image i (form_at geometry image i) c ≡ k → c ≡ b
stored_once geometry image blocks i b c k p sound file e is some same =
    elim (last_place (form_at geometry image i) c) as (λ o. last_place (form_at geometry image i) c ≡ o → option_map_or (named geometry image i) o 0 ≡ k → c ≡ b) [
      | None ↦ λ f zero. absurd (some (sym zero))
      | Some q ↦ λ f named_q.
          let place_q = (last_leaf (form_at geometry image i) c q f).place in
          let place_p = (last_leaf (form_at geometry image i) b p e).place in
          let twice = sound.apart i i q p (record { file = file; place = place_q }) (record { file = file; place = place_p })
          (λ zero. some (sym named_q ∙ zero)) (named_q ∙ sym is) in
          last_apart (form_at geometry image i) c b p (f ∙ ap Some twice.1) e
    ] refl same

-- no indirect block of a file is one of its data blocks
leaf_apart : (geometry : Geometry) (image blocks : List ℕ) (i b k : ℕ) (p q : List ℕ) → Rules3To7With geometry image blocks → IsFile geometry image i
    → last_place (form_at geometry image i) b ≡ Some p → named geometry image i p ≡ k → k ≢ 0
    → IsPlace (form_at geometry image i) q → 1 ≤ levels_below (form_at geometry image i) q → named geometry image i q ≢ k
leaf_apart geometry image blocks i b k p q sound file e is some place deep same =
    let leaf = last_leaf (form_at geometry image i) b p e in
    let twice = sound.apart i i q p (record { file = file; place = place }) (record { file = file; place = leaf.place })
    (λ zero. some (sym same ∙ zero)) (same ∙ sym is) in
    let bottom : levels_below (form_at geometry image i) q ≡ 0 = ap (levels_below (form_at geometry image i)) twice.1 ∙ leaf.bottom in
    omega (arith, deep, bottom)

-- a write of bytes `s..e` of a data block writes these bytes of the logical block stored there
pub rewrites_block : (geometry : Geometry) (old new blocks : List ℕ) (i b k s e : ℕ) (p : List ℕ) (content : ℕ → ℕ)
    → Rules3To7With geometry old blocks → IsFile geometry old i → last_place (form_at geometry old i) b ≡ Some p
    → named geometry old i p ≡ k → in_zone geometry k ≡ true → s ≤ e → e ≤ 512
    → SameOutside old new (512 * k + s) (512 * k + e)
    → ((r : ℕ) → s ≤ r → r < e → get_or new (512 * k + r) 0 ≡ content (512 * b + r))
    → Rewrites geometry old new i (512 * b + s) (512 * b + e) content blocks
rewrites_block geometry old new blocks i b k s e p content sound file last is zone order small same put =
    let form = form_at geometry old i in
    let some : k ≢ 0 = zone_some geometry old k sound.fits zone in
    let place : IsPlaceOf geometry old i p = record { file = file; place = (last_leaf form b p last).place } in
    let wide : SameOutside old new (512 * k) (512 * k + 512) =
    widen {from = 512 * k} {to = 512 * k + 512} same (omega arith) (omega arith) in
    let kept : KeepsInode geometry old new i = block_keeps_inode geometry old new k i sound.fits wide zone file.first file.last in
    let mode = mode_kept geometry old new i kept in
    let size = size_kept geometry old new i kept in
    let apart : (q : List ℕ) → IsPlace form q → 1 ≤ levels_below form q → named geometry old i q ≢ k =
    λ q at deep. leaf_apart geometry old blocks i b k p q sound file last is some at deep in
    let stays : StaysElsewhere geometry old new i = block_elsewhere geometry old new blocks i k p sound place is zone wide in
    let names : (q : List ℕ) → IsPlaceOf geometry old i q → named geometry new i q ≡ named geometry old i q =
    λ q at. named_apart geometry old new i k q (places_kept geometry old new i kept) wide apart at.place in
    let free : IsFree geometry new blocks =
    IsFree-within same k (zone_two geometry old k sound.fits zone) (omega arith) (omega arith)
    (λ within. sound.outside i p place (subst (λ x. IsIn x blocks) (sym is) within)) sound.free in
    let here : stored geometry old i form b ≡ k = stored_is geometry old i form b p last ∙ is in
    let outside : (n : ℕ) → (n / 512 ≡ b → (n % 512 < s) ⊎ (e ≤ n % 512)) → body_byte geometry new i n ≡ body_byte geometry old i n =
    λ n far. elim (cases_eq (stored geometry old i form (n / 512)) k) [
      | inl at ↦
          let block : n / 512 ≡ b = stored_once geometry old blocks i b (n / 512) k p sound file last is some at in
          let byte : get_or new (512 * k + n % 512) 0 ≡ get_or old (512 * k + n % 512) 0 =
          elim (far block) [ inl low ↦ same.below (512 * k + n % 512) (omega arith) | inr high ↦ same.above (512 * k + n % 512) (omega arith) ] in
          body_byte_there geometry old new i k n (places_kept geometry old new i kept) wide zone apart at
          ∙ (byte ∙ sym (body_byte_is geometry old i n ∙ (ap (λ m. zone_byte geometry old m (n % 512)) at ∙ zone_byte_in geometry old k (n % 512) zone)))
      | inr other ↦ body_byte_elsewhere geometry old new i k n (places_kept geometry old new i kept) wide apart other
    ] in
    record {
      alone = stays;
      sound = same_sound geometry old new blocks i sound file.first stays mode size names free;
      covered = same_covered geometry old new blocks i sound file.first stays mode names;
      mode = mode;
      size = size;
      names = names;
      inside = λ n low high.
          let block : n / 512 ≡ b = omega arith in
          let rest : 512 * b + n % 512 ≡ n = omega arith in
          body_byte_there geometry old new i k n (places_kept geometry old new i kept) wide zone apart (ap (stored geometry old i form) block ∙ here)
          ∙ (put (n % 512) (omega arith) (omega arith) ∙ ap content rest);
      below = λ n low. outside n (λ block. inl (omega arith));
      above = λ n high. outside n (λ block. inr (omega arith));
      unused = λ m r within low.
          (copy_block old new m k wide (λ e. sound.outside i p place (subst (λ x. IsIn x blocks) (e ∙ sym is) within))).bytes r low;
    }

-- bytes that already have the new values need no write
pub rewrites_none : (geometry : Geometry) (image blocks : List ℕ) (i lo hi : ℕ) (content : ℕ → ℕ) → Rules3To7With geometry image blocks
    → ((n : ℕ) → lo ≤ n → n < hi → body_byte geometry image i n ≡ content n) → Rewrites geometry image image i lo hi content blocks
rewrites_none geometry image blocks i lo hi content sound bytes = record {
  alone = elsewhere_self geometry image i;
  sound = sound;
  covered = λ covered. covered;
  mode = refl;
  size = refl;
  names = λ p place. refl;
  inside = bytes;
  below = λ n h. refl;
  above = λ n h. refl;
  unused = λ k r within low. refl;
}

-- writes of `lo..at` and then of `at..hi` are a write of `lo..hi`
pub rewrites_then : (geometry : Geometry) (old mid new blocks : List ℕ) (i lo at hi : ℕ) (content : ℕ → ℕ) → Rules3To7With geometry old blocks → 1 ≤ i
    → lo ≤ at → at ≤ hi → Rewrites geometry old mid i lo at content blocks → Rewrites geometry mid new i at hi content blocks
    → Rewrites geometry old new i lo hi content blocks
rewrites_then geometry old mid new blocks i lo at hi content sound one low high a b = record {
  alone = elsewhere_then geometry old mid new i sound.fits one a.alone b.alone;
  sound = b.sound;
  covered = λ covered. b.covered (a.covered covered);
  mode = b.mode ∙ a.mode;
  size = b.size ∙ a.size;
  names = λ p place. b.names p (place_same geometry old mid i p a.mode place) ∙ a.names p place;
  inside = λ n from to. elim (cases_lt n at) [ inl less ↦ b.below n less ∙ a.inside n from less | inr more ↦ b.inside n more to ];
  below = λ n h. b.below n (omega arith) ∙ a.below n h;
  above = λ n h. b.above n h ∙ a.above n (omega arith);
  unused = keeps_then old mid new blocks blocks (λ k within. within) a.unused b.unused;
}

-- a write of `len` bytes of a data block writes the same bytes of the file, starting at byte `at`
pub rewrites_stored : (geometry : Geometry) (old new blocks : List ℕ) (i at len k : ℕ) (content : ℕ → ℕ) → Rules3To7With geometry old blocks
    → IsFile geometry old i → stored geometry old i (form_at geometry old i) (at / 512) ≡ k → in_zone geometry k ≡ true → at % 512 + len ≤ 512
    → SameOutside old new (512 * k + at % 512) (512 * k + at % 512 + len)
    → ((n : ℕ) → n < len → get_or new (512 * k + at % 512 + n) 0 ≡ content (at + n))
    → Rewrites geometry old new i at (at + len) content blocks
rewrites_stored geometry old new blocks i at len k content sound file is zone small same put =
    let form = form_at geometry old i in
    let some : k ≢ 0 = zone_some geometry old k sound.fits zone in
    let lo : 512 * (at / 512) + at % 512 ≡ at = omega arith in
    let hi : 512 * (at / 512) + (at % 512 + len) ≡ at + len = omega arith in
    let end : 512 * k + at % 512 + len ≡ 512 * k + (at % 512 + len) = omega arith in
    elim (last_place form (at / 512)) as (λ o. last_place form (at / 512) ≡ o → option_map_or (named geometry old i) o 0 ≡ k
    → Rewrites geometry old new i at (at + len) content blocks) [
      | None ↦ λ e zero. absurd (some (sym zero))
      | Some p ↦ λ e named_p.
          let written : Rewrites geometry old new i (512 * (at / 512) + at % 512) (512 * (at / 512) + (at % 512 + len)) content blocks =
          rewrites_block geometry old new blocks i (at / 512) k (at % 512) (at % 512 + len) p content sound file e named_p zone (omega arith) small
          (subst (λ x. SameOutside old new (512 * k + at % 512) x) end same)
          (λ r low high.
          let place : 512 * k + at % 512 + (r - at % 512) ≡ 512 * k + r = omega arith in
          let there : at + (r - at % 512) ≡ 512 * (at / 512) + r = omega arith in
          ap (λ x. get_or new x 0) (sym place) ∙ (put (r - at % 512) (omega arith) ∙ ap content there)) in
          subst (λ x. Rewrites geometry old new i at x content blocks) hi
          (subst (λ x. Rewrites geometry old new i x (512 * (at / 512) + (at % 512 + len)) content blocks) lo written)
    ] refl is

-- a byte of a hole is 0
pub hole_zero : (geometry : Geometry) (image : List ℕ) (i at n : ℕ) → Fits geometry image
    → stored geometry image i (form_at geometry image i) (at / 512) ≡ 0 → n / 512 ≡ at / 512 → body_byte geometry image i n ≡ 0
hole_zero geometry image i at n fits hole same =
    body_byte_is geometry image i n
    ∙ (ap (λ b. zone_byte geometry image (stored geometry image i (form_at geometry image i) b) (n % 512)) same
    ∙ (ap (λ m. zone_byte geometry image m (n % 512)) hole ∙ zone_byte_out geometry image 0 (n % 512) (zero_out geometry image fits)))

-- a block number stored for a logical block is the number of a data block, or 0
pub stored_zone : (geometry : Geometry) (image blocks : List ℕ) (i b : ℕ) → Rules3To7With geometry image blocks → IsFile geometry image i
    → stored geometry image i (form_at geometry image i) b ≢ 0 → in_zone geometry (stored geometry image i (form_at geometry image i) b) ≡ true
stored_zone geometry image blocks i b sound file =
    elim (last_place (form_at geometry image i) b) as (λ o. last_place (form_at geometry image i) b ≡ o → option_map_or (named geometry image i) o 0 ≢ 0
    → in_zone geometry (option_map_or (named geometry image i) o 0) ≡ true) [
      | None ↦ λ e some. absurd (some refl)
      | Some p ↦ λ e some. sound.zoned i p (record { file = file; place = (last_leaf (form_at geometry image i) b p e).place }) some
    ] refl

-- a write of bytes does not change the block numbers stored for logical blocks
pub stored_same : (geometry : Geometry) (old new blocks : List ℕ) (i lo hi b : ℕ) (form : BlockMap) (content : ℕ → ℕ) → IsFile geometry old i
    → form ≡ form_at geometry old i → Rewrites geometry old new i lo hi content blocks → stored geometry new i form b ≡ stored geometry old i form b
stored_same geometry old new blocks i lo hi b form content file is r =
    stored_kept geometry old new i form b
    (λ p e. r.names p (record { file = file; place = (last_leaf (form_at geometry old i) b p (ap (λ f. last_place f b) (sym is) ∙ e)).place }))
