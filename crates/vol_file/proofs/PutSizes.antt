-- Writing the size of a file, after its bytes.
use Rattle.std.proofs.Common.{◌≡◌, ℕ, ◌+◌, ◌*◌, ◌<◌, ◌≤◌, ◌⊎◌, ◌∙◌, sym, ap, subst, List, ◌∷◌, length, max, min, arith, inl, inr, true}
use Rattle.std.proofs.lemmas.Bool.{cases_lt, cases_eq}
use Rattle.std.proofs.lemmas.Bool.Decides.{nat_tests}
use Rattle.pdp_words.specs.Words.{SameOutside}
use Rattle.vol_layout.specs.Edition.{constants}
use Rattle.vol_layout.specs.Geometry.{in_zone}
use Rattle.vol_layout.specs.Inode.{inode_place, size_bytes, size_place, kind_of}
use Rattle.vol_layout.specs.BlockPointers.{mode_of, form_at, IsFile, IsPlaceOf, named}
use Rattle.vol_layout.specs.Body.{body_byte, zone_byte}
use Rattle.vol_layout.specs.declared.edition.Edition.{Edition}
use Rattle.vol_layout.specs.declared.edition.Edition.TheVariants.{V6, V7}
use Rattle.vol_layout.specs.declared.geometry.Geometry.{Geometry}
use Rattle.vol_layout.specs.declared.block_map.BlockMap.TheVariants.{Small}
use Rattle.vol_layout.proofs.InodeLaws.{place_from, place_room, size_kept, form_kept, form_same}
use Rattle.vol_layout.proofs.AddressLaws.{size_within, addresses_before, mode_behind}
use Rattle.vol_layout.proofs.BodyLaws.{zone_bounds}
use Rattle.vol_layout.proofs.FrameLaws.{named_kept, zone_byte_kept}
use Rattle.vol_layout.proofs.PlaceLaws.{last_leaf}
use Rattle.vol_free.specs.Stack.{IsIn, IsFree}
use Rattle.vol_free.proofs.Stacks.{head_end}
use Rattle.vol_free.proofs.Frames.{free_zone, IsFree-before_zone}
use Rattle.vol_file.specs.Changes.{StaysElsewhere, is_kept_byte, KeepsBlocks}
use Rattle.vol_file.specs.Rules.{size_of, Rules3To7With, IsCovered}
use Rattle.vol_file.specs.Steps.{Rewrites, Puts, text_at, zeros_at}
use Rattle.vol_file.proofs.Alone.{fits_len, elsewhere_then, elsewhere_inode, keeps_then}
use Rattle.vol_file.proofs.Cells.{number_above, names_zoned}
use Rattle.vol_file.proofs.StoredNames.{kinds_kept, links_kept, modes_kept, file_same, place_same}
use Rattle.vol_file.proofs.OneMoreBlock.{body_same}
use Rattle.vol_file.proofs.Bytes.{same_names, same_covered}

-- the bytes of an i-node that a change of a file must keep don't overlap the size
pub size_apart : (edition : Edition) (i r : ℕ) → is_kept_byte edition r ≡ true
    → (inode_place edition i + r < size_place edition i) ⊎ (size_place edition i + size_bytes edition ≤ inode_place edition i + r)
size_apart V6 i r kept =
    elim (cases_lt r 5) [ inl less ↦ inl (omega arith) | inr more ↦ let high : 24 ≤ r = grind (arith, nat_tests) in inr (omega arith) ]
size_apart V7 i r kept =
    elim (cases_lt r 8) [ inl less ↦ inl (omega arith) | inr more ↦ let high : 51 ≤ r = grind (arith, nat_tests) in inr (omega arith) ]

-- a write of the size changes only file `i`
size_elsewhere : (geometry : Geometry) (old new blocks : List ℕ) (i : ℕ) → Rules3To7With geometry old blocks → IsFile geometry old i
    → SameOutside old new (size_place geometry.edition i) (size_place geometry.edition i + size_bytes geometry.edition) → StaysElsewhere geometry old new i
size_elsewhere geometry old new blocks i sound file same =
    let within = size_within geometry.edition i in
    let room = place_room geometry old i sound.fits file.first file.last in
    let from = place_from geometry.edition i in
    let head = head_end geometry.edition in
    record {
      len = same.len;
      before = λ x b. same.below x (omega (arith, within.0, from, head, b));
      super_block = λ x b l. same.below x (omega (arith, within.0, from, l));
      lower_inodes = λ x b l. same.below x (omega (arith, within.0, l));
      higher_inodes = λ x b l. same.above x (omega (arith, within.1, within.2, b));
      inode = λ r kept. elim (size_apart geometry.edition i r kept) [
        | inl less ↦ same.below (inode_place geometry.edition i + r) less
        | inr more ↦ same.above (inode_place geometry.edition i + r) more
      ];
      blocks = λ j p m r other names b.
          let bounds = zone_bounds geometry m (names_zoned geometry old blocks j p m sound names) in
          same.above (512 * m + r) (omega (arith, within.1, within.2, room, bounds.0));
      behind = λ x b. same.above x (omega (arith, within.1, within.2, room, sound.fits.zone, b));
    }

-- the size of file `i` was set to `s`, and nothing else of the file changed
pub record Resized (geometry : Geometry) (old new : List ℕ) (i s : ℕ) (blocks : List ℕ) : Type 0 where
  pub alone : StaysElsewhere geometry old new i
  pub sound : Rules3To7With geometry new blocks
  pub covered : IsCovered geometry old blocks → IsCovered geometry new blocks
  pub mode : mode_of geometry new i ≡ mode_of geometry old i
  pub names : (p : List ℕ) → IsPlaceOf geometry old i p → named geometry new i p ≡ named geometry old i p
  pub size : size_of geometry new i ≡ s
  pub bytes : (n : ℕ) → body_byte geometry new i n ≡ body_byte geometry old i n
  pub unused : KeepsBlocks old new blocks

-- a write of the size changes only the size of file `i`
pub resized : (geometry : Geometry) (old new blocks : List ℕ) (i s : ℕ) → Rules3To7With geometry old blocks → IsFile geometry old i
    → SameOutside old new (size_place geometry.edition i) (size_place geometry.edition i + size_bytes geometry.edition)
    → size_of geometry new i ≡ s → s ≤ (constants geometry.edition).greatest → (form_at geometry old i ≡ Small → s ≤ 4096)
    → Resized geometry old new i s blocks
resized geometry old new blocks i s sound file same put great low =
    let within = size_within geometry.edition i in
    let room = place_room geometry old i sound.fits file.first file.last in
    let from = place_from geometry.edition i in
    let at = size_place geometry.edition i in
    let end = size_place geometry.edition i + size_bytes geometry.edition in
    let alone : StaysElsewhere geometry old new i = size_elsewhere geometry old new blocks i sound file same in
    let mode : mode_of geometry new i ≡ mode_of geometry old i = mode_behind geometry old new i at end same within.0 in
    let names : (p : List ℕ) → IsPlaceOf geometry old i p → named geometry new i p ≡ named geometry old i p =
    λ p place. named_kept geometry old new i p
    (λ k front. addresses_before geometry.edition old new i at end k same (omega (arith, within.1)))
    (λ x a q front zone.
    let bounds = zone_bounds geometry (named geometry old i (a ∷ q)) zone in
    number_above geometry.edition old new (named geometry old i (a ∷ q)) x at end same (omega (arith, within.1, within.2, room, bounds.0))) in
    let free : IsFree geometry new blocks =
    IsFree-before_zone same (omega (arith, within.0, from)) (omega (arith, within.1, within.2, room)) sound.free in
    let modes : (j : ℕ) → 1 ≤ j → j ≤ geometry.last_inode → mode_of geometry new j ≡ mode_of geometry old j =
    λ j first last. modes_kept geometry old new i j sound.fits alone file.first mode first last in
    let both : (j : ℕ) (p : List ℕ) → IsPlaceOf geometry new j p → IsPlaceOf geometry old j p × (named geometry new j p ≡ named geometry old j p) =
    λ j p place. same_names geometry old new i j p sound.fits file.first alone mode names place in
    record {
      alone = alone;
      sound = record {
        fits = fits_len geometry old new alone.len sound.fits;
        kinds = kinds_kept geometry old new sound.fits (λ j first last. ap (kind_of geometry.edition) (modes j first last)) sound.kinds;
        sizes = record {
          greatest = λ j is. elim (cases_eq j i) [
            | inl e ↦ rw (e, put) great
            | inr other ↦
                let kept = elsewhere_inode geometry old new i j sound.fits alone file.first is.first is.last other in
                rw (size_kept geometry old new j kept) (sound.sizes.greatest j (file_same geometry new old j (sym (modes j is.first is.last)) is))
          ];
          small = λ j is small. elim (cases_eq j i) [
            | inl e ↦ rw (e, put) (low (sym (form_same geometry old new i mode) ∙ (ap (form_at geometry new) (sym e) ∙ small)))
            | inr other ↦
                let kept = elsewhere_inode geometry old new i j sound.fits alone file.first is.first is.last other in
                rw (size_kept geometry old new j kept)
                (sound.sizes.small j (file_same geometry new old j (sym (modes j is.first is.last)) is) (sym (form_kept geometry old new j kept) ∙ small))
          ];
          links = λ j first last used. rw (links_kept geometry old new i j sound.fits alone file.first first last)
              (sound.sizes.links j first last (λ none. used (ap (kind_of geometry.edition) (modes j first last) ∙ none)));
        };
        zoned = λ j p place some. let b = both j p place in
            ap (in_zone geometry) b.1 ∙ sound.zoned j p b.0 (λ zero. some (b.1 ∙ zero));
        free = free;
        apart = λ j k p r place place' some equal. let b = both j p place in let c = both k r place' in
            sound.apart j k p r b.0 c.0 (λ zero. some (b.1 ∙ zero)) (sym b.1 ∙ (equal ∙ c.1));
        outside = λ j p place inside. let b = both j p place in sound.outside j p b.0 (subst (λ k. IsIn k blocks) b.1 inside);
      };
      covered = same_covered geometry old new blocks i sound file.first alone mode names;
      mode = mode;
      names = names;
      size = put;
      bytes = body_same geometry old new i sound.fits (form_same geometry old new i mode)
          (λ b p r last h.
          let equal = names p (record { file = file; place = (last_leaf (form_at geometry old i) b p last).place }) in
          ap (λ m. zone_byte geometry new m r) equal
          ∙ zone_byte_kept geometry old new (named geometry old i p) r
          (λ zone. let bounds = zone_bounds geometry (named geometry old i p) zone in
          same.above (512 * named geometry old i p + r) (omega (arith, within.1, within.2, room, bounds.0))));
      unused = λ k r inside low.
          let bounds = zone_bounds geometry k (free_zone free k inside) in
          same.above (512 * k + r) (omega (arith, within.1, within.2, room, bounds.0));
    }

-- clearing the bytes up to the offset, writing the text, and then writing the size is a write of the text
pub puts : (geometry : Geometry) (old a b new blocks : List ℕ) (i offset from : ℕ) (text : List ℕ) → Rules3To7With geometry old blocks → IsFile geometry old i
    → from ≡ min (size_of geometry old i) offset
    → Rewrites geometry old a i from offset zeros_at blocks → Rewrites geometry a b i offset (offset + length text) (text_at offset text) blocks
    → Resized geometry b new i (max (size_of geometry old i) (offset + length text)) blocks → Puts geometry old new i offset text blocks
puts geometry old a b new blocks i offset from text sound file is r s t =
    let one = file.first in
    let fits_a = fits_len geometry old a r.alone.len sound.fits in
    let low : (n : ℕ) → n < from → body_byte geometry new i n ≡ body_byte geometry old i n =
    λ n h. t.bytes n ∙ (s.below n (omega (arith, h, is)) ∙ r.below n h) in
    record {
      alone = elsewhere_then geometry old a new i sound.fits one r.alone (elsewhere_then geometry a b new i fits_a one s.alone t.alone);
      sound = t.sound;
      covered = λ all. t.covered (s.covered (r.covered all));
      mode = t.mode ∙ (s.mode ∙ r.mode);
      names = λ p place.
          let at_a = place_same geometry old a i p r.mode place in
          let at_b = place_same geometry a b i p s.mode at_a in t.names p at_b ∙ (s.names p at_a ∙ r.names p place);
      size = t.size;
      low = λ n before there. low n (omega (arith, is, before, there));
      gap = λ n past before. t.bytes n ∙ (s.below n before ∙ r.inside n (omega (arith, is, past, before)) before);
      middle = λ n after before. t.bytes n ∙ s.inside n after before;
      high = λ n past. t.bytes n ∙ (s.above n past ∙ r.above n (omega arith));
      unused = keeps_then old a new blocks blocks (λ k within. within) r.unused
          (keeps_then a b new blocks blocks (λ k within. within) s.unused t.unused);
    }
