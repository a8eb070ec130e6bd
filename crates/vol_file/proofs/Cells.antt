-- The block numbers in a file's block map after a number is stored in an address of the i-node or in an entry of an indirect block.
use Rattle.std.proofs.Common.{◌≡◌, ◌≢◌, ℕ, ◌+◌, ◌*◌, ◌<◌, ◌≤◌, ◌⊎◌, ◌∙◌, sym, ap, subst, List, [], ◌∷◌, arith, inl, inr, true}
use Rattle.std.proofs.lemmas.Bool.{cases_lt, cases_eq}
use Rattle.std.proofs.lemmas.Bool.Decides.{nat_tests}
use Rattle.pdp_words.specs.Words.{SameOutside}
use Rattle.pdp_words.proofs.Below.{word_below, word_above, long_below, long_above}
use Rattle.pdp_words.proofs.Outside.{widen}
use Rattle.vol_layout.specs.Edition.{constants, number}
use Rattle.vol_layout.specs.Geometry.{in_zone}
use Rattle.vol_layout.specs.Inode.{inode_place, address_at, address_count, address_bytes, address_place}
use Rattle.vol_layout.specs.BlockMaps.{IsPlace, pointer_count}
use Rattle.vol_layout.specs.Laws.{IsFront}
use Rattle.vol_layout.specs.BlockPointers.{mode_of, form_at, IsFile, IsPlaceOf, named, pointer_in, NamesBlock}
use Rattle.vol_layout.specs.declared.edition.Edition.{Edition}
use Rattle.vol_layout.specs.declared.edition.Edition.TheVariants.{V6, V7}
use Rattle.vol_layout.specs.declared.geometry.Geometry.{Geometry}
use Rattle.vol_layout.proofs.CopyLaws.{copy_block, number_room, number_kept}
use Rattle.vol_layout.proofs.InodeLaws.{KeepsInode, place_from, place_room, mode_kept, size_kept, address_kept}
use Rattle.vol_layout.proofs.AddressLaws.{address_others, address_within, mode_within, mode_behind, size_behind, address_room}
use Rattle.vol_layout.proofs.PlaceLaws.{place_front}
use Rattle.vol_layout.proofs.BodyLaws.{zone_bounds}
use Rattle.vol_layout.proofs.NameLaws.{entry_in, holds_named}
use Rattle.vol_layout.proofs.FrameLaws.{pointers_of, addresses_of, block_keeps_inode, named_kept}
use Rattle.vol_free.specs.Stack.{IsIn}
use Rattle.vol_free.proofs.Stacks.{head_end}
use Rattle.vol_free.proofs.Frames.{IsFree-before_zone, IsFree-within}
use Rattle.vol_file.specs.Rules.{Rules3To7With}
use Rattle.vol_file.specs.Changes.{StaysElsewhere, is_kept_byte}
use Rattle.vol_file.proofs.Stores.{Stores}
use Rattle.vol_file.proofs.Fronts.{front_longer}

-- a write of one number of an array does not change the other numbers
pub number_other : (edition : Edition) (old new : List ℕ) (at j h : ℕ)
    → SameOutside old new (at + (constants edition).number_bytes * j) (at + (constants edition).number_bytes * (j + 1))
    → h ≢ j → number edition new at h ≡ number edition old at h
number_other V6 old new at j h same other =
    elim (cases_lt h j) [ inl less ↦ word_below same (at + 2 * h) (omega arith) | inr more ↦ word_above same (at + 2 * h) (omega arith) ]
number_other V7 old new at j h same other =
    elim (cases_lt h j) [ inl less ↦ long_below same (at + 4 * h) (omega arith) | inr more ↦ long_above same (at + 4 * h) (omega arith) ]

-- a write before a block does not change the numbers in the block
pub number_above : (edition : Edition) (old new : List ℕ) (m h from to : ℕ) → SameOutside old new from to → to ≤ 512 * m
    → number edition new (512 * m) h ≡ number edition old (512 * m) h
number_above V6 old new m h from to same high = word_above same (512 * m + 2 * h) (omega arith)
number_above V7 old new m h from to same high = long_above same (512 * m + 4 * h) (omega arith)

-- the bytes of an i-node that a change of a file must keep don't overlap any address
kept_apart : (edition : Edition) (i k r : ℕ) → is_kept_byte edition r ≡ true → k < address_count edition
    → (inode_place edition i + r < address_place edition i k)
    ⊎ (address_place edition i k + address_bytes edition ≤ inode_place edition i + r)
kept_apart V6 i k r kept h =
    elim (cases_lt r 8) [ inl less ↦ inl (omega arith) | inr more ↦ let high : 24 ≤ r = grind (arith, nat_tests) in inr (omega arith) ]
kept_apart V7 i k r kept h =
    elim (cases_lt r 12) [ inl less ↦ inl (omega arith) | inr more ↦ let high : 51 ≤ r = grind (arith, nat_tests) in inr (omega arith) ]

-- if rules 3 to 7 hold, a block to which a file points is a data block
pub names_zoned : (geometry : Geometry) (image : List ℕ) (blocks : List ℕ) (j : ℕ) (p : List ℕ) (k : ℕ) → Rules3To7With geometry image blocks
    → NamesBlock geometry image j p k → in_zone geometry k ≡ true
names_zoned geometry image blocks j p k sound names =
    let held = holds_named geometry image j p k names.holds in
    subst (λ m. in_zone geometry m ≡ true) held.0 (sound.zoned j p names.place (λ zero. held.1 (sym held.0 ∙ zero)))

-- a write of an address of i-node `i` changes only file `i`
address_elsewhere : (geometry : Geometry) (old new blocks : List ℕ) (i k : ℕ) → Rules3To7With geometry old blocks → IsFile geometry old i
    → k < address_count geometry.edition
    → SameOutside old new (address_place geometry.edition i k) (address_place geometry.edition i k + address_bytes geometry.edition)
    → StaysElsewhere geometry old new i
address_elsewhere geometry old new blocks i k sound file h same =
    let room = address_room geometry old i k sound.fits file.first file.last h in
    let within = address_within geometry.edition i k h in
    let head = head_end geometry.edition in
    let zone = sound.fits.zone in
    record {
      len = same.len;
      before = λ x b. same.below x (omega (arith, room.0));
      super_block = λ x b l. same.below x (omega (arith, room.0));
      lower_inodes = λ x b l. same.below x (omega (arith, within.0));
      higher_inodes = λ x b l. same.above x (omega (arith, within.1));
      inode = λ r kept. elim (kept_apart geometry.edition i k r kept h) [
        | inl less ↦ same.below (inode_place geometry.edition i + r) less
        | inr more ↦ same.above (inode_place geometry.edition i + r) more
      ];
      blocks = λ j p m r other names b.
          let bounds = zone_bounds geometry m (names_zoned geometry old blocks j p m sound names) in
          same.above (512 * m + r) (omega (arith, room.1, bounds.0));
      behind = λ x b. same.above x (omega (arith, room.1, zone));
    }

-- after number `v` is stored in address `k` of file `i`, this position in the block map holds `v`, and the numbers at positions not below it are
-- unchanged
pub stores_address : (geometry : Geometry) (old new blocks : List ℕ) (i k v : ℕ) → Rules3To7With geometry old blocks → IsFile geometry old i
    → k < address_count geometry.edition
    → SameOutside old new (address_place geometry.edition i k) (address_place geometry.edition i k + address_bytes geometry.edition)
    → address_at geometry.edition new (inode_place geometry.edition i) k ≡ v → Stores geometry old new i (k ∷ []) v blocks
stores_address geometry old new blocks i k v sound file h same put =
    let room = address_room geometry old i k sound.fits file.first file.last h in
    let within = address_within geometry.edition i k h in
    let mode = mode_within geometry.edition i in
    record {
      alone = address_elsewhere geometry old new blocks i k sound file h same;
      mode = mode_behind geometry old new i (address_place geometry.edition i k) (address_place geometry.edition i k + address_bytes geometry.edition)
          same (omega (arith, within.0, mode.0));
      size = size_behind geometry.edition old new i (address_place geometry.edition i k)
          (address_place geometry.edition i k + address_bytes geometry.edition) same within.0;
      here = put;
      others = λ p place apart. named_kept geometry old new i p
          (λ x front. address_others geometry.edition old new i k x same (λ e. apart (subst (λ y. IsFront (y ∷ []) p) e front)))
          (λ x a q front zone.
          let bounds = zone_bounds geometry (named geometry old i (a ∷ q)) zone in
          let index : IsPlace (form_at geometry old i) (x ∷ (a ∷ q)) = place_front (form_at geometry old i) p (x ∷ (a ∷ q)) place.place front in
          let many = pointers_of geometry.edition (mode_of geometry old i) in
          number_above geometry.edition old new (named geometry old i (a ∷ q)) x
          (address_place geometry.edition i k) (address_place geometry.edition i k + address_bytes geometry.edition) same
          (omega (arith, room.1, bounds.0)));
      bytes = λ m r zone apart b.
          let bounds = zone_bounds geometry m zone in same.above (512 * m + r) (omega (arith, room.1, bounds.0));
      free = IsFree-before_zone same (omega (arith, room.0)) room.1 sound.free;
    }

-- a byte that a change of a file must keep is one of the i-node's bytes
pub kept_within : (edition : Edition) (r : ℕ) → is_kept_byte edition r ≡ true → r < (constants edition).inode_bytes
kept_within V6 r kept = grind (arith, nat_tests)
kept_within V7 r kept = grind (arith, nat_tests)

-- an entry of an array that fits a block ends within the block
pub entry_end : (at size j : ℕ) → size * j + size ≤ 512 → at + size * (j + 1) ≤ at + 512
entry_end at size j h = let more : size * (j + 1) ≡ size * j + size = grind arith in omega arith

-- a write within a block of file `i` changes only file `i`
pub block_elsewhere : (geometry : Geometry) (old new blocks : List ℕ) (i m : ℕ) (q : List ℕ) → Rules3To7With geometry old blocks
    → IsPlaceOf geometry old i q → named geometry old i q ≡ m → in_zone geometry m ≡ true
    → SameOutside old new (512 * m) (512 * m + 512) → StaysElsewhere geometry old new i
block_elsewhere geometry old new blocks i m q sound place is zone same =
    let bounds = zone_bounds geometry m zone in
    let room = place_room geometry old i sound.fits place.file.first place.file.last in
    let from = place_from geometry.edition i in
    let head = head_end geometry.edition in
    record {
      len = same.len;
      before = λ x b. same.below x (omega (arith, bounds.0));
      super_block = λ x b l. same.below x (omega (arith, bounds.0));
      lower_inodes = λ x b l. same.below x (omega (arith, bounds.0));
      higher_inodes = λ x b l. same.below x (omega (arith, bounds.0));
      inode = λ r kept. same.below (inode_place geometry.edition i + r) (omega (arith, bounds.0, room, kept_within geometry.edition r kept));
      blocks = λ j p k r other names b.
          let held = holds_named geometry old j p k names.holds in
          let differ : k ≢ m = λ e. other (sound.apart j i p q names.place place (λ zero. held.1 (sym held.0 ∙ zero)) (held.0 ∙ (e ∙ sym is))).0 in
          (copy_block old new k m same differ).bytes r b;
      behind = λ x b. same.above x (omega (arith, bounds.1));
    }

-- after number `v` is stored in entry `j` of a block of file `i`, this position in the block map holds `v`, and the numbers at positions not below it
-- are unchanged
pub stores_entry : (geometry : Geometry) (old new blocks : List ℕ) (i m j a v : ℕ) (p : List ℕ) → Rules3To7With geometry old blocks
    → IsPlaceOf geometry old i (j ∷ (a ∷ p)) → named geometry old i (a ∷ p) ≡ m → in_zone geometry m ≡ true
    → SameOutside old new (512 * m + (constants geometry.edition).number_bytes * j) (512 * m + (constants geometry.edition).number_bytes * (j + 1))
    → number geometry.edition new (512 * m) j ≡ v → Stores geometry old new i (j ∷ (a ∷ p)) v blocks
stores_entry geometry old new blocks i m j a v p sound place is zone same put =
    let bounds = zone_bounds geometry m zone in
    let many = pointers_of geometry.edition (mode_of geometry old i) in
    let index : j < pointer_count (form_at geometry old i) = place.place.0 in
    let fit = number_room geometry.edition j (omega (arith, index, many)) in
    let wide : SameOutside old new (512 * m) (512 * m + 512) =
    widen {from = 512 * m} {to = 512 * m + 512} same (omega arith) (entry_end (512 * m) (constants geometry.edition).number_bytes j fit) in
    let kept : KeepsInode geometry old new i = block_keeps_inode geometry old new m i sound.fits wide zone place.file.first place.file.last in
    let above : IsPlaceOf geometry old i (a ∷ p) = record { file = place.file; place = place.place.2 } in
    let some : m ≢ 0 = λ zero. let bound = zone_bounds geometry m zone in omega (arith, sound.fits.i_list, bound.0) in
    let others : (q : List ℕ) → IsPlaceOf geometry old i q → (IsFront (j ∷ (a ∷ p)) q → ⊥) → named geometry new i q ≡ named geometry old i q =
    λ q place_q apart. named_kept geometry old new i q
    (λ k front.
    let here : IsPlace (form_at geometry old i) (k ∷ []) = place_front (form_at geometry old i) q (k ∷ []) place_q.place front in
    let few = addresses_of geometry.edition (mode_of geometry old i) in
    address_kept geometry old new i k kept (omega (arith, here, few)))
    (λ x b r front zone_x.
    let here : IsPlace (form_at geometry old i) (x ∷ (b ∷ r)) = place_front (form_at geometry old i) q (x ∷ (b ∷ r)) place_q.place front in
    let low : x < (constants geometry.edition).pointers = omega (arith, here.0, many) in
    elim (cases_eq (named geometry old i (b ∷ r)) m) [
      | inl e ↦
          let same_place = sound.apart i i (b ∷ r) (a ∷ p) (record { file = place.file; place = here.2 }) above
          (λ zero. some (sym e ∙ zero)) (e ∙ sym is) in
          let differ : x ≢ j = λ f.
          let whole : x ∷ (b ∷ r) ≡ j ∷ (a ∷ p) = ap (λ y. y ∷ (b ∷ r)) f ∙ ap (λ t. j ∷ t) same_place.1 in
          apart (subst (λ y. IsFront y q) whole front) in
          subst (λ k. number geometry.edition new (512 * k) x ≡ number geometry.edition old (512 * k) x) (sym e)
          (number_other geometry.edition old new (512 * m) j x same differ)
      | inr differ ↦ number_kept geometry.edition old new (named geometry old i (b ∷ r)) m x wide differ low
    ]) in
    record {
      alone = block_elsewhere geometry old new blocks i m (a ∷ p) sound above is zone wide;
      mode = mode_kept geometry old new i kept;
      size = size_kept geometry old new i kept;
      here =
          let front : named geometry new i (a ∷ p) ≡ m = others (a ∷ p) above (front_longer j (a ∷ p)) ∙ is in
          ap (λ k. pointer_in geometry new k j) front ∙ (entry_in geometry new m j zone ∙ put);
      others = others;
      bytes = λ k r zone_k apart b.
          let differ : k ≢ m = λ e. apart (a ∷ p) above place.place.1 (is ∙ sym e) in
          (copy_block old new k m wide differ).bytes r b;
      free = IsFree-within wide m (omega (arith, sound.fits.i_list, bounds.0)) (omega arith) (omega arith)
          (λ within. sound.outside i (a ∷ p) above (subst (λ k. IsIn k blocks) (sym is) within)) sound.free;
    }
