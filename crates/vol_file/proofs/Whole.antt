-- A complete write: allocating blocks, and then writing the bytes.
use Rattle.std.proofs.Common.{◌≡◌, ◌≢◌, ℕ, zero, suc, ◌+◌, ◌-◌, ◌/◌, ◌<◌, ◌≤◌, ◌∙◌, sym, ap, subst, List, length, map, max, min, arith, true, false, eqb}
use Rattle.std.specs.Prelude.{◌||◌, not}
use Rattle.std.specs.List.{list_any, range_with_len}
use Rattle.std.specs.Str.{bytes_eq}
use Rattle.vol_layout.specs.Edition.{constants}
use Rattle.vol_layout.specs.Geometry.{in_zone}
use Rattle.vol_layout.specs.BlockMaps.{IsPlace, block_limit, way}
use Rattle.vol_layout.specs.BlockPointers.{form_at, IsFile, named, stored}
use Rattle.vol_layout.specs.Body.{body_byte, body_size, body}
use Rattle.vol_layout.specs.declared.geometry.Geometry.{Geometry}
use Rattle.vol_layout.proofs.InodeLaws.{form_same}
use Rattle.vol_layout.proofs.PlaceLaws.{last_leaf, has_way, front_self}
use Rattle.vol_layout.proofs.NameLaws.{stored_is}
use Rattle.vol_layout.proofs.BodyLaws.{length-body, get_or-body}
use Rattle.vol_file.specs.Shape.{is_named, touched, is_on_ways, fit_names, filled}
use Rattle.vol_file.specs.Need.{need_of, need, places_taken}
use Rattle.vol_file.specs.Rules.{size_of, Rules3To7With}
use Rattle.vol_file.specs.Changes.{Writes, mode_after, place_after, spliced}
use Rattle.vol_file.specs.Steps.{Fills, Puts, HasRoom}
use Rattle.vol_file.proofs.Alone.{elsewhere_then, elsewhere_changes, keeps_then}
use Rattle.vol_file.proofs.ReachedPlaces.{map_same}
use Rattle.vol_file.proofs.OneMoreBlock.{unnamed_false}
use Rattle.vol_file.proofs.Lasts.{front_true, way_is, or_true}
use Rattle.vol_file.proofs.Ranges.{is_on_at}
use Rattle.vol_file.proofs.Splices.{spliced_is}

-- the logical blocks touched by at least one byte are a range
pub touched_run : (offset len : ℕ) → 1 ≤ len
    → touched offset len ≡ range_with_len (offset / 512) ((offset + len - 1) / 512 + 1 - offset / 512)
touched_run offset zero some = absurd (omega arith)
touched_run offset (suc n) some =
    let last : offset + suc n - 1 ≡ offset + n = omega arith in
    let many : (offset + n) / 512 - offset / 512 + 1 ≡ (offset + n) / 512 + 1 - offset / 512 = omega arith in
    ap (range_with_len (offset / 512)) (many ∙ ap (λ e. e / 512 + 1 - offset / 512) (sym last))

-- if enough blocks are free for a write, enough are free for its range of logical blocks
pub run_room : (geometry : Geometry) (image : List ℕ) (i offset len : ℕ) (blocks : List ℕ) → 1 ≤ len → Rules3To7With geometry image blocks
    → need geometry image i offset len ≤ length blocks → HasRoom geometry image i (offset / 512) ((offset + len - 1) / 512 + 1) blocks
run_room geometry image i offset len blocks some sound room = record {
  sound = sound;
  room = subst (λ t. need_of (form_at geometry image i) (is_named geometry image i) t ≤ length blocks) (touched_run offset len some) room;
}

-- a position in the block map that passes the test `is_named` doesn't hold 0
named_some : (geometry : Geometry) (image : List ℕ) (i : ℕ) (p : List ℕ) → is_named geometry image i p ≡ true → named geometry image i p ≢ 0
named_some geometry image i p e gone = let none : is_named geometry image i p ≡ false = unnamed_false geometry image i p gone in cc

-- after the blocks are allocated, each logical block of the range is stored in a data block
pub fills_zone : (geometry : Geometry) (old new : List ℕ) (i from to b : ℕ) (blocks : List ℕ)
    → Fills geometry old new i (range_with_len from (to - from)) blocks → to ≤ block_limit (form_at geometry new i) → from ≤ b → b < to
    → in_zone geometry (stored geometry new i (form_at geometry new i) b) ≡ true
fills_zone geometry old new i from to b blocks fills limit low high =
    let form = form_at geometry new i in
    let touches = range_with_len from (to - from) in
    let found = has_way form b (omega (arith, limit, high)) in
    let p = found.0 in
    let leaf = last_leaf form b p found.1 in
    let at : from + (b - from) ≡ b = omega arith in
    let on_way : list_any (bytes_eq p) (way form b) ≡ true =
    ap (list_any (bytes_eq p)) (way_is form b p found.1) ∙ front_true p p (front_self form p leaf.place) in
    let on : is_on_ways form touches p ≡ true =
    is_on_at form p from (to - from) (b - from) (omega arith) (ap (λ c. list_any (bytes_eq p) (way form c)) at ∙ on_way) in
    let is : is_named geometry new i p ≡ true =
    fills.names p leaf.place
    ∙ (ap (λ f. fit_names (form_at geometry old i) (is_named geometry old i) touches p || is_on_ways f touches p) (sym fills.form)
    ∙ (ap (λ t. fit_names (form_at geometry old i) (is_named geometry old i) touches p || t) on
    ∙ or_true (fit_names (form_at geometry old i) (is_named geometry old i) touches p))) in
    ap (in_zone geometry) (stored_is geometry new i form b p found.1)
    ∙ fills.sound.zoned i p (record { file = fills.file; place = leaf.place }) (named_some geometry new i p is)

-- the body after the blocks are allocated and the bytes are written is `spliced`
writes_body : (geometry : Geometry) (old mid new : List ℕ) (i offset : ℕ) (text rest blocks : List ℕ) → IsFile geometry old i → Rules3To7With geometry old blocks
    → offset + length text ≤ (constants geometry.edition).greatest
    → size_of geometry mid i ≡ size_of geometry old i → ((n : ℕ) → body_byte geometry mid i n ≡ body_byte geometry old i n)
    → Puts geometry mid new i offset text rest → body geometry new i ≡ spliced (body geometry old i) offset text
writes_body geometry old mid new i offset text rest blocks file sound great size bytes puts =
    let bound = sound.sizes.greatest i file in
    let len_old : length (body geometry old i) ≡ size_of geometry old i = length-body geometry old i ∙ omega (arith, bound) in
    let size_new : size_of geometry new i ≡ max (size_of geometry old i) (offset + length text) = puts.size ∙ ap (λ s. max s (offset + length text)) size in
    let whole : body_size geometry new i ≡ max (size_of geometry old i) (offset + length text) =
    ap (λ s. min s (constants geometry.edition).greatest) size_new ∙ omega (arith, bound, great) in
    let old_size : body_size geometry old i ≡ size_of geometry old i = omega (arith, bound) in
    let len_new : length (body geometry new i) ≡ max (length (body geometry old i)) (offset + length text) =
    length-body geometry new i ∙ (whole ∙ ap (λ s. max s (offset + length text)) (sym len_old)) in
    spliced_is (body geometry new i) (body geometry old i) offset text len_new
    (λ n before there.
    let inside : n < size_of geometry old i = omega (arith, len_old, there) in
    get_or-body geometry new i n (omega (arith, whole, inside))
    ∙ (puts.low n before (omega (arith, size, inside)) ∙ (bytes n ∙ sym (get_or-body geometry old i n (omega (arith, old_size, inside))))))
    (λ n past before.
    get_or-body geometry new i n (omega (arith, whole, before)) ∙ puts.gap n (omega (arith, size, len_old, past)) before)
    (λ n after before. get_or-body geometry new i n (omega (arith, whole, before)) ∙ puts.middle n after before)
    (λ n past there.
    let inside : n < size_of geometry old i = omega (arith, len_old, there) in
    get_or-body geometry new i n (omega (arith, whole, inside))
    ∙ (puts.high n past ∙ (bytes n ∙ sym (get_or-body geometry old i n (omega (arith, old_size, inside))))))

-- allocating the blocks and then writing the bytes is a write
pub writes : (geometry : Geometry) (old mid new : List ℕ) (i offset : ℕ) (text touches blocks : List ℕ) → IsFile geometry old i
    → Rules3To7With geometry old blocks → offset + length text ≤ (constants geometry.edition).greatest
    → touched offset (length text) ≡ touches → (fills : Fills geometry old mid i touches blocks)
    → Puts geometry mid new i offset text fills.rest → Writes geometry old new i offset text blocks
writes geometry old mid new i offset text touches blocks file sound great run fills puts =
    let form_new : form_at geometry new i ≡ form_at geometry mid i = form_same geometry mid new i puts.mode in
    record {
      taken = fills.taken;
      rest = fills.rest;
      free = fills.free;
      count = fills.count ∙ ap (need_of (form_at geometry old i) (is_named geometry old i)) (sym run);
      sound = puts.sound;
      covered = λ all. puts.covered (fills.covered all);
      alone = elsewhere_changes geometry old new i sound.fits file.first
          (elsewhere_then geometry old mid new i sound.fits file.first fills.alone puts.alone);
      mode = puts.mode ∙ (fills.mode ∙ ap (mode_after geometry old i) (sym run));
      size = puts.size ∙ ap (λ s. max s (offset + length text)) fills.size;
      body = writes_body geometry old mid new i offset text fills.rest blocks file sound great fills.size fills.bytes puts;
      names = λ p place.
          let at : IsPlace (form_at geometry mid i) p = subst (λ f. IsPlace f p) form_new place in
          ap (λ m. not (eqb m 0)) (puts.names p (record { file = fills.file; place = at }))
          ∙ (fills.names p at ∙ ap (λ t. filled (form_at geometry old i) (is_named geometry old i) t p) (sym run));
      kept = λ p place some.
          ap (λ t. named geometry new i (place_after (form_at geometry old i) t p)) run
          ∙ (puts.names (place_after (form_at geometry old i) touches p) (fills.moved p place) ∙ fills.kept p place some);
      past = λ n far. puts.high n (omega arith) ∙ fills.bytes n;
      order =
          fills.order
          ∙ (map_same (named geometry mid i) (named geometry new i) (places_taken (form_at geometry old i) (is_named geometry old i) touches)
          (λ p among. sym (puts.names p (fills.gained p among)))
          ∙ ap (λ t. map (named geometry new i) (places_taken (form_at geometry old i) (is_named geometry old i) t)) (sym run));
      unused = keeps_then old mid new fills.rest fills.rest (λ k within. within) fills.unused puts.unused;
    }

-- a length that isn't 0 is at least 1
pub some_length : (n : ℕ) → eqb n 0 ≡ false → 1 ≤ n
some_length zero e = absurd (cc)
some_length (suc n) e = omega arith
