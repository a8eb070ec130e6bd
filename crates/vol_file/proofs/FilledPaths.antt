-- Allocating all missing blocks on the paths of touched logical blocks: the number of blocks taken, and the new block map.
use Rattle.std.proofs.Common.{◌≡◌, ℕ, zero, suc, ◌+◌, ◌*◌, ◌<◌, ◌≤◌, ◌∙◌, sym, ap, subst, List, [], ◌∷◌, ◌++◌, length, map, refl, arith, inl, inr, true, false, Bool, if◌then◌else◌, leb}
use Rattle.std.specs.Prelude.{◌&&◌, ◌||◌, not}
use Rattle.std.specs.List.{count_by, list_any, range_with_len}
use Rattle.std.proofs.lemmas.Bool.{lt-leb, le-leb}
use Rattle.std.proofs.lemmas.Bool.Decides.{nat_tests}
use Rattle.std.proofs.lemmas.List.{length-append}
use Rattle.vol_layout.specs.Edition.{constants}
use Rattle.vol_layout.specs.Inode.{kind_of, is_large, with_large}
use Rattle.vol_layout.specs.BlockMaps.{IsPlace, form_of, file_form, has_places, block_limit, places}
use Rattle.vol_layout.specs.BlockPointers.{mode_of, form_at, IsFile, IsPlaceOf, named}
use Rattle.vol_layout.specs.declared.geometry.Geometry.{Geometry}
use Rattle.vol_layout.specs.declared.edition.Edition.{Edition}
use Rattle.vol_layout.specs.declared.edition.Edition.TheVariants.{V6, V7}
use Rattle.vol_layout.specs.declared.block_map.BlockMap.{BlockMap}
use Rattle.vol_layout.specs.declared.block_map.BlockMap.TheVariants.{Small, Large, Deep, Bare}
use Rattle.vol_layout.proofs.InodeLaws.{form_same}
use Rattle.vol_file.specs.Shape.{is_named, is_on_ways, grows_large, moved_down}
use Rattle.vol_file.specs.Laws.{IsAmong}
use Rattle.vol_file.specs.Need.{missing_count, need_of, missing_places, places_taken}
use Rattle.vol_file.specs.Rules.{Rules3To7With}
use Rattle.vol_file.specs.Steps.{lacking, WantsWays, NamesWays, Enlarges, Fills}
use Rattle.vol_file.specs.MissingBlocks.{grows_at}
use Rattle.vol_file.proofs.PlaceLists.{count_among, count_none, among_places}
use Rattle.vol_file.proofs.Alone.{elsewhere_then, keeps_then}
use Rattle.vol_file.proofs.StoredNames.{place_same, file_same}
use Rattle.vol_file.proofs.TakenBlocks.{rest_within}
use Rattle.vol_file.proofs.Ranges.{missing_all_same}
use Rattle.vol_file.proofs.Lasts.{or_true}

-- `x && not (y || x)` is false
and_gone : (x y : Bool) → (x && not (y || x)) ≡ false
and_gone true true = refl
and_gone true false = refl
and_gone false y = refl

-- after all positions in `wanted` point to blocks, none of them is left to fill
lacking_none : (geometry : Geometry) (old new : List ℕ) (i : ℕ) (wanted : List ℕ → Bool) → IsFile geometry old i
    → mode_of geometry new i ≡ mode_of geometry old i
    → ((p : List ℕ) → IsPlaceOf geometry old i p → is_named geometry new i p ≡ (is_named geometry old i p || wanted p))
    → lacking geometry new i wanted ≡ 0
unfolding lacking
lacking_none geometry old new i wanted file mode names =
    count_among (λ p. wanted p && not (is_named geometry new i p)) (λ p. false) (places (form_at geometry new i))
    (λ p among.
    let place : IsPlace (form_at geometry old i) p = subst (λ f. IsPlace f p) (form_same geometry old new i mode) (among_places (form_at geometry new i) p among) in
    ap (λ t. wanted p && not t) (names p (record { file = file; place = place })) ∙ and_gone (wanted p) (is_named geometry old i p))
    ∙ count_none (λ p. false) (places (form_at geometry new i)) (λ p. refl)

-- the number of positions in the block map on some paths that are left to fill is `missing_count`
lacking_missing : (geometry : Geometry) (image : List ℕ) (i : ℕ) (form : BlockMap) (names : List ℕ → Bool) (touches : List ℕ)
    → form_at geometry image i ≡ form → ((p : List ℕ) → IsPlace form p → is_named geometry image i p ≡ names p)
    → lacking geometry image i (is_on_ways form touches) ≡ missing_count form names touches
unfolding lacking missing_count
lacking_missing geometry image i form names touches is same =
    ap (λ f. count_by (λ p. is_on_ways form touches p && not (is_named geometry image i p)) (places f)) is
    ∙ count_among (λ p. is_on_ways form touches p && not (is_named geometry image i p)) (λ p. is_on_ways form touches p && not (names p)) (places form)
    (λ p among. ap (λ t. is_on_ways form touches p && not t) (same p (among_places form p among)))

-- a file that becomes large is small, and `last` is its ninth logical block or a later one
pub grows_small : (form : BlockMap) (last : ℕ) → grows_at form last ≡ true → (form ≡ Small) × (8 ≤ last)
grows_small Small last e = (refl, grind (arith, nat_tests))
grows_small Large last e = absurd (cc)
grows_small Deep last e = absurd (cc)
grows_small Bare last e = absurd (cc)

-- if a small file doesn't become large, `last` is one of its first eight logical blocks
pub grows_few : (form : BlockMap) (last : ℕ) → grows_at form last ≡ false → form ≡ Small → last < 8
grows_few Small last e small = grind (arith, nat_tests)
grows_few Large last e small = absurd (cc)
grows_few Deep last e small = absurd (cc)
grows_few Bare last e small = absurd (cc)

-- if a file keeps its block map, it needs as many blocks as are missing
need_plain : (form : BlockMap) (names : List ℕ → Bool) (touches : List ℕ) → grows_large form touches ≡ false
    → need_of form names touches ≡ missing_count form names touches
unfolding need_of
need_plain form names touches grows =
    rw grows (omega arith)

-- if a file becomes large, it needs one block more than are missing in its new block map
need_large : (form : BlockMap) (names : List ℕ → Bool) (touches : List ℕ) → grows_large form touches ≡ true
    → need_of form names touches ≡ missing_count Large (moved_down names) touches + 1
unfolding need_of
need_large form names touches grows = rw grows refl

-- if a file keeps its block map, enough free blocks for a write are enough for the paths of its logical blocks
pub wants_plain : (geometry : Geometry) (image : List ℕ) (i from n : ℕ) (blocks : List ℕ) → IsFile geometry image i → Rules3To7With geometry image blocks
    → grows_large (form_at geometry image i) (range_with_len from n) ≡ false
    → need_of (form_at geometry image i) (is_named geometry image i) (range_with_len from n) ≤ length blocks
    → from + n ≤ block_limit (form_at geometry image i)
    → WantsWays geometry image i (is_on_ways (form_at geometry image i) (range_with_len from n)) from n blocks
wants_plain geometry image i from n blocks file sound grows room limit =
    let form = form_at geometry image i in
    let touches = range_with_len from n in
    let lacks = lacking_missing geometry image i form (is_named geometry image i) touches refl (λ p place. refl) in
    let need = need_plain form (is_named geometry image i) touches grows in
    record {
      ready = record { file = file; sound = sound; room = omega (arith, lacks, need, room) };
      limit = limit;
      want = λ p on. on;
    }

-- the number of free blocks is the number of taken blocks plus the number of remaining ones
taken_count : (blocks taken rest : List ℕ) → blocks ≡ taken ++ rest → length blocks ≡ length taken + length rest
taken_count blocks taken rest e = ap length e ∙ length-append taken rest

-- if a file keeps its block map, the positions that get a block are the missing ones
taken_plain : (form : BlockMap) (names : List ℕ → Bool) (touches : List ℕ) → grows_large form touches ≡ false
    → places_taken form names touches ≡ missing_places form names touches
taken_plain form names touches grows =
    ap (λ t. (if t then (0 ∷ []) ∷ [] else []) ++ missing_places (if t then Large else form) (if t then moved_down names else names) touches) grows

-- if a file becomes large, the positions that get a block are `[0]` and the missing ones in its new block map
taken_large : (form : BlockMap) (names : List ℕ → Bool) (touches : List ℕ) → grows_large form touches ≡ true
    → places_taken form names touches ≡ (0 ∷ []) ∷ missing_places Large (moved_down names) touches
taken_large form names touches grows =
    ap (λ t. (if t then (0 ∷ []) ∷ [] else []) ++ missing_places (if t then Large else form) (if t then moved_down names else names) touches) grows

-- if a file keeps its block map, allocating the blocks on all paths allocates the blocks that the write needs
pub fills_plain : (geometry : Geometry) (old new : List ℕ) (i from n : ℕ) (blocks : List ℕ) → IsFile geometry old i
    → grows_large (form_at geometry old i) (range_with_len from n) ≡ false
    → NamesWays geometry old new i (is_on_ways (form_at geometry old i) (range_with_len from n)) from n blocks
    → Fills geometry old new i (range_with_len from n) blocks
fills_plain geometry old new i from n blocks file grows ways =
    let form = form_at geometry old i in
    let touches = range_with_len from n in
    let e = ways.extends in
    let lacks = lacking_missing geometry old i form (is_named geometry old i) touches refl (λ p place. refl) in
    let need = need_plain form (is_named geometry old i) touches grows in
    let none = lacking_none geometry old new i (is_on_ways form touches) file e.mode e.names in
    let many = taken_count blocks e.taken ways.rest e.free in
    let form_new : form_at geometry new i ≡ form = form_same geometry old new i e.mode in
    record {
      rest = ways.rest;
      taken = e.taken;
      free = e.free;
      count = omega (arith, many, none, need, lacks, e.count);
      alone = e.alone;
      sound = e.sound;
      covered = e.covered;
      file = file_same geometry old new i e.mode file;
      form = form_new ∙ sym (ap (λ t. if t then Large else form) grows);
      mode = e.mode ∙ sym (ap (λ t. if t then with_large (mode_of geometry old i) true else mode_of geometry old i) grows);
      size = e.size;
      names = λ p place.
          e.names p (record { file = file; place = subst (λ f. IsPlace f p) form_new place })
          ∙ sym (ap (λ t. (if t then moved_down (is_named geometry old i) else is_named geometry old i) p
          || is_on_ways (if t then Large else form) touches p) grows);
      bytes = e.bytes;
      kept = λ p place some. ap (λ t. named geometry new i (if t then p ++ (0 ∷ []) else p)) grows ∙ e.kept p place some;
      moved = λ p place.
          subst (IsPlaceOf geometry new i) (sym (ap (λ t. if t then p ++ (0 ∷ []) else p) grows)) (place_same geometry old new i p e.mode place);
      gained = λ p among. (e.some p (subst (IsAmong p) (taken_plain form (is_named geometry old i) touches grows) among)).place;
      order = e.order ∙ ap (map (named geometry new i)) (sym (taken_plain form (is_named geometry old i) touches grows));
      unused = e.unused;
    }

-- after a file becomes large, the remaining free blocks are enough for the paths of its logical blocks
pub wants_large : (geometry : Geometry) (old mid : List ℕ) (i from n : ℕ) (blocks : List ℕ) → IsFile geometry mid i
    → grows_large (form_at geometry old i) (range_with_len from n) ≡ true
    → need_of (form_at geometry old i) (is_named geometry old i) (range_with_len from n) ≤ length blocks
    → (enlarged : Enlarges geometry old mid i blocks) → from + n ≤ 32768
    → WantsWays geometry mid i (is_on_ways Large (range_with_len from n)) from n enlarged.rest
wants_large geometry old mid i from n blocks file grows room enlarged limit =
    let touches = range_with_len from n in
    let lacks = lacking_missing geometry mid i Large (moved_down (is_named geometry old i)) touches enlarged.form enlarged.names in
    let need = need_large (form_at geometry old i) (is_named geometry old i) touches grows in
    let many : length blocks ≡ length enlarged.rest + 1 = ap length enlarged.free ∙ omega arith in
    record {
      ready = record { file = file; sound = enlarged.sound; room = omega (arith, lacks, need, room, many) };
      limit = subst (λ f. from + n ≤ block_limit f) (sym enlarged.form) limit;
      want = λ p on. ap (λ f. is_on_ways f touches p) (sym enlarged.form) ∙ on;
    }

-- if a file becomes large, making it large and then allocating the blocks on all paths allocates the blocks that the write needs
pub fills_large : (geometry : Geometry) (old mid new : List ℕ) (i from n : ℕ) (blocks : List ℕ) → Rules3To7With geometry old blocks → IsFile geometry old i
    → IsFile geometry mid i
    → grows_large (form_at geometry old i) (range_with_len from n) ≡ true → (enlarged : Enlarges geometry old mid i blocks)
    → NamesWays geometry mid new i (is_on_ways Large (range_with_len from n)) from n enlarged.rest
    → Fills geometry old new i (range_with_len from n) blocks
fills_large geometry old mid new i from n blocks sound file file_mid grows enlarged ways =
    let form = form_at geometry old i in
    let touches = range_with_len from n in
    let e = ways.extends in
    let lacks = lacking_missing geometry mid i Large (moved_down (is_named geometry old i)) touches enlarged.form enlarged.names in
    let need = need_large form (is_named geometry old i) touches grows in
    let names : (p : List ℕ) → IsPlaceOf geometry mid i p → is_named geometry new i p ≡ (is_named geometry mid i p || is_on_ways Large touches p) =
    λ p place. e.names p place ∙ ap (λ f. is_named geometry mid i p || is_on_ways f touches p) enlarged.form in
    let none = lacking_none geometry mid new i (is_on_ways Large touches) file_mid e.mode names in
    let many = taken_count enlarged.rest e.taken ways.rest e.free in
    let form_new : form_at geometry new i ≡ Large = form_same geometry mid new i e.mode ∙ enlarged.form in
    let list = taken_large form (is_named geometry old i) touches grows in
    let missing : missing_places (form_at geometry mid i) (is_named geometry mid i) touches ≡ missing_places Large (moved_down (is_named geometry old i)) touches =
    ap (λ f. missing_places f (is_named geometry mid i) touches) enlarged.form
    ∙ missing_all_same Large (is_named geometry mid i) (moved_down (is_named geometry old i)) touches enlarged.names in
    let front : IsPlaceOf geometry mid i (0 ∷ []) =
    record { file = file_mid; place = subst (λ f. IsPlace f (0 ∷ [])) (sym enlarged.form) (omega arith) } in
    record {
      rest = ways.rest;
      taken = enlarged.first ∷ e.taken;
      free = enlarged.free ∙ ap (λ xs. enlarged.first ∷ xs) e.free;
      count = omega (arith, many, none, need, lacks, e.count);
      alone = elsewhere_then geometry old mid new i sound.fits file.first enlarged.alone e.alone;
      sound = e.sound;
      covered = λ all. e.covered (enlarged.covered all);
      file = file_same geometry mid new i e.mode file_mid;
      form = form_new ∙ sym (ap (λ t. if t then Large else form) grows);
      mode = (e.mode ∙ enlarged.mode) ∙ sym (ap (λ t. if t then with_large (mode_of geometry old i) true else mode_of geometry old i) grows);
      size = e.size ∙ enlarged.size;
      names = λ p place.
          let at : IsPlace Large p = subst (λ f. IsPlace f p) form_new place in
          names p (record { file = file_mid; place = subst (λ f. IsPlace f p) (sym enlarged.form) at })
          ∙ (ap (λ t. t || is_on_ways Large touches p) (enlarged.names p at)
          ∙ sym (ap (λ t. (if t then moved_down (is_named geometry old i) else is_named geometry old i) p
          || is_on_ways (if t then Large else form) touches p) grows));
      bytes = λ m. e.bytes m ∙ enlarged.bytes m;
      kept = λ p place some.
          let same = enlarged.kept p place in
          ap (λ t. named geometry new i (if t then p ++ (0 ∷ []) else p)) grows
          ∙ (e.kept (p ++ (0 ∷ [])) (enlarged.moved p place) (λ zero. some (sym same ∙ zero)) ∙ same);
      moved = λ p place.
          subst (IsPlaceOf geometry new i) (sym (ap (λ t. if t then p ++ (0 ∷ []) else p) grows))
          (place_same geometry mid new i (p ++ (0 ∷ [])) e.mode (enlarged.moved p place));
      gained = λ p among. elim (subst (IsAmong p) list among) [
        | inl first ↦ subst (IsPlaceOf geometry new i) (sym first) (place_same geometry mid new i (0 ∷ []) e.mode front)
        | inr later ↦ (e.some p (subst (IsAmong p) (sym missing) later)).place
      ];
      order =
          ap (λ k. k ∷ e.taken) (sym (e.kept (0 ∷ []) front (λ zero. enlarged.some (sym enlarged.is ∙ zero)) ∙ enlarged.is))
          ∙ (ap (λ ks. named geometry new i (0 ∷ []) ∷ ks) (e.order ∙ ap (map (named geometry new i)) missing)
          ∙ ap (map (named geometry new i)) (sym list));
      unused = keeps_then old mid new enlarged.rest ways.rest (λ k within. rest_within k e.taken ways.rest enlarged.rest e.free within)
          enlarged.unused e.unused;
    }

-- a range of logical blocks that ends by block 8 contains only the first eight
low_run : (from n : ℕ) → from + n ≤ 8 → list_any (λ b. leb 8 b) (range_with_len from n) ≡ false
low_run from zero h = refl
low_run from (suc n) h =
    ap (λ t. t || list_any (λ b. leb 8 b) (range_with_len (from + 1) n)) (lt-leb 8 from (omega arith)) ∙ low_run (from + 1) n (omega arith)

-- a range of logical blocks that ends after block 8 contains the ninth or a later one
high_run : (from n : ℕ) → 1 ≤ n → 8 < from + n → list_any (λ b. leb 8 b) (range_with_len from n) ≡ true
high_run from zero some h = absurd (omega arith)
high_run from (suc zero) some h = ap (λ t. t || false) (le-leb 8 from (omega arith))
high_run from (suc (suc n)) some h =
    ap (λ t. leb 8 from || t) (high_run (from + 1) (suc n) (omega arith) (omega arith)) ∙ or_true (leb 8 from)

-- a range within the first eight logical blocks, or of a file that isn't small, makes no file large
pub grows_not : (form : BlockMap) (from n : ℕ) → (form ≡ Small → from + n ≤ 8) → grows_large form (range_with_len from n) ≡ false
grows_not Small from n low = low_run from n (low refl)
grows_not Large from n low = refl
grows_not Deep from n low = refl
grows_not Bare from n low = refl

-- a range that ends after the first eight logical blocks makes a small file large
pub grows_then : (form : BlockMap) (from n : ℕ) → form ≡ Small → 1 ≤ n → 8 < from + n → grows_large form (range_with_len from n) ≡ true
grows_then form from n is some high = ap (λ f. grows_large f (range_with_len from n)) is ∙ high_run from n some high

-- the logical blocks of a file within the greatest size are below the block map's limit
pub limit_of : (edition : Edition) (mode to : ℕ) → has_places (kind_of edition mode) ≡ true → 512 * to < (constants edition).greatest + 512
    → (form_of edition mode ≡ Small → to ≤ 8) → to ≤ block_limit (form_of edition mode)
limit_of V6 mode to kind h low =
    let is : form_of V6 mode ≡ (if is_large V6 mode then Large else Small) = ap (λ t. if t then file_form V6 mode else Bare) kind in
    elim (is_large V6 mode) as (λ t. form_of V6 mode ≡ (if t then Large else Small) → to ≤ block_limit (form_of V6 mode)) [
      | true ↦ λ e. subst (λ f. to ≤ block_limit f) (sym e) (omega arith)
      | false ↦ λ e. subst (λ f. to ≤ block_limit f) (sym e) (low e)
    ] is
limit_of V7 mode to kind h low =
    let is : form_of V7 mode ≡ Deep = ap (λ t. if t then Deep else Bare) kind in subst (λ f. to ≤ block_limit f) (sym is) (omega arith)

-- in the sixth edition, the logical blocks of a file within the greatest size are below 32768
pub limit_large : (edition : Edition) (to : ℕ) → edition ≡ V6 → 512 * to < (constants edition).greatest + 512 → to ≤ 32768
limit_large V6 to v6 h = omega arith
limit_large V7 to v6 h = absurd (cc)

-- an i-node with the large block map is a regular file or directory
large_kind : (edition : Edition) (mode : ℕ) → form_of edition mode ≡ Large → has_places (kind_of edition mode) ≡ true
large_kind edition mode large =
    elim (has_places (kind_of edition mode)) as (λ t. (if t then file_form edition mode else Bare) ≡ Large → t ≡ true)
    [ true ↦ λ e. refl | false ↦ λ e. absurd (cc) ] large

-- a file that was made large is still a regular file or directory
pub enlarged_file : (geometry : Geometry) (old mid : List ℕ) (i : ℕ) (blocks : List ℕ) → IsFile geometry old i → Enlarges geometry old mid i blocks
    → IsFile geometry mid i
enlarged_file geometry old mid i blocks file enlarged =
    record { first = file.first; last = file.last; kind = large_kind geometry.edition (mode_of geometry mid i) enlarged.form }

-- if a file becomes large, at least one block is needed
pub room_some : (form : BlockMap) (names : List ℕ → Bool) (touches blocks : List ℕ) → grows_large form touches ≡ true
    → need_of form names touches ≤ length blocks → 1 ≤ length blocks
room_some form names touches blocks grows room = let need = need_large form names touches grows in omega (arith, need, room)
