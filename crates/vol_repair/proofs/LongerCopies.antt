-- A repaired copy of the image of a volume with more blocks, against the image that was read.
use Rattle.std.proofs.Common.{◌≡◌, ◌⊎◌, ℕ, ◌+◌, ◌*◌, ◌<◌, ◌≤◌, ◌∙◌, max, ap, subst, Bool, true, false, if◌then◌else◌, List, length, slice_index, refl, arith, inl, inr, is_ok, Ok, Err}
use Rattle.std.proofs.lemmas.Bool.Decides.{nat_tests}
use Rattle.vol_layout.specs.Edition.{constants}
use Rattle.vol_layout.specs.Geometry.{Fits, block_count, geometry_of, geometry_read, in_zone, is_bounded, is_whole, list_size}
use Rattle.vol_layout.specs.Inode.{inode_of}
use Rattle.vol_layout.specs.Body.{body}
use Rattle.vol_layout.specs.declared.edition.Edition.{Edition}
use Rattle.vol_layout.specs.declared.edition.Edition.TheVariants.{V6, V7}
use Rattle.vol_layout.specs.declared.geometry.Geometry.{Geometry}
use Rattle.vol_layout.specs.declared.geometry.GeometryFault.TheVariants.{Short, Bounds}
use Rattle.vol_layout.specs.declared.i_node.Inode.{Inode}
use Rattle.vol_layout.proofs.BodyLaws.{zone_bounds}
use Rattle.vol_layout.proofs.GeometryLaws.{read_whole}
use Rattle.vol_layout.proofs.InodeLaws.{inode_of_kept}
use Rattle.vol_free.specs.FreeWalk.{free_walk}
use Rattle.vol_free.specs.Stack.{IsIn}
use Rattle.vol_judge.specs.Sound.{IsSound}
use Rattle.vol_judge.proofs.Parts.{sound_bounded, sound_whole}
use Rattle.vol_repair.specs.Copies.{HasSameListIn, IsRepairedCopy, TellsCopy, KeepsFileIn}
use Rattle.vol_repair.specs.Kept.{FitsFile, KeepsFile}
use Rattle.vol_repair.specs.Lines.{dir_entry}
use Rattle.vol_repair.specs.Longer.{IsLengthened, IsLonger}
use Rattle.vol_repair.specs.Repaired.{HasSameFront, HasSameList, IsRepaired, TellsAll}
use Rattle.vol_repair.specs.declared.repair_line.RepairLine.{RepairLine}
use Rattle.vol_repair.proofs.LongerFiles.{Grown, body_longer, entry_longer, fits_longer, inode_longer, last_longer, list_longer, same_byte, zone_high}

-- two images read as the same, each as a volume of its own, but for the number of blocks
record ReadsSame (edition : Edition) (old longer : List ℕ) : Type 0 where
  last : (geometry_of edition longer).last_inode ≡ (geometry_of edition old).last_inode
  node : (i : ℕ) → 1 ≤ i → i ≤ (geometry_of edition old).last_inode → inode_of edition longer i ≡ inode_of edition old i
  body : (i : ℕ) → 1 ≤ i → i ≤ (geometry_of edition old).last_inode → body (geometry_of edition longer) longer i ≡ body (geometry_of edition old) old i
  entry : (d s : ℕ) → 1 ≤ d → d ≤ (geometry_of edition old).last_inode
      → dir_entry (geometry_of edition longer) longer d s ≡ dir_entry (geometry_of edition old) old d s
  fits : (i : ℕ) → FitsFile (geometry_of edition old) old i → FitsFile (geometry_of edition longer) longer i
  head : (r : ℕ) → (r < 2) ⊎ (2 + (constants edition).number_bytes ≤ r) → r < 512 → slice_index longer (512 + r) ≡ slice_index old (512 + r)
  inner : (b r : ℕ) → in_zone (geometry_of edition old) b ≡ true → r < 512 → slice_index longer (512 * b + r) ≡ slice_index old (512 * b + r)

-- an image reads as itself
reads_self : (edition : Edition) (old : List ℕ) → ReadsSame edition old old
reads_self edition old = record {
  last = refl;
  node = λ i first last. refl;
  body = λ i first last. refl;
  entry = λ d s first last. refl;
  fits = λ i fits. fits;
  head = λ r apart low. refl;
  inner = λ b r zone low. refl;
}

-- the image of a volume with more blocks reads as the same
reads_longer : (edition : Edition) (blocks : ℕ) (old longer : List ℕ) → Grown edition blocks old longer → ReadsSame edition old longer
reads_longer edition blocks old longer grown = record {
  last = last_longer edition blocks old longer grown.longer;
  node = λ i first last. inode_of_kept (geometry_of edition old) old longer i (inode_longer edition blocks old longer i grown first last);
  body = λ i first last. body_longer edition blocks old longer i grown first last;
  entry = λ d s first last. entry_longer edition blocks old longer d s grown first last;
  fits = λ i fits. fits_longer edition blocks old longer i grown fits;
  head = λ r apart low.
      let zone = grown.fits.zone in
      let high = zone_high edition old grown.fits in
      elim apart [
        | inl before ↦ grown.longer.before (512 + r) (omega (arith, before))
        | inr after ↦ grown.longer.after (512 + r) (omega (arith, after)) (omega (arith, low, zone, high))
      ];
  inner = λ b r zone low.
      let bounds = zone_bounds (geometry_of edition old) b zone in
      let high = zone_high edition old grown.fits in
      same_byte edition blocks old longer (512 * b + r) grown.longer (omega (arith, bounds.0, high)) (omega (arith, bounds.1, low));
}

-- a file that is kept of the longer image is one of the image that was read
kept_file : (edition : Edition) (old longer new : List ℕ) (i : ℕ) → ReadsSame edition old longer → geometry_of edition new ≡ geometry_of edition longer
    → 1 ≤ i → i ≤ (geometry_of edition old).last_inode → KeepsFile (geometry_of edition longer) longer new i
    → KeepsFileIn (geometry_of edition old) (geometry_of edition new) old new i
kept_file edition old longer new i reads sizes first last kept = record {
  node = subst (λ (was : Inode). record (inode_of edition new i) { links = was.links } ≡ was) (reads.node i first last) kept.node;
  body = ap (λ g. body g new i) sizes ∙ (kept.body ∙ reads.body i first last);
}

-- the same free list as in the longer image is the same as in the image that was read
kept_list : (edition : Edition) (old longer new : List ℕ) → ReadsSame edition old longer → geometry_of edition new ≡ geometry_of edition longer
    → HasSameList (geometry_of edition longer) longer new → HasSameListIn edition old new
kept_list edition old longer new reads sizes list = record {
  head = λ r apart low. list.head r low ∙ reads.head r apart low;
  blocks = λ b r among zone low. list.blocks b r (subst (λ g. IsIn b (free_walk g new).met) sizes among) low ∙ reads.inner b r zone low;
}

-- an i-number of the volume is one of the longer volume
within : (edition : Edition) (old longer : List ℕ) (i : ℕ) → ReadsSame edition old longer → i ≤ (geometry_of edition old).last_inode
    → i ≤ (geometry_of edition longer).last_inode
within edition old longer i reads last = omega (arith, last, reads.last)

-- what is told of the longer image is told of the image that was read
told_copy : (edition : Edition) (old longer new : List ℕ) (lines : List RepairLine) → ReadsSame edition old longer
    → geometry_of edition new ≡ geometry_of edition longer → TellsAll (geometry_of edition longer) longer new lines → TellsCopy edition old new lines
told_copy edition old longer new lines reads sizes told = record {
  files = λ i first last. elim (told.told.files i first (within edition old longer i reads last)) [
    | inl kept ↦ inl (kept_file edition old longer new i reads sizes first last kept)
    | inr said ↦ inr said
  ];
  links = λ i first last. elim (told.told.links i first (within edition old longer i reads last)) [
    | inl same ↦ inl (same ∙ ap (λ (node : Inode). node.links) (reads.node i first last))
    | inr said ↦ inr said
  ];
  entries = λ d s first last. elim (told.told.entries d s first (within edition old longer d reads last)) [
    | inl same ↦ inl (ap (λ g. dir_entry g new d s) sizes ∙ (same ∙ reads.entry d s first last))
    | inr said ↦ inr said
  ];
  fitting = λ i fits.
      let found = told.told.fitting i (within edition old longer i reads fits.last) (reads.fits i fits) in
      (kept_file edition old longer new i reads sizes fits.first fits.last found.0, found.1);
  list = elim told.list [ inl same ↦ inl (kept_list edition old longer new reads sizes same) | inr said ↦ inr said ];
}

-- if the sizes are known, both tests of them hold
sizes_hold : (whole bounded : Bool) (geometry : Geometry) → is_ok (if whole then (if bounded then Ok geometry else Err Bounds) else Err Short) ≡ true
    → (whole ≡ true) × (bounded ≡ true)
sizes_hold true true geometry known = (refl, refl)
sizes_hold true false geometry known = let clash : false ≡ true = known in absurd (cc)
sizes_hold false bounded geometry known = let clash : false ≡ true = known in absurd (cc)

-- an image whose sizes are known keeps rules 1 and 2
known_sizes : (edition : Edition) (old : List ℕ) → is_ok (geometry_read edition old) ≡ true → (is_whole edition old ≡ true) × (is_bounded edition old ≡ true)
unfolding geometry_read
known_sizes edition old known = sizes_hold (is_whole edition old) (is_bounded edition old) (geometry_of edition old) known

-- the geometry fits an image whose sizes are known and within the edition's limit
known_fits : (edition : Edition) (old : List ℕ) → is_ok (geometry_read edition old) ≡ true → block_count edition old ≤ (constants edition).number_limit
    → Fits (geometry_of edition old) old
known_fits V6 old known limit =
    let tests = known_sizes V6 old known in
    let whole : is_whole V6 old ≡ true = tests.0 in
    let bounded : is_bounded V6 old ≡ true = tests.1 in
    record { blocks = grind (arith, nat_tests); i_list = grind (arith, nat_tests); zone = grind (arith, nat_tests); root = grind (arith, nat_tests); limit = limit }
known_fits V7 old known limit =
    let tests = known_sizes V7 old known in
    let whole : is_whole V7 old ≡ true = tests.0 in
    let bounded : is_bounded V7 old ≡ true = tests.1 in
    record { blocks = grind (arith, nat_tests); i_list = grind (arith, nat_tests); zone = grind (arith, nat_tests); root = grind (arith, nat_tests); limit = limit }

-- a volume with fewer blocks than the limit has block numbers that the edition can store
number_room : (edition : Edition) (was blocks : ℕ) → was < blocks → blocks ≤ (constants edition).block_limit → was ≤ (constants edition).number_limit
number_room V6 was blocks more limit = omega (arith, more, limit)
number_room V7 was blocks more limit = omega (arith, more, limit)

-- the image of a volume with more blocks fits
grown_by : (edition : Edition) (blocks : ℕ) (old longer : List ℕ) → IsLonger edition blocks old longer → Grown edition blocks old longer
grown_by edition blocks old longer more = record {
  fits = known_fits edition old more.sized (number_room edition (block_count edition old) blocks more.more more.limit);
  longer = more;
}

-- the same geometry has the same size of the i-list
list_by : (edition : Edition) (old new : List ℕ) → geometry_of edition new ≡ geometry_of edition old → list_size new ≡ list_size old
list_by V6 old new sizes = let start : list_size new + 2 ≡ list_size old + 2 = ap (λ (g : Geometry). g.zone_start) sizes in omega (arith, start)
list_by V7 old new sizes = ap (λ (g : Geometry). g.zone_start) sizes

-- the same geometry has the same number of blocks
count_by_sizes : (edition : Edition) (old new : List ℕ) → geometry_of edition new ≡ geometry_of edition old → block_count edition new ≡ block_count edition old
count_by_sizes edition old new sizes = ap (λ (g : Geometry). g.zone_end) sizes

-- rule 1 holds for an image with the length and the sizes of a sound one
whole_by : (edition : Edition) (old new : List ℕ) → length new ≡ length old → block_count edition new ≡ block_count edition old
    → is_whole edition new ≡ true → is_whole edition old ≡ true
whole_by edition old new len count whole = grind (arith, nat_tests)

-- rule 2 holds for an image with the sizes of a sound one
bounded_by : (edition : Edition) (old new : List ℕ) → list_size new ≡ list_size old → block_count edition new ≡ block_count edition old
    → is_bounded edition new ≡ true → is_bounded edition old ≡ true
bounded_by V6 old new list count bounded = grind (arith, nat_tests)
bounded_by V7 old new list count bounded = grind (arith, nat_tests)

-- the sizes of an image are known if a copy with the same ones is sound
sizes_known : (edition : Edition) (old new : List ℕ) → IsSound edition new → HasSameFront edition old new → is_ok (geometry_read edition old) ≡ true
sizes_known edition old new sound front =
    let count = count_by_sizes edition old new front.sizes in
    ap is_ok (read_whole edition old (whole_by edition old new front.len count (sound_whole edition new sound))
    (bounded_by edition old new (list_by edition old new front.sizes) count (sound_bounded edition new sound)))

-- the greater of two numbers, of which the first isn't less
max_first : (a b : ℕ) → b < a → a ≡ max a b
max_first a b more = grind arith

-- the greater of two numbers, of which the second isn't less
max_second : (a b : ℕ) → a ≤ b → b ≡ max a b
max_second a b few = grind arith

-- a copy of the image that was read
copied_same : (edition : Edition) (blocks : ℕ) (old new : List ℕ) (lines : List RepairLine) → blocks ≤ block_count edition old
    → IsRepaired edition old new lines → IsRepairedCopy edition blocks old new lines
copied_same edition blocks old new lines few repaired =
    let front = repaired.mended.front in
    record {
      sound = repaired.mended.sound;
      front = record {
        count = count_by_sizes edition old new front.sizes ∙ max_second blocks (block_count edition old) few;
        longer = λ more. absurd (omega (arith, more, few));
        as_long = λ still. front.len;
        i_list = list_by edition old new front.sizes;
        boot = front.boot;
      };
      told = told_copy edition old old new lines (reads_self edition old) front.sizes repaired.mended.told;
      same = λ still sound. repaired.same sound;
    }

-- a copy of the image of a volume with more blocks
copied_longer : (edition : Edition) (blocks : ℕ) (old longer new : List ℕ) (lines : List RepairLine) → IsLonger edition blocks old longer
    → IsRepaired edition longer new lines → IsRepairedCopy edition blocks old new lines
copied_longer edition blocks old longer new lines more repaired =
    let front = repaired.mended.front in
    record {
      sound = repaired.mended.sound;
      front = record {
        count = count_by_sizes edition longer new front.sizes ∙ (more.count ∙ max_first blocks (block_count edition old) more.more);
        longer = λ less. front.len ∙ more.len;
        as_long = λ few. absurd (omega (arith, more.more, few));
        i_list = list_by edition longer new front.sizes ∙ list_longer edition blocks old longer more;
        boot = λ k low. front.boot k low ∙ more.before k (omega (arith, low));
      };
      told = told_copy edition old longer new lines (reads_longer edition blocks old longer (grown_by edition blocks old longer more)) front.sizes
          repaired.mended.told;
      same = λ few sound. absurd (omega (arith, more.more, few));
    }

-- a repaired copy of an image, which was made longer before if more blocks are wanted than it has, is a copy of the image that was read
pub copied : (edition : Edition) (blocks : ℕ) (old longer new : List ℕ) (lines : List RepairLine) → IsLengthened edition blocks old longer
    → IsRepaired edition longer new lines → IsRepairedCopy edition blocks old new lines
copied edition blocks old longer new lines (inl (few, same)) repaired =
    let here : IsRepaired edition old new lines = subst (λ image. IsRepaired edition image new lines) same repaired in
    copied_same edition blocks old new lines (few (sizes_known edition old new here.mended.sound here.mended.front)) here
copied edition blocks old longer new lines (inr more) repaired = copied_longer edition blocks old longer new lines more repaired
