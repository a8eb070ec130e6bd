-- Rule 7 in terms of marks for all blocks that files use.
use Rattle.std.proofs.Common.{◌≡◌, ◌≢◌, ℕ, ◌+◌, ◌<◌, ◌≤◌, ◌∙◌, sym, ap, subst, List, true, length, get_or, refl, arith, inl, inr, Some, None, Option}
use Rattle.std.specs.List.{flat_map, range_with_len}
use Rattle.vol_layout.specs.Geometry.{in_zone, Fits}
use Rattle.vol_layout.specs.BlockMaps.{IsPlace, places}
use Rattle.vol_layout.specs.BlockPointers.{mode_of, form_at, IsPlaceOf, named}
use Rattle.vol_layout.specs.declared.geometry.Geometry.{Geometry}
use Rattle.vol_layout.proofs.BodyLaws.{zone_bounds}
use Rattle.vol_layout.proofs.KindLaws.{place_file}
use Rattle.vol_layout.proofs.NameLaws.{holds_named, named_holds}
use Rattle.vol_free.specs.Stack.{IsIn, Once}
use Rattle.vol_file.specs.Rules.{IsZoned, IsApart}
use Rattle.vol_file.specs.Changes.{blocks_of}
use Rattle.vol_file.proofs.PlaceLists.{places_once, places_among, among_places}
use Rattle.vol_judge.specs.Marks.{marked, MarksNamed}
use Rattle.vol_judge.proofs.FileBlocks.{blocks_at_all}
use Rattle.vol_judge.proofs.MarkLists.{marked_none, marked_more, marked_fails, marked_marks, marked_refused}
use Rattle.vol_judge.proofs.NamedOnce.{in_flat, flat_in, once_each, once_same, once_flat, in_at, at_in, at_same_place, once_at}

-- the blocks that all files use, in the order of i-numbers and then of block maps
abbrev pub all_blocks : Geometry → List ℕ → List ℕ
all_blocks geometry image = flat_map (blocks_of geometry image) (range_with_len 1 geometry.last_inode)

-- the address at position p of the block map of file i points to block b
pub record NamedBy (geometry : Geometry) (image : List ℕ) (i : ℕ) (p : List ℕ) (b : ℕ) : Type 0 where
  pub place : IsPlaceOf geometry image i p
  pub is : named geometry image i p ≡ b
  pub some : b ≢ 0

-- a position in the block map of an i-node with a block map is a position of a file
place_of : (geometry : Geometry) (image : List ℕ) (i : ℕ) (p : List ℕ) → 1 ≤ i → i ≤ geometry.last_inode → IsPlace (form_at geometry image i) p
    → IsPlaceOf geometry image i p
place_of geometry image i p first last place =
    record { file = record { first = first; last = last; kind = place_file geometry.edition (mode_of geometry image i) p place }; place = place }

-- each block of a file is at a position in its block map
block_named : (geometry : Geometry) (image : List ℕ) (i b : ℕ) → 1 ≤ i → i ≤ geometry.last_inode → IsIn b (blocks_of geometry image i)
    → (p : List ℕ) × NamedBy geometry image i p b
block_named geometry image i b first last among =
    let found = in_at geometry image i b (places (form_at geometry image i)) (subst (IsIn b) (blocks_at_all geometry image i) among) in (
      found.0,
      record {
        place = place_of geometry image i found.0 first last (among_places (form_at geometry image i) found.0 found.1);
        is = found.2;
        some = found.3;
      },
    )

-- each address of a file that isn't 0 is one of its blocks
named_block : (geometry : Geometry) (image : List ℕ) (i : ℕ) (p : List ℕ) → IsPlaceOf geometry image i p → named geometry image i p ≢ 0
    → IsIn (named geometry image i p) (blocks_of geometry image i)
named_block geometry image i p place some =
    subst (IsIn (named geometry image i p)) (sym (blocks_at_all geometry image i))
    (at_in geometry image i p (places (form_at geometry image i)) (places_among (form_at geometry image i) p place.place) some)

-- each of all blocks is at a position in the block map of some file
pub all_named : (geometry : Geometry) (image : List ℕ) (b : ℕ) → IsIn b (all_blocks geometry image)
    → (i : ℕ) × (p : List ℕ) × NamedBy geometry image i p b
all_named geometry image b among =
    let file = in_flat (blocks_of geometry image) b 1 geometry.last_inode among in
    let found = block_named geometry image file.0 b file.1 (omega (arith, file.2)) file.3 in
    (file.0, found.0, found.1)

-- each address of some file that isn't 0 is among all blocks
pub named_all : (geometry : Geometry) (image : List ℕ) (i : ℕ) (p : List ℕ) → IsPlaceOf geometry image i p → named geometry image i p ≢ 0
    → IsIn (named geometry image i p) (all_blocks geometry image)
named_all geometry image i p place some =
    flat_in (blocks_of geometry image) (named geometry image i p) 1 geometry.last_inode i place.file.first (omega (arith, place.file.last))
    (named_block geometry image i p place some)

-- if no block occurs twice among all blocks, no two addresses point to the same block
once_apart : (geometry : Geometry) (image : List ℕ) → Once (all_blocks geometry image) → IsApart geometry image
once_apart geometry image once i j p q here there some same =
    let some_q : named geometry image j q ≢ 0 = λ none. some (same ∙ none) in
    let block_i = named_block geometry image i p here some in
    let block_j : IsIn (named geometry image i p) (blocks_of geometry image j) =
    subst (λ b. IsIn b (blocks_of geometry image j)) (sym same) (named_block geometry image j q there some_q) in
    let last_i : i < 1 + geometry.last_inode = omega (arith, here.file.last) in
    let last_j : j < 1 + geometry.last_inode = omega (arith, there.file.last) in
    let e : i ≡ j =
    once_same (blocks_of geometry image) (named geometry image i p) 1 geometry.last_inode i j here.file.first last_i there.file.first last_j once block_i block_j in
    let there_i : IsPlaceOf geometry image i q = subst (λ x. IsPlaceOf geometry image x q) (sym e) there in
    let same_i : named geometry image i p ≡ named geometry image i q = same ∙ ap (λ x. named geometry image x q) (sym e) in
    let form = form_at geometry image i in
    let each = once_each (blocks_of geometry image) 1 geometry.last_inode i here.file.first last_i once in (
      e,
      at_same_place geometry image i p q (places form) (subst Once (blocks_at_all geometry image i) each)
          (places_among form p here.place) (places_among form q there_i.place) some same_i,
    )

-- if no two addresses point to the same block, no block occurs twice in a file
file_once : (geometry : Geometry) (image : List ℕ) (i : ℕ) → 1 ≤ i → i ≤ geometry.last_inode → IsApart geometry image → Once (blocks_of geometry image i)
file_once geometry image i first last apart =
    let form = form_at geometry image i in
    subst Once (sym (blocks_at_all geometry image i))
    (once_at geometry image i (places form)
    (λ p among. let one = places_once form p (among_places form p among) in omega (arith, one))
    (λ p q here there some same.
    (apart i i p q (place_of geometry image i p first last (among_places form p here)) (place_of geometry image i q first last (among_places form q there)) some same).1))

-- if no two addresses point to the same block, no block occurs twice among all blocks
pub apart_once : (geometry : Geometry) (image : List ℕ) → IsApart geometry image → Once (all_blocks geometry image)
apart_once geometry image apart =
    once_flat (blocks_of geometry image) 1 geometry.last_inode
    (λ i low high. file_once geometry image i low (omega (arith, high)) apart)
    (λ b i j low high low' high' here there.
    let p = block_named geometry image i b low (omega (arith, high)) here in
    let q = block_named geometry image j b low' (omega (arith, high')) there in
    (apart i j p.0 q.0 p.1.place q.1.place (λ none. p.1.some (sym p.1.is ∙ none)) (p.1.is ∙ sym q.1.is)).0)

-- if rule 5 holds, all blocks that files use are data blocks
pub all_zoned : (geometry : Geometry) (image : List ℕ) (b : ℕ) → IsZoned geometry image → IsIn b (all_blocks geometry image) → in_zone geometry b ≡ true
all_zoned geometry image b zoned among =
    let found = all_named geometry image b among in
    let by = found.2 in
    ap (in_zone geometry) (sym by.is) ∙ zoned found.0 found.1 by.place (λ none. by.some (sym by.is ∙ none))

-- if rule 5 holds, all blocks that files use are before the end of the data zone
all_within : (geometry : Geometry) (image : List ℕ) (b : ℕ) → IsZoned geometry image → IsIn b (all_blocks geometry image) → b < geometry.zone_end
all_within geometry image b zoned among =
    let bounds = zone_bounds geometry b (all_zoned geometry image b zoned among) in bounds.1

-- if all blocks can be marked, no two addresses point to the same block, and the marked blocks are those that files use
pub all_marked : (geometry : Geometry) (image marks new : List ℕ) → Fits geometry image → IsZoned geometry image → length marks ≡ geometry.zone_end
    → ((b : ℕ) → get_or marks b 0 ≡ 0) → marked marks (all_blocks geometry image) ≡ Some new
    → IsApart geometry image × MarksNamed geometry image new
all_marked geometry image marks new fits zoned len clear done =
    let all = marked_marks (all_blocks geometry image) marks new
    (λ b among. let within = all_within geometry image b zoned among in omega (arith, within, len)) done in (
      once_apart geometry image all.once,
      λ b. (
        λ some. elim (all.only b some) [
          | inl before ↦ absurd (before (clear b))
          | inr among ↦
              let found = all_named geometry image b among in
              let by = found.2 in
              (found.0, found.1, record { place = by.place; holds = named_holds geometry image found.0 found.1 b fits by.is by.some })
        ],
        λ named_by.
            let held = holds_named geometry image named_by.0 named_by.1 b named_by.2.holds in
            let there = named_all geometry image named_by.0 named_by.1 named_by.2.place (λ none. held.1 (sym held.0 ∙ none)) in
            all.all b (subst (λ x. IsIn x (all_blocks geometry image)) held.0 there),
      ),
    )

-- if not all blocks can be marked, two addresses point to the same block
pub all_refused : (geometry : Geometry) (image marks : List ℕ) → IsZoned geometry image → length marks ≡ geometry.zone_end
    → ((b : ℕ) → get_or marks b 0 ≡ 0) → marked marks (all_blocks geometry image) ≡ None → IsApart geometry image → ⊥
all_refused geometry image marks zoned len clear stops apart =
    marked_refused (all_blocks geometry image) marks
    (λ b among. let within = all_within geometry image b zoned among in omega (arith, within, len)) stops
    (apart_once geometry image apart) (λ b among. clear b)

-- the blocks of the first n files
unfoldable pub files_from : Geometry → List ℕ → ℕ → List ℕ
files_from geometry image n = flat_map (blocks_of geometry image) (range_with_len 1 n)

-- the blocks of the files up to the last i-number are all blocks
pub files_all : (geometry : Geometry) (image : List ℕ) → files_from geometry image geometry.last_inode ≡ all_blocks geometry image
unfolding files_from
files_all geometry image = refl

-- marking the blocks of no files changes no mark
pub files_none : (geometry : Geometry) (image marks : List ℕ) (n : ℕ) → n ≡ 0 → marked marks (files_from geometry image n) ≡ Some marks
unfolding files_from
files_none geometry image marks n none = ap (λ x. marked marks (flat_map (blocks_of geometry image) (range_with_len 1 x))) none ∙ marked_none marks

-- marking the blocks of the first n files and then of file n + 1 marks the blocks of the first n + 1 files
pub files_more : (geometry : Geometry) (image : List ℕ) (i n m : ℕ) (marks mid : List ℕ) (end : Option (List ℕ)) → 1 + n ≡ i → n + 1 ≡ m
    → marked marks (files_from geometry image n) ≡ Some mid → marked mid (blocks_of geometry image i) ≡ end
    → marked marks (files_from geometry image m) ≡ end
unfolding files_from
files_more geometry image i n m marks mid end at next done last = marked_more (blocks_of geometry image) 1 n i m marks mid end at next done last

-- if a file's blocks can't be marked after those of the files before it, not all blocks can be marked
pub files_fail : (geometry : Geometry) (image : List ℕ) (i n : ℕ) (marks mid : List ℕ) → 1 + n ≡ i → n < geometry.last_inode
    → marked marks (files_from geometry image n) ≡ Some mid → marked mid (blocks_of geometry image i) ≡ None
    → marked marks (all_blocks geometry image) ≡ None
unfolding files_from
files_fail geometry image i n marks mid at less done last =
    marked_fails (blocks_of geometry image) 1 n i geometry.last_inode marks mid at less done last
