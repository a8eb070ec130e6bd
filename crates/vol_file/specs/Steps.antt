-- The steps of a change of one file.
use Rattle.std.specs.Prelude.{◌≡◌, ◌≢◌, ℕ, ◌+◌, ◌-◌, ◌<◌, ◌≤◌, ◌&&◌, ◌||◌, Bool, not, max, true, List, [], ◌∷◌, ◌++◌, length, map, filter, reverse, slice_index}
use Rattle.std.specs.List.{count_by, list_any, range_with_len}
use Rattle.std.specs.Str.{bytes_eq}
use Rattle.vol_layout.specs.Inode.{with_large}
use Rattle.vol_layout.specs.BlockMaps.{IsPlace, block_limit, fronts, way, places}
use Rattle.vol_layout.specs.Body.{body_byte}
use Rattle.vol_layout.specs.BlockPointers.{mode_of, form_at, IsFile, IsPlaceOf, named}
use Rattle.vol_file.specs.Shape.{is_named, is_on_ways, moved_down, fit_form, filled}
use Rattle.vol_file.specs.Laws.{IsAmong}
use Rattle.vol_file.specs.Need.{need_of, missing_on_way, missing_places, places_taken}
use Rattle.vol_file.specs.Rules.{size_of, Rules3To7With, IsCovered}
use Rattle.vol_file.specs.Changes.{StaysElsewhere, mode_after, place_after, KeepsBlocks}
use Rattle.vol_layout.specs.declared.geometry.Geometry.{Geometry}
use Rattle.vol_layout.specs.declared.block_map.BlockMap.TheVariants.{Large}

-- the number of positions in `wanted`, in the block map of file i, that point to no block (Lions on bmap)
unfoldable pub lacking : Geometry → List ℕ → ℕ → (List ℕ → Bool) → ℕ
lacking geometry image i wanted = count_by (λ p. wanted p && not (is_named geometry image i p)) (places (form_at geometry image i))

-- p is a position in the block map of file i that points to a block (manual section 5, file system)
pub record HasName (geometry : Geometry) (image : List ℕ) (i : ℕ) (p : List ℕ) : Type 0 where
  pub place : IsPlaceOf geometry image i p
  pub some : named geometry image i p ≢ 0

-- all positions in the block map of file i in `set` now point to blocks: the positions `gained` pointed to no block before, and in order they got the
-- first of the free blocks, which were cleared; the bytes of the file and of the other free blocks are unchanged (Lions on bmap)
pub record Extends (geometry : Geometry) (old new : List ℕ) (i : ℕ) (wanted set : List ℕ → Bool) (gained : List (List ℕ))
    (blocks rest : List ℕ) : Type 0 where
  pub alone : StaysElsewhere geometry old new i
  pub sound : Rules3To7With geometry new rest
  pub covered : IsCovered geometry old blocks → IsCovered geometry new rest
  pub taken : List ℕ
  pub free : blocks ≡ taken ++ rest
  pub count : length blocks + lacking geometry new i wanted ≡ length rest + lacking geometry old i wanted
  pub mode : mode_of geometry new i ≡ mode_of geometry old i
  pub size : size_of geometry new i ≡ size_of geometry old i
  pub names : (p : List ℕ) → IsPlaceOf geometry old i p → is_named geometry new i p ≡ (is_named geometry old i p || set p)
  pub bytes : (n : ℕ) → body_byte geometry new i n ≡ body_byte geometry old i n
  pub kept : (p : List ℕ) → IsPlaceOf geometry old i p → named geometry old i p ≢ 0 → named geometry new i p ≡ named geometry old i p
  pub some : (p : List ℕ) → IsAmong p gained → HasName geometry new i p
  pub order : taken ≡ map (named geometry new i) gained
  pub unused : KeepsBlocks old new rest

-- the positions in a list that point to no block, the last one first (Lions on bmap)
abbrev pub unnamed_of : (List ℕ → Bool) → List (List ℕ) → List (List ℕ)
unnamed_of names places = filter (λ p. not (names p)) (reverse places)

-- true if position p in the block map is on the path to position q, or is q itself (Lions on bmap)
abbrev pub has_front : List ℕ → List ℕ → Bool
has_front q p = list_any (bytes_eq p) (fronts q)

-- position q in the block map of file i now points to block k, and all positions on the path to q point to blocks (Lions on bmap)
pub record Reaches (geometry : Geometry) (old new : List ℕ) (i : ℕ) (wanted : List ℕ → Bool) (q blocks : List ℕ) (k : ℕ) : Type 0 where
  pub rest : List ℕ
  pub extends : Extends geometry old new i wanted (has_front q) (unnamed_of (is_named geometry old i) (fronts q)) blocks rest
  pub is : named geometry new i q ≡ k
  pub some : k ≢ 0

-- rules 3 to 7 hold, and the free blocks are enough for the positions in `wanted`, in the block map of file i (this project)
pub record IsReadyToName (geometry : Geometry) (image : List ℕ) (i : ℕ) (wanted : List ℕ → Bool) (blocks : List ℕ) : Type 0 where
  pub file : IsFile geometry image i
  pub sound : Rules3To7With geometry image blocks
  pub room : lacking geometry image i wanted ≤ length blocks

-- rules 3 to 7 hold, the free blocks are enough for the positions in `wanted`, in the block map of file i, and position q is one of these (this
-- project)
pub record IsWanted (geometry : Geometry) (image : List ℕ) (i : ℕ) (wanted : List ℕ → Bool) (q blocks : List ℕ) : Type 0 where
  pub ready : IsReadyToName geometry image i wanted blocks
  pub place : IsPlaceOf geometry image i q
  pub want : wanted q ≡ true

-- a block can be allocated for position q in the block map of file i: enough blocks are free (this project)
pub record MayName (geometry : Geometry) (image : List ℕ) (i : ℕ) (q : List ℕ) : Type 0 where
  pub wanted : List ℕ → Bool
  pub blocks : List ℕ
  pub is : IsWanted geometry image i wanted q blocks

-- entry j of block m is in `wanted`, and position a ∷ p in the block map of file i now points to block m (Lions on bmap)
pub record NamesNext (geometry : Geometry) (old image : List ℕ) (i : ℕ) (wanted : List ℕ → Bool) (j a : ℕ) (p blocks : List ℕ) (m : ℕ) : Type 0 where
  pub want : IsWanted geometry old i wanted (j ∷ (a ∷ p)) blocks
  pub reached : Reaches geometry old image i wanted (a ∷ p) blocks m

-- a block can be allocated for entry j of indirect block m: block m belongs to a file, and enough blocks are free (this project)
pub record MayNameEntry (geometry : Geometry) (image : List ℕ) (m j : ℕ) : Type 0 where
  pub old : List ℕ
  pub i : ℕ
  pub wanted : List ℕ → Bool
  pub a : ℕ
  pub p : List ℕ
  pub blocks : List ℕ
  pub next : NamesNext geometry old image i wanted j a p blocks m

-- rules 3 to 7 hold, and the free blocks are enough for the positions in `wanted`, in the block map of file i, which include those on the path of
-- logical block b (this project)
pub record WantsWay (geometry : Geometry) (image : List ℕ) (i : ℕ) (wanted : List ℕ → Bool) (b : ℕ) (blocks : List ℕ) : Type 0 where
  pub ready : IsReadyToName geometry image i wanted blocks
  pub limit : b < block_limit (form_at geometry image i)
  pub want : (p : List ℕ) → list_any (bytes_eq p) (way (form_at geometry image i) b) ≡ true → wanted p ≡ true

-- blocks can be allocated for the positions in the block map on the path of logical block b: enough are free (this project)
pub record MayNameWay (geometry : Geometry) (image : List ℕ) (i b : ℕ) : Type 0 where
  pub wanted : List ℕ → Bool
  pub blocks : List ℕ
  pub is : WantsWay geometry image i wanted b blocks

-- the positions in the block map on the path of logical block b now point to blocks (Lions on bmap)
pub record NamesWay (geometry : Geometry) (old new : List ℕ) (i : ℕ) (wanted : List ℕ → Bool) (b : ℕ) (blocks : List ℕ) : Type 0 where
  pub rest : List ℕ
  pub extends : Extends geometry old new i wanted (λ p. list_any (bytes_eq p) (way (form_at geometry old i) b))
      (missing_on_way (form_at geometry old i) (is_named geometry old i) b) blocks rest

-- rules 3 to 7 hold, and the free blocks are enough for the positions in `wanted`, in the block map of file i, which include those on the paths of n
-- logical blocks starting at `from` (this project)
pub record WantsWays (geometry : Geometry) (image : List ℕ) (i : ℕ) (wanted : List ℕ → Bool) (from n : ℕ) (blocks : List ℕ) : Type 0 where
  pub ready : IsReadyToName geometry image i wanted blocks
  pub limit : from + n ≤ block_limit (form_at geometry image i)
  pub want : (p : List ℕ) → is_on_ways (form_at geometry image i) (range_with_len from n) p ≡ true → wanted p ≡ true

-- blocks can be allocated for the positions in the block map on the paths of n logical blocks: enough are free (this project)
pub record MayNameWays (geometry : Geometry) (image : List ℕ) (i from n : ℕ) : Type 0 where
  pub wanted : List ℕ → Bool
  pub blocks : List ℕ
  pub is : WantsWays geometry image i wanted from n blocks

-- the positions in the block map on the paths of n logical blocks now point to blocks (Lions on bmap)
pub record NamesWays (geometry : Geometry) (old new : List ℕ) (i : ℕ) (wanted : List ℕ → Bool) (from n : ℕ) (blocks : List ℕ) : Type 0 where
  pub rest : List ℕ
  pub extends : Extends geometry old new i wanted (is_on_ways (form_at geometry old i) (range_with_len from n))
      (missing_places (form_at geometry old i) (is_named geometry old i) (range_with_len from n)) blocks rest

-- the bytes `lo..hi` of file i now have the values of the function `content`, and all other bytes are unchanged (Lions on writei)
pub record Rewrites (geometry : Geometry) (old new : List ℕ) (i lo hi : ℕ) (content : ℕ → ℕ) (blocks : List ℕ) : Type 0 where
  pub alone : StaysElsewhere geometry old new i
  pub sound : Rules3To7With geometry new blocks
  pub covered : IsCovered geometry old blocks → IsCovered geometry new blocks
  pub mode : mode_of geometry new i ≡ mode_of geometry old i
  pub size : size_of geometry new i ≡ size_of geometry old i
  pub names : (p : List ℕ) → IsPlaceOf geometry old i p → named geometry new i p ≡ named geometry old i p
  pub inside : (n : ℕ) → lo ≤ n → n < hi → body_byte geometry new i n ≡ content n
  pub below : (n : ℕ) → n < lo → body_byte geometry new i n ≡ body_byte geometry old i n
  pub above : (n : ℕ) → hi ≤ n → body_byte geometry new i n ≡ body_byte geometry old i n
  pub unused : KeepsBlocks old new blocks

-- the byte at position n of a file to which a text was written at an offset (Lions on writei)
abbrev pub text_at : ℕ → List ℕ → ℕ → ℕ
text_at offset text n = slice_index text (n - offset)

-- the byte 0 at every position (this project)
abbrev pub zeros_at : ℕ → ℕ
zeros_at n = 0

-- the small file i was made large: the first of the free blocks now holds its eight old addresses (Lions on bmap)
pub record Enlarges (geometry : Geometry) (old new : List ℕ) (i : ℕ) (blocks : List ℕ) : Type 0 where
  pub first : ℕ
  pub rest : List ℕ
  pub free : blocks ≡ first ∷ rest
  pub alone : StaysElsewhere geometry old new i
  pub sound : Rules3To7With geometry new rest
  pub covered : IsCovered geometry old blocks → IsCovered geometry new rest
  pub form : form_at geometry new i ≡ Large
  pub mode : mode_of geometry new i ≡ with_large (mode_of geometry old i) true
  pub size : size_of geometry new i ≡ size_of geometry old i
  pub names : (p : List ℕ) → IsPlace Large p → is_named geometry new i p ≡ moved_down (is_named geometry old i) p
  pub bytes : (n : ℕ) → body_byte geometry new i n ≡ body_byte geometry old i n
  pub is : named geometry new i (0 ∷ []) ≡ first
  pub some : first ≢ 0
  pub kept : (p : List ℕ) → IsPlaceOf geometry old i p → named geometry new i (p ++ (0 ∷ [])) ≡ named geometry old i p
  pub moved : (p : List ℕ) → IsPlaceOf geometry old i p → IsPlaceOf geometry new i (p ++ (0 ∷ []))
  pub unused : KeepsBlocks old new rest

-- file i can be made large: the rules hold, and a block is free (this project)
pub record MayEnlarge (geometry : Geometry) (image : List ℕ) (i : ℕ) : Type 0 where
  pub file : IsFile geometry image i
  pub blocks : List ℕ
  pub sound : Rules3To7With geometry image blocks
  pub some : 1 ≤ length blocks

-- all positions in the block map on the paths of these logical blocks now point to blocks, and exactly the needed number of free blocks was taken
-- (Lions on bmap)
pub record Fills (geometry : Geometry) (old new : List ℕ) (i : ℕ) (touches blocks : List ℕ) : Type 0 where
  pub rest : List ℕ
  pub taken : List ℕ
  pub free : blocks ≡ taken ++ rest
  pub count : length taken ≡ need_of (form_at geometry old i) (is_named geometry old i) touches
  pub alone : StaysElsewhere geometry old new i
  pub sound : Rules3To7With geometry new rest
  pub covered : IsCovered geometry old blocks → IsCovered geometry new rest
  pub file : IsFile geometry new i
  pub form : form_at geometry new i ≡ fit_form (form_at geometry old i) touches
  pub mode : mode_of geometry new i ≡ mode_after geometry old i touches
  pub size : size_of geometry new i ≡ size_of geometry old i
  pub names : (p : List ℕ) → IsPlace (form_at geometry new i) p
      → is_named geometry new i p ≡ filled (form_at geometry old i) (is_named geometry old i) touches p
  pub bytes : (n : ℕ) → body_byte geometry new i n ≡ body_byte geometry old i n
  pub kept : (p : List ℕ) → IsPlaceOf geometry old i p → named geometry old i p ≢ 0
      → named geometry new i (place_after (form_at geometry old i) touches p) ≡ named geometry old i p
  pub moved : (p : List ℕ) → IsPlaceOf geometry old i p → IsPlaceOf geometry new i (place_after (form_at geometry old i) touches p)
  pub gained : (p : List ℕ) → IsAmong p (places_taken (form_at geometry old i) (is_named geometry old i) touches) → IsPlaceOf geometry new i p
  pub order : taken ≡ map (named geometry new i) (places_taken (form_at geometry old i) (is_named geometry old i) touches)
  pub unused : KeepsBlocks old new rest

-- rules 3 to 7 hold, and the free blocks are enough for the paths of the logical blocks `from..to` (this project)
pub record HasRoom (geometry : Geometry) (image : List ℕ) (i from to : ℕ) (blocks : List ℕ) : Type 0 where
  pub sound : Rules3To7With geometry image blocks
  pub room : need_of (form_at geometry image i) (is_named geometry image i) (range_with_len from (to - from)) ≤ length blocks

-- blocks can be allocated for the positions in the block map on the paths of the logical blocks `from..to` (this project)
pub record MayFill (geometry : Geometry) (image : List ℕ) (i from to : ℕ) : Type 0 where
  pub file : IsFile geometry image i
  pub blocks : List ℕ
  pub has : HasRoom geometry image i from to blocks

-- a text was written at an offset of file i, which already had the blocks for it, and the bytes between the old size and the offset were cleared
-- (Lions on writei)
pub record Puts (geometry : Geometry) (old new : List ℕ) (i offset : ℕ) (text blocks : List ℕ) : Type 0 where
  pub alone : StaysElsewhere geometry old new i
  pub sound : Rules3To7With geometry new blocks
  pub covered : IsCovered geometry old blocks → IsCovered geometry new blocks
  pub mode : mode_of geometry new i ≡ mode_of geometry old i
  pub names : (p : List ℕ) → IsPlaceOf geometry old i p → named geometry new i p ≡ named geometry old i p
  pub size : size_of geometry new i ≡ max (size_of geometry old i) (offset + length text)
  pub low : (n : ℕ) → n < offset → n < size_of geometry old i → body_byte geometry new i n ≡ body_byte geometry old i n
  pub gap : (n : ℕ) → size_of geometry old i ≤ n → n < offset → body_byte geometry new i n ≡ 0
  pub middle : (n : ℕ) → offset ≤ n → n < offset + length text → body_byte geometry new i n ≡ text_at offset text n
  pub high : (n : ℕ) → offset + length text ≤ n → body_byte geometry new i n ≡ body_byte geometry old i n
  pub unused : KeepsBlocks old new blocks
