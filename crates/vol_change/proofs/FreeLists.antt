-- The free list after each change.
use Rattle.std.proofs.Common.{◌≡◌, ◌∙◌, sym, ap, subst, ℕ, ◌+◌, ◌*◌, ◌≤◌, List, [], ◌∷◌, ◌++◌, length, map, filter, drop, not, ◌==◌, if◌then◌else◌, true, false, inl, inr, refl, arith, zero, suc, add-one}
use Rattle.std.proofs.Math.Seq.{drop-append_seam}
use Rattle.pdp_words.specs.Words.{SameOutside}
use Rattle.vol_layout.specs.Edition.{constants}
use Rattle.vol_layout.specs.Inode.{inode_place}
use Rattle.vol_layout.specs.BlockPointers.{form_at, IsFile, named}
use Rattle.vol_layout.specs.BlockMaps.{form_of, has_places, places}
use Rattle.vol_layout.specs.Super.{free_head, cache_head, time_place}
use Rattle.vol_layout.specs.declared.geometry.Geometry.{Geometry}
use Rattle.vol_layout.proofs.InodeLaws.{place_from, place_room}
use Rattle.vol_free.specs.Stack.{IsFree}
use Rattle.vol_free.proofs.Frames.{IsFree-behind, free_from}
use Rattle.vol_free.proofs.Stacks.{IsFree_unique}
use Rattle.vol_file.specs.Changes.{Writes, blocks_of, Truncates, blocks_past}
use Rattle.vol_file.specs.Laws.{IsAmong}
use Rattle.vol_file.specs.Need.{need}
use Rattle.vol_file.specs.Rules.{kind_at}
use Rattle.vol_file.proofs.PlaceLists.{among_places}
use Rattle.vol_change.specs.Alone.{KeepsContent}
use Rattle.vol_change.specs.Changed.{FreeBecomes, as_before, blocks_freed}
use Rattle.vol_change.specs.Whole.{Rules3To8}
use Rattle.vol_change.proofs.Contents.{kind_same}
use Rattle.vol_layout.proofs.EditionLaws.{super_order}
use Rattle.vol_change.proofs.WholeLaws.{zone_behind}

-- a write after the free list's head and before the data zone doesn't change the free list
free_below : (geometry : Geometry) (old new : List ℕ) (from to : ℕ) → SameOutside old new from to → free_head geometry.edition + 202 ≤ from
    → to ≤ 512 * geometry.zone_start → FreeBecomes geometry old new as_before
free_below geometry old new from to same low high blocks free =
    IsFree-behind same low (λ b is. inr (omega (arith, free_from free b is, high))) free

-- a write of the time doesn't change the free list
pub time_free : (geometry : Geometry) (old new : List ℕ) → Rules3To8 geometry old
    → SameOutside old new (time_place geometry.edition) (time_place geometry.edition + 4) → FreeBecomes geometry old new as_before
time_free geometry old new rules same =
    let order = super_order geometry.edition in
    let behind = zone_behind geometry old rules.sound.fits in
    free_below geometry old new (time_place geometry.edition) (time_place geometry.edition + 4) same (omega (arith, order)) (omega (arith, order, behind))

-- a write of the i-number cache doesn't change the free list
pub cache_free_list : (geometry : Geometry) (old new : List ℕ) → Rules3To8 geometry old
    → SameOutside old new (cache_head geometry.edition) (cache_head geometry.edition + 202) → FreeBecomes geometry old new as_before
cache_free_list geometry old new rules same =
    let order = super_order geometry.edition in
    let behind = zone_behind geometry old rules.sound.fits in
    free_below geometry old new (cache_head geometry.edition) (cache_head geometry.edition + 202) same (omega (arith, order)) (omega (arith, order, behind))

-- a write of an i-node doesn't change the free list
pub inode_free : (geometry : Geometry) (old new : List ℕ) (i : ℕ) → Rules3To8 geometry old → 1 ≤ i → i ≤ geometry.last_inode
    → SameOutside old new (inode_place geometry.edition i) (inode_place geometry.edition i + (constants geometry.edition).inode_bytes)
    → FreeBecomes geometry old new as_before
inode_free geometry old new i rules first last same =
    let order = super_order geometry.edition in
    let start = place_from geometry.edition i in
    free_below geometry old new (inode_place geometry.edition i) (inode_place geometry.edition i + (constants geometry.edition).inode_bytes) same
    (omega (arith, order, start)) (place_room geometry old i rules.sound.fits first last)

-- an image has only one free list
pub one_list : (geometry : Geometry) (image blocks : List ℕ) → (rules : Rules3To8 geometry image) → IsFree geometry image blocks → rules.blocks ≡ blocks
one_list geometry image blocks rules free =
    let behind = zone_behind geometry image rules.sound.fits in IsFree_unique (omega (arith, behind)) rules.sound.free free

-- a write takes the blocks that it needs from the front of the free list
pub written_free : (geometry : Geometry) (old new : List ℕ) (i offset n : ℕ) (text : List ℕ) (rules : Rules3To8 geometry old)
    → Writes geometry old new i offset text rules.blocks → need geometry old i offset (length text) ≡ n → FreeBecomes geometry old new (drop n)
written_free geometry old new i offset n text rules writes needed blocks free =
    let rest : drop n blocks ≡ writes.rest =
    ap (drop n) (sym (one_list geometry old blocks rules free) ∙ writes.free)
    ∙ (ap (λ m. drop m (writes.taken ++ writes.rest)) (sym needed ∙ sym writes.count)
    ∙ drop-append_seam writes.taken writes.rest) in
    subst (IsFree geometry new) (sym rest) writes.sound.free

-- dropping n blocks and then one is dropping n + 1 blocks
drop_suc : (n : ℕ) (xs : List ℕ) → drop 1 (drop n xs) ≡ drop (suc n) xs
drop_suc zero xs = refl
drop_suc (suc n) [] = refl
drop_suc (suc n) (x ∷ xs) = drop_suc n xs

pub drop_next : (n : ℕ) (xs : List ℕ) → drop 1 (drop n xs) ≡ drop (n + 1) xs
drop_next n xs = drop_suc n xs ∙ ap (λ m. drop m xs) (sym (add-one n))

-- a truncation puts the blocks that the file loses on the free list
pub truncated_free : (geometry : Geometry) (old new : List ℕ) (i size : ℕ) (rules : Rules3To8 geometry old)
    → Truncates geometry old new i size rules.blocks → FreeBecomes geometry old new (λ blocks. blocks_past geometry old i size ++ blocks)
truncated_free geometry old new i size rules cuts blocks free =
    subst (λ xs. IsFree geometry new (blocks_past geometry old i size ++ xs)) (one_list geometry old blocks rules free) cuts.sound.free

-- functions that agree on the items of a list map it to the same list
map_among : (f g : List ℕ → ℕ) (qs : List (List ℕ)) → ((p : List ℕ) → IsAmong p qs → f p ≡ g p) → map f qs ≡ map g qs
map_among f g [] same = refl
map_among f g (q ∷ qs) same =
    let here = same q (inl refl) in
    let rest = map_among f g qs (λ p among. same p (inr among)) in
    cc

-- if the content of a file doesn't change, neither does the list of its blocks
pub blocks_kept : (geometry : Geometry) (old new : List ℕ) (i : ℕ) → KeepsContent geometry old new i → IsFile geometry old i
    → blocks_of geometry new i ≡ blocks_of geometry old i
unfolding blocks_of
blocks_kept geometry old new i kept file =
    let form : form_at geometry new i ≡ form_at geometry old i = ap (form_of geometry.edition) kept.mode in
    ap (λ f. filter (λ k. not (k == 0)) (map (named geometry new i) (places f))) form
    ∙ ap (filter (λ k. not (k == 0)))
    (map_among (named geometry new i) (named geometry old i) (places (form_at geometry old i))
    (λ p among. kept.names p (record { file = file; place = among_places (form_at geometry old i) p among })))

-- if the content of an i-node doesn't change, neither does the list of blocks that freeing it would free
pub freed_kept : (geometry : Geometry) (old new : List ℕ) (i : ℕ) → KeepsContent geometry old new i → 1 ≤ i → i ≤ geometry.last_inode
    → blocks_freed geometry new i ≡ blocks_freed geometry old i
freed_kept geometry old new i kept first last =
    ap (λ kind. if has_places kind then blocks_of geometry new i else []) (kind_same geometry old new i kept)
    ∙ elim (has_places (kind_at geometry old i)) as (λ t. has_places (kind_at geometry old i) ≡ t
    → (if t then blocks_of geometry new i else []) ≡ (if t then blocks_of geometry old i else [])) [
      | true ↦ λ test. blocks_kept geometry old new i kept (record { first = first; last = last; kind = test })
      | false ↦ λ test. refl
    ] refl
