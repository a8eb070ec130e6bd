-- Laws of `blocks_from`: a block and the blocks below it.
use Rattle.std.proofs.Common.{◌≡◌, ◌≢◌, ℕ, zero, suc, ◌+◌, ◌-◌, ◌<◌, ◌≤◌, ◌∙◌, ap, List, [], ◌∷◌, cond, Option, Some, refl, arith, get_or, set}
use Rattle.std.proofs.lemmas.Bool.{ne_eqb}
use Rattle.std.specs.List.{flat_map, range_with_len}
use Rattle.vol_layout.specs.Edition.{constants}
use Rattle.vol_layout.specs.BlockPointers.{pointer_in}
use Rattle.vol_layout.specs.declared.geometry.Geometry.{Geometry}
use Rattle.vol_judge.specs.Marks.{blocks_from, marked}
use Rattle.vol_judge.proofs.MarkLists.{marked_none, marked_first, marked_more}

-- there are no blocks at and below address 0
pub from_zero : (geometry : Geometry) (image : List ℕ) (d : ℕ) → blocks_from geometry image d 0 ≡ []
unfolding blocks_from
from_zero geometry image zero = refl
from_zero geometry image (suc d) = refl

-- with no levels below it, b is the only block
pub from_leaf : (geometry : Geometry) (image : List ℕ) (b : ℕ) → b ≢ 0 → blocks_from geometry image 0 b ≡ b ∷ []
unfolding blocks_from
from_leaf geometry image b some = ap (λ t. cond t [] (b ∷ [])) (ne_eqb b 0 some)

-- the blocks at and below the first n entries of block b, each with d levels
unfoldable pub entries_from : Geometry → List ℕ → ℕ → ℕ → ℕ → List ℕ
entries_from geometry image d b n = flat_map (λ j. blocks_from geometry image d (pointer_in geometry image b j)) (range_with_len 0 n)

-- with one more level, block b comes first and then the blocks of its entries
pub from_suc : (geometry : Geometry) (image : List ℕ) (d b : ℕ) → b ≢ 0
    → blocks_from geometry image (suc d) b ≡ b ∷ entries_from geometry image d b (constants geometry.edition).pointers
unfolding blocks_from entries_from
from_suc geometry image d b some =
    ap (λ t. cond t [] (b ∷ flat_map (λ j. blocks_from geometry image d (pointer_in geometry image b j)) (range_with_len 0 (constants geometry.edition).pointers)))
    (ne_eqb b 0 some)

-- the same law, with d - 1 instead of a successor
pub from_entries : (geometry : Geometry) (image : List ℕ) (d b : ℕ) → b ≢ 0 → 1 ≤ d
    → blocks_from geometry image d b ≡ b ∷ entries_from geometry image (d - 1) b (constants geometry.edition).pointers
from_entries geometry image d b some one =
    let size : d ≡ suc (d - 1) = omega arith in
    ap (λ x. blocks_from geometry image x b) size ∙ from_suc geometry image (d - 1) b some

-- marking the blocks below address 0 changes no mark
pub mark_zero : (geometry : Geometry) (image : List ℕ) (d b : ℕ) (marks : List ℕ) → b ≡ 0 → marked marks (blocks_from geometry image d b) ≡ Some marks
mark_zero geometry image d b marks none =
    ap (λ x. marked marks (blocks_from geometry image d x)) none ∙ (ap (marked marks) (from_zero geometry image d) ∙ marked_none marks)

-- with no levels below it, only b is marked
pub mark_leaf : (geometry : Geometry) (image : List ℕ) (d b : ℕ) (marks : List ℕ) → b ≢ 0 → d ≡ 0 → get_or marks b 0 ≡ 0
    → marked marks (blocks_from geometry image d b) ≡ Some (set marks b 1)
mark_leaf geometry image d b marks some none fresh =
    ap (λ x. marked marks (blocks_from geometry image x b)) none
    ∙ (ap (marked marks) (from_leaf geometry image b some) ∙ (marked_first marks b [] fresh ∙ marked_none (set marks b 1)))

-- block b is marked first and then the blocks of its entries
pub mark_below : (geometry : Geometry) (image : List ℕ) (d b : ℕ) (marks : List ℕ) (end : Option (List ℕ)) → b ≢ 0 → 1 ≤ d → get_or marks b 0 ≡ 0
    → marked (set marks b 1) (entries_from geometry image (d - 1) b (constants geometry.edition).pointers) ≡ end
    → marked marks (blocks_from geometry image d b) ≡ end
mark_below geometry image d b marks end some one fresh below =
    ap (marked marks) (from_entries geometry image d b some one)
    ∙ (marked_first marks b (entries_from geometry image (d - 1) b (constants geometry.edition).pointers) fresh ∙ below)

-- marking the blocks of no entries changes no mark
pub entries_none : (geometry : Geometry) (image : List ℕ) (d b : ℕ) (marks : List ℕ) → marked marks (entries_from geometry image d b 0) ≡ Some marks
unfolding entries_from
entries_none geometry image d b marks = marked_none marks

-- marking the blocks of the first j entries and then of entry j marks the blocks of the first j + 1 entries
pub entries_more : (geometry : Geometry) (image : List ℕ) (d b j k : ℕ) (marks mid : List ℕ) (end : Option (List ℕ)) → j + 1 ≡ k
    → marked marks (entries_from geometry image d b j) ≡ Some mid
    → marked mid (blocks_from geometry image d (pointer_in geometry image b j)) ≡ end
    → marked marks (entries_from geometry image d b k) ≡ end
unfolding entries_from
entries_more geometry image d b j k marks mid end next done last =
    let at : 0 + j ≡ j = omega arith in
    marked_more (λ j. blocks_from geometry image d (pointer_in geometry image b j)) 0 j j k marks mid end at next done last

-- marking the blocks of entries that are 0 changes no mark
pub entries_zero : (geometry : Geometry) (image : List ℕ) (d b j n k : ℕ) (marks mid : List ℕ) → j + n ≡ k
    → ((x : ℕ) → j ≤ x → x < k → pointer_in geometry image b x ≡ 0)
    → marked marks (entries_from geometry image d b j) ≡ Some mid → marked marks (entries_from geometry image d b k) ≡ Some mid
entries_zero geometry image d b j zero k marks mid size zeros done =
    let same : k ≡ j = omega arith in ap (λ x. marked marks (entries_from geometry image d b x)) same ∙ done
entries_zero geometry image d b j (suc n) k marks mid size zeros done =
    let before = entries_zero geometry image d b j n (j + n) marks mid refl (λ x low high. zeros x low (omega arith)) done in
    entries_more geometry image d b (j + n) k marks mid (Some mid) (omega arith) before
    (mark_zero geometry image d (pointer_in geometry image b (j + n)) mid (zeros (j + n) (omega arith) (omega arith)))
