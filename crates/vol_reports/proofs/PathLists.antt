-- The paths of entries, added one after another, and sorted.
use Rattle.std.proofs.Common.{◌≡◌, ℕ, ◌+◌, ◌<◌, List, [], ◌∷◌, ◌++◌, map, length, get_or, take, Option, Bor, Vec, Global, sym, ap, ◌∙◌, arith}
use Rattle.std.specs.List.{sum_by}
use Rattle.std.specs.List.Sorted.{IsSorted, IsPermutation}
use Rattle.std.specs.Ordering.{is_lt}
use Rattle.std.proofs.lemmas.List.{map_more, map-append, get_or-map, length-map}
use Rattle.std.proofs.lemmas.List.Sorted.{IsPermutation-map, sum_by-IsPermutation}
use Rattle.vol_reports.specs.Placed.{Placed}
use Rattle.vol_reports.specs.Ncheck.{slashed, path_up, pair_cmp, name_line}
use Rattle.vol_reports.specs.declared.line.Line.{Line}
use Rattle.vol_reports.specs.Climb.{naming_in, path_in, seen_pair}

-- a loop's step: after the path of entry `k` is appended, the paths of the first `k` + 1 entries are in the list
pub paths_more : (root : ℕ) (naming : List (Option (Bor Placed))) (entries : List Placed) (k : ℕ) (entry : Placed) (old new : List (ℕ × Vec ℕ Global))
    (inode : ℕ) (path : Vec ℕ Global) → k < length entries → entry ≡ get_or entries k entry → map seen_pair old ≡ map (path_in root naming) (take k entries)
    → new ≡ old ++ (inode, path) ∷ [] → inode ≡ entry.inode
    → path.items ≡ path_up root (naming_in naming) (length naming + 1) [] entry.directory ++ slashed entry.name
    → map seen_pair new ≡ map (path_in root naming) (take (k + 1) entries)
paths_more root naming entries k entry old new inode path low is was pushed number bytes =
    let f = path_in root naming in
    ap (map seen_pair) pushed ∙ (map-append seen_pair old ((inode, path) ∷ [])
    ∙ (ap (λ xs. xs ++ (inode, path.items) ∷ []) was
    ∙ (ap (λ n. map f (take k entries) ++ (n, path.items) ∷ []) number
    ∙ (ap (λ p. map f (take k entries) ++ (entry.inode, p) ∷ []) bytes
    ∙ (ap (λ e. map f (take k entries) ++ f e ∷ []) is ∙ sym (map_more f entries k entry low))))))

-- sorting a list of pairs doesn't change its sum under any weight
pub sorted_weigh : (old new : List (ℕ × Vec ℕ Global)) (weight : ℕ × List ℕ → ℕ) → IsPermutation old new
    → sum_by weight (map seen_pair new) ≡ sum_by weight (map seen_pair old)
sorted_weigh old new weight moved = sum_by-IsPermutation weight (map seen_pair old) (map seen_pair new) (IsPermutation-map seen_pair old new moved)

-- sorted pairs are also sorted as contracts see them
pub sorted_pairs : (pairs : List (ℕ × Vec ℕ Global)) → IsSorted (λ a b. pair_cmp (seen_pair a) (seen_pair b)) pairs → IsSorted pair_cmp (map seen_pair pairs)
sorted_pairs [] sorted = λ k d low high. absurd (omega (arith, high))
sorted_pairs (first ∷ pairs) sorted = λ k d low high.
    let all = first ∷ pairs in
    let wide = length-map all seen_pair in
    let next = get_or-map seen_pair all (k + 1) first d (omega (arith, high, wide)) in
    let here = get_or-map seen_pair all k first d (omega (arith, high, wide)) in
    ap (λ x. is_lt (pair_cmp x (get_or (map seen_pair all) k d))) next
    ∙ (ap (λ x. is_lt (pair_cmp (seen_pair (get_or all (k + 1) first)) x)) here ∙ sorted k first low (omega (arith, high, wide)))

-- a loop's step: after the line of one more pair is appended, the lines of all pairs so far are in the list
pub lines_more : (yielded : List (ℕ × Vec ℕ Global)) (inode : ℕ) (bytes : Vec ℕ Global) (path : List ℕ) (old new : List Line) → path ≡ bytes.items
    → new ≡ old ++ name_line (inode, path) ∷ [] → old ≡ map name_line (map seen_pair yielded)
    → new ≡ map name_line (map seen_pair (yielded ++ (inode, bytes) ∷ []))
lines_more yielded inode bytes path old new same pushed was =
    let last = (inode, bytes) ∷ [] in
    pushed ∙ (ap (λ xs. xs ++ name_line (inode, path) ∷ []) was
    ∙ (ap (λ p. map name_line (map seen_pair yielded) ++ name_line (inode, p) ∷ []) same
    ∙ sym (ap (map name_line) (map-append seen_pair yielded last) ∙ map-append name_line (map seen_pair yielded) (map seen_pair last))))
