-- The order of the positions in the block map that point to data blocks: they point to the logical blocks in ascending order.
use Rattle.std.proofs.Common.{◌≡◌, ℕ, zero, suc, ◌+◌, ◌-◌, ◌*◌, ◌/◌, ◌%◌, ◌<◌, ◌==◌, ◌∙◌, ◌⊎◌, sym, ap, subst, cond, List, [], ◌∷◌, ◌++◌, map, filter, false, refl, arith, inl, inr, Option, Some}
use Rattle.std.specs.List.{flat_map, range_with_len}
use Rattle.std.proofs.lemmas.Bool.Decides.{nat_tests}
use Rattle.std.proofs.lemmas.Grind.{flat_map-append}
use Rattle.std.proofs.lemmas.List.{append_assoc, append-nil, map-append}
use Rattle.std.proofs.lemmas.List.Elements.{filter-append}
use Rattle.std.proofs.lemmas.Nat.{div-mul-add}
use Rattle.std.proofs.Math.Nat.{mul-add-mod_self_right, mod-eq_of_lt}
use Rattle.vol_layout.specs.BlockMaps.{first_count, pointer_count, levels, levels_below, block_limit, last_place, places_from, places}
use Rattle.vol_layout.specs.Laws.{leaves, OrdersWays}
use Rattle.vol_layout.specs.declared.block_map.BlockMap.{BlockMap}
use Rattle.vol_layout.specs.declared.block_map.BlockMap.TheVariants.{Small, Large, Deep, Bare}
use Rattle.vol_layout.proofs.PlaceLaws.{large_levels}
use Rattle.vol_layout.proofs.LastPlaces.{last_small, last_large, last_huge, last_direct, last_single, last_double, last_triple}

-- a range of `m + n` numbers is a range of `m` followed by a range of `n`
pub range_more : (a m n : ℕ) → range_with_len a (m + n) ≡ range_with_len a m ++ range_with_len (a + m) n
range_more a zero n =
    let none : 0 + n ≡ n = omega arith in
    let same : a + 0 ≡ a = omega arith in
    ap (range_with_len a) none ∙ sym (ap (λ x. range_with_len x n) same)
range_more a (suc m) n =
    let next : suc m + n ≡ suc (m + n) = omega arith in
    let same : a + 1 + m ≡ a + suc m = omega arith in
    ap (range_with_len a) next
    ∙ ap (λ xs. a ∷ xs) (range_more (a + 1) m n ∙ ap (λ x. range_with_len (a + 1) m ++ range_with_len x n) same)

-- the positions in a list that have no level below them
abbrev leaves_of : BlockMap → List (List ℕ) → List (List ℕ)
leaves_of form ps = filter (λ p. levels_below form p == 0) ps

-- the positions in the block map that point to some consecutive logical blocks
abbrev ends : BlockMap → ℕ → ℕ → List (Option (List ℕ))
ends form x n = map (last_place form) (range_with_len x n)

-- the positions for `m + n` logical blocks are those for the first `m` followed by those for the other `n`
ends_more : (form : BlockMap) (x m n : ℕ) → ends form x (m + n) ≡ ends form x m ++ ends form (x + m) n
ends_more form x m n =
    ap (map (last_place form)) (range_more x m n) ∙ map-append (last_place form) (range_with_len x m) (range_with_len (x + m) n)

-- `leaves_of` of two joined lists is `leaves_of` of the first followed by that of the second
leaves_append : (form : BlockMap) (ps qs : List (List ℕ)) → map Some (leaves_of form (ps ++ qs)) ≡ map Some (leaves_of form ps) ++ map Some (leaves_of form qs)
leaves_append form ps qs =
    ap (map Some) (filter-append (λ p. levels_below form p == 0) ps qs) ∙ map-append Some (leaves_of form ps) (leaves_of form qs)

-- if each of `count` lists has the positions for `m` logical blocks, one after another, the joined list has those for `count * m`
run : (form : BlockMap) (f : ℕ → List (List ℕ)) (m x from count : ℕ)
    → ((i : ℕ) → i < count → map Some (leaves_of form (f (from + i))) ≡ ends form (x + i * m) m)
    → map Some (leaves_of form (flat_map f (range_with_len from count))) ≡ ends form x (count * m)
run form f m x from zero each = let none : zero * m ≡ 0 = omega arith in ap (ends form x) (sym none)
run form f m x from (suc count) each =
    let first : from ≡ from + 0 = omega arith in
    let start : x + 0 * m ≡ x = omega arith in
    let here : map Some (leaves_of form (f from)) ≡ ends form x m =
    ap (λ k. map Some (leaves_of form (f k))) first ∙ (each 0 (omega arith) ∙ ap (λ k. ends form k m) start) in
    let rest : map Some (leaves_of form (flat_map f (range_with_len (from + 1) count))) ≡ ends form (x + m) (count * m) =
    run form f m (x + m) (from + 1) count
    (λ i low.
    let next : from + 1 + i ≡ from + (i + 1) = omega arith in
    let more : (i + 1) * m ≡ i * m + m = grind arith in
    let place : x + (i + 1) * m ≡ x + m + i * m = omega arith in
    ap (λ k. map Some (leaves_of form (f k))) next ∙ (each (i + 1) (omega arith) ∙ ap (λ k. ends form k m) place)) in
    let whole : suc count * m ≡ m + count * m = grind arith in
    leaves_append form (f from) (flat_map f (range_with_len (from + 1) count))
    ∙ (ap (λ xs. xs ++ map Some (leaves_of form (flat_map f (range_with_len (from + 1) count)))) here
    ∙ (ap (λ xs. ends form x m ++ xs) rest ∙ sym (ap (ends form x) whole ∙ ends_more form x m (count * m))))

-- the number of positions in the block map without a level below them that are below a position with `d` levels
abbrev spread : ℕ → ℕ → ℕ
spread n zero = 1
spread n (suc d) = n * spread n d

-- position number `b`, in order, of the positions in the block map `d` levels below position `p`, where each indirect block has `n` entries
abbrev numbered : ℕ → List ℕ → ℕ → ℕ → List ℕ
numbered n p zero b = p
numbered n p (suc d) b = numbered n ((b / spread n d) ∷ p) d (b % spread n d)

-- `i * m + b` is below `n * m` if `i` is below `n` and `b` is below `m`
two_digits : (i n m b : ℕ) → i < n → b < m → i * m + b < n * m
two_digits i n m b low small =
    let whole : n * m ≡ i * m + m + (n - (i + 1)) * m =
    let parts : n ≡ i + 1 + (n - (i + 1)) = omega arith in
    ap (λ k. k * m) parts ∙ grind arith in
    omega (arith, whole)

-- the positions in the block map at and below a position with `d` levels point to consecutive logical blocks
under : (form : BlockMap) (n a : ℕ) (p : List ℕ) (d x : ℕ) → levels_below form (a ∷ p) ≡ d
    → ((b : ℕ) → b < spread n d → last_place form (x + b) ≡ Some (numbered n (a ∷ p) d b))
    → map Some (leaves_of form (places_from n (a ∷ p) d)) ≡ ends form x (spread n d)
under form n a p zero x deep last =
    let same : x ≡ x + 0 = omega arith in
    ap (λ k. map Some (cond (k == 0) ((a ∷ p) ∷ []) [])) deep
    ∙ ap (λ o. o ∷ []) (sym (ap (last_place form) same ∙ last 0 (omega arith)))
under form n a p (suc d) x deep last =
    let below = flat_map (λ j. places_from n (j ∷ (a ∷ p)) d) (range_with_len 0 n) in
    let inner : (suc d == 0) ≡ false = grind (arith, nat_tests) in
    ap (λ k. map Some (cond (k == 0) ((a ∷ p) ∷ leaves_of form below) (leaves_of form below))) deep
    ∙ (ap (λ t. map Some (cond t ((a ∷ p) ∷ leaves_of form below) (leaves_of form below))) inner
    ∙ run form (λ j. places_from n (j ∷ (a ∷ p)) d) (spread n d) x 0 n
    (λ i low.
    let same : 0 + i ≡ i = omega arith in
    ap (λ k. map Some (leaves_of form (places_from n (k ∷ (a ∷ p)) d))) same
    ∙ under form n i (a ∷ p) d (x + i * spread n d) (omega (arith, deep))
    (λ b small.
    let at : x + i * spread n d + b ≡ x + (i * spread n d + b) = omega arith in
    let high : (i * spread n d + b) / spread n d ≡ i = div-mul-add i (spread n d) b small in
    let less : (i * spread n d + b) % spread n d ≡ b = mul-add-mod_self_right i (spread n d) b ∙ mod-eq_of_lt small in
    ap (last_place form) at
    ∙ (last (i * spread n d + b) (two_digits i n (spread n d) b low small)
    ∙ ap Some (ap (λ h. numbered n (h ∷ (a ∷ p)) d ((i * spread n d + b) % spread n d)) high ∙ ap (numbered n (i ∷ (a ∷ p)) d) less)))))

-- the positions in the block map at and below an address with `d` levels point to consecutive logical blocks
from_address : (form : BlockMap) (n k d x : ℕ) → levels form k ≡ d
    → ((b : ℕ) → b < spread n d → last_place form (x + b) ≡ Some (numbered n (k ∷ []) d b))
    → map Some (leaves_of form (places_from n (k ∷ []) (levels form k))) ≡ ends form x (spread n d)
from_address form n k d x deep last =
    ap (λ e. map Some (leaves_of form (places_from n (k ∷ []) e))) deep ∙ under form n k [] d x deep last

-- the positions in the block map at and below consecutive addresses with `d` levels each point to consecutive logical blocks
addresses : (form : BlockMap) (n d x from count : ℕ) → ((i : ℕ) → i < count → levels form (from + i) ≡ d)
    → ((i b : ℕ) → i < count → b < spread n d → last_place form (x + i * spread n d + b) ≡ Some (numbered n ((from + i) ∷ []) d b))
    → map Some (leaves_of form (flat_map (λ k. places_from n (k ∷ []) (levels form k)) (range_with_len from count))) ≡ ends form x (count * spread n d)
addresses form n d x from count deep last =
    run form (λ k. places_from n (k ∷ []) (levels form k)) (spread n d) x from count
    (λ i low. from_address form n (from + i) d (x + i * spread n d) (deep i low) (λ b small. last i b low small))

-- if the positions in the block map that point to data blocks are `xs`, they are `xs` followed by the empty list
none_left : (form : BlockMap) (xs : List (Option (List ℕ))) (whole : map Some (leaves form) ≡ xs)
    → map Some (leaves form) ≡ xs ++ map Some []
none_left form xs whole = whole ∙ sym (append-nil xs)

-- the positions in the block map of a small file point to its logical blocks in order
small_order : (form : BlockMap) → form ≡ Small → map Some (leaves form) ≡ ends form 0 (block_limit form)
unfolding places
small_order form is =
    let n = pointer_count form in
    let count : first_count form * spread n 0 ≡ block_limit form = rw is refl in
    addresses form n 0 0 0 (first_count form) (λ i low. ap (λ f. levels f (0 + i)) is)
    (λ i b low small.
    let few : i < 8 = subst (λ f. i < first_count f) is low in
    let place : 0 + i * spread n 0 + b ≡ i = omega arith in
    let same : 0 + i ≡ i = omega arith in
    ap (λ f. last_place f (0 + i * spread n 0 + b)) is
    ∙ (ap (last_place Small) place ∙ (last_small i few ∙ ap (λ k. Some (k ∷ [])) (sym same))))
    ∙ ap (ends form 0) count

-- the logical blocks below the first seven addresses of a large file are in order
large_first : (form : BlockMap) → form ≡ Large → (i b : ℕ) → i < 7 → b < spread (pointer_count form) 1
    → last_place form (0 + i * spread (pointer_count form) 1 + b) ≡ Some (numbered (pointer_count form) ((0 + i) ∷ []) 1 b)
large_first form is i b low small =
    let few : b < 256 = subst (λ f. b < spread (pointer_count f) 1) is small in
    let place : 0 + i * (256 * 1) + b ≡ 256 * i + b = omega arith in
    let entry : (256 * i + b) % 256 ≡ b / 1 = omega arith in
    let address : (256 * i + b) / 256 ≡ 0 + i = omega arith in
    subst (λ f. last_place f (0 + i * spread (pointer_count f) 1 + b) ≡ Some (numbered (pointer_count f) ((0 + i) ∷ []) 1 b)) (sym is)
    (ap (last_place Large) place
    ∙ (last_large (256 * i + b) (omega arith)
    ∙ (ap (λ x. Some (x ∷ (((256 * i + b) / 256) ∷ []))) entry ∙ ap (λ x. Some ((b / 1) ∷ (x ∷ []))) address)))

-- the logical blocks below the first 121 entries of a large file's doubly indirect block are in order
large_second : (form : BlockMap) → form ≡ Large → (i b : ℕ) → i < 121 → b < spread (pointer_count form) 1
    → last_place form (0 + 7 * spread (pointer_count form) 1 + i * spread (pointer_count form) 1 + b)
    ≡ Some (numbered (pointer_count form) ((0 + i) ∷ (7 ∷ [])) 1 b)
large_second form is i b low small =
    let few : b < 256 = subst (λ f. b < spread (pointer_count f) 1) is small in
    let place : 0 + 7 * (256 * 1) + i * (256 * 1) + b ≡ 1792 + (256 * i + b) = omega arith in
    let entry : (1792 + (256 * i + b)) % 256 ≡ b / 1 = omega arith in
    let above : (1792 + (256 * i + b)) / 256 - 7 ≡ 0 + i = omega arith in
    subst (λ f. last_place f (0 + 7 * spread (pointer_count f) 1 + i * spread (pointer_count f) 1 + b)
    ≡ Some (numbered (pointer_count f) ((0 + i) ∷ (7 ∷ [])) 1 b)) (sym is)
    (ap (last_place Large) place
    ∙ (last_huge (1792 + (256 * i + b)) (omega arith) (omega arith)
    ∙ (ap (λ x. Some (x ∷ (((1792 + (256 * i + b)) / 256 - 7) ∷ (7 ∷ [])))) entry ∙ ap (λ x. Some ((b / 1) ∷ (x ∷ (7 ∷ [])))) above)))

-- the positions in the block map at and below an entry of a large file's doubly indirect block
abbrev entries_of : BlockMap → ℕ → List (List ℕ)
entries_of form j = places_from (pointer_count form) (j ∷ (7 ∷ [])) 1

-- the positions in the block map below a large file's doubly indirect block that point to no logical block
abbrev large_rest : BlockMap → List (List ℕ)
large_rest form = leaves_of form (flat_map (entries_of form) (range_with_len 121 135))

-- the positions in the block map below the last address of a large file point to logical blocks in order, and the rest to none
large_last : (form : BlockMap) → form ≡ Large
    → map Some (leaves_of form (places_from (pointer_count form) (7 ∷ []) (levels form 7)))
    ≡ ends form (0 + 7 * spread (pointer_count form) 1) (121 * spread (pointer_count form) 1) ++ map Some (large_rest form)
large_last form is =
    let n = pointer_count form in
    let deep : levels form 7 ≡ 2 = ap (λ f. levels f 7) is in
    let many : n ≡ 121 + 135 = ap pointer_count is in
    let below = flat_map (entries_of form) (range_with_len 0 n) in
    let front = flat_map (entries_of form) (range_with_len 0 121) in
    let back = flat_map (entries_of form) (range_with_len 121 135) in
    let parts : below ≡ front ++ back =
    ap (λ c. flat_map (entries_of form) (range_with_len 0 c)) many
    ∙ (ap (flat_map (entries_of form)) (range_more 0 121 135) ∙ flat_map-append (entries_of form) (range_with_len 0 121) (range_with_len 121 135)) in
    let first : map Some (leaves_of form front) ≡ ends form (0 + 7 * spread n 1) (121 * spread n 1) =
    run form (entries_of form) (spread n 1) (0 + 7 * spread n 1) 0 121
    (λ i low.
    let one : levels_below form ((0 + i) ∷ (7 ∷ [])) ≡ 1 = omega (arith, deep) in
    under form n (0 + i) (7 ∷ []) 1 (0 + 7 * spread n 1 + i * spread n 1) one (λ b small. large_second form is i b low small)) in
    ap (λ e. map Some (leaves_of form (places_from n (7 ∷ []) e))) deep
    ∙ (ap (λ k. map Some (cond (k == 0) ((7 ∷ []) ∷ leaves_of form below) (leaves_of form below))) deep
    ∙ (ap (λ ps. map Some (leaves_of form ps)) parts
    ∙ (leaves_append form front back ∙ ap (λ xs. xs ++ map Some (leaves_of form back)) first)))

-- the positions in the block map of a large file point to its logical blocks in order, and the rest to none
large_order : (form : BlockMap) → form ≡ Large → map Some (leaves form) ≡ ends form 0 (block_limit form) ++ map Some (large_rest form)
unfolding places
large_order form is =
    let n = pointer_count form in
    let roots : ℕ → List (List ℕ) = λ k. places_from n (k ∷ []) (levels form k) in
    let many : first_count form ≡ 7 + 1 = ap first_count is in
    let limit : 7 * spread n 1 + 121 * spread n 1 ≡ block_limit form = rw is refl in
    let front = flat_map roots (range_with_len 0 7) in
    let parts : flat_map roots (range_with_len 0 (first_count form)) ≡ front ++ roots 7 =
    ap (λ c. flat_map roots (range_with_len 0 c)) many
    ∙ (ap (flat_map roots) (range_more 0 7 1) ∙ (flat_map-append roots (range_with_len 0 7) (7 ∷ []) ∙ ap (λ xs. front ++ xs) (append-nil (roots 7)))) in
    let first : map Some (leaves_of form front) ≡ ends form 0 (7 * spread n 1) =
    addresses form n 1 0 0 7
    (λ i low. let one : levels Large (0 + i) ≡ 1 = large_levels (0 + i) (omega arith) in ap (λ f. levels f (0 + i)) is ∙ one)
    (large_first form is) in
    ap (λ ps. map Some (leaves_of form ps)) parts
    ∙ (leaves_append form front (roots 7)
    ∙ (ap (λ xs. xs ++ map Some (leaves_of form (roots 7))) first
    ∙ (ap (λ xs. ends form 0 (7 * spread n 1) ++ xs) (large_last form is)
    ∙ (sym (append_assoc (ends form 0 (7 * spread n 1)) (ends form (0 + 7 * spread n 1) (121 * spread n 1)) (map Some (large_rest form)))
    ∙ ap (λ xs. xs ++ map Some (large_rest form))
    (sym (ends_more form 0 (7 * spread n 1) (121 * spread n 1)) ∙ ap (ends form 0) limit)))))

-- the direct blocks of the seventh edition are in order
deep_direct : (form : BlockMap) → form ≡ Deep → (i b : ℕ) → i < 10 → b < 1
    → last_place form (0 + i * 1 + b) ≡ Some ((0 + i) ∷ [])
deep_direct form is i b low small =
    let place : 0 + i * 1 + b ≡ i = omega arith in
    let same : i ≡ 0 + i = omega arith in
    ap (λ f. last_place f (0 + i * 1 + b)) is ∙ (ap (last_place Deep) place ∙ (last_direct i low ∙ ap (λ k. Some (k ∷ [])) same))

-- the logical blocks below the indirect block of the seventh edition are in order
deep_single : (form : BlockMap) (x b : ℕ) → form ≡ Deep → x ≡ 10 → b < spread (pointer_count form) 1
    → last_place form (x + b) ≡ Some (numbered (pointer_count form) (10 ∷ []) 1 b)
deep_single form x b is at small =
    let few : b < 128 = subst (λ f. b < spread (pointer_count f) 1) is small in
    let entry : x + b - 10 ≡ b / 1 = omega arith in
    subst (λ f. last_place f (x + b) ≡ Some (numbered (pointer_count f) (10 ∷ []) 1 b)) (sym is)
    (last_single (x + b) (omega arith) (omega arith) ∙ ap (λ k. Some (k ∷ (10 ∷ []))) entry)

-- the logical blocks below the doubly indirect block of the seventh edition are in order
deep_double : (form : BlockMap) (x b : ℕ) → form ≡ Deep → x ≡ 138 → b < spread (pointer_count form) 2
    → last_place form (x + b) ≡ Some (numbered (pointer_count form) (11 ∷ []) 2 b)
deep_double form x b is at small =
    let few : b < 16384 = subst (λ f. b < spread (pointer_count f) 2) is small in
    let entry : (x + b - 138) % 128 ≡ b % 128 / 1 = omega arith in
    let above : (x + b - 138) / 128 ≡ b / 128 = omega arith in
    subst (λ f. last_place f (x + b) ≡ Some (numbered (pointer_count f) (11 ∷ []) 2 b)) (sym is)
    (last_double (x + b) (omega arith) (omega arith)
    ∙ (ap (λ k. Some (k ∷ (((x + b - 138) / 128) ∷ (11 ∷ [])))) entry ∙ ap (λ k. Some ((b % 128 / 1) ∷ (k ∷ (11 ∷ [])))) above))

-- the logical blocks below the triply indirect block of the seventh edition are in order
deep_triple : (form : BlockMap) (x b : ℕ) → form ≡ Deep → x ≡ 16522 → b < spread (pointer_count form) 3
    → last_place form (x + b) ≡ Some (numbered (pointer_count form) (12 ∷ []) 3 b)
deep_triple form x b is at small =
    let few : b < 2097152 = subst (λ f. b < spread (pointer_count f) 3) is small in
    let less : x + b - 16522 ≡ b = omega arith in
    let entry : b % 128 ≡ b % 16384 % 128 / 1 = omega arith in
    let above : b / 128 % 128 ≡ b % 16384 / 128 = omega arith in
    subst (λ f. last_place f (x + b) ≡ Some (numbered (pointer_count f) (12 ∷ []) 3 b)) (sym is)
    (last_triple (x + b) (omega arith) (omega arith)
    ∙ (ap (λ c. Some ((c % 128) ∷ ((c / 128 % 128) ∷ ((c / 16384) ∷ (12 ∷ []))))) less
    ∙ (ap (λ k. Some (k ∷ ((b / 128 % 128) ∷ ((b / 16384) ∷ (12 ∷ []))))) entry
    ∙ ap (λ k. Some ((b % 16384 % 128 / 1) ∷ (k ∷ ((b / 16384) ∷ (12 ∷ []))))) above)))

-- the positions in the block map of a seventh edition file point to its logical blocks in order
deep_order : (form : BlockMap) → form ≡ Deep → map Some (leaves form) ≡ ends form 0 (block_limit form)
unfolding places
deep_order form is =
    let n = pointer_count form in
    let roots : ℕ → List (List ℕ) = λ k. places_from n (k ∷ []) (levels form k) in
    let many : first_count form ≡ 10 + 3 = ap first_count is in
    let front = flat_map roots (range_with_len 0 10) in
    let some : List (List ℕ) → List (Option (List ℕ)) = λ ps. map Some (leaves_of form ps) in
    let one = 10 * 1 in
    let two = 10 * 1 + spread n 1 in
    let three = 10 * 1 + spread n 1 + spread n 2 in
    let limit : three + spread n 3 ≡ block_limit form = rw is refl in
    let parts : flat_map roots (range_with_len 0 (first_count form)) ≡ front ++ (roots 10 ++ (roots 11 ++ roots 12)) =
    ap (λ c. flat_map roots (range_with_len 0 c)) many
    ∙ (ap (flat_map roots) (range_more 0 10 3)
    ∙ (flat_map-append roots (range_with_len 0 10) (10 ∷ (11 ∷ (12 ∷ [])))
    ∙ ap (λ xs. front ++ (roots 10 ++ (roots 11 ++ xs))) (append-nil (roots 12)))) in
    let first : some front ≡ ends form 0 one =
    addresses form n 0 0 0 10
    (λ i low. let none : levels Deep (0 + i) ≡ 0 = omega arith in ap (λ f. levels f (0 + i)) is ∙ none) (deep_direct form is) in
    let second : some (roots 10) ≡ ends form (0 + one) (spread n 1) =
    from_address form n 10 1 (0 + one) (ap (λ f. levels f 10) is) (λ b small. deep_single form (0 + one) b is refl small) in
    let at_two : 0 + two ≡ 138 = rw is refl in
    let third : some (roots 11) ≡ ends form (0 + two) (spread n 2) =
    from_address form n 11 2 (0 + two) (ap (λ f. levels f 11) is) (λ b small. deep_double form (0 + two) b is at_two small) in
    let at_three : 0 + three ≡ 16522 = rw is refl in
    let last : some (roots 12) ≡ ends form (0 + three) (spread n 3) =
    from_address form n 12 3 (0 + three) (ap (λ f. levels f 12) is) (λ b small. deep_triple form (0 + three) b is at_three small) in
    let joined : some (front ++ (roots 10 ++ (roots 11 ++ roots 12))) ≡ some front ++ (some (roots 10) ++ (some (roots 11) ++ some (roots 12))) =
    leaves_append form front (roots 10 ++ (roots 11 ++ roots 12))
    ∙ ap (λ xs. some front ++ xs)
    (leaves_append form (roots 10) (roots 11 ++ roots 12) ∙ ap (λ xs. some (roots 10) ++ xs) (leaves_append form (roots 11) (roots 12))) in
    ap some parts
    ∙ (joined
    ∙ (ap (λ xs. xs ++ (some (roots 10) ++ (some (roots 11) ++ some (roots 12)))) first
    ∙ (ap (λ xs. ends form 0 one ++ (xs ++ (some (roots 11) ++ some (roots 12)))) second
    ∙ (ap (λ xs. ends form 0 one ++ (ends form (0 + one) (spread n 1) ++ (xs ++ some (roots 12)))) third
    ∙ (ap (λ xs. ends form 0 one ++ (ends form (0 + one) (spread n 1) ++ (ends form (0 + two) (spread n 2) ++ xs))) last
    ∙ (sym (ap (λ xs. xs) (ap (ends form 0) (sym limit)
    ∙ (ends_more form 0 three (spread n 3)
    ∙ (ap (λ xs. xs ++ ends form (0 + three) (spread n 3)) (ends_more form 0 two (spread n 2)
    ∙ ap (λ xs. xs ++ ends form (0 + two) (spread n 2)) (ends_more form 0 one (spread n 1)))
    ∙ (append_assoc (ends form 0 one ++ ends form (0 + one) (spread n 1)) (ends form (0 + two) (spread n 2)) (ends form (0 + three) (spread n 3))
    ∙ append_assoc (ends form 0 one) (ends form (0 + one) (spread n 1)) (ends form (0 + two) (spread n 2) ++ ends form (0 + three) (spread n 3)))))))))))))

-- a bare block map has no positions and no logical blocks
bare_order : (form : BlockMap) → form ≡ Bare → map Some (leaves form) ≡ ends form 0 (block_limit form)
unfolding places
bare_order form is = rw is refl

pub orders_ways : OrdersWays
orders_ways form =
    elim form as (λ f. form ≡ f → (rest : List (List ℕ)) × (map Some (leaves form) ≡ ends form 0 (block_limit form) ++ map Some rest)
    × ((form ≡ Large) ⊎ (rest ≡ []))) [
      | Small ↦ λ is. ([], none_left form (ends form 0 (block_limit form)) (small_order form is), inr refl)
      | Large ↦ λ is. (large_rest form, large_order form is, inl is)
      | Deep ↦ λ is. ([], none_left form (ends form 0 (block_limit form)) (deep_order form is), inr refl)
      | Bare ↦ λ is. ([], none_left form (ends form 0 (block_limit form)) (bare_order form is), inr refl)
    ] refl
