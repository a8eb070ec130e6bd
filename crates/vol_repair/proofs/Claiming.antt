-- Lemmas on the blocks that files claim.
use Rattle.std.proofs.Common.{◌≡◌, ◌≢◌, ◌⊎◌, ℕ, zero, suc, ◌+◌, ◌-◌, ◌<◌, ◌≤◌, ◌∙◌, ◌==◌, ◌||◌, sym, ap, subst, Bool, true, false, cond, List, [], ◌∷◌, ◌++◌, length, get_or, set, get_or-set_same, get_or-set_other, refl, arith, inl, inr, append_assoc}
use Rattle.std.proofs.lemmas.Bool.{cases_eq, true≢false, eq-eqb}
use Rattle.std.proofs.lemmas.List.{append-nil}
use Rattle.std.proofs.lemmas.List.Sums.{sum_by-cons, sum_by-append}
use Rattle.std.specs.List.{count_by, sum_by, flat_map, range_with_len}
use Rattle.vol_layout.specs.Edition.{constants}
use Rattle.vol_layout.specs.Geometry.{in_zone}
use Rattle.vol_layout.specs.BlockPointers.{pointer_in}
use Rattle.vol_layout.specs.declared.geometry.Geometry.{Geometry}
use Rattle.vol_free.specs.Stack.{IsIn}
use Rattle.vol_file.specs.Changes.{blocks_of}
use Rattle.vol_judge.specs.Marks.{blocks_from}
use Rattle.vol_judge.proofs.AllBlocks.{files_from}
use Rattle.vol_judge.proofs.BlocksFrom.{from_zero, from_leaf, from_suc, from_entries, entries_from}
use Rattle.vol_judge.proofs.FileBlocks.{address_blocks, addresses_from}
use Rattle.vol_judge.proofs.MarkLists.{flat_more}
use Rattle.vol_judge.proofs.NamedOnce.{in_left, in_right}
use Rattle.vol_reports.specs.Icheck.{use_count}
use Rattle.vol_repair.specs.Claims.{HasMet, IsClash, Claims}
use Rattle.vol_repair.specs.Kept.{FitsFile}
use Rattle.vol_repair.specs.Told.{IsNotFit}

-- the count over joined lists is the sum of the counts
count_append : (t : ℕ → Bool) (xs ys : List ℕ) → count_by t (xs ++ ys) ≡ count_by t xs + count_by t ys
count_append t xs ys = sum_by-append (λ x. cond (t x) 1 0) xs ys

-- the count over many joined lists is the sum of the counts
count_flat : (t : ℕ → Bool) (f : ℕ → List ℕ) (js : List ℕ) → count_by t (flat_map f js) ≡ sum_by (λ j. count_by t (f j)) js
count_flat t f [] = refl
count_flat t f (j ∷ js) =
    count_append t (f j) (flat_map f js)
    ∙ (ap (λ n. count_by t (f j) + n) (count_flat t f js) ∙ sym (sum_by-cons (λ k. count_by t (f k)) j js))

-- a number in a list is counted
count_in : (b : ℕ) (xs : List ℕ) → IsIn b xs → 1 ≤ count_by (λ k. k == b) xs
unfolding IsIn
count_in b [] among = absurd among
count_in b (x ∷ xs) (inl same) =
    let here : (x == b) ≡ true = eq-eqb x b (sym same) in
    let count : count_by (λ k. k == b) (x ∷ xs) ≡ cond (x == b) 1 0 + count_by (λ k. k == b) xs = sum_by-cons (λ k. cond (k == b) 1 0) x xs in
    let one : ◌≡◌ {A = ℕ} (cond (x == b) 1 0) 1 = ap (λ t. cond t 1 0) here in
    omega (arith, count, one)
count_in b (x ∷ xs) (inr later) =
    let count : count_by (λ k. k == b) (x ∷ xs) ≡ cond (x == b) 1 0 + count_by (λ k. k == b) xs = sum_by-cons (λ k. cond (k == b) 1 0) x xs in
    omega (arith, count, count_in b xs later)

-- one of two tests that pass together passes
either : (p q : Bool) → (p || q) ≡ true → (p ≡ true) ⊎ (q ≡ true)
either true q e = inl refl
either false q e = inr e

-- marked blocks are still among the numbers when there are more
met_more : (used : List Bool) (met own : List ℕ) → HasMet used met → HasMet used (met ++ own)
met_more used met own has = λ b marked. omega (arith, has b marked, count_append (λ k. k == b) met own)

-- a clash among more numbers
clash_more : (geometry : Geometry) (all own more : List ℕ) → IsClash geometry all own → IsClash geometry (all ++ more) (own ++ more)
clash_more geometry all own more clash = record {
  block = clash.block;
  among = in_left clash.block own more clash.among;
  wrong = elim clash.wrong [
    | inl out ↦ inl out
    | inr twice ↦ inr (omega (arith, twice, count_append (λ k. k == clash.block) all more))
  ];
}

-- a clash among the last of more numbers of the file's own
clash_last : (geometry : Geometry) (all own more : List ℕ) → IsClash geometry all own → IsClash geometry all (more ++ own)
clash_last geometry all own more clash = record { block = clash.block; among = in_right clash.block more own clash.among; wrong = clash.wrong }

-- no number was met
pub claims_none : (geometry : Geometry) (used : List Bool) → Claims geometry [] used used false
claims_none geometry used = λ met has.
    (subst (HasMet used) (sym (append-nil met)) has, λ clash. absurd (true≢false (sym clash)))

-- numbers were met, and then more
pub claims_more : (geometry : Geometry) (xs ys : List ℕ) (old mid new : List Bool) (p q : Bool) → Claims geometry xs old mid p
    → Claims geometry ys mid new q → Claims geometry (xs ++ ys) old new (p || q)
claims_more geometry xs ys old mid new p q first second = λ met has.
    let before = first met has in
    let after = second (met ++ xs) before.0 in
    let join : (met ++ xs) ++ ys ≡ met ++ (xs ++ ys) = append_assoc met xs ys in (
      subst (HasMet new) join after.0,
      λ clash. elim (either p q clash) [
        | inl early ↦ subst (λ all. IsClash geometry all (xs ++ ys)) join (clash_more geometry (met ++ xs) xs ys (before.1 early))
        | inr late ↦ subst (λ all. IsClash geometry all (xs ++ ys)) join (clash_last geometry ((met ++ xs) ++ ys) ys xs (after.1 late))
      ],
    )

-- block 0 is no block
pub claims_zero : (geometry : Geometry) (image : List ℕ) (d b : ℕ) (used : List Bool) → b ≡ 0
    → Claims geometry (blocks_from geometry image d b) used used false
claims_zero geometry image d b used none =
    subst (λ own. Claims geometry own used used false) (sym (ap (blocks_from geometry image d) none ∙ from_zero geometry image d))
    (claims_none geometry used)

-- a block is the first of those at and below it
first_from : (geometry : Geometry) (image : List ℕ) (d b : ℕ) → b ≢ 0 → IsIn b (blocks_from geometry image d b)
unfolding IsIn
first_from geometry image zero b some = subst (IsIn b) (sym (from_leaf geometry image b some)) (inl refl)
first_from geometry image (suc d) b some = subst (IsIn b) (sym (from_suc geometry image d b some)) (inl refl)

-- a block number that clashes
pub claims_clash : (geometry : Geometry) (image : List ℕ) (d b : ℕ) (used : List Bool) → b ≢ 0
    → (in_zone geometry b ≡ false) ⊎ (get_or used b false ≡ true) → Claims geometry (blocks_from geometry image d b) used used true
claims_clash geometry image d b used some wrong = λ met has.
    let own = blocks_from geometry image d b in
    let among : IsIn b own = first_from geometry image d b some in (
      met_more used met own has,
      λ clash. record {
        block = b;
        among = among;
        wrong = elim wrong [
          | inl out ↦ inl out
          | inr again ↦ inr (omega (arith, has b again, count_in b own among, count_append (λ k. k == b) met own))
        ];
      },
    )

-- a block that wasn't met before
claims_new : (geometry : Geometry) (b : ℕ) (used : List Bool) → b < length used → Claims geometry (b ∷ []) used (set used b true) false
unfolding IsIn
claims_new geometry b used within = λ met has. (
  λ x marked. elim (cases_eq x b) [
    | inl same ↦
        let one : 1 ≤ count_by (λ k. k == x) (b ∷ []) = count_in x (b ∷ []) (inl same) in
        omega (arith, one, count_append (λ k. k == x) met (b ∷ []))
    | inr other ↦
        omega (arith, has x (sym (get_or-set_other used b x true false other) ∙ marked), count_append (λ k. k == x) met (b ∷ []))
  ],
  λ clash. absurd (true≢false (sym clash)),
)

-- a data block that wasn't met before
pub claims_leaf : (geometry : Geometry) (image : List ℕ) (d b : ℕ) (used : List Bool) → b ≢ 0 → b < length used → d ≡ 0
    → Claims geometry (blocks_from geometry image d b) used (set used b true) false
claims_leaf geometry image d b used some within leaf =
    subst (λ own. Claims geometry own used (set used b true) false)
    (sym (ap (λ x. blocks_from geometry image x b) leaf ∙ from_leaf geometry image b some)) (claims_new geometry b used within)

-- an indirect block that wasn't met before, and the blocks of all its entries
pub claims_from : (geometry : Geometry) (image : List ℕ) (d b : ℕ) (used new : List Bool) (clash : Bool) → b ≢ 0 → b < length used → 1 ≤ d
    → Claims geometry (entries_from geometry image (d - 1) b (constants geometry.edition).pointers) (set used b true) new clash
    → Claims geometry (blocks_from geometry image d b) used new clash
claims_from geometry image d b used new clash some within one below =
    subst (λ own. Claims geometry own used new clash) (sym (from_entries geometry image d b some one))
    (claims_more geometry (b ∷ []) (entries_from geometry image (d - 1) b (constants geometry.edition).pointers) used (set used b true) new false clash
    (claims_new geometry b used within) below)

-- the blocks of no entries
entries_none : (geometry : Geometry) (image : List ℕ) (d b : ℕ) → entries_from geometry image d b 0 ≡ []
unfolding entries_from
entries_none geometry image d b = refl

-- the blocks of one more entry
entries_next : (geometry : Geometry) (image : List ℕ) (d b j m : ℕ) → m ≡ j + 1
    → entries_from geometry image d b m ≡ entries_from geometry image d b j ++ blocks_from geometry image d (pointer_in geometry image b j)
unfolding entries_from
entries_next geometry image d b j m next = flat_more (λ j. blocks_from geometry image d (pointer_in geometry image b j)) 0 j m j next (omega arith)

-- entries that are 0 have no blocks
entries_zeros : (geometry : Geometry) (image : List ℕ) (d b j n m : ℕ) → j + n ≡ m
    → ((x : ℕ) → j ≤ x → x < m → pointer_in geometry image b x ≡ 0) → entries_from geometry image d b m ≡ entries_from geometry image d b j
entries_zeros geometry image d b j zero m size zeros = let same : m ≡ j = omega (arith, size) in ap (entries_from geometry image d b) same
entries_zeros geometry image d b j (suc n) m size zeros =
    entries_next geometry image d b (j + n) m (omega (arith, size))
    ∙ (ap (λ x. entries_from geometry image d b (j + n) ++ blocks_from geometry image d x) (zeros (j + n) (omega arith) (omega (arith, size)))
    ∙ (ap (λ xs. entries_from geometry image d b (j + n) ++ xs) (from_zero geometry image d)
    ∙ (append-nil (entries_from geometry image d b (j + n))
    ∙ entries_zeros geometry image d b j n (j + n) refl (λ x low high. zeros x low (omega (arith, size, high))))))

-- the entries before the first that isn't 0
pub claims_start : (geometry : Geometry) (image : List ℕ) (d b j : ℕ) (used : List Bool) → ((x : ℕ) → 0 ≤ x → x < j → pointer_in geometry image b x ≡ 0)
    → Claims geometry (entries_from geometry image d b j) used used false
claims_start geometry image d b j used zeros =
    subst (λ own. Claims geometry own used used false)
    (sym (entries_zeros geometry image d b 0 j j (omega arith) zeros ∙ entries_none geometry image d b)) (claims_none geometry used)

-- one more entry, and those after it that are 0
pub claims_entry : (geometry : Geometry) (image : List ℕ) (d b j next : ℕ) (old mid new : List Bool) (p q : Bool) → j + 1 ≤ next
    → ((x : ℕ) → j + 1 ≤ x → x < next → pointer_in geometry image b x ≡ 0)
    → Claims geometry (entries_from geometry image d b j) old mid p
    → Claims geometry (blocks_from geometry image d (pointer_in geometry image b j)) mid new q
    → Claims geometry (entries_from geometry image d b next) old new (p || q)
claims_entry geometry image d b j next old mid new p q low zeros before here =
    subst (λ own. Claims geometry own old new (p || q))
    (sym (entries_zeros geometry image d b (j + 1) (next - (j + 1)) next (omega (arith, low)) zeros ∙ entries_next geometry image d b j (j + 1) refl))
    (claims_more geometry (entries_from geometry image d b j) (blocks_from geometry image d (pointer_in geometry image b j)) old mid new p q before here)

-- no addresses
pub claims_first : (geometry : Geometry) (image : List ℕ) (i : ℕ) (used : List Bool) → Claims geometry (addresses_from geometry image i 0) used used false
unfolding addresses_from
claims_first geometry image i used = claims_none geometry used

-- one more address
pub claims_address : (geometry : Geometry) (image : List ℕ) (i k m : ℕ) (old mid new : List Bool) (p q : Bool) → m ≡ k + 1
    → Claims geometry (addresses_from geometry image i k) old mid p → Claims geometry (address_blocks geometry image i k) mid new q
    → Claims geometry (addresses_from geometry image i m) old new (p || q)
unfolding addresses_from
claims_address geometry image i k m old mid new p q next before here =
    subst (λ own. Claims geometry own old new (p || q)) (sym (flat_more (address_blocks geometry image i) 0 k m k next (omega arith)))
    (claims_more geometry (addresses_from geometry image i k) (address_blocks geometry image i k) old mid new p q before here)

-- no block was met
pub met_none : (geometry : Geometry) (image : List ℕ) (used : List Bool) → ((b : ℕ) → get_or used b false ≡ false) → HasMet used (files_from geometry image 0)
met_none geometry image used clear = λ b marked. absurd (true≢false (sym marked ∙ clear b))

-- the blocks of one more file
files_next : (geometry : Geometry) (image : List ℕ) (n m : ℕ) → m ≡ n + 1
    → files_from geometry image m ≡ files_from geometry image n ++ blocks_of geometry image m
unfolding files_from
files_next geometry image n m next = flat_more (blocks_of geometry image) 1 n m m next (omega (arith, next))

-- the blocks of one more file were met
pub met_next : (geometry : Geometry) (image : List ℕ) (n m : ℕ) (old new : List Bool) (clash : Bool) → m ≡ n + 1 → HasMet old (files_from geometry image n)
    → Claims geometry (blocks_of geometry image m) old new clash → HasMet new (files_from geometry image m)
met_next geometry image n m old new clash next has claims =
    subst (HasMet new) (sym (files_next geometry image n m next)) (claims (files_from geometry image n) has).0

-- a block is counted among all files at least as often as among the first ones
count_files : (geometry : Geometry) (image : List ℕ) (b n k m : ℕ) → n + k ≡ m
    → count_by (λ x. x == b) (files_from geometry image n) ≤ count_by (λ x. x == b) (files_from geometry image m)
count_files geometry image b n zero m size =
    let same : n ≡ m = omega (arith, size) in
    subst (λ x. count_by (λ y. y == b) (files_from geometry image n) ≤ count_by (λ y. y == b) (files_from geometry image x)) same (omega arith)
count_files geometry image b n (suc k) m size =
    let before = count_files geometry image b n k (n + k) refl in
    let more : count_by (λ x. x == b) (files_from geometry image m)
    ≡ count_by (λ x. x == b) (files_from geometry image (n + k)) + count_by (λ x. x == b) (blocks_of geometry image m) =
    ap (count_by (λ x. x == b)) (files_next geometry image (n + k) m (omega (arith, size)))
    ∙ count_append (λ x. x == b) (files_from geometry image (n + k)) (blocks_of geometry image m) in
    omega (arith, before, more)

-- the number of uses of a block is its count among the blocks of all files
uses : (geometry : Geometry) (image : List ℕ) (b : ℕ) → use_count geometry image b ≡ count_by (λ x. x == b) (files_from geometry image geometry.last_inode)
unfolding use_count files_from
uses geometry image b = sym (count_flat (λ x. x == b) (blocks_of geometry image) (range_with_len 1 geometry.last_inode))

-- a file with a clash doesn't fit
pub clash_unfit : (geometry : Geometry) (image : List ℕ) (n m : ℕ) (old new : List Bool) (clash : Bool) → m ≡ n + 1 → m ≤ geometry.last_inode
    → HasMet old (files_from geometry image n) → Claims geometry (blocks_of geometry image m) old new clash → clash ≡ true
    → FitsFile geometry image m → ⊥
clash_unfit geometry image n m old new clash next last has claims found fits =
    let bad : IsClash geometry (files_from geometry image n ++ blocks_of geometry image m) (blocks_of geometry image m) =
    (claims (files_from geometry image n) has).1 found in
    elim bad.wrong [
      | inl out ↦ absurd (true≢false (sym (fits.zoned bad.block bad.among) ∙ out))
      | inr twice ↦
          let join : count_by (λ x. x == bad.block) (files_from geometry image m)
          ≡ count_by (λ x. x == bad.block) (files_from geometry image n ++ blocks_of geometry image m) =
          ap (count_by (λ x. x == bad.block)) (files_next geometry image n m next) in
          let all = count_files geometry image bad.block m (geometry.last_inode - m) geometry.last_inode (omega (arith, last)) in
          let one = fits.alone bad.block bad.among in
          let same = uses geometry image bad.block in
          absurd (omega (arith, twice, join, all, one, same))
    ]

-- a mark that is right is set
pub unfit_set : (geometry : Geometry) (image : List ℕ) (unfit : List Bool) (i : ℕ) (mark : Bool) → i < length unfit → IsNotFit geometry image unfit
    → (mark ≡ true → FitsFile geometry image i → ⊥) → IsNotFit geometry image (set unfit i mark)
unfit_set geometry image unfit i mark within known right = λ x marked. elim (cases_eq x i) [
  | inl same ↦
      let here : get_or (set unfit i mark) x false ≡ mark =
      ap (λ k. get_or (set unfit i mark) k false) same ∙ get_or-set_same unfit i mark false within in
      λ fits. right (sym here ∙ marked) (subst (FitsFile geometry image) same fits)
  | inr other ↦ known x (sym (get_or-set_other unfit i x mark false other) ∙ marked)
]
