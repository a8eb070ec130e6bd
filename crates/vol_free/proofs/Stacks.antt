-- Laws of the stack of free blocks.
use Rattle.std.proofs.Common.{◌≡◌, ℕ, ◌+◌, ◌-◌, ◌*◌, ◌<◌, ◌≤◌, ◌⊎◌, inl, inr, true, List, [], ◌∷◌, length, refl, sym, ◌∙◌, arith}
use Rattle.std.proofs.lemmas.Bool.Decides.{nat_tests}
use Rattle.pdp_words.specs.Words.{word}
use Rattle.vol_layout.specs.Edition.{constants, number}
use Rattle.vol_layout.specs.Geometry.{in_zone, Fits}
use Rattle.vol_layout.specs.Super.{free_head}
use Rattle.vol_layout.specs.declared.edition.Edition.{Edition}
use Rattle.vol_layout.specs.declared.edition.Edition.TheVariants.{V6, V7}
use Rattle.vol_layout.specs.declared.geometry.Geometry.{Geometry}
use Rattle.vol_free.specs.Stack.{IsIn, IsStack, IsFree}
use Rattle.vol_free.proofs.Copies.{IsCopy, word_copied, number_copied, copied_part}

-- a data block is not before the start of the data zone
pub zone_from : (geometry : Geometry) (b : ℕ) → in_zone geometry b ≡ true → geometry.zone_start ≤ b
zone_from geometry b z = grind (arith, nat_tests)

-- a data block is before the end of the data zone
pub zone_below : (geometry : Geometry) (b : ℕ) → in_zone geometry b ≡ true → b < geometry.zone_end
zone_below geometry b z = grind (arith, nat_tests)

-- the count and array of the super-block end before byte 720
pub head_end : (edition : Edition) → free_head edition + 202 ≤ 720
head_end V6 = omega arith
head_end V7 = omega arith

-- the data zone begins after the super-block
pub zone_behind : {geometry : Geometry} {image : List ℕ} → Fits geometry image → 2 ≤ geometry.zone_start
zone_behind fits = omega (arith, fits.i_list)

-- block numbers have at most 24 bits
limit_by : (edition : Edition) (end : ℕ) → end ≤ (constants edition).number_limit → end ≤ 16777216
limit_by V6 end h = omega arith
limit_by V7 end h = omega arith

-- a volume has at most 2^24 blocks
pub limit_below : {geometry : Geometry} {image : List ℕ} → Fits geometry image → geometry.zone_end ≤ 16777216
limit_below {geometry = geometry} fits = limit_by geometry.edition geometry.zone_end fits.limit

-- if a count and its array are copied, the array is copied
pub array_copied : {old new : List ℕ} {from to : ℕ} → IsCopy old new from to 202 → IsCopy old new (from + 2) (to + 2) 200
array_copied {from = from} {to = to} c = copied_part c (to + 2) (from + 2) 2 200 (omega arith) (omega arith) (omega arith)

-- the stack at byte `from` is also at byte `to` if its numbers are there and the first 202 bytes of its blocks are unchanged
pub IsStack-moved : (geometry : Geometry) (old new : List ℕ) (from to n : ℕ) (blocks : List ℕ)
    → ((j : ℕ) → j < n → number geometry.edition new (to + 2) j ≡ number geometry.edition old (from + 2) j)
    → ((b : ℕ) → IsIn b blocks → IsCopy old new (512 * b) (512 * b) 202)
    → IsStack geometry old from n blocks → IsStack geometry new to n blocks
unfolding IsStack IsIn
IsStack-moved geometry old new from to n [] numbers kept (inl e) = inl e
IsStack-moved geometry old new from to n [] numbers kept (inr (e, z)) = inr (e, numbers 0 (omega arith) ∙ z)
IsStack-moved geometry old new from to n (b ∷ rest) numbers kept (e, z, inl (two, s)) = (
  numbers (n - 1) (omega arith) ∙ e,
  z,
  inl (two, IsStack-moved geometry old new from to (n - 1) rest (λ j h. numbers j (omega arith)) (λ c i. kept c (inr i)) s),
)
IsStack-moved geometry old new from to n (b ∷ rest) numbers kept (e, z, inr (one, few, s)) =
    let copy = kept b (inl refl) in
    let same : word new (512 * b) ≡ word old (512 * b) = word_copied copy (512 * b) (512 * b) 0 (omega arith) (omega arith) (omega arith) in (
      numbers (n - 1) (omega arith) ∙ e,
      z,
      inr (
        one,
        omega (arith, same, few),
        rw same (IsStack-moved geometry old new (512 * b) (512 * b) (word old (512 * b)) rest
            (λ j h. number_copied geometry.edition (array_copied copy) j (omega arith)) (λ c i. kept c (inr i)) s),
      ),
    )

-- each block of the stack is a data block
pub stack_zoned : (geometry : Geometry) (image : List ℕ) (at n : ℕ) (blocks : List ℕ) → IsStack geometry image at n blocks
    → (b : ℕ) → IsIn b blocks → in_zone geometry b ≡ true
unfolding IsStack IsIn
stack_zoned geometry image at n [] s b i = absurd i
stack_zoned geometry image at n (c ∷ rest) (e, z, t) b (inl i) = rw i z
stack_zoned geometry image at n (c ∷ rest) (e, z, inl (two, s)) b (inr i) = stack_zoned geometry image at (n - 1) rest s b i
stack_zoned geometry image at n (c ∷ rest) (e, z, inr (one, few, s)) b (inr i) =
    stack_zoned geometry image (512 * c) (word image (512 * c)) rest s b i

-- if no number is left, or the next number is 0, the stack is empty
pub stack_none : (geometry : Geometry) (image : List ℕ) (at n : ℕ) (blocks : List ℕ) → 1 ≤ geometry.zone_start
    → IsStack geometry image at n blocks → (n ≡ 0) ⊎ (number geometry.edition image (at + 2) (n - 1) ≡ 0) → blocks ≡ []
unfolding IsStack
stack_none geometry image at n [] low s h = refl
stack_none geometry image at n (b ∷ rest) low (e, z, inl (two, s)) (inl h) = absurd (omega arith)
stack_none geometry image at n (b ∷ rest) low (e, z, inr (one, few, s)) (inl h) = absurd (omega arith)
stack_none geometry image at n (b ∷ rest) low (e, z, t) (inr h) =
    let from : geometry.zone_start ≤ b = zone_from geometry b z in absurd (omega arith)

-- a stack with a first block has a next number, which isn't 0
pub stack_not_none : (geometry : Geometry) (image : List ℕ) (at n : ℕ) (b : ℕ) (rest : List ℕ) → 1 ≤ geometry.zone_start
    → IsStack geometry image at n (b ∷ rest) → (n ≡ 0) ⊎ (number geometry.edition image (at + 2) (n - 1) ≡ 0) → ⊥
stack_not_none geometry image at n b rest low s h =
    let none : b ∷ rest ≡ [] = stack_none geometry image at n (b ∷ rest) low s h in cc

-- if the stack is empty, no number is left, or the next number is 0
pub stack_end : (geometry : Geometry) (image : List ℕ) (at n : ℕ) → IsStack geometry image at n []
    → (n ≡ 0) ⊎ (number geometry.edition image (at + 2) (n - 1) ≡ 0)
unfolding IsStack
stack_end geometry image at n (inl e) = inl e
stack_end geometry image at n (inr (e, z)) = let one : n - 1 ≡ 0 = omega arith in inr (rw one z)

-- there is only one stack of blocks at a count and array
pub stack_unique : (geometry : Geometry) (image : List ℕ) (at n : ℕ) (xs ys : List ℕ) → 1 ≤ geometry.zone_start
    → IsStack geometry image at n xs → IsStack geometry image at n ys → xs ≡ ys
unfolding IsStack
stack_unique geometry image at n [] ys low s t =
    sym (stack_none geometry image at n ys low t (stack_end geometry image at n s))
stack_unique geometry image at n (b ∷ xs) [] low s t =
    stack_none geometry image at n (b ∷ xs) low s (stack_end geometry image at n t)
stack_unique geometry image at n (b ∷ xs) (c ∷ ys) low (e, z, inl (two, s)) (f, y, inl (_, t)) =
    let same : b ≡ c = sym e ∙ f in
    let rest : xs ≡ ys = stack_unique geometry image at (n - 1) xs ys low s t in cc
stack_unique geometry image at n (b ∷ xs) (c ∷ ys) low (e, z, inl (two, s)) (f, y, inr (one, few, t)) = absurd (omega arith)
stack_unique geometry image at n (b ∷ xs) (c ∷ ys) low (e, z, inr (one, few, s)) (f, y, inl (two, t)) = absurd (omega arith)
stack_unique geometry image at n (b ∷ xs) (c ∷ ys) low (e, z, inr (one, few, s)) (f, y, inr (_, _, t)) =
    let same : b ≡ c = sym e ∙ f in
    let there = rw (sym same) at t in
    let rest : xs ≡ ys = stack_unique geometry image (512 * b) (word image (512 * b)) xs ys low s there in cc

-- a volume has only one list of free blocks
pub IsFree_unique : {geometry : Geometry} {image : List ℕ} {xs ys : List ℕ} → 1 ≤ geometry.zone_start → IsFree geometry image xs
    → IsFree geometry image ys → xs ≡ ys
IsFree_unique {geometry = geometry} {image = image} {xs = xs} {ys = ys} low s t =
    stack_unique geometry image (free_head geometry.edition) (word image (free_head geometry.edition)) xs ys low s.stack t.stack

-- storing block `b` as number `n`, above a stack with `n` numbers, puts it in front of the stack
pub stack_above : (geometry : Geometry) (image : List ℕ) (at n m : ℕ) (b : ℕ) (blocks : List ℕ) → m ≡ n + 1 → 1 ≤ n
    → number geometry.edition image (at + 2) n ≡ b → in_zone geometry b ≡ true → IsStack geometry image at n blocks
    → IsStack geometry image at m (b ∷ blocks)
unfolding IsStack
stack_above geometry image at n m b blocks e h f z s =
    let less : m - 1 ≡ n = omega arith in rw less (f, z, inl (omega arith, s))

-- storing block `b` as the only number puts it in front of the stack with which block `b` begins
pub stack_chained : (geometry : Geometry) (image : List ℕ) (at m : ℕ) (b : ℕ) (blocks : List ℕ) → m ≡ 1
    → number geometry.edition image (at + 2) 0 ≡ b → in_zone geometry b ≡ true
    → word image (512 * b) ≤ (constants geometry.edition).free_slots
    → IsStack geometry image (512 * b) (word image (512 * b)) blocks → IsStack geometry image at m (b ∷ blocks)
unfolding IsStack
stack_chained geometry image at m b blocks e f z few s =
    let less : m - 1 ≡ 0 = omega arith in rw less (f, z, inr (e, few, s))

-- an array with one number, which is 0, is an empty stack
pub stack_zero : (geometry : Geometry) (image : List ℕ) (at : ℕ) → number geometry.edition image (at + 2) 0 ≡ 0
    → IsStack geometry image at 1 []
unfolding IsStack
stack_zero geometry image at z = inr (refl, z)

-- number 0 is a data block, and the stack continues with the count and array at its start
pub record IsChained (geometry : Geometry) (image : List ℕ) (at n : ℕ) (blocks : List ℕ) : Type 0 where
  pub block : ℕ
  pub rest : List ℕ
  pub is : number geometry.edition image (at + 2) 0 ≡ block
  pub zone : in_zone geometry block ≡ true
  pub few : word image (512 * block) ≤ (constants geometry.edition).free_slots
  pub stack : IsStack geometry image (512 * block) (word image (512 * block)) rest
  pub sum : length blocks ≡ n + length rest

-- a stack whose number 0 isn't 0 continues in the block with that number
pub stack_next : (geometry : Geometry) (image : List ℕ) (at n : ℕ) (blocks : List ℕ) → 1 ≤ n
    → (number geometry.edition image (at + 2) 0 ≡ 0 → ⊥) → IsStack geometry image at n blocks → IsChained geometry image at n blocks
unfolding IsStack
stack_next geometry image at n [] some more (inl e) = absurd (omega arith)
stack_next geometry image at n [] some more (inr (e, z)) = absurd (more z)
stack_next geometry image at n (b ∷ blocks) some more (e, z, inl (two, s)) =
    let next : IsChained geometry image at (n - 1) blocks = stack_next geometry image at (n - 1) blocks (omega arith) more s in
    record { block = next.block; rest = next.rest; is = next.is; zone = next.zone; few = next.few; stack = next.stack; sum = omega (arith, next.sum) }
stack_next geometry image at n (b ∷ blocks) some more (e, z, inr (one, few, s)) =
    let less : n - 1 ≡ 0 = omega arith in
    record { block = b; rest = blocks; is = rw less at e; zone = z; few = few; stack = s; sum = omega arith }

-- a stack whose number 0 is 0 has one block fewer than numbers
pub stack_last : (geometry : Geometry) (image : List ℕ) (at n : ℕ) (blocks : List ℕ) → 1 ≤ n → 1 ≤ geometry.zone_start
    → number geometry.edition image (at + 2) 0 ≡ 0 → IsStack geometry image at n blocks → length blocks + 1 ≡ n
unfolding IsStack
stack_last geometry image at n [] some low last (inl e) = absurd (omega arith)
stack_last geometry image at n [] some low last (inr (e, z)) = omega arith
stack_last geometry image at n (b ∷ blocks) some low last (e, z, inl (two, s)) =
    omega (arith, stack_last geometry image at (n - 1) blocks (omega arith) low last s)
stack_last geometry image at n (b ∷ blocks) some low last (e, z, inr (one, few, s)) =
    let less : n - 1 ≡ 0 = omega arith in
    let first = rw less at e in
    let from : geometry.zone_start ≤ b = zone_from geometry b z in absurd (omega (arith, first, last))
