-- A walk over the free list ends without a fault if and only if the list is a stack.
use Rattle.std.proofs.Common.{◌≡◌, ◌≢◌, ℕ, zero, suc, ◌+◌, ◌-◌, ◌*◌, ◌<◌, ◌≤◌, ◌∙◌, ◌==◌, ◌||◌, ◌⊎◌, inl, inr, sym, ap, subst, true, false, List, [], ◌∷◌, ◌++◌, length, reverse, None, Some, refl, arith, eq-eqb, append_assoc, append-nil}
use mathlib.Core.List.{reverse_aux}
use Rattle.std.proofs.lemmas.Bool.{cases_eq, cases_lt, cases_Bool, ne_eqb}
use Rattle.std.proofs.lemmas.List.{reverse-append, reverse-reverse}
use Rattle.std.proofs.lemmas.Option.{none-some}
use Rattle.std.specs.List.{list_any}
use Rattle.pdp_words.specs.Words.{word}
use Rattle.vol_layout.specs.Edition.{constants, number}
use Rattle.vol_layout.specs.Geometry.{in_zone}
use Rattle.vol_layout.specs.Super.{free_head}
use Rattle.vol_layout.specs.declared.geometry.Geometry.{Geometry}
use Rattle.vol_free.specs.Stack.{IsIn, Once, IsStack, IsFree, HasStack}
use Rattle.vol_free.proofs.Lengths.{once_within}
use Rattle.vol_free.proofs.Stacks.{zone_from, zone_below}
use Rattle.vol_free.specs.declared.free_walk.FreeFault.{FreeFault}
use Rattle.vol_free.specs.FreeWalk.{Walked, walk_rest, free_walk}
use Rattle.vol_free.proofs.WalkLaws.{walk_none, walk_many, walk_end, walk_out, walk_again, walk_chain, walk_on}

-- a number in a list is found by a search
pub in_any : (b : ℕ) (met : List ℕ) → IsIn b met → list_any (λ k. k == b) met ≡ true
unfolding IsIn
in_any b [] among = absurd among
in_any b (c ∷ met) (inl same) = ap (λ t. t || list_any (λ k. k == b) met) (eq-eqb c b (sym same))
in_any b (c ∷ met) (inr later) = elim (cases_Bool (c == b)) [
  | inl here ↦ ap (λ t. t || list_any (λ k. k == b) met) here
  | inr other ↦ ap (λ t. t || list_any (λ k. k == b) met) other ∙ in_any b met later
]

-- a number found by a search is in the list
pub any_in : (b : ℕ) (met : List ℕ) → list_any (λ k. k == b) met ≡ true → IsIn b met
unfolding IsIn
any_in b [] found = absurd (cc)
any_in b (c ∷ met) found = elim (cases_eq c b) [
  | inl same ↦ inl (sym same)
  | inr other ↦ inr (any_in b met (sym (ap (λ t. t || list_any (λ k. k == b) met) (ne_eqb c b other)) ∙ found))
]

-- a number in one of two lists is in the reverse of the first followed by the second
in_turned : (b : ℕ) (xs ys : List ℕ) → IsIn b xs ⊎ IsIn b ys → IsIn b (reverse_aux xs ys)
unfolding IsIn
in_turned b [] ys (inl i) = absurd i
in_turned b [] ys (inr i) = i
in_turned b (x ∷ xs) ys (inl (inl same)) = in_turned b xs (x ∷ ys) (inr (inl same))
in_turned b (x ∷ xs) ys (inl (inr i)) = in_turned b xs (x ∷ ys) (inl i)
in_turned b (x ∷ xs) ys (inr i) = in_turned b xs (x ∷ ys) (inr (inr i))

-- a number in a list is in the reversed list
pub in_reverse : (b : ℕ) (xs : List ℕ) → IsIn b xs → IsIn b (reverse xs)
in_reverse b xs i = in_turned b xs [] (inl i)

-- a walk cannot both end with a fault and without one
no_fault : {walk : Walked} {fault : FreeFault × ℕ} {met : List ℕ} → walk.fault ≡ Some fault → walk ≡ record { met = met; fault = None } → ⊥
no_fault {fault = fault} some none = none-some fault (sym (ap (λ (k : Walked). k.fault) none) ∙ some)

-- a walk cannot both end without a fault and with one
a_fault : {walk : Walked} {fault : FreeFault × ℕ} {met : List ℕ} → walk.fault ≡ None → walk ≡ record { met = met; fault = Some fault } → ⊥
a_fault {fault = fault} none some = none-some fault (sym none ∙ ap (λ (k : Walked). k.fault) some)

-- the cases of a step: the array is empty, number 0 is reached and is 0, or there is a next block
data Next (count b : ℕ) : Type 0 where
  is_none : count ≡ 0 → Next count b
  is_end : count ≢ 0 → count ≡ 1 → b ≡ 0 → Next count b
  is_more : count ≢ 0 → (count ≡ 1 → b ≡ 0 → ⊥) → Next count b

next : (count b : ℕ) → Next count b
next count b = elim (cases_eq count 0) [
  | inl none ↦ is_none none
  | inr some ↦ elim (cases_eq count 1) [
    | inl one ↦ elim (cases_eq b 0) [
      | inl zero-there ↦ is_end some one zero-there
      | inr other ↦ is_more some (λ _ z. other z)
    ]
    | inr two ↦ is_more some (λ one _. two one)
  ]
]

module _ (g : Geometry) (image : List ℕ) where
  -- if a walk of at most `fuel` steps ends with a fault, the rest of the list is not a stack of blocks that the walk has not visited
  abbrev Refutes : ℕ → Type 0
  Refutes fuel = (head count : ℕ) (met : List ℕ) (fault : FreeFault × ℕ) → (walk_rest g image fuel head count met).fault ≡ Some fault
      → count ≤ (constants g.edition).free_slots → (blocks : List ℕ) → IsStack g image head count blocks → Once blocks
      → ((k : ℕ) → IsIn k met → IsIn k blocks → ⊥) → ⊥

  -- the case of a step that reaches a next block
  refutes_more : (fuel : ℕ) → Refutes fuel → (head count : ℕ) (met : List ℕ) (fault : FreeFault × ℕ) → (walk_rest g image (suc fuel) head count met).fault ≡ Some fault
      → count ≤ (constants g.edition).free_slots → (blocks : List ℕ) → IsStack g image head count blocks → Once blocks
      → ((k : ℕ) → IsIn k met → IsIn k blocks → ⊥)
      → count ≢ 0 → (count ≡ 1 → number g.edition image (head + 2) (count - 1) ≡ 0 → ⊥) → ⊥
  unfolding IsStack Once IsIn
  refutes_more fuel later head count met fault e few [] (inl none) once apart some more = some none
  refutes_more fuel later head count met fault e few [] (inr (one, z)) once apart some more =
      let first : 0 ≡ count - 1 = omega arith in more one (subst (λ n. number g.edition image (head + 2) n ≡ 0) first z)
  refutes_more fuel later head count met fault e few (b ∷ rest) (is, zone, s) once apart some more =
      let more' : count ≡ 1 → b ≡ 0 → ⊥ = λ one z. more one (is ∙ z) in
      let apart' : (k : ℕ) → IsIn k (b ∷ met) → IsIn k rest → ⊥ = λ k i j. elim i [
        | inl same ↦ once.0 (subst (λ x. IsIn x rest) same j)
        | inr before ↦ apart k before (inr j)
      ] in
      elim (cases_Bool (list_any (λ k. k == b) met)) [
        | inl again ↦ apart b (any_in b met again) (inl refl)
        | inr fresh ↦ elim s [
          | inl two ↦
              let other : count ≢ 1 = λ one. omega (arith, one, two.0) in
              let on = walk_on g image fuel head count met b is some few zone more' fresh other in
              later head (count - 1) (b ∷ met) fault (sym (ap (λ (k : Walked). k.fault) on) ∙ e) (omega (arith, few)) rest two.1 once.1 apart'
          | inr one ↦
              let on = walk_chain g image fuel head count met b is some few zone more' fresh one.0 in
              later (512 * b) (word image (512 * b)) (b ∷ met) fault (sym (ap (λ (k : Walked). k.fault) on) ∙ e) one.1 rest one.2 once.1 apart'
        ]
      ]

  -- if a walk ends with a fault, the rest of the list is not a stack
  refutes : (fuel : ℕ) → Refutes fuel
  unfolding walk_rest
  refutes zero head count met fault e few blocks s once apart = none-some fault e
  refutes (suc fuel) head count met fault e few blocks s once apart =
      let b = number g.edition image (head + 2) (count - 1) in
      elim (next count b) [
        | is_none none ↦ no_fault e (walk_none g image fuel head count met none)
        | is_end some one zero-there ↦ no_fault e (walk_end g image fuel head count met b refl some few one zero-there)
        | is_more some more ↦ refutes_more fuel (refutes fuel) head count met fault e few blocks s once apart some more
      ]

  -- the rest of the list is a stack of blocks not visited before, and the walk visits exactly these blocks
  record Stacked (walk : Walked) (head count : ℕ) (met : List ℕ) : Type 0 where
    blocks : List ℕ
    walked : walk.met ≡ reverse blocks ++ met
    few : count ≤ (constants g.edition).free_slots
    stack : IsStack g image head count blocks
    once : Once blocks
    apart : (k : ℕ) → IsIn k met → IsIn k blocks → ⊥

  -- if a walk with enough steps left ends without a fault, the rest of the list is a stack that the walk visits
  abbrev Stacks : ℕ → Type 0
  Stacks fuel = (head count : ℕ) (met : List ℕ) → Once met → ((b : ℕ) → IsIn b met → in_zone g b ≡ true)
      → g.zone_end - g.zone_start < fuel + length met → (walk_rest g image fuel head count met).fault ≡ None
      → Stacked (walk_rest g image fuel head count met) head count met

  -- the case of an empty stack
  empty : (walk : Walked) (head count : ℕ) (met : List ℕ) → walk ≡ record { met = met; fault = None } → count ≤ (constants g.edition).free_slots
      → IsStack g image head count [] → Stacked walk head count met
  unfolding Once IsIn
  empty walk head count met is few s =
      record { blocks = []; walked = ap (λ (k : Walked). k.met) is; few = few; stack = s; once = tt; apart = λ k i j. j }

  -- the case of a block followed by the rest of the stack
  onto : (walk later : Walked) (head count b : ℕ) (met rest : List ℕ) → walk ≡ later → later.met ≡ reverse rest ++ b ∷ met
      → count ≤ (constants g.edition).free_slots → IsStack g image head count (b ∷ rest) → list_any (λ k. k == b) met ≡ false → Once rest
      → ((k : ℕ) → IsIn k (b ∷ met) → IsIn k rest → ⊥) → Stacked walk head count met
  unfolding Once IsIn
  onto walk later head count b met rest on walked few s fresh once apart = record {
    blocks = b ∷ rest;
    walked = ap (λ (k : Walked). k.met) on
        ∙ (walked ∙ (sym (append_assoc (reverse rest) (b ∷ []) met) ∙ ap (λ xs. xs ++ met) (sym (reverse-append (b ∷ []) rest))));
    few = few;
    stack = s;
    once = (λ i. apart b (inl refl) i, once);
    apart = λ k i j. elim j [
      | inl same ↦ let there = in_any b met (subst (λ x. IsIn x met) same i) in absurd (cc)
      | inr later ↦ apart k (inr i) later
    ];
  }

  stacks_more : (fuel : ℕ) → Stacks fuel → (head count b : ℕ) (met : List ℕ) → Once met → ((b : ℕ) → IsIn b met → in_zone g b ≡ true)
      → g.zone_end - g.zone_start < suc fuel + length met → (walk_rest g image (suc fuel) head count met).fault ≡ None
      → number g.edition image (head + 2) (count - 1) ≡ b → count ≤ (constants g.edition).free_slots
      → count ≢ 0 → (count ≡ 1 → b ≡ 0 → ⊥) → Stacked (walk_rest g image (suc fuel) head count met) head count met
  unfolding IsStack Once IsIn
  stacks_more fuel later head count b met once zoned room e is few some more =
      elim (cases_Bool (in_zone g b)) [
        | inr out ↦ absurd (a_fault e (walk_out g image fuel head count met b is some few more out))
        | inl zone ↦ elim (cases_Bool (list_any (λ k. k == b) met)) [
          | inl again ↦ absurd (a_fault e (walk_again g image fuel head count met b is some few zone more again))
          | inr fresh ↦
              let once' : Once (b ∷ met) = (λ i. let there = in_any b met i in absurd (cc), once) in
              let zoned' : (k : ℕ) → IsIn k (b ∷ met) → in_zone g k ≡ true = λ k i. elim i [
                | inl same ↦ ap (in_zone g) same ∙ zone
                | inr before ↦ zoned k before
              ] in
              let room' : g.zone_end - g.zone_start < fuel + length (b ∷ met) = omega (arith, room) in
              elim (cases_eq count 1) [
                | inl one ↦
                    let on = walk_chain g image fuel head count met b is some few zone more fresh one in
                    let rest = later (512 * b) (word image (512 * b)) (b ∷ met) once' zoned' room' (sym (ap (λ (k : Walked). k.fault) on) ∙ e) in
                    onto (walk_rest g image (suc fuel) head count met) (walk_rest g image fuel (512 * b) (word image (512 * b)) (b ∷ met)) head count b met
                    rest.blocks on rest.walked few (is, zone, inr (one, rest.few, rest.stack)) fresh rest.once rest.apart
                | inr two ↦
                    let on = walk_on g image fuel head count met b is some few zone more fresh two in
                    let rest = later head (count - 1) (b ∷ met) once' zoned' room' (sym (ap (λ (k : Walked). k.fault) on) ∙ e) in
                    onto (walk_rest g image (suc fuel) head count met) (walk_rest g image fuel head (count - 1) (b ∷ met)) head count b met
                    rest.blocks on rest.walked few (is, zone, inl (omega arith, rest.stack)) fresh rest.once rest.apart
              ]
        ]
      ]

  -- if a walk with enough steps left ends without a fault, the rest of the list is a stack
  stacks : (fuel : ℕ) → Stacks fuel
  unfolding IsStack
  stacks zero head count met once zoned room e =
      let most = once_within g.zone_start g.zone_end met once (λ b i. zone_from g b (zoned b i)) (λ b i. zone_below g b (zoned b i)) in
      absurd (omega (arith, most, room))
  stacks (suc fuel) head count met once zoned room e =
      let b = number g.edition image (head + 2) (count - 1) in
      elim (cases_lt (constants g.edition).free_slots count) [
        | inl many ↦ absurd (a_fault e (walk_many g image fuel head count met (λ none. omega (arith, none, many)) many))
        | inr few ↦ elim (next count b) [
          | is_none none ↦ empty (walk_rest g image (suc fuel) head count met) head count met (walk_none g image fuel head count met none) few (inl none)
          | is_end some one zero-there ↦
              let first : count - 1 ≡ 0 = omega arith in
              empty (walk_rest g image (suc fuel) head count met) head count met (walk_end g image fuel head count met b refl some few one zero-there) few
              (inr (one, subst (λ n. number g.edition image (head + 2) n ≡ 0) first zero-there))
          | is_more some more ↦ stacks_more fuel (stacks fuel) head count b met once zoned room e refl few some more
        ]
      ]

  -- if the walk over the free list ends with a fault, the volume has no stack of free blocks
  pub fault_breaks : {fault : FreeFault × ℕ} → (free_walk g image).fault ≡ Some fault → HasStack g image → ⊥
  unfolding IsIn
  fault_breaks {fault = fault} e has =
      refutes (g.zone_end - g.zone_start + 1) (free_head g.edition) (word image (free_head g.edition)) [] fault e
      has.free.count has.blocks has.free.stack has.free.once (λ k i j. i)

  -- if the walk over the free list ends without a fault, the blocks that it visited are the free blocks
  pub no_fault_free : (blocks : List ℕ) → (free_walk g image).fault ≡ None → reverse blocks ≡ (free_walk g image).met → IsFree g image blocks
  unfolding Once IsIn
  no_fault_free blocks e met =
      let stack = stacks (g.zone_end - g.zone_start + 1) (free_head g.edition) (word image (free_head g.edition)) [] tt (λ b i. absurd i)
      (omega arith) e in
      let turned : reverse blocks ≡ reverse stack.blocks = met ∙ (stack.walked ∙ append-nil (reverse stack.blocks)) in
      let same : stack.blocks ≡ blocks = sym (reverse-reverse stack.blocks) ∙ (ap reverse (sym turned) ∙ reverse-reverse blocks) in
      subst (IsFree g image) same (record { count = stack.few; stack = stack.stack; once = stack.once })

  -- if the walk over the free list ends without a fault, the volume has a stack of free blocks
  pub no_fault_holds : (free_walk g image).fault ≡ None → HasStack g image
  no_fault_holds e = record {
    blocks = reverse (free_walk g image).met;
    free = no_fault_free (reverse (free_walk g image).met) e (reverse-reverse (free_walk g image).met);
  }

  -- if the volume has a stack of free blocks, the walk over the free list ends without a fault
  pub stack_no_fault : HasStack g image → (free_walk g image).fault ≡ None
  stack_no_fault has =
      elim (free_walk g image).fault as (λ o. (free_walk g image).fault ≡ o → (free_walk g image).fault ≡ None) [
        | None ↦ λ e. e
        | Some fault ↦ λ e. absurd (fault_breaks e has)
      ] refl
