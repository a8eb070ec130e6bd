-- Laws of `marked`: marking blocks one after another.
use Rattle.std.proofs.Common.{◌≡◌, ◌≢◌, ℕ, zero, suc, ◌+◌, ◌-◌, ◌<◌, ◌⊎◌, ◌∙◌, sym, ap, subst, List, [], ◌∷◌, ◌++◌, length, get_or, set, cond, Option, None, Some, refl, arith, inl, inr, append_assoc, eq-eqb}
use Rattle.std.proofs.lemmas.Bool.{cases_eq, ne_eqb}
use Rattle.std.proofs.lemmas.List.{get_or-set_same, get_or-set_other, append-nil, length-set}
use Rattle.std.proofs.lemmas.Option.{none-some, same_Some}
use Rattle.std.specs.List.{flat_map, range_with_len}
use Rattle.vol_free.specs.Stack.{IsIn, Once}
use Rattle.vol_judge.specs.Marks.{marked}

-- marking no blocks changes no mark
pub marked_none : (marks : List ℕ) → marked marks [] ≡ Some marks
unfolding marked
marked_none marks = refl

-- if the first block isn't marked, it gets a mark, and the rest is marked next
pub marked_first : (marks : List ℕ) (b : ℕ) (blocks : List ℕ) → get_or marks b 0 ≡ 0 → marked marks (b ∷ blocks) ≡ marked (set marks b 1) blocks
unfolding marked
marked_first marks b blocks fresh = ap (λ t. cond t (marked (set marks b 1) blocks) None) (eq-eqb (get_or marks b 0) 0 fresh)

-- if the first block is already marked, the blocks can't all be marked
pub marked_again : (marks : List ℕ) (b : ℕ) (blocks : List ℕ) → get_or marks b 0 ≢ 0 → marked marks (b ∷ blocks) ≡ None
unfolding marked
marked_again marks b blocks before = ap (λ t. cond t (marked (set marks b 1) blocks) None) (ne_eqb (get_or marks b 0) 0 before)

-- marking two lists is marking the first and then the second
pub marked_then : (blocks more marks mid : List ℕ) (end : Option (List ℕ)) → marked marks blocks ≡ Some mid → marked mid more ≡ end
    → marked marks (blocks ++ more) ≡ end
unfolding marked
marked_then [] more marks mid end done next = ap (λ m. marked m more) (same_Some marks mid done) ∙ next
marked_then (b ∷ blocks) more marks mid end done next =
    elim (cases_eq (get_or marks b 0) 0) [
      | inl fresh ↦
          marked_first marks b (blocks ++ more) fresh
          ∙ marked_then blocks more (set marks b 1) mid end (sym (marked_first marks b blocks fresh) ∙ done) next
      | inr before ↦ absurd (none-some mid (sym (marked_again marks b blocks before) ∙ done))
    ]

-- if the first list can't be marked, both lists can't be
pub marked_stops : (blocks more marks : List ℕ) → marked marks blocks ≡ None → marked marks (blocks ++ more) ≡ None
unfolding marked
marked_stops [] more marks stops = absurd (none-some marks (sym stops))
marked_stops (b ∷ blocks) more marks stops =
    elim (cases_eq (get_or marks b 0) 0) [
      | inl fresh ↦
          marked_first marks b (blocks ++ more) fresh
          ∙ marked_stops blocks more (set marks b 1) (sym (marked_first marks b blocks fresh) ∙ stops)
      | inr before ↦ marked_again marks b (blocks ++ more) before
    ]

-- the lists of n + 1 numbers are the lists of the first n numbers and then the last list
flat_suc : (f : ℕ → List ℕ) (a n : ℕ) → flat_map f (range_with_len a (suc n)) ≡ flat_map f (range_with_len a n) ++ f (a + n)
flat_suc f a zero = let same : a ≡ a + 0 = omega arith in append-nil (f a) ∙ ap f same
flat_suc f a (suc n) =
    let same : a + 1 + n ≡ a + suc n = omega arith in
    ap (λ xs. f a ++ xs) (flat_suc f (a + 1) n ∙ ap (λ x. flat_map f (range_with_len (a + 1) n) ++ f x) same)
    ∙ sym (append_assoc (f a) (flat_map f (range_with_len (a + 1) n)) (f (a + suc n)))

-- the same law for bounds that are equal by arithmetic
pub flat_more : (f : ℕ → List ℕ) (a n m j : ℕ) → m ≡ n + 1 → a + n ≡ j → flat_map f (range_with_len a m) ≡ flat_map f (range_with_len a n) ++ f j
flat_more f a n m j size at =
    let more : m ≡ suc n = omega arith in
    ap (λ x. flat_map f (range_with_len a x)) more ∙ (flat_suc f a n ∙ ap (λ x. flat_map f (range_with_len a n) ++ f x) at)

-- marking the lists of n + 1 numbers is marking the lists of the first n numbers and then the last list
pub marked_more : (f : ℕ → List ℕ) (a n j m : ℕ) (marks mid : List ℕ) (end : Option (List ℕ)) → a + n ≡ j → n + 1 ≡ m
    → marked marks (flat_map f (range_with_len a n)) ≡ Some mid → marked mid (f j) ≡ end → marked marks (flat_map f (range_with_len a m)) ≡ end
marked_more f a n j m marks mid end at next done last =
    let size : m ≡ suc n = omega arith in
    ap (λ x. marked marks (flat_map f (range_with_len a x))) size
    ∙ (ap (marked marks) (flat_suc f a n)
    ∙ (ap (λ x. marked marks (flat_map f (range_with_len a n) ++ f x)) at
    ∙ marked_then (flat_map f (range_with_len a n)) (f j) marks mid end done last))

-- if the lists of a range can't be marked, the lists of a longer range can't be either
marked_longer : (f : ℕ → List ℕ) (a n d : ℕ) (marks : List ℕ) → marked marks (flat_map f (range_with_len a n)) ≡ None
    → marked marks (flat_map f (range_with_len a (d + n))) ≡ None
marked_longer f a n zero marks stops =
    let size : 0 + n ≡ n = omega arith in ap (λ x. marked marks (flat_map f (range_with_len a x))) size ∙ stops
marked_longer f a n (suc d) marks stops =
    let size : suc d + n ≡ suc (d + n) = omega arith in
    ap (λ x. marked marks (flat_map f (range_with_len a x))) size
    ∙ (ap (marked marks) (flat_suc f a (d + n))
    ∙ marked_stops (flat_map f (range_with_len a (d + n))) (f (a + (d + n))) marks (marked_longer f a n d marks stops))

-- if the list of one number can't be marked after those before it, the lists of the whole range can't be marked
pub marked_fails : (f : ℕ → List ℕ) (a n j count : ℕ) (marks mid : List ℕ) → a + n ≡ j → n < count
    → marked marks (flat_map f (range_with_len a n)) ≡ Some mid → marked mid (f j) ≡ None → marked marks (flat_map f (range_with_len a count)) ≡ None
marked_fails f a n j count marks mid at less done last =
    let size : count - (n + 1) + (n + 1) ≡ count = omega arith in
    ap (λ x. marked marks (flat_map f (range_with_len a x))) (sym size)
    ∙ marked_longer f a (n + 1) (count - (n + 1)) marks (marked_more f a n j (n + 1) marks mid None at refl done last)

-- the marks before and after marking the blocks of a list: no block occurs twice or was marked before, and exactly the blocks of the list are newly
-- marked
pub record Marks (blocks marks new : List ℕ) : Type 0 where
  pub once : Once blocks
  pub fresh : (b : ℕ) → IsIn b blocks → get_or marks b 0 ≡ 0
  pub only : (b : ℕ) → get_or new b 0 ≢ 0 → (get_or marks b 0 ≢ 0) ⊎ IsIn b blocks
  pub all : (b : ℕ) → IsIn b blocks → get_or new b 0 ≢ 0
  pub kept : (b : ℕ) → get_or marks b 0 ≢ 0 → get_or new b 0 ≢ 0

-- if `Marks` holds for a list after b is marked, it holds for b followed by the list
marks_more : (b : ℕ) (blocks marks new : List ℕ) → b < length marks → get_or marks b 0 ≡ 0 → Marks blocks (set marks b 1) new
    → Marks (b ∷ blocks) marks new
unfolding IsIn Once
marks_more b blocks marks new within fresh rest =
    let here : get_or (set marks b 1) b 0 ≡ 1 = get_or-set_same marks b 1 0 within in
    record {
      once = (λ again. let none = rest.fresh b again in omega (arith, none, here), rest.once);
      fresh = λ x among. elim among [
        | inl e ↦ ap (λ y. get_or marks y 0) e ∙ fresh
        | inr later ↦ elim (cases_eq x b) [
          | inl e ↦ ap (λ y. get_or marks y 0) e ∙ fresh
          | inr other ↦ sym (get_or-set_other marks b x 1 0 other) ∙ rest.fresh x later
        ]
      ];
      only = λ x some. elim (rest.only x some) [
        | inr later ↦ inr (inr later)
        | inl before ↦ elim (cases_eq x b) [
          | inl e ↦ inr (inl e)
          | inr other ↦ inl (λ none. before (get_or-set_other marks b x 1 0 other ∙ none))
        ]
      ];
      all = λ x among. elim among [
        | inl e ↦ rest.kept x (λ none. let one : get_or (set marks b 1) x 0 ≡ 1 = ap (λ y. get_or (set marks b 1) y 0) e ∙ here in omega (arith, none, one))
        | inr later ↦ rest.all x later
      ];
      kept = λ x some. elim (cases_eq x b) [
        | inl e ↦ absurd (some (ap (λ y. get_or marks y 0) e ∙ fresh))
        | inr other ↦ rest.kept x (λ none. some (sym (get_or-set_other marks b x 1 0 other) ∙ none))
      ];
    }

-- if all blocks can be marked, none occurs twice or was marked before, and exactly these blocks become marked
pub marked_marks : (blocks marks new : List ℕ) → ((b : ℕ) → IsIn b blocks → b < length marks) → marked marks blocks ≡ Some new → Marks blocks marks new
unfolding IsIn Once
marked_marks [] marks new within done =
    let same : marks ≡ new = same_Some marks new (sym (marked_none marks) ∙ done) in
    subst (Marks [] marks) same (record {
      once = tt;
      fresh = λ b none. absurd none;
      only = λ b some. inl some;
      all = λ b none. absurd none;
      kept = λ b some. some;
    })
marked_marks (b ∷ blocks) marks new within done =
    elim (cases_eq (get_or marks b 0) 0) [
      | inl fresh ↦
          marks_more b blocks marks new (within b (inl refl)) fresh
          (marked_marks blocks (set marks b 1) new
          (λ x among. let less = within x (inr among) in simp length-set (less))
          (sym (marked_first marks b blocks fresh) ∙ done))
      | inr before ↦ absurd (none-some new (sym (marked_again marks b blocks before) ∙ done))
    ]

-- if the blocks can't all be marked, one of them occurs twice or was marked before
pub marked_refused : (blocks marks : List ℕ) → ((b : ℕ) → IsIn b blocks → b < length marks) → marked marks blocks ≡ None
    → Once blocks → ((b : ℕ) → IsIn b blocks → get_or marks b 0 ≡ 0) → ⊥
unfolding IsIn Once
marked_refused [] marks within stops once fresh = none-some marks (sym stops ∙ marked_none marks)
marked_refused (b ∷ blocks) marks within stops once fresh =
    let here : get_or marks b 0 ≡ 0 = fresh b (inl refl) in
    marked_refused blocks (set marks b 1)
    (λ x among. let less = within x (inr among) in simp length-set (less))
    (sym (marked_first marks b blocks here) ∙ stops) once.1
    (λ x among. get_or-set_other marks b x 1 0 (λ e. once.0 (subst (λ y. IsIn y blocks) e among)) ∙ fresh x (inr among))
