-- The value of each word of the block report, once all marks are made.
use Rattle.std.proofs.Common.{◌≡◌, ◌≢◌, ℕ, ◌+◌, ◌≤◌, ◌∙◌, ◌==◌, sym, ap, if◌then◌else◌, List, [], ◌∷◌, map, filter, min, cond, Bool, true, false, not, refl, inl, inr, arith}
use Rattle.std.proofs.lemmas.Bool.{cases_eq, cases_Bool, eq-eqb, ne_eqb, and_parts}
use Rattle.std.specs.List.{list_all}
use Rattle.vol_layout.specs.Geometry.{in_zone}
use Rattle.vol_layout.specs.declared.geometry.Geometry.{Geometry}
use Rattle.vol_layout.specs.declared.mode.Kind.{Kind}
use Rattle.vol_layout.specs.declared.mode.Kind.TheVariants as kinds
use Rattle.vol_layout.proofs.BodyLaws.{zone_bounds}
use Rattle.count_table.specs.declared.rule.Mark.{Mark}
use Rattle.count_table.specs.Sums.{total, least_at}
use Rattle.count_table.specs.Views.{mark}
use Rattle.count_table.proofs.Totals.{total_cons, total_nil, least_same, least_here, least_else, least_nil}
use Rattle.vol_reports.specs.Words.{zone_len, place_word, free_word, bad_word, kind_word, least_word}
use Rattle.vol_check.specs.Pieces.{place_weight, kind_weight}
use Rattle.vol_reports.specs.Icheck.{one_if, least_of}
use Rattle.vol_check.proofs.Weights.{place_inside, place_outside}

-- the weight of a mark if it is on this word, else 0
abbrev pub on : ℕ → (Mark → ℕ) → Mark → ℕ
on w weight m = if m.word == w then weight m else 0

-- a mark on the word has its weight
pub on_here : (weight : Mark → ℕ) (v w a : ℕ) → v ≡ w → on w weight (mark v a) ≡ weight (mark w a)
on_here weight v w a e = ap (λ t. if t then weight (mark v a) else 0) (eq-eqb v w e) ∙ ap (λ x. weight (mark x a)) e

pub on_else : (weight : Mark → ℕ) (v w a : ℕ) → v ≢ w → on w weight (mark v a) ≡ 0
on_else weight v w a ne = ap (λ t. if t then weight (mark v a) else 0) (ne_eqb v w ne)

-- a test isn't both true and false
clash : {x y : Bool} → x ≡ y → y ≡ true → x ≡ false → ⊥
clash same up down = let e : ◌≡◌ {A = ℕ} 1 0 = ap one_if (sym up ∙ (sym same ∙ down)) in omega (arith, e)

module _ (g : Geometry) (weight : Mark → ℕ) where
  -- a block-map position marks the word of data block `b` if it points to `b`, and otherwise adds nothing to that word
  pub place_at : (b i k : ℕ) → in_zone g b ≡ true → place_weight g (on (place_word g b) weight) i k ≡ (if k == b then weight (mark (place_word g b) 1) else 0)
  place_at b i k zone = let low = zone_bounds g b zone in elim (cases_Bool (in_zone g k)) [
    | inl inside ↦ let at = zone_bounds g k inside in place_inside g (on (place_word g b) weight) i k inside ∙ elim (cases_eq k b) [
      | inl same ↦ on_here weight (place_word g k) (place_word g b) 1 (ap (place_word g) same)
          ∙ sym (ap (λ t. if t then weight (mark (place_word g b) 1) else 0) (eq-eqb k b same))
      | inr other ↦ on_else weight (place_word g k) (place_word g b) 1 (λ e. other (omega (arith, low, at, e)))
          ∙ sym (ap (λ t. if t then weight (mark (place_word g b) 1) else 0) (ne_eqb k b other))
    ]
    | inr outside ↦
        let a = on_else weight (bad_word g i) (place_word g b) 1 (λ e. omega (arith, low, e)) in
        let c = on_else weight (least_word g i) (place_word g b) k (λ e. omega (arith, low, e)) in
        let z = ap (λ t. if t then weight (mark (place_word g b) 1) else 0) (ne_eqb k b (λ e. clash (ap (in_zone g) e) zone outside)) in
        place_outside g (on (place_word g b) weight) i k outside ∙ omega (arith, a, c, z)
  ]

  -- a block-map position of i-node `i` adds nothing to a word after the words of the data blocks, other than the two words of i-node `i`
  pub place_past : (w i k : ℕ) → 1 + zone_len g ≤ w → w ≢ bad_word g i → w ≢ least_word g i → place_weight g (on w weight) i k ≡ 0
  place_past w i k past bad least = elim (cases_Bool (in_zone g k)) [
    | inl inside ↦ let at = zone_bounds g k inside in
        place_inside g (on w weight) i k inside ∙ on_else weight (place_word g k) w 1 (λ e. omega (arith, at, e, past))
    | inr outside ↦
        let a = on_else weight (bad_word g i) w 1 (λ e. bad (sym e)) in
        let c = on_else weight (least_word g i) w k (λ e. least (sym e)) in
        place_outside g (on w weight) i k outside ∙ omega (arith, a, c)
  ]

  -- a block-map position of i-node `i` marks the count word of `i` if its number is outside the data blocks, and otherwise adds nothing to that word
  pub place_bad : (i k : ℕ) → 1 ≤ i → i ≤ g.last_inode → place_weight g (on (bad_word g i) weight) i k ≡ (if not (in_zone g k) then weight (mark (bad_word g i) 1) else 0)
  place_bad i k first last = elim (cases_Bool (in_zone g k)) [
    | inl inside ↦ let at = zone_bounds g k inside in
        place_inside g (on (bad_word g i) weight) i k inside
        ∙ (on_else weight (place_word g k) (bad_word g i) 1 (λ e. omega (arith, at, e))
        ∙ sym (ap (λ t. if not t then weight (mark (bad_word g i) 1) else 0) inside))
    | inr outside ↦
        let a = on_here weight (bad_word g i) (bad_word g i) 1 refl in
        let c = on_else weight (least_word g i) (bad_word g i) k (λ e. omega (arith, first, last, e)) in
        let o = ap (λ t. if not t then weight (mark (bad_word g i) 1) else 0) outside in
        place_outside g (on (bad_word g i) weight) i k outside ∙ omega (arith, a, c, o)
  ]

  pub place_least : (i k : ℕ) → 1 ≤ i → i ≤ g.last_inode → place_weight g (on (least_word g i) weight) i k ≡ (if not (in_zone g k) then weight (mark (least_word g i) k) else 0)
  place_least i k first last = elim (cases_Bool (in_zone g k)) [
    | inl inside ↦ let at = zone_bounds g k inside in
        place_inside g (on (least_word g i) weight) i k inside
        ∙ (on_else weight (place_word g k) (least_word g i) 1 (λ e. omega (arith, at, e))
        ∙ sym (ap (λ t. if not t then weight (mark (least_word g i) k) else 0) inside))
    | inr outside ↦
        let a = on_else weight (bad_word g i) (least_word g i) 1 (λ e. omega (arith, first, last, e)) in
        let c = on_here weight (least_word g i) (least_word g i) k refl in
        let o = ap (λ t. if not t then weight (mark (least_word g i) k) else 0) outside in
        place_outside g (on (least_word g i) weight) i k outside ∙ omega (arith, a, c, o)
  ]

  -- the mark of an i-node's kind adds nothing to a word that isn't the word of a kind
  pub kind_else : (w : ℕ) (kind : Kind) → ((c : ℕ) → c ≤ 3 → kind_word g c ≢ w) → kind_weight g (on w weight) kind ≡ 0
  kind_else w kinds.Free other = refl
  kind_else w kinds.Regular other = on_else weight (kind_word g 0) w 1 (other 0 (omega arith))
  kind_else w kinds.Directory other = on_else weight (kind_word g 1) w 1 (other 1 (omega arith))
  kind_else w kinds.Special other = on_else weight (kind_word g 2) w 1 (other 2 (omega arith))
  kind_else w kinds.Odd other = on_else weight (kind_word g 3) w 1 (other 3 (omega arith))

  -- the marks of the free list add nothing to a word that isn't the free-list word of a data block
  pub free_else : (w : ℕ) (met : List ℕ) → ((b : ℕ) → in_zone g b ≡ true → free_word g b ≢ w) → list_all (in_zone g) met ≡ true
      → total (λ b. on w weight (mark (free_word g b) 1)) met ≡ 0
  free_else w [] other all = total_nil (λ b. on w weight (mark (free_word g b) 1))
  free_else w (b ∷ met) other all =
      let parts = and_parts (in_zone g b) (list_all (in_zone g) met) all in
      let t = total_cons (λ b. on w weight (mark (free_word g b) 1)) b met in
      let h = free_else w met other parts.1 in
      let e = on_else weight (free_word g b) w 1 (other b parts.0) in omega arith

-- the sum over the elements that pass a test counts all others as 0
pub total_kept : {A : Type 0} (test : A → Bool) (weight : A → ℕ) (ms : List A) → total weight (filter test ms) ≡ total (λ m. if test m then weight m else 0) ms
total_kept test weight [] = total_nil weight ∙ sym (total_nil (λ m. if test m then weight m else 0))
total_kept test weight (m ∷ ms) =
    let h = total_kept test weight ms in
    let t = total_cons (λ m. if test m then weight m else 0) m ms in
    elim (cases_Bool (test m)) [
      | inl passes ↦
          let f = ap (λ t. cond t (m ∷ filter test ms) (filter test ms)) passes in
          let u = total_cons weight m (filter test ms) in
          let e = ap (λ t. if t then weight m else 0) passes in
          ap (total weight) f ∙ omega arith
      | inr fails ↦
          let f = ap (λ t. cond t (m ∷ filter test ms) (filter test ms)) fails in
          let e = ap (λ t. if t then weight m else 0) fails in
          ap (total weight) f ∙ omega arith
    ]

least_kept : (w : ℕ) (ms : List Mark) → least_at w (filter (λ m. m.word == w) ms) ≡ least_at w ms
least_kept w [] = refl
least_kept w (m ∷ ms) = let h = least_kept w ms in elim (cases_eq m.word w) [
  | inl same ↦
      let f = ap (λ t. cond t (m ∷ filter (λ (m : Mark). m.word == w) ms) (filter (λ (m : Mark). m.word == w) ms)) (eq-eqb m.word w same) in
      let a = least_first w m (filter (λ m. m.word == w) ms) same in
      let c = least_first w m ms same in
      ap (least_at w) f ∙ omega arith
  | inr other ↦
      let f = ap (λ t. cond t (m ∷ filter (λ (m : Mark). m.word == w) ms) (filter (λ (m : Mark). m.word == w) ms)) (ne_eqb m.word w other) in
      let c = least_else m.word w m.amount ms (λ e. other (sym e)) in
      ap (least_at w) f ∙ omega arith
]
  where
    least_first : (w : ℕ) (m : Mark) (ms : List Mark) → m.word ≡ w → least_at w (m ∷ ms) ≡ min (least_at w ms) m.amount
    least_first w m ms same = ap (λ x. least_at w (mark x m.amount ∷ ms)) same ∙ least_here w m.amount ms

least_marks : (w : ℕ) (ks : List ℕ) → least_at w (map (mark w) ks) ≡ least_of ks
unfolding least_of
least_marks w [] = sym (least_nil w)
least_marks w (k ∷ ks) = let h = least_marks w ks in let l = least_here w k (map (mark w) ks) in omega arith

total_marks : (weight : Mark → ℕ) (w : ℕ) (ks : List ℕ) → total weight (map (mark w) ks) ≡ total (λ k. weight (mark w k)) ks
total_marks weight w [] = total_nil weight ∙ sym (total_nil (λ k. weight (mark w k)))
total_marks weight w (k ∷ ks) =
    let h = total_marks weight w ks in
    let a = total_cons weight (mark w k) (map (mark w) ks) in
    let b = total_cons (λ k. weight (mark w k)) k ks in omega arith

-- if the marks on a word are those of some numbers, the least mark is the least of the numbers
pub least_is : (w : ℕ) (ms : List Mark) (ks : List ℕ) → ((weight : Mark → ℕ) → total (on w weight) ms ≡ total (λ k. weight (mark w k)) ks)
    → least_at w ms ≡ least_of ks
least_is w ms ks same =
    sym (least_kept w ms)
    ∙ (least_same w (filter (λ m. m.word == w) ms) (map (mark w) ks)
    (λ weight. total_kept (λ m. m.word == w) weight ms ∙ (same weight ∙ sym (total_marks weight w ks))) ∙ least_marks w ks)
