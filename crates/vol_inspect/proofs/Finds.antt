-- Laws about the first item that passes a test, in concatenated lists.
use Rattle.std.proofs.Common.{◌≡◌, ℕ, zero, suc, ◌+◌, ◌-◌, ◌<◌, ◌∙◌, sym, ap, Bool, List, ◌++◌, Option, None, Some, refl, arith}
use Rattle.std.proofs.lemmas.List.Folds.{find-append}
use Rattle.std.specs.List.{find, flat_map, range_with_len}
use Rattle.std.specs.Option.{option_or}
use Rattle.vol_reports.proofs.Ranges.{flat_more}

-- if no item of the first list passes, the first in both lists is the first in the second
pub found_second : {A : Type 0} (p : A → Bool) (xs ys : List A) → find p xs ≡ None → find p (xs ++ ys) ≡ find p ys
found_second p xs ys none = find-append p xs ys ∙ ap (λ o. option_or o (find p ys)) none

-- the first item that passes in the first list is the first in both
pub found_first : {A : Type 0} (p : A → Bool) (xs ys : List A) (x : A) → find p xs ≡ Some x → find p (xs ++ ys) ≡ Some x
found_first p xs ys x some = find-append p xs ys ∙ ap (λ o. option_or o (find p ys)) some

-- if no item of the lists so far passes, the first item with one more list is the first in that list
pub found_more : {A : Type 0} (p : A → Bool) (f : ℕ → List A) (a n j m : ℕ) (end : Option A) → a + n ≡ j → m ≡ n + 1
    → find p (flat_map f (range_with_len a n)) ≡ None → find p (f j) ≡ end → find p (flat_map f (range_with_len a m)) ≡ end
found_more p f a n j m end at size none last =
    ap (find p) (flat_more f a n m j size at) ∙ (found_second p (flat_map f (range_with_len a n)) (f j) none ∙ last)

-- the first item in some lists is also the first in more lists
found_longer : {A : Type 0} (p : A → Bool) (f : ℕ → List A) (a n d : ℕ) (x : A) → find p (flat_map f (range_with_len a n)) ≡ Some x
    → find p (flat_map f (range_with_len a (n + d))) ≡ Some x
found_longer p f a n zero x some = let size : n + 0 ≡ n = omega arith in ap (λ m. find p (flat_map f (range_with_len a m))) size ∙ some
found_longer p f a n (suc d) x some =
    ap (find p) (flat_more f a (n + d) (n + suc d) (a + (n + d)) (omega arith) refl)
    ∙ found_first p (flat_map f (range_with_len a (n + d))) (f (a + (n + d))) x (found_longer p f a n d x some)

-- if an item is the first in its list and no earlier list has one, it is the first of all
pub found_stops : {A : Type 0} (p : A → Bool) (f : ℕ → List A) (a n j count : ℕ) (x : A) → a + n ≡ j → n < count
    → find p (flat_map f (range_with_len a n)) ≡ None → find p (f j) ≡ Some x → find p (flat_map f (range_with_len a count)) ≡ Some x
found_stops p f a n j count x at less none some =
    let size : n + 1 + (count - (n + 1)) ≡ count = omega arith in
    ap (λ m. find p (flat_map f (range_with_len a m))) (sym size)
    ∙ found_longer p f a (n + 1) (count - (n + 1)) x (found_more p f a n j (n + 1) (Some x) at refl none some)
