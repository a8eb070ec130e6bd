-- Matching patterns with names, byte by byte.
use Rattle.std.proofs.Common.{◌≡◌, ◌≢◌, ◌≤◌, ◌-◌, ◌∙◌, ℕ, ◌||◌, ◌==◌, Bool, true, false, List, [], ◌∷◌, zero, suc, true≢false, refl, ap, sym, arith, length, take, drop, get_or}
use Rattle.std.proofs.lemmas.Bool.{ne_eqb}
use Rattle.std.proofs.lemmas.List.{take_all}
use Rattle.name_patterns.specs.Like.{ends_like, is_like, last_name, stands_for}

-- `(a || b) || b` is `a || b`
twice : (a b : Bool) → ((a || b) || b) ≡ (a || b)
twice true b = refl
twice false true = refl
twice false false = refl

-- removing bytes from the start of a name twice is the same as once
ends_twice : (like : List ℕ → Bool) (name : List ℕ) → ends_like (ends_like like) name ≡ ends_like like name
unfolding ends_like
ends_twice like [] = refl
ends_twice like (c ∷ name) = ap (λ b. (like (c ∷ name) || ends_like like name) || b) (ends_twice like name) ∙ twice (like (c ∷ name)) (ends_like like name)

-- a list without its first item is its rest
tail_is : (c : ℕ) (xs : List ℕ) (k : ℕ) → k ≡ length (c ∷ xs) - 1 → take k (drop 1 (c ∷ xs)) ≡ xs
tail_is c xs k is = take_all k xs (omega (arith, is))

-- a length that isn't 0 is at least 1
pub some_of : (n : ℕ) (b : Bool) → b ≡ (n == 0) → b ≡ false → 1 ≤ n
some_of zero b is not = absurd (true≢false (sym is ∙ not))
some_of (suc n) b is not = omega arith

pub none_of : (n : ℕ) (b : Bool) → b ≡ (n == 0) → b ≡ true → n ≡ 0
none_of zero b is so = refl
none_of (suc n) b is so = absurd (true≢false (sym so ∙ (is ∙ ne_eqb (suc n) 0 (λ e. absurd (omega (arith, e))))))

-- an empty pattern matches only the empty name
pub at_none : (pattern name : List ℕ) → length pattern ≡ 0 → is_like pattern name ≡ (length name == 0)
unfolding is_like
at_none [] name none = refl
at_none (p ∷ pattern) name none = absurd (omega arith)

-- a pattern that begins with `*` matches a name if its rest matches some end of the name
pub at_star : (pattern name : List ℕ) (k : ℕ) → k ≡ length pattern - 1 → 1 ≤ length pattern → get_or pattern 0 0 ≡ 42
    → is_like pattern name ≡ ends_like (is_like (take k (drop 1 pattern))) name
unfolding is_like
at_star [] name k same some is = absurd (omega arith)
at_star (p ∷ pattern) name k same some is = rw (tail_is p pattern k same, is) refl

-- a pattern that begins with another byte doesn't match the empty name
pub at_short : (pattern name : List ℕ) → 1 ≤ length pattern → get_or pattern 0 0 ≢ 42 → length name ≡ 0 → is_like pattern name ≡ false
unfolding is_like
at_short [] name some not none = absurd (omega arith)
at_short (p ∷ pattern) (c ∷ name) some not none = absurd (omega arith)
at_short (p ∷ pattern) [] some not none = rw (ne_eqb p 42 not) refl

pub at_apart : (pattern name : List ℕ) → 1 ≤ length pattern → 1 ≤ length name → get_or pattern 0 0 ≢ 42
    → stands_for (get_or pattern 0 0) (get_or name 0 0) ≡ false → is_like pattern name ≡ false
unfolding is_like
at_apart [] name some more not apart = absurd (omega arith)
at_apart (p ∷ pattern) [] some more not apart = absurd (omega arith)
at_apart (p ∷ pattern) (c ∷ name) some more not apart = rw (ne_eqb p 42 not, apart) refl

pub at_next : (pattern name : List ℕ) (k j : ℕ) → k ≡ length pattern - 1 → j ≡ length name - 1 → 1 ≤ length pattern → 1 ≤ length name
    → get_or pattern 0 0 ≢ 42 → stands_for (get_or pattern 0 0) (get_or name 0 0) ≡ true
    → is_like pattern name ≡ is_like (take k (drop 1 pattern)) (take j (drop 1 name))
unfolding is_like
at_next [] name k j sk sj some more not stands = absurd (omega arith)
at_next (p ∷ pattern) [] k j sk sj some more not stands = absurd (omega arith)
at_next (p ∷ pattern) (c ∷ name) k j sk sj some more not stands = rw (ne_eqb p 42 not, tail_is p pattern k sk, tail_is c name j sj, stands) refl

-- if a whole name is accepted, some end of it is
pub ends_here : (like : List ℕ → Bool) (name : List ℕ) → like name ≡ true → ends_like like name ≡ true
unfolding ends_like
ends_here like [] is = is
ends_here like (c ∷ name) is = rw is refl

pub ends_none : (like : List ℕ → Bool) (name : List ℕ) → length name ≡ 0 → ends_like like name ≡ like name
unfolding ends_like
ends_none like [] none = refl
ends_none like (c ∷ name) none = absurd (omega arith)

pub ends_next : (like : List ℕ → Bool) (name : List ℕ) (k : ℕ) → k ≡ length name - 1 → 1 ≤ length name → like name ≡ false
    → ends_like like name ≡ ends_like like (take k (drop 1 name))
unfolding ends_like
ends_next like [] k same some is = absurd (omega arith)
ends_next like (c ∷ name) k same some is = rw (tail_is c name k same, is) refl

-- a pattern that begins with `*` matches some end of a name if and only if its rest does
pub after_star : (pattern name : List ℕ) (k : ℕ) → k ≡ length pattern - 1 → 1 ≤ length pattern → get_or pattern 0 0 ≡ 42
    → ends_like (is_like (take k (drop 1 pattern))) name ≡ ends_like (is_like pattern) name
unfolding is_like
after_star [] name k same some is = absurd (omega arith)
after_star (p ∷ pattern) name k same some is = rw (tail_is p pattern k same, is) (sym (ends_twice (is_like pattern) name))

-- after a slash, the last name starts anew
pub at_slash : (name rest : List ℕ) (k : ℕ) → k ≡ length rest - 1 → 1 ≤ length rest → get_or rest 0 0 ≡ 47
    → last_name (take k (drop 1 rest)) (take k (drop 1 rest)) ≡ last_name name rest
unfolding last_name
at_slash name [] k same some is = absurd (omega arith)
at_slash name (c ∷ rest) k same some is = rw (tail_is c rest k same, is) refl

-- any other byte belongs to the current name
pub at_byte : (name rest : List ℕ) (k : ℕ) → k ≡ length rest - 1 → 1 ≤ length rest → get_or rest 0 0 ≢ 47
    → last_name name (take k (drop 1 rest)) ≡ last_name name rest
unfolding last_name
at_byte name [] k same some not = absurd (omega arith)
at_byte name (c ∷ rest) k same some not = rw (tail_is c rest k same, ne_eqb c 47 not) refl

-- at the end of a path, the current name is the last name
pub at_end : (name rest : List ℕ) → length rest ≡ 0 → last_name name rest ≡ name
unfolding last_name
at_end name [] none = refl
at_end name (c ∷ rest) none = absurd (omega arith)
