-- Sums over lists, and over the numbers below a limit.
use Rattle.std.specs.Prelude.{ℕ, zero, suc, ◌+◌, List, [], ◌∷◌, ◌==◌, nat_le, if◌then◌else◌, min}
use Rattle.count_table.specs.declared.rule.Mark.{Mark}

-- the sum of a weight over a list (this project)
unfoldable pub total : {A : Type 0} → (A → ℕ) → List A → ℕ
total weight [] = 0
total weight (x ∷ xs) = weight x + total weight xs

-- the sum of a weight over the numbers below n (this project)
unfoldable pub below : (ℕ → ℕ) → ℕ → ℕ
below weight zero = 0
below weight (suc n) = below weight n + weight n

-- 1 if n is not below a bound, else 0 (this project)
abbrev pub past : ℕ → ℕ → ℕ
past bound n = if nat_le bound n then 1 else 0

-- the number of draws past the last piece (this project)
abbrev pub late : ℕ → List ℕ → ℕ
late pieces draws = total (past pieces) draws

-- the amount of a mark if it is for this word, else 0 (this project)
abbrev pub amount_at : ℕ → Mark → ℕ
amount_at word mark = if mark.word == word then mark.amount else 0

-- the sum of the marks for a word (this project)
abbrev pub sum_at : ℕ → List Mark → ℕ
sum_at word marks = total (amount_at word) marks

-- the least of 2^64 - 1 and the marks for a word (this project)
unfoldable pub least_at : ℕ → List Mark → ℕ
least_at word [] = 18446744073709551615
least_at word (mark ∷ marks) = if mark.word == word then min mark.amount (least_at word marks) else least_at word marks
