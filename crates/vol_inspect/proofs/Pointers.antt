-- The pointers of a path through a block map.
use Rattle.std.proofs.Common.{◌≡◌, ◌∙◌, ℕ, zero, suc, ◌+◌, ◌-◌, ◌≤◌, ◌<◌, List, [], ◌++◌, codes, decimal, drop, ap, refl, arith}
use Rattle.std.specs.Prelude.{slice_index}
use Rattle.vol_layout.specs.BlockMaps.{place_to}
use Rattle.vol_inspect.specs.OwnerTexts.{pointers_text}

-- dropping the last `d` of `n` + `d` entries leaves the path of `n` entries
cut : (k : ℕ) (entries : List ℕ) (n d : ℕ) → drop d (place_to k entries (n + d)) ≡ place_to k entries n
cut k entries n zero = ap (place_to k entries) (omega arith)
cut k entries n (suc d) =
    let more : n + suc d ≡ suc (n + d) = omega arith in
    ap (λ m. drop (suc d) (place_to k entries m)) more ∙ cut k entries n d

-- dropping the last `d` of `n` entries leaves the path of `n` - `d` entries
pub cut_way : (k : ℕ) (entries : List ℕ) (n d : ℕ) → d ≤ n → drop d (place_to k entries n) ≡ place_to k entries (n - d)
cut_way k entries n d few =
    let whole : n ≡ n - d + d = omega (arith, few) in
    ap (λ m. drop d (place_to k entries m)) whole ∙ cut k entries (n - d) d

-- dropping more than all entries leaves nothing
pub cut_all : (k : ℕ) (entries : List ℕ) (n d : ℕ) → n < d → drop d (place_to k entries n) ≡ []
cut_all k entries n zero many = absurd (omega (arith, many))
cut_all k entries zero (suc zero) many = refl
cut_all k entries zero (suc (suc d)) many = refl
cut_all k entries (suc n) (suc d) many = cut_all k entries n d (omega (arith, many))

-- the text of a path without entries is that of its address
pub pointers_none : (k : ℕ) (entries : List ℕ) → pointers_text (place_to k entries 0) ≡ codes ", addr[" ++ (decimal k ++ codes "]")
unfolding pointers_text
pointers_none k entries = refl

-- the text of a path with one more entry ends with that entry
one_more : (k : ℕ) (entries : List ℕ) (n : ℕ) → pointers_text (place_to k entries (suc n))
    ≡ pointers_text (place_to k entries n) ++ (codes "[" ++ (decimal (slice_index entries n) ++ codes "]"))
unfolding pointers_text
one_more k entries zero = refl
one_more k entries (suc n) = refl

pub pointers_more : (k : ℕ) (entries : List ℕ) (n : ℕ) → pointers_text (place_to k entries (n + 1))
    ≡ pointers_text (place_to k entries n) ++ (codes "[" ++ (decimal (slice_index entries n) ++ codes "]"))
pointers_more k entries n = let next : n + 1 ≡ suc n = omega arith in ap (λ m. pointers_text (place_to k entries m)) next ∙ one_more k entries n
