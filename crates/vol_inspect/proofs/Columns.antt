-- Numbers in columns.
use Rattle.std.proofs.Common.{◌≡◌, ◌-◌, ◌++◌, ◌∷◌, ◌^◌, ℕ, List, [], arith, length, refl, ap, ◌∙◌}
use Rattle.std.proofs.Math.Nat.{sub_self}
use Rattle.std.proofs.Math.Utf8.{encode}
use Rattle.std.proofs.lemmas.List.{append-nil, append_assoc}
use Rattle.std.proofs.lemmas.Str.{encode_ascii}
use Rattle.std.specs.Fmt.{char_count, decimal, format_spec, padded_integral, styled_decimal}
use Rattle.std.specs.List.{repeat}
use Rattle.vol_inspect.specs.Pictures.{number_column}
use Rattle.vol_inspect.specs.Space.{column}

-- a text that is padded on the left has the fill before it, and nothing after it
pub filled : (fill space xs : List ℕ) (p k : ℕ) → fill ≡ space → p ≡ k → (((repeat p fill ++ []) ++ []) ++ []) ++ (xs ++ repeat (p - p) fill) ≡ repeat k space ++ xs
filled fill space xs p k same is =
    let none = append-nil (repeat k space) in
    rw (same, is, sub_self k, none, none, none, append-nil xs) refl

-- a number formatted in a width of 10 is right-aligned in the column
pub in_column : (n : ℕ) → styled_decimal (format_spec 32 3 0 10 (2 ^ 64 - 1)) n ≡ column n
unfolding padded_integral char_count
in_column n =
    filled (encode 32) (32 ∷ []) (decimal n) (10 - length (decimal n) - 0 - 0) (10 - length (decimal n)) (encode_ascii 32 (omega arith)) (omega arith)

-- a number formatted in a width of 7 is right-aligned in the column
pub in_number_column : (n : ℕ) → styled_decimal (format_spec 32 3 0 7 (2 ^ 64 - 1)) n ≡ number_column n
unfolding padded_integral char_count
in_number_column n =
    filled (encode 32) (32 ∷ []) (decimal n) (7 - length (decimal n) - 0 - 0) (7 - length (decimal n)) (encode_ascii 32 (omega arith)) (omega arith)

-- five texts appended one after another are their concatenation
pub in_turn : (t t1 t2 t3 t4 h a b c f : List ℕ) → t1 ≡ t ++ h → t2 ≡ t1 ++ a → t3 ≡ t2 ++ b → t4 ≡ t3 ++ c
    → t4 ++ f ≡ t ++ (h ++ (a ++ (b ++ (c ++ f))))
in_turn t t1 t2 t3 t4 h a b c f e1 e2 e3 e4 =
    ap (λ x. x ++ f) (e4 ∙ ap (λ x. x ++ c) (e3 ∙ ap (λ x. x ++ b) (e2 ∙ ap (λ x. x ++ a) e1)))
    ∙ (append_assoc (((t ++ h) ++ a) ++ b) c f ∙ (append_assoc ((t ++ h) ++ a) b (c ++ f)
    ∙ (append_assoc (t ++ h) a (b ++ (c ++ f)) ∙ append_assoc t h (a ++ (b ++ (c ++ f))))))
