-- Bytes written into a file without a name.
use Rattle.std.proofs.Common.{◌≡◌, ℕ, ◌+◌, ◌-◌, ◌∙◌, sym, ap, List, ◌++◌, length, take, drop, arith, inl, inr}
use Rattle.std.specs.Prelude.{replicate}
use Rattle.std.proofs.Math.Seq.{take-append-add, drop-append-add}
use Rattle.std.proofs.lemmas.Bool.{cases_lt}
use Rattle.std.proofs.lemmas.List.{append-nil, take-append-le, take-replicate, take_all, drop_all, drop-replicate}
use Rattle.vol_file.specs.Changes.{spliced}

-- the bytes before an offset, of a file that was lengthened with zeros past the offset
take_grown : (old : List ℕ) (offset more : ℕ)
    → take offset (old ++ replicate ((offset + more) - length old) 0) ≡ take offset old ++ replicate (offset - length old) 0
take_grown old offset more = elim (cases_lt offset (length old)) [
  | inl within ↦
      let none : offset - length old ≡ 0 = omega (arith, within) in
      take-append-le offset old (replicate ((offset + more) - length old) 0) (omega (arith, within))
      ∙ sym (ap (λ n. take offset old ++ replicate n 0) none ∙ append-nil (take offset old))
  | inr past ↦
      let place : length old + (offset - length old) ≡ offset = omega (arith, past) in
      ap (λ n. take n (old ++ replicate ((offset + more) - length old) 0)) (sym place)
      ∙ (take-append-add old (replicate ((offset + more) - length old) 0) (offset - length old)
      ∙ (ap (λ xs. old ++ xs) (take-replicate (offset - length old) ((offset + more) - length old) 0 (omega (arith, past)))
      ∙ sym (ap (λ xs. xs ++ replicate (offset - length old) 0) (take_all offset old past))))
]

-- the bytes from an offset on, of a file that was lengthened with zeros up to the offset
drop_grown : (old : List ℕ) (end : ℕ) → drop end (old ++ replicate (end - length old) 0) ≡ drop end old
drop_grown old end = elim (cases_lt end (length old)) [
  | inl within ↦
      let none : end - length old ≡ 0 = omega (arith, within) in
      ap (λ n. drop end (old ++ replicate n 0)) none ∙ ap (λ xs. drop end xs) (append-nil old)
  | inr past ↦
      let place : length old + (end - length old) ≡ end = omega (arith, past) in
      let none : (end - length old) - (end - length old) ≡ 0 = omega arith in
      ap (λ n. drop n (old ++ replicate (end - length old) 0)) (sym place)
      ∙ (drop-append-add old (replicate (end - length old) 0) (end - length old)
      ∙ (drop-replicate (end - length old) (end - length old) 0
      ∙ (ap (λ n. replicate n 0) none ∙ sym (drop_all end old past))))
]

-- bytes put over the last bytes of a file that was lengthened with zeros up to their end are written at their offset
pub spliced_grown : (old text : List ℕ) (offset end : ℕ) → end ≡ offset + length text
    → take (end - length text) (old ++ replicate (end - length old) 0) ++ (text ++ drop end (old ++ replicate (end - length old) 0))
    ≡ spliced old offset text
spliced_grown old text offset end is =
    let start : end - length text ≡ offset = omega (arith, is) in
    let front : take (end - length text) (old ++ replicate (end - length old) 0) ≡ take offset old ++ replicate (offset - length old) 0 =
    ap (λ n. take n (old ++ replicate (end - length old) 0)) start
    ∙ (ap (λ n. take offset (old ++ replicate (n - length old) 0)) is ∙ take_grown old offset (length text)) in
    let rest : drop end (old ++ replicate (end - length old) 0) ≡ drop (offset + length text) old = drop_grown old end ∙ ap (λ n. drop n old) is in
    ap (λ xs. xs ++ (text ++ drop end (old ++ replicate (end - length old) 0))) front
    ∙ ap (λ xs. (take offset old ++ replicate (offset - length old) 0) ++ (text ++ xs)) rest
