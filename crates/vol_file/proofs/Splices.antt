-- The body of a file after bytes were written to it.
use Rattle.std.proofs.Common.{◌≡◌, ℕ, ◌+◌, ◌-◌, ◌<◌, ◌≤◌, ◌∙◌, sym, ap, List, ◌++◌, length, get_or, take, drop, max, refl, arith, inl, inr}
use Rattle.std.specs.Prelude.{replicate}
use Rattle.std.proofs.lemmas.Bool.{cases_lt}
use Rattle.std.proofs.lemmas.List.{length-append, length-take, length-drop, length-replicate, get_or_append_left, get_or-append_right, get_or-take, get_or-drop, get_or-replicate}
use Rattle.std.proofs.lemmas.Grind.{same_number_lists}
use Rattle.vol_file.specs.Changes.{spliced}

-- the length of `spliced` is the larger of the old length and the end of the text
pub length-spliced : (bytes : List ℕ) (offset : ℕ) (text : List ℕ) → length (spliced bytes offset text) ≡ max (length bytes) (offset + length text)
length-spliced bytes offset text =
    let whole = length-append (take offset bytes ++ replicate (offset - length bytes) 0) (text ++ drop (offset + length text) bytes) in
    let left = length-append (take offset bytes) (replicate (offset - length bytes) 0) in
    let right = length-append text (drop (offset + length text) bytes) in
    let first = length-take offset bytes in
    let zeros = length-replicate {A = ℕ} (offset - length bytes) 0 in
    let last = length-drop (offset + length text) bytes in
    omega (arith, whole, left, right, first, zeros, last)

-- a list with the length and the bytes of `spliced` is `spliced`
pub spliced_is : (xs bytes : List ℕ) (offset : ℕ) (text : List ℕ) → length xs ≡ max (length bytes) (offset + length text)
    → ((n : ℕ) → n < offset → n < length bytes → get_or xs n 0 ≡ get_or bytes n 0)
    → ((n : ℕ) → length bytes ≤ n → n < offset → get_or xs n 0 ≡ 0)
    → ((n : ℕ) → offset ≤ n → n < offset + length text → get_or xs n 0 ≡ get_or text (n - offset) 0)
    → ((n : ℕ) → offset + length text ≤ n → n < length bytes → get_or xs n 0 ≡ get_or bytes n 0)
    → xs ≡ spliced bytes offset text
spliced_is xs bytes offset text len low gap middle high =
    let left : length (take offset bytes ++ replicate (offset - length bytes) 0) ≡ offset =
    omega (arith, length-append (take offset bytes) (replicate (offset - length bytes) 0), length-take offset bytes, length-replicate {A = ℕ} (offset - length bytes) 0) in
    let front = take offset bytes ++ replicate (offset - length bytes) 0 in
    let back = text ++ drop (offset + length text) bytes in
    same_number_lists xs (spliced bytes offset text) (len ∙ sym (length-spliced bytes offset text))
    (λ n h. elim (cases_lt n offset) [
      | inl before ↦
          let split : get_or (front ++ back) n 0 ≡ get_or front n 0 = get_or_append_left front back 0 n (omega (arith, left, before)) in
          elim (cases_lt n (length bytes)) [
            | inl there ↦
                let part : n < length (take offset bytes) = omega (arith, length-take offset bytes, before, there) in
                low n before there
                ∙ sym (split ∙ (get_or_append_left (take offset bytes) (replicate (offset - length bytes) 0) 0 n part ∙ get_or-take offset bytes n 0 before))
            | inr past ↦
                let part : length (take offset bytes) ≡ length bytes = omega (arith, length-take offset bytes, before, past) in
                gap n past before
                ∙ sym (split ∙ (get_or-append_right (take offset bytes) (replicate (offset - length bytes) 0) (length bytes) n 0 part past
                ∙ get_or-replicate (offset - length bytes) (n - length bytes) 0 0 (omega arith)))
          ]
      | inr after ↦
          let split : get_or (front ++ back) n 0 ≡ get_or back (n - offset) 0 = get_or-append_right front back offset n 0 left after in
          elim (cases_lt (n - offset) (length text)) [
            | inl there ↦ middle n after (omega arith) ∙ sym (split ∙ get_or_append_left text (drop (offset + length text) bytes) 0 (n - offset) there)
            | inr past ↦
                let place : offset + length text + (n - offset - length text) ≡ n = omega arith in
                let within : n < length bytes = omega (arith, len, h, past, after) in
                high n (omega arith) within
                ∙ sym (split ∙ (get_or-append_right text (drop (offset + length text) bytes) (length text) (n - offset) 0 refl past
                ∙ (get_or-drop (offset + length text) bytes (n - offset - length text) 0 ∙ ap (λ x. get_or bytes x 0) place)))
          ]
    ])
