-- Storing findings at the indexes of their receipts, one after another.
use Rattle.std.proofs.Common.{◌≡◌, ◌⊎◌, ℕ, zero, suc, ◌+◌, ◌-◌, ◌<◌, ◌≤◌, List, [], ◌∷◌, ◌++◌, length, get_or, refl, ap, sym, subst, ◌∙◌, inl, inr, arith, below_more}
use Rattle.std.specs.Prelude.{Option, Some, None}
use Rattle.std.specs.List.{slice_get, All, Contains}
use Rattle.std.proofs.Math.ListN.{set, length-set}
use Rattle.std.specs.List.Sorted.{IsPermutation, IsNonDecreasingBy}
use Rattle.std.proofs.lemmas.List.Elements.{All-get_or, All-push, Contains-append_left, Contains-push}
use Rattle.std.proofs.lemmas.List.Sorted.{All-permutation, Contains-permutation}
use Rattle.std.proofs.lemmas.List.{get_or_default}
use Rattle.std.proofs.lemmas.Option.{get_or_from_slice_get, slice_get_within}
use Rattle.vol_volume.specs.Volume.{Mounted}
use Rattle.vol_volume.specs.declared.calls.Record.{Record}
use Rattle.vol_receipts.specs.Findings.{IsFound, AreFound, IsNumberOf, IsInOrder}
use Rattle.vol_receipts.specs.Replay.{HasAtMost}
use Rattle.vol_receipts.specs.declared.confirm_many.ReceiptStatus.{ReceiptStatus}
use Rattle.vol_receipts.specs.declared.confirm_many.Numbered.{Numbered}
use Rattle.vol_receipts.specs.declared.receipts.Origin.{Origin}
use Rattle.vol_receipts.specs.declared.receipts.Receipt.{Receipt}

-- after a write at index `k`, the element at `k` is the written one, and any other element is the old one
get_set : {X : Type 0} (xs : List X) (k i : ℕ) (y z : X) → slice_get (set xs k y) i ≡ Some z
    → ((i ≡ k) × (z ≡ y)) ⊎ ((i ≡ k → ⊥) × (slice_get xs i ≡ Some z))
get_set [] zero i y z is = cc
get_set [] (suc k) i y z is = cc
get_set (x ∷ xs) zero zero y z is = inl (refl, cc)
get_set (x ∷ xs) zero (suc i) y z is = inr ((λ at. omega (arith, at)), is)
get_set (x ∷ xs) (suc k) zero y z is = inr ((λ at. omega (arith, at)), is)
get_set (x ∷ xs) (suc k) (suc i) y z is =
    elim (get_set xs k i y z is) as (λ _. ((suc i ≡ suc k) × (z ≡ y)) ⊎ ((suc i ≡ suc k → ⊥) × (slice_get xs i ≡ Some z)))
    [ inl at ↦ inl (ap suc at.0, at.1) | inr there ↦ inr ((λ at. there.0 (omega (arith, at))), there.1) ]

-- the element at an index is the right finding on the receipt with that index
abbrev pub IsFoundAt : Origin → List Record → List Receipt → List ReceiptStatus → ℕ → Type 0
IsFoundAt origin journal receipts findings i =
    (receipt : Receipt) (finding : ReceiptStatus)
    → slice_get receipts i ≡ Some receipt
    → slice_get findings i ≡ Some finding
    → IsFound origin journal receipt finding

-- the findings on the receipts of the first `k` numbers are right
pub record AreFoundUpTo (origin : Origin) (journal : List Record) (receipts : List Receipt) (order : List Numbered) (findings : List ReceiptStatus) (k : ℕ) : Type 0 where
  pub len : length findings ≡ length receipts
  pub each : (j : ℕ) (d : Numbered) → j < k → IsFoundAt origin journal receipts findings (get_or order j d).index

-- storing a right finding makes the finding at its index right, and no other finding wrong
put_found : (origin : Origin) (journal : List Record) (receipts : List Receipt) (findings : List ReceiptStatus) (k i : ℕ) (receipt : Receipt) (finding : ReceiptStatus)
    → slice_get receipts k ≡ Some receipt
    → IsFound origin journal receipt finding
    → ((i ≡ k) ⊎ IsFoundAt origin journal receipts findings i)
    → IsFoundAt origin journal receipts (set findings k finding) i
put_found origin journal receipts findings k i receipt finding here found before other told at stands =
    elim (get_set findings k i finding told stands) as (λ _. IsFound origin journal other told) [
      | inl put ↦
          let same : receipt ≡ other = cc in
          subst (λ f. IsFound origin journal other f) (sym put.1) (subst (λ r. IsFound origin journal r finding) same found)
      | inr kept ↦ elim before as (λ _. IsFound origin journal other told)
          [ inl here_too ↦ absurd (kept.0 here_too) | inr right ↦ right other told at kept.1 ]
    ]

-- after one more right finding is stored, the findings of the first `k` + 1 numbers are right
pub found_more : (origin : Origin) (journal : List Record) (receipts : List Receipt) (order : List Numbered) (findings : List ReceiptStatus) (k : ℕ)
    (receipt : Receipt) (finding : ReceiptStatus) (d : Numbered)
    → AreFoundUpTo origin journal receipts order findings k
    → slice_get receipts (get_or order k d).index ≡ Some receipt
    → k < length order
    → IsFound origin journal receipt finding
    → AreFoundUpTo origin journal receipts order (set findings (get_or order k d).index finding) (k + 1)
found_more origin journal receipts order findings k receipt finding d before here within found = record {
  len = length-set findings (get_or order k d).index finding ∙ before.len;
  each = λ j e. below_more (λ j. IsFoundAt origin journal receipts (set findings (get_or order k d).index finding) (get_or order j e).index) k
      (λ j below. put_found origin journal receipts findings (get_or order k d).index (get_or order j e).index receipt finding here found
      (inr (before.each j e below)))
      (put_found origin journal receipts findings (get_or order k d).index (get_or order k e).index receipt finding here found
      (inl (ap (λ n. n.index) (get_or_default order k e d within))))
      j;
}

-- once all numbers are visited, all findings are right
pub found_all : (origin : Origin) (journal : List Record) (receipts : List Receipt) (order : List Numbered) (findings : List ReceiptStatus) (k : ℕ)
    → IsInOrder receipts order
    → k ≡ length order
    → AreFoundUpTo origin journal receipts order findings k
    → AreFound origin journal receipts findings
found_all origin journal receipts order findings k in_order end done = record {
  len = done.len;
  each = λ i receipt finding at stands.
      let there : Contains order (record { at = receipt.at; index = i }) = in_order.whole i receipt at in
      let index : (get_or order there.0 (record { at = receipt.at; index = i })).index ≡ i = ap (λ n. n.index) there.2 in
      subst (IsFoundAt origin journal receipts findings) index
      (done.each there.0 (record { at = receipt.at; index = i }) (omega (arith, there.1))) receipt finding at stands;
}

-- a volume with at most `m` replayed records has at most `n` of them, if `m` ≤ `n`
pub at_most_more : (volume : Mounted) (again : Option Mounted) (m n : ℕ) → m ≤ n → HasAtMost volume again m → HasAtMost volume again n
at_most_more volume None m n le behind = behind
at_most_more volume (Some made) m n le behind = (behind.0, omega (arith, behind.1, le))

-- the first `k` receipts have their numbers in `order`
pub record AreNumbered (receipts : List Receipt) (order : List Numbered) (k : ℕ) : Type 0 where
  pub right : All (IsNumberOf receipts) order
  pub whole : (j : ℕ) (receipt : Receipt) → j < k → slice_get receipts j ≡ Some receipt → Contains order (record { at = receipt.at; index = j })

-- after the number of receipt `k` is appended, the first `k` + 1 receipts have their numbers in the list
pub numbered_more : (receipts : List Receipt) (order : List Numbered) (k : ℕ) (receipt : Receipt) → AreNumbered receipts order k
    → slice_get receipts k ≡ Some receipt
    → AreNumbered receipts (order ++ record { at = receipt.at; index = k } ∷ []) (k + 1)
numbered_more receipts order k receipt before here = record {
  right = All-push (IsNumberOf receipts) order (record { at = receipt.at; index = k }) before.right (receipt, here, refl);
  whole = λ j other below at. below_more
      (λ j. (other : Receipt) → slice_get receipts j ≡ Some other
      → Contains (order ++ record { at = receipt.at; index = k } ∷ []) (record { at = other.at; index = j }))
      k
      (λ j under other at. Contains-append_left order (record { at = receipt.at; index = k } ∷ []) (record { at = other.at; index = j })
      (before.whole j other under at))
      (λ other at.
      let same : receipt ≡ other = cc in
      subst (λ r. Contains (order ++ record { at = receipt.at; index = k } ∷ []) (record { at = r.at; index = k })) same
      (Contains-push order (record { at = receipt.at; index = k })))
      j below other at;
}

-- once all receipts are numbered and their numbers are sorted, they are in order
pub in_order : (receipts : List Receipt) (order sorted : List Numbered) (k : ℕ) → AreNumbered receipts order k → length receipts ≤ k
    → IsPermutation order sorted
    → IsNonDecreasingBy (λ numbered. numbered.at) sorted
    → IsInOrder receipts sorted
in_order receipts order sorted k all end moved ascending = record {
  ascending = ascending;
  right = All-permutation (IsNumberOf receipts) order sorted moved all.right;
  whole = λ j receipt at. Contains-permutation order sorted (record { at = receipt.at; index = j }) moved
      (all.whole j receipt (omega (arith, slice_get_within receipts j receipt at, end)) at);
}

-- the index stored with a number belongs to one of the receipts
pub place_within : (receipts : List Receipt) (order : List Numbered) (k : ℕ) (d : Numbered) → All (IsNumberOf receipts) order → k < length order
    → (get_or order k d).index < length receipts
place_within receipts order k d right within =
    let number : IsNumberOf receipts (get_or order k d) = All-get_or (IsNumberOf receipts) order k d within right in
    slice_get_within receipts (get_or order k d).index number.0 number.1

-- the receipt at the index stored with a number has that number
pub receipt_at : (receipts : List Receipt) (order : List Numbered) (k : ℕ) (d : Numbered) (read : Receipt) → All (IsNumberOf receipts) order
    → k < length order
    → read ≡ get_or receipts (get_or order k d).index read
    → (slice_get receipts (get_or order k d).index ≡ Some read) × ((get_or order k d).at ≡ read.at)
receipt_at receipts order k d read right within is =
    let number : IsNumberOf receipts (get_or order k d) = All-get_or (IsNumberOf receipts) order k d within right in
    let same : number.0 ≡ read = sym (get_or_from_slice_get receipts (get_or order k d).index number.0 read number.1) ∙ sym is in
    (number.1 ∙ ap Some same, number.2 ∙ ap (λ r. r.at) same)

-- a later number in ascending order isn't smaller, also after `first` is subtracted from both
pub later_number : (order : List Numbered) (k j : ℕ) (d e : Numbered) (at first : ℕ) → IsNonDecreasingBy (λ numbered. numbered.at) order
    → (get_or order k d).at ≡ at
    → k + 1 ≤ j
    → j < length order
    → at - first ≤ (get_or order j e).at - first
later_number order k j d e at first ascending here above below =
    let up : (get_or order k d).at ≤ (get_or order j d).at = ascending k j d (omega (arith, above)) below in
    let there : (get_or order j d).at ≡ (get_or order j e).at = ap (λ n. n.at) (get_or_default order j d e below) in
    omega arith
