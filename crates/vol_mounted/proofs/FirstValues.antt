-- The first value at numbers, and the first name of a node.
use Rattle.std.proofs.Common.{◌≡◌, ◌∙◌, sym, ap, ℕ, zero, suc, ◌+◌, ◌-◌, ◌<◌, ◌≤◌, arith, List, Option, None, Ok, Err, inl, inr}
use Rattle.std.proofs.lemmas.Bool.{cases_lt}
use Rattle.std.specs.Option.{option_or}
use Rattle.vol_layout.specs.declared.geometry.Geometry.{Geometry}
use Rattle.vol_dir.specs.Entries.{entry_at, slot_count}
use Rattle.vol_dir.specs.Names.{Names}
use Rattle.vol_dir.specs.Tree.{tree}
use Rattle.vol_serve.specs.Nodes.{names_in}
use Rattle.vol_serve.specs.declared.nodes.fault.NodeFault.{NodeFault}
use Rattle.vol_mounted.specs.Records.{first_value, if_directory, name_for, name_in}

-- if the numbers from n up to `found` have no value, the first value from n on is the first one from `found` on
value_on : {X : Type 0} (value : ℕ → Option X) (count n found : ℕ) → n ≤ found → found ≤ n + count
    → ((t : ℕ) → n ≤ t → t < found → value t ≡ None) → first_value value n count ≡ first_value value found (n + count - found)
unfolding first_value
value_on value zero n found low high none =
    let over : n + 0 - found ≡ 0 = omega arith in sym (ap (λ left. first_value value found left) over)
value_on value (suc count) n found low high none =
    elim (cases_lt n found) [
      | inl below ↦
          let same : n + 1 + count - found ≡ n + suc count - found = omega arith in
          ap (λ first. option_or first (first_value value (n + 1) count)) (none n (omega arith) below)
          ∙ (value_on value count (n + 1) found (omega arith) (omega arith) (λ t from_ to. none t (omega arith) to)
          ∙ ap (λ left. first_value value found left) same)
      | inr reached ↦
          let here : n ≡ found = omega arith in
          let all : suc count ≡ n + suc count - found = omega arith in
          ap (λ s. first_value value s (suc count)) here ∙ ap (λ left. first_value value found left) all
    ]

-- the first value from n on is the value at n, or else the first one after n
pub value_step : {X : Type 0} (value : ℕ → Option X) (n count : ℕ) → 1 ≤ count
    → first_value value n count ≡ option_or (value n) (first_value value (n + 1) (count - 1))
unfolding first_value
value_step value n zero some = absurd (omega arith)
value_step value n (suc count) some =
    let left : count ≡ suc count - 1 = omega arith in ap (λ k. option_or (value n) (first_value value (n + 1) k)) left

-- without numbers there is no value
pub value_none : {X : Type 0} (value : ℕ → Option X) (n count : ℕ) → count ≡ 0 → first_value value n count ≡ None
unfolding first_value
value_none value n zero none = ap (λ k. first_value value n k) none
value_none value n (suc count) none = absurd (omega arith)

-- if the numbers up to `found` have no value, the first value is the one at `found`, or else the first one after it
pub value_next : {X : Type 0} (value : ℕ → Option X) (from count found : ℕ) → from ≤ found → found < count
    → ((t : ℕ) → from ≤ t → t < found → value t ≡ None)
    → first_value value from (count - from) ≡ option_or (value found) (first_value value (found + 1) (count - (found + 1)))
value_next value from count found reached within none =
    let left : from + (count - from) - found ≡ count - found = omega arith in
    let less : count - found - 1 ≡ count - (found + 1) = omega arith in
    value_on value (count - from) from found reached (omega arith) none
    ∙ (ap (λ k. first_value value found k) left
    ∙ (value_step value found (count - found) (omega arith)
    ∙ ap (λ k. option_or (value found) (first_value value (found + 1) k)) less))

-- if no number has a value, there is no first value
pub value_last : {X : Type 0} (value : ℕ → Option X) (from count : ℕ) → ((t : ℕ) → from ≤ t → t < count → value t ≡ None)
    → first_value value from (count - from) ≡ None
value_last value from count none =
    value_on value (count - from) from (from + (count - from)) (omega arith) (omega arith) (λ t low high. none t low (omega arith))
    ∙ value_none value (from + (count - from)) (from + (count - from) - (from + (count - from))) (omega arith)

-- in a directory the first name of node i is the first one in its slots
pub names_there : (geometry : Geometry) (image : List ℕ) (i d : ℕ) (names : Names) → names_in (tree geometry image) d ≡ Ok names
    → name_in geometry image i d ≡ first_value (λ s. name_for i (entry_at geometry image d s)) 0 (slot_count geometry image d)
names_there geometry image i d names is =
    ap (λ listed. if_directory listed (first_value (λ s. name_for i (entry_at geometry image d s)) 0 (slot_count geometry image d))) is

-- a node that isn't a directory has no name of node i
pub names_nowhere : (geometry : Geometry) (image : List ℕ) (i d : ℕ) (fault : NodeFault) → names_in (tree geometry image) d ≡ Err fault
    → name_in geometry image i d ≡ None
names_nowhere geometry image i d fault is =
    ap (λ listed. if_directory listed (first_value (λ s. name_for i (entry_at geometry image d s)) 0 (slot_count geometry image d))) is
