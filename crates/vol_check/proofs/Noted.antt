-- Marks and kept entries that a seat adds one after another.
use Rattle.std.proofs.Common.{◌≡◌, ◌≢◌, ℕ, ◌+◌, ◌-◌, ◌*◌, ◌/◌, ◌%◌, ◌<◌, ◌≤◌, ◌∙◌, ap, if◌then◌else◌, false, List, None, Some, refl, inl, inr, arith}
use Rattle.std.proofs.lemmas.Bool.{cases_lt, eq-eqb, ne_eqb, le-ltb}
use Rattle.vol_layout.specs.Geometry.{in_zone, Fits}
use Rattle.vol_layout.specs.Body.{body}
use Rattle.vol_layout.specs.BlockPointers.{form_at, stored}
use Rattle.vol_layout.specs.Slot.{slot_at, name_of}
use Rattle.vol_layout.specs.declared.geometry.Geometry.{Geometry}
use Rattle.vol_layout.specs.declared.slot.Slot.{Slot}
use Rattle.vol_layout.proofs.NameLaws.{zero_out}
use Rattle.vol_layout.specs.declared.mode.Kind.{Kind}
use Rattle.vol_layout.specs.declared.mode.Kind.TheVariants as kinds
use Rattle.vol_file.specs.Rules.{kind_at}
use Rattle.vol_file.specs.Holes.{IsHole}
use Rattle.vol_dir.specs.Entries.{entry_in, entry_at, slot_count}
use Rattle.vol_dir.proofs.ReadSlots.{entry_in_hole}
use Rattle.count_table.specs.declared.rule.Mark.{Mark}
use Rattle.count_table.specs.declared.words.Tally.{Tally}
use Rattle.count_table.specs.Sums.{total, below}
use Rattle.count_table.specs.Tallies.{IsSeatAt}
use Rattle.count_table.proofs.Totals.{total_nil}
use Rattle.vol_reports.specs.Placed.{Placed}
use Rattle.vol_check.specs.declared.checker.Checker.{Checker}
use Rattle.vol_check.specs.declared.checker.Checker.TheVariants.{Blocks, Entries, Names}
use Rattle.vol_check.specs.declared.seats.CheckSeat.{CheckSeat}
use Rattle.vol_check.specs.Pieces.{Adds}
use Rattle.vol_check.specs.Slots.{SlotWeight, slot_weight, slot_kept, in_directory, part_sum}
use Rattle.vol_check.specs.Notes.{Notes, Stays}
use Rattle.vol_check.proofs.Sums.{below_same, below_zero}
use Rattle.vol_check.proofs.AddedMarks.{adds_none, adds_then, adds_as}
use Rattle.vol_check.proofs.PieceSums.{below_split}

module _ (tally : Tally) where
  -- a seat that does nothing adds no marks and no entries
  pub notes_none : (old : CheckSeat) (f : (Mark → ℕ) → ℕ) (k : (Placed → ℕ) → ℕ) → IsSeatAt tally old.seat
      → ((weight : Mark → ℕ) → f weight ≡ 0) → ((weight : Placed → ℕ) → k weight ≡ 0) → Notes tally old old f k
  notes_none old f k own none nothing = record {
    adds = adds_none tally old.seat f own none;
    entries = λ weight. let z = nothing weight in omega arith;
    fault = refl;
    ended = refl;
    spoiled = refl;
  }

  -- a seat that only makes marks adds them, and no entries
  pub notes_marks : (old new : CheckSeat) (f : (Mark → ℕ) → ℕ) (k : (Placed → ℕ) → ℕ) → Adds tally old.seat new.seat f → new.entries ≡ old.entries
      → new.fault ≡ old.fault → new.ended ≡ old.ended → new.spoiled ≡ old.spoiled → ((weight : Placed → ℕ) → k weight ≡ 0) → Notes tally old new f k
  notes_marks old new f k adds entries fault ended spoiled nothing = record {
    adds = adds;
    entries = λ weight. let z = nothing weight in let e = ap (λ xs. total weight xs.items) entries in omega arith;
    fault = fault;
    ended = ended;
    spoiled = spoiled;
  }

  -- marks and entries of two steps add up
  pub notes_then : (a b c : CheckSeat) (f g h : (Mark → ℕ) → ℕ) (k l m : (Placed → ℕ) → ℕ) → Notes tally a b f k → Notes tally b c g l
      → ((weight : Mark → ℕ) → h weight ≡ f weight + g weight) → ((weight : Placed → ℕ) → m weight ≡ k weight + l weight) → Notes tally a c h m
  notes_then a b c f g h k l m first second marks entries = record {
    adds = adds_then tally a.seat b.seat c.seat f g h first.adds second.adds marks;
    entries = λ weight. let s = entries weight in let x = first.entries weight in let y = second.entries weight in omega arith;
    fault = second.fault ∙ first.fault;
    ended = second.ended ∙ first.ended;
    spoiled = second.spoiled ∙ first.spoiled;
  }

  -- the amounts of added marks and entries may be replaced by equal ones
  pub notes_as : (a b : CheckSeat) (f h : (Mark → ℕ) → ℕ) (k m : (Placed → ℕ) → ℕ) → Notes tally a b f k → ((weight : Mark → ℕ) → h weight ≡ f weight)
      → ((weight : Placed → ℕ) → m weight ≡ k weight) → Notes tally a b h m
  notes_as a b f h k m first marks entries = record {
    adds = adds_as tally a.seat b.seat f h first.adds marks;
    entries = λ weight. let s = entries weight in let x = first.entries weight in omega arith;
    fault = first.fault;
    ended = first.ended;
    spoiled = first.spoiled;
  }

  -- adding marks and entries leaves the rest of the seat unchanged
  pub notes_stay : (a b c : CheckSeat) (f : (Mark → ℕ) → ℕ) (k : (Placed → ℕ) → ℕ) → Notes tally a b f k → Stays tally b c → Stays tally a c
  notes_stay a b c f k notes stays = record {
    own = stays.own;
    parts = stays.parts ∙ notes.adds.parts;
    draws = stays.draws ∙ notes.adds.draws;
    ended = stays.ended ∙ notes.ended;
  }

-- an empty slot makes no marks, and no entry of it is kept
pub blank_weight : (checker : Checker) (g : Geometry) (weight : Mark → ℕ) (d s : ℕ) → slot_weight checker g weight d s None ≡ 0
blank_weight Blocks g weight d s = refl
blank_weight Entries g weight d s = refl
blank_weight Names g weight d s = refl

pub blank_kept : (checker : Checker) (weight : Placed → ℕ) (d s : ℕ) → slot_kept checker weight d s None ≡ 0
blank_kept Blocks weight d s = refl
blank_kept Entries weight d s = refl
blank_kept Names weight d s = total_nil weight

-- the marks of `n` slots of directory `d`, starting with slot `from`
abbrev pub marked_over : Checker → Geometry → List ℕ → ℕ → ℕ → ℕ → (Mark → ℕ) → ℕ
marked_over checker g image d from n weight = below (λ t. slot_weight checker g weight d (from + t) (entry_at g image d (from + t))) n

abbrev pub kept_over : Checker → Geometry → List ℕ → ℕ → ℕ → ℕ → (Placed → ℕ) → ℕ
kept_over checker g image d from n weight = below (λ t. slot_kept checker weight d (from + t) (entry_at g image d (from + t))) n

-- a slot with i-number 0 has no entry
pub slot_none : (slot : Slot) → slot.inode ≡ 0 → entry_in slot ≡ None
slot_none slot none = ap (λ t. if t then None else Some (name_of slot.name, slot.inode)) (eq-eqb slot.inode 0 none)

pub slot_some : (slot : Slot) → slot.inode ≢ 0 → entry_in slot ≡ Some (name_of slot.name, slot.inode)
slot_some slot some = ap (λ t. if t then None else Some (name_of slot.name, slot.inode)) (ne_eqb slot.inode 0 some)

module _ (g : Geometry) (image : List ℕ) (d : ℕ) where
  -- there is no entry past the last slot
  pub entry_past : (s : ℕ) → slot_count g image d ≤ s → entry_at g image d s ≡ None
  unfolding entry_at
  entry_past s le = ap (λ t. if t then entry_in (slot_at (body g image d) (16 * s)) else None) (le-ltb s (slot_count g image d) le)

  -- there is no entry in a hole
  pub entry_hole : (from end s : ℕ) → Fits g image → IsHole g image d (form_at g image d) from end → 32 * from ≤ s → s < 32 * end → entry_at g image d s ≡ None
  entry_hole from end s fits hole low high = elim (cases_lt s (slot_count g image d)) [
    | inr past ↦ entry_past s past
    | inl within ↦
        let place : s ≡ 32 * (s / 32) + s % 32 = omega arith in
        let none = hole (s / 32) (omega arith) (omega arith) in
        ap (entry_at g image d) place ∙ entry_in_hole g image d (s / 32) (s % 32) 0 (omega arith) (omega arith) none (zero_out g image fits)
  ]

  module _ (weight : SlotWeight) (blank : (s : ℕ) → weight d s None ≡ 0) where
    -- the sum over `n` slots starting with slot `from`
    abbrev pub over : ℕ → ℕ → ℕ
    over from n = below (λ t. weight d (from + t) (entry_at g image d (from + t))) n

    -- the sum over slots without entries is 0
    pub over_blank : (from n : ℕ) → ((s : ℕ) → from ≤ s → s < from + n → entry_at g image d s ≡ None) → over from n ≡ 0
    over_blank from n none =
        below_zero (λ t. weight d (from + t) (entry_at g image d (from + t))) n
        (λ t lt. ap (weight d (from + t)) (none (from + t) (omega arith) (omega arith)) ∙ blank (from + t))

    -- the sum over `a` + `b` slots is the sum over the first `a` plus the sum over the other `b`
    pub over_split : (from a b : ℕ) → over from (a + b) ≡ over from a + over (from + a) b
    over_split from a b =
        below_split (λ t. weight d (from + t) (entry_at g image d (from + t))) a b
        ∙ ap (λ n. over from a + n) (below_same (λ t. weight d (from + (a + t)) (entry_at g image d (from + (a + t))))
        (λ t. weight d (from + a + t) (entry_at g image d (from + a + t))) b
        (λ t lt. ap (λ s. weight d s (entry_at g image d s)) (omega arith)))

    -- the sum over the slots of blocks `from..end` is the sum over `from..mid` plus the sum over `mid..end`
    pub over_two : (from mid end : ℕ) → from ≤ mid → mid ≤ end
        → over (32 * from) (32 * (end - from)) ≡ over (32 * from) (32 * (mid - from)) + over (32 * mid) (32 * (end - mid))
    over_two from mid end low high =
        let len : 32 * (end - from) ≡ 32 * (mid - from) + 32 * (end - mid) = omega arith in
        let at : 32 * from + 32 * (mid - from) ≡ 32 * mid = omega arith in
        ap (over (32 * from)) len ∙ (over_split (32 * from) (32 * (mid - from)) (32 * (end - mid))
        ∙ ap (λ x. over (32 * from) (32 * (mid - from)) + over x (32 * (end - mid))) at)

    -- if blocks after `b` are a hole, the sum up to them is the sum up to block `b` plus the sum over its slots
    pub over_next : (from b next : ℕ) → Fits g image → from ≤ b → b + 1 ≤ next → IsHole g image d (form_at g image d) (b + 1) next
        → over (32 * from) (32 * (next - from)) ≡ over (32 * from) (32 * (b - from)) + over (32 * b) 32
    over_next from b next fits low more hole =
        let len : 32 * (next - from) ≡ 32 * (b - from) + (32 + 32 * (next - (b + 1))) = omega arith in
        let one = ap (over (32 * from)) len ∙ over_split (32 * from) (32 * (b - from)) (32 + 32 * (next - (b + 1))) in
        let at : 32 * from + 32 * (b - from) ≡ 32 * b = omega arith in
        let two = ap (λ x. over x (32 + 32 * (next - (b + 1)))) at ∙ over_split (32 * b) 32 (32 * (next - (b + 1))) in
        let none = over_blank (32 * b + 32) (32 * (next - (b + 1))) (λ s from-there before. entry_hole (b + 1) next s fits hole (omega arith) (omega arith)) in
        omega arith

    -- if a block has only `few` slots, the sum over it is the sum over these
    pub over_block : (b few : ℕ) → few ≤ 32 → (few < 32 → slot_count g image d ≤ 32 * b + few) → over (32 * b) 32 ≡ over (32 * b) few
    over_block b few le short =
        let len : 32 ≡ few + (32 - few) = omega arith in
        let one = ap (over (32 * b)) len ∙ over_split (32 * b) few (32 - few) in
        let none = over_blank (32 * b + few) (32 - few) (λ s from-there before. entry_past s (let h = short (omega arith) in omega arith)) in
        omega arith

  -- a block whose number is outside the data zone has no entries
  pub block_hole : (b k s : ℕ) → stored g image d (form_at g image d) b ≡ k → in_zone g k ≡ false → 32 * b ≤ s → s < 32 * b + 32 → entry_at g image d s ≡ None
  block_hole b k s is outside low high = elim (cases_lt s (slot_count g image d)) [
    | inr past ↦ entry_past s past
    | inl within ↦
        let place : s ≡ 32 * b + (s - 32 * b) = omega arith in
        ap (entry_at g image d) place ∙ entry_in_hole g image d b (s - 32 * b) k (omega arith) (omega arith) is outside
  ]

-- the sum over part `k` of a directory is the sum over its 2048 slots
pub part_is : (g : Geometry) (image : List ℕ) (weight : SlotWeight) (d k : ℕ) → kind_at g image d ≡ kinds.Directory
    → part_sum g image weight d k ≡ below (λ t. weight d (2048 * k + t) (entry_at g image d (2048 * k + t))) 2048
unfolding part_sum
part_is g image weight d k is = ap (λ x. in_directory x (below (λ t. weight d (2048 * k + t) (entry_at g image d (2048 * k + t))) 2048)) is

none_in : (kind : Kind) (n : ℕ) → kind ≢ kinds.Directory → in_directory kind n ≡ 0
none_in kinds.Directory n other = absurd (other refl)
none_in kinds.Free n other = refl
none_in kinds.Regular n other = refl
none_in kinds.Special n other = refl
none_in kinds.Odd n other = refl

-- the sum over a part of an i-number that isn't a directory is 0
pub part_none : (g : Geometry) (image : List ℕ) (weight : SlotWeight) (d k : ℕ) → kind_at g image d ≢ kinds.Directory → part_sum g image weight d k ≡ 0
unfolding part_sum
part_none g image weight d k other = none_in (kind_at g image d) (below (λ t. weight d (2048 * k + t) (entry_at g image d (2048 * k + t))) 2048) other

-- the sum over part `k` of a directory is the sum over its first `n` slots, if it has no others there
pub part_over : (g : Geometry) (image : List ℕ) (weight : SlotWeight) (d k from n : ℕ) → ((s : ℕ) → weight d s None ≡ 0) → kind_at g image d ≡ kinds.Directory
    → 2048 * k ≡ 32 * from → n ≤ 2048 → (n < 2048 → slot_count g image d ≤ 32 * from + n)
    → part_sum g image weight d k ≡ below (λ t. weight d (32 * from + t) (entry_at g image d (32 * from + t))) n
part_over g image weight d k from n blank is at le short =
    let len : 2048 ≡ n + (2048 - n) = omega arith in
    let one = ap (over g image d weight blank (32 * from)) len ∙ over_split g image d weight blank (32 * from) n (2048 - n) in
    let none = over_blank g image d weight blank (32 * from + n) (2048 - n)
    (λ s from-there before. entry_past g image d s (let h = short (omega arith) in omega arith)) in
    let base = ap (λ x. below (λ t. weight d (x + t) (entry_at g image d (x + t))) 2048) at in
    let p = part_is g image weight d k is in omega arith
