-- Counting the entries for each i-number.
use Rattle.std.proofs.Common.{◌≡◌, ◌≢◌, ℕ, zero, suc, ◌+◌, ◌*◌, ◌<◌, ◌≤◌, ◌&&◌, nat_lt, inl, inr, Bool, true, false, cond, List, [], ◌∷◌, Option, None, Some, map, length, get_or, refl, sym, ap, ◌∙◌, arith, get_or-set_other, get_or-set_same}
use Rattle.std.proofs.Math.ListN.{set, length-set}
use Rattle.std.specs.List.{count_by, sum_by, range_with_len}
use Rattle.std.proofs.lemmas.Bool.{cases_lt, cases_eq, cases_Bool, eqb-true, eq-eqb, lt-ltb, le-ltb}
use Rattle.std.proofs.lemmas.List.Sums.{sum_by-cons}
use Rattle.vol_layout.specs.Edition.{constants}
use Rattle.vol_layout.specs.Geometry.{Fits}
use Rattle.vol_layout.specs.Slot.{name_of}
use Rattle.vol_layout.specs.declared.edition.Edition.{Edition}
use Rattle.vol_layout.specs.declared.edition.Edition.TheVariants.{V6, V7}
use Rattle.vol_layout.specs.declared.geometry.Geometry.{Geometry}
use Rattle.vol_layout.specs.declared.slot.Slot.{Slot}
use Rattle.vol_layout.specs.declared.mode.Kind.{Kind}
use Rattle.vol_layout.specs.declared.mode.Kind.TheVariants as kinds
use Rattle.vol_file.specs.Rules.{kind_at}
use Rattle.vol_file.proofs.PlaceLists.{sum_none}
use Rattle.vol_dir.specs.Entries.{entry_at, slot_count, slots, IsDirectory, HasEntry}
use Rattle.vol_judge.specs.Directories.{is_for, count_in, entry_count}
use Rattle.vol_judge.specs.EntryCounts.{is_before, count_before_in, count_before, CountsBefore, HasCounts}
use Rattle.vol_judge.specs.Steps.{rank, IsNextSlot, IsPastEntries}
use Rattle.vol_judge.proofs.GraphCounts.{sum_same}
use Rattle.vol_judge.proofs.PassedEntries.{entry_within, split}

-- the last i-number is below 2^28
last_by : (edition : Edition) (last start end : ℕ) → 1024 + (constants edition).inode_bytes * last ≡ 512 * start → start < end
    → end ≤ (constants edition).number_limit → last < 268435456
last_by V6 last start end e h l = omega arith
last_by V7 last start end e h l = omega arith

pub last_low : {geometry : Geometry} {image : List ℕ} → Fits geometry image → geometry.last_inode < 268435456
last_low {geometry = geometry} fits =
    last_by geometry.edition geometry.last_inode geometry.zone_start geometry.zone_end fits.i_list fits.zone fits.limit

-- if a single term grows by 1, so does the sum
sum_one : (f g : ℕ → ℕ) (a n d : ℕ) → a ≤ d → d < a + n → g d ≡ f d + 1 → ((t : ℕ) → a ≤ t → t < a + n → t ≢ d → f t ≡ g t)
    → sum_by g (range_with_len a n) ≡ sum_by f (range_with_len a n) + 1
sum_one f g a zero d low high more same = absurd (omega arith)
sum_one f g a (suc n) d low high more same =
    let xs = range_with_len (a + 1) n in
    let left = sum_by-cons f a xs in
    let right = sum_by-cons g a xs in
    elim (cases_eq a d) [
      | inl here ↦
          let first : g a ≡ f a + 1 = rw here more in
          let rest : sum_by f xs ≡ sum_by g xs = sum_same f g (a + 1) n (λ t l h. same t (omega arith) (omega arith) (λ e. omega arith)) in
          added (sum_by f (a ∷ xs)) (sum_by g (a ∷ xs)) (f a) (g a) (sum_by f xs) (sum_by g xs) left right (omega (arith, first, rest))
      | inr apart ↦
          let first : f a ≡ g a = same a (omega arith) (omega arith) apart in
          let rest : sum_by g xs ≡ sum_by f xs + 1 = sum_one f g (a + 1) n d (omega arith) (omega arith) more (λ t l h. same t (omega arith) (omega arith)) in
          added (sum_by f (a ∷ xs)) (sum_by g (a ∷ xs)) (f a) (g a) (sum_by f xs) (sum_by g xs) left right (omega (arith, first, rest))
    ]
  where
    added : (l r a b x y : ℕ) → l ≡ a + x → r ≡ b + y → b + y ≡ a + x + 1 → r ≡ l + 1
    added l r a b x y p q e = omega arith

-- counting in a mapped list is counting with the composed test
count_map : {X : Type 0} (p : X → Bool) (f : ℕ → X) (xs : List ℕ) → count_by p (map f xs) ≡ count_by (λ x. p (f x)) xs
count_map p f [] = refl
count_map p f (x ∷ xs) =
    sum_by-cons (λ y. cond (p y) 1 0) (f x) (map f xs)
    ∙ (ap (λ m. cond (p (f x)) 1 0 + m) (count_map p f xs) ∙ sym (sum_by-cons (λ y. cond (p (f y)) 1 0) x xs))

-- if `is_for i` is true for a slot, the slot has an entry for i
for_entry : (i : ℕ) (slot : Option (List ℕ × ℕ)) → is_for i slot ≡ true → (name : List ℕ) × (slot ≡ Some (name, i))
for_entry i None is = absurd (cc)
for_entry i (Some entry) is = (entry.0, ap (λ n. Some (entry.0, n)) (eqb-true entry.1 i is))

-- the test of m < n is true if m < n
test_low : (m n : ℕ) → m < n → nat_lt m n ≡ true
test_low m n low = lt-ltb m n low

test_high : (m n : ℕ) → n ≤ m → nat_lt m n ≡ false
test_high m n high = le-ltb m n high

-- a slot without an entry for i isn't counted
before_other : (geometry : Geometry) (image : List ℕ) (place i d t : ℕ) → is_for i (entry_at geometry image d t) ≡ false → is_before geometry image place i d t ≡ false
before_other geometry image place i d t other = rw other

-- a slot at or after the position isn't counted
before_late : (geometry : Geometry) (image : List ℕ) (place i d t : ℕ) → place ≤ rank d t → is_before geometry image place i d t ≡ false
before_late geometry image place i d t late =
    elim (is_for i (entry_at geometry image d t)) as (λ b. (b && nat_lt (rank d t) place) ≡ false) [ true ↦ test_high (rank d t) place late | false ↦ refl ]

-- a slot before the position with an entry for i is counted
before_early : (geometry : Geometry) (image : List ℕ) (place i d t : ℕ) → is_for i (entry_at geometry image d t) ≡ true → rank d t < place
    → is_before geometry image place i d t ≡ true
before_early geometry image place i d t is early = rw is (test_low (rank d t) place early)

-- passing the next entry changes only whether that entry is counted
before_same : {geometry : Geometry} {image : List ℕ} {place d s : ℕ} {slot : Slot} (i e t : ℕ) → IsNextSlot geometry image place d s slot
    → IsDirectory geometry image e → (e ≡ d → t ≡ s → i ≡ slot.inode → ⊥)
    → is_before geometry image place i e t ≡ is_before geometry image (rank d (s + 1)) i e t
before_same {geometry = geometry} {image = image} {place = place} {d = d} {s = s} i e t next directory other =
    elim (cases_Bool (is_for i (entry_at geometry image e t))) [
      | inr not_for ↦ before_other geometry image place i e t not_for ∙ sym (before_other geometry image (rank d (s + 1)) i e t not_for)
      | inl is ↦
          let entry = for_entry i (entry_at geometry image e t) is in
          let has : HasEntry geometry image e t entry.0 i = record { directory = directory; entry = entry.1 } in
          elim (cases_lt (rank e t) place) [
            | inl early ↦ before_early geometry image place i e t is early
                ∙ sym (before_early geometry image (rank d (s + 1)) i e t is (omega (arith, next.reached)))
            | inr late ↦ before_late geometry image place i e t late
                ∙ sym (before_late geometry image (rank d (s + 1)) i e t (elim (cases_lt (rank e t) (rank d (s + 1))) [
                  | inr high ↦ high
                  | inl low ↦ elim (split e t i entry.0 next has low) [
                    | inl early ↦ absurd (omega arith)
                    | inr here ↦ absurd (other here.0 here.1 here.3)
                  ]
                ]))
          ]
    ]

-- two counts in an i-number are equal if they agree at each slot
in_same : (geometry : Geometry) (image : List ℕ) (p q i d : ℕ) (kind : Kind)
    → ((t : ℕ) → kind ≡ kinds.Directory → is_before geometry image p i d t ≡ is_before geometry image q i d t)
    → count_before_in geometry image p i d kind ≡ count_before_in geometry image q i d kind
in_same geometry image p q i d kinds.Directory same =
    sum_same (λ t. cond (is_before geometry image p i d t) 1 0) (λ t. cond (is_before geometry image q i d t) 1 0) 0 (slot_count geometry image d)
    (λ t low high. ap (λ b. cond b 1 0) (same t refl))
in_same geometry image p q i d kinds.Free same = refl
in_same geometry image p q i d kinds.Regular same = refl
in_same geometry image p q i d kinds.Special same = refl
in_same geometry image p q i d kinds.Odd same = refl

-- if one more slot is counted, the count in the directory is greater by 1
in_one : (geometry : Geometry) (image : List ℕ) (p q i d s : ℕ) (kind : Kind) → kind ≡ kinds.Directory → s < slot_count geometry image d
    → is_before geometry image p i d s ≡ false → is_before geometry image q i d s ≡ true
    → ((t : ℕ) → t ≢ s → is_before geometry image p i d t ≡ is_before geometry image q i d t)
    → count_before_in geometry image q i d kind ≡ count_before_in geometry image p i d kind + 1
in_one geometry image p q i d s kind is within old new same =
    rw is (sum_one (λ t. cond (is_before geometry image p i d t) 1 0) (λ t. cond (is_before geometry image q i d t) 1 0) 0 (slot_count geometry image d) s
    (omega arith) (omega arith) (one (is_before geometry image p i d s) (is_before geometry image q i d s) old new)
    (λ t low high apart. ap (λ b. cond b 1 0) (same t apart)))
  where
    one : (a b : Bool) → a ≡ false → b ≡ true → cond b 1 0 ≡ cond a 1 0 + 1
    one a b e f = rw (e, f) refl

-- passing the next entry adds 1 to the count of its i-number
count_here : {geometry : Geometry} {image : List ℕ} {place d s : ℕ} {slot : Slot} → IsNextSlot geometry image place d s slot
    → count_before geometry image (rank d (s + 1)) slot.inode ≡ count_before geometry image place slot.inode + 1
unfolding count_before
count_here {geometry = geometry} {image = image} {place = place} {d = d} {s = s} {slot = slot} next =
    let later = rank d (s + 1) in
    let i = slot.inode in
    let directory = next.entry.directory in
    sum_one (λ e. count_before_in geometry image place i e (kind_at geometry image e)) (λ e. count_before_in geometry image later i e (kind_at geometry image e))
    1 geometry.last_inode d directory.first (omega (arith, directory.last))
    (in_one geometry image place later i d s (kind_at geometry image d) directory.kind
    (entry_within geometry image d s (name_of slot.name, i) next.entry.entry)
    (before_late geometry image place i d s next.reached)
    (before_early geometry image later i d s (is_for_entry i (entry_at geometry image d s) (name_of slot.name) next.entry.entry) (omega arith))
    (λ t apart. before_same i d t next directory (λ e same number. apart same)))
    (λ e low high apart. in_same geometry image place later i e (kind_at geometry image e)
    (λ t kind. before_same i e t next (record { first = low; last = omega arith; kind = kind }) (λ same f number. apart same)))
  where
    is_for_entry : (i : ℕ) (slot : Option (List ℕ × ℕ)) (name : List ℕ) → slot ≡ Some (name, i) → is_for i slot ≡ true
    is_for_entry i slot name is = rw is (eq-eqb i i refl)

-- passing the next entry doesn't change the count of any other i-number
count_other : {geometry : Geometry} {image : List ℕ} {place d s : ℕ} {slot : Slot} (i : ℕ) → IsNextSlot geometry image place d s slot → i ≢ slot.inode
    → count_before geometry image place i ≡ count_before geometry image (rank d (s + 1)) i
unfolding count_before
count_other {geometry = geometry} {image = image} {place = place} {d = d} {s = s} {slot = slot} i next other =
    let later = rank d (s + 1) in
    sum_same (λ e. count_before_in geometry image place i e (kind_at geometry image e)) (λ e. count_before_in geometry image later i e (kind_at geometry image e))
    1 geometry.last_inode
    (λ e low high. in_same geometry image place later i e (kind_at geometry image e)
    (λ t kind. before_same i e t next (record { first = low; last = omega arith; kind = kind }) (λ same f number. other number)))

-- no entry is before the first position
count_first : (geometry : Geometry) (image : List ℕ) (place i : ℕ) → place ≤ rank 1 0 → count_before geometry image place i ≡ 0
unfolding count_before
count_first geometry image place i low =
    sum_none (λ e. count_before_in geometry image place i e (kind_at geometry image e)) 1 geometry.last_inode
    (λ e first last. in_none e first (kind_at geometry image e))
  where
    in_none : (e : ℕ) → 1 ≤ e → (kind : Kind) → count_before_in geometry image place i e kind ≡ 0
    in_none e first kinds.Directory =
        sum_none (λ t. cond (is_before geometry image place i e t) 1 0) 0 (slot_count geometry image e)
        (λ t l h. ap (λ b. cond b 1 0) (before_late geometry image place i e t (omega arith)))
    in_none e first kinds.Free = refl
    in_none e first kinds.Regular = refl
    in_none e first kinds.Special = refl
    in_none e first kinds.Odd = refl

-- if no entry follows a position, the count before it is the number of all entries
count_all : (geometry : Geometry) (image : List ℕ) (place i : ℕ) → IsPastEntries geometry image place
    → count_before geometry image place i ≡ entry_count geometry image i
unfolding count_before entry_count slots
count_all geometry image place i none =
    sum_same (λ e. count_before_in geometry image place i e (kind_at geometry image e)) (λ e. count_in geometry image i e (kind_at geometry image e))
    1 geometry.last_inode (λ e low high. in_all e low (omega arith) (kind_at geometry image e) refl)
  where
    in_all : (e : ℕ) → 1 ≤ e → e ≤ geometry.last_inode → (kind : Kind) → kind_at geometry image e ≡ kind
        → count_before_in geometry image place i e kind ≡ count_in geometry image i e kind
    in_all e first last kinds.Directory is =
        sum_same (λ t. cond (is_before geometry image place i e t) 1 0) (λ t. cond (is_for i (entry_at geometry image e t)) 1 0) 0 (slot_count geometry image e)
        (λ t l h. ap (λ b. cond b 1 0) (elim (cases_Bool (is_for i (entry_at geometry image e t))) [
          | inr not_for ↦ before_other geometry image place i e t not_for ∙ sym not_for
          | inl is_one ↦
              let entry = for_entry i (entry_at geometry image e t) is_one in
              let has : HasEntry geometry image e t entry.0 i = record { directory = record { first = first; last = last; kind = is }; entry = entry.1 } in
              before_early geometry image place i e t is_one (none e t i entry.0 has) ∙ sym is_one
        ]))
        ∙ sym (count_map (is_for i) (entry_at geometry image e) (range_with_len 0 (slot_count geometry image e)))
    in_all e first last kinds.Free is = refl
    in_all e first last kinds.Regular is = refl
    in_all e first last kinds.Special is = refl
    in_all e first last kinds.Odd is = refl

-- the counts before the first position are zeros
pub counts_first : (geometry : Geometry) (image counts : List ℕ) (place : ℕ) → length counts ≡ geometry.last_inode + 1
    → ((i : ℕ) → get_or counts i 0 ≡ 0) → place ≤ rank 1 0 → CountsBefore geometry image place counts
counts_first geometry image counts place room zeros low = record {
  room = room;
  few = λ i. omega (arith, zeros i);
  count = λ i last. zeros i ∙ sym (count_first geometry image place i low);
}

-- adding 1 to the count of the next entry's i-number gives the counts after that entry
pub counts_next : {geometry : Geometry} {image counts : List ℕ} {place d s : ℕ} {slot : Slot} → CountsBefore geometry image place counts
    → IsNextSlot geometry image place d s slot → slot.inode < length counts
    → CountsBefore geometry image (rank d (s + 1)) (set counts slot.inode (get_or counts slot.inode 0 + 1))
counts_next {geometry = geometry} {image = image} {counts = counts} {place = place} {d = d} {s = s} {slot = slot} is next room =
    let more = get_or counts slot.inode 0 + 1 in
    record {
      room = simp length-set is.room;
      few = λ i.
          elim (cases_eq i slot.inode) [
            | inl same ↦ rw same (rw get_or-set_same (omega (arith, is.few slot.inode, next.reached)))
            | inr apart ↦ rw get_or-set_other (omega (arith, is.few i, next.reached))
          ];
      count = λ i last.
          elim (cases_eq i slot.inode) [
            | inl same ↦
                let last' : slot.inode ≤ geometry.last_inode = rw (sym same) last in
                rw same (rw get_or-set_same (ap (λ n. n + 1) (is.count slot.inode last') ∙ sym (count_here next)))
            | inr apart ↦ rw get_or-set_other (is.count i last ∙ count_other i next apart)
          ];
    }

-- an entry for an i-number above the last changes no count
pub counts_past : {geometry : Geometry} {image counts : List ℕ} {place d s : ℕ} {slot : Slot} → CountsBefore geometry image place counts
    → IsNextSlot geometry image place d s slot → geometry.last_inode < slot.inode → CountsBefore geometry image (rank d (s + 1)) counts
counts_past is next past = record {
  room = is.room;
  few = λ i. omega (arith, is.few i, next.reached);
  count = λ i last. is.count i last ∙ count_other i next (λ same. omega (arith, same, last, past));
}

-- if no entry follows a position, the counts before it are the counts of all entries
pub counts_all : {geometry : Geometry} {image counts : List ℕ} {place : ℕ} → CountsBefore geometry image place counts → IsPastEntries geometry image place
    → HasCounts geometry image counts
counts_all {geometry = geometry} {image = image} {place = place} is none = record {
  room = is.room;
  count = λ i last. is.count i last ∙ count_all geometry image place i none;
}
