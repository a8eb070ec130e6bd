-- The i-numbers that have entries, as each entry is read.
use Rattle.std.proofs.Common.{◌≡◌, ℕ, ◌+◌, ◌<◌, ◌&&◌, ◌∙◌, ◌⊎◌, All, nat_lt, subst, inl, inr, Bool, true, false, List, Option, None, Some, length, get_or, refl, sym, ap, arith}
use Rattle.std.specs.Prelude.{◌||◌, nat_le, if◌then◌else◌}
use Rattle.std.specs.List.{filter, range_with_len}
use Rattle.std.proofs.lemmas.Bool.{cases_eq, cases_lt, true≢false}
use Rattle.std.proofs.lemmas.Bool.Decides.{nat_tests}
use Rattle.std.proofs.lemmas.List.Elements.{All-filter, filter_passes}
use Rattle.std.proofs.lemmas.List.FromFn.{get_or-range_with_len, length-range_with_len}
use Rattle.vol_layout.specs.Edition.{constants}
use Rattle.vol_layout.specs.Slot.{name_of}
use Rattle.vol_layout.specs.declared.geometry.Geometry.{Geometry}
use Rattle.vol_layout.specs.declared.slot.Slot.{Slot}
use Rattle.vol_file.specs.Repeats.{below}
use Rattle.vol_file.proofs.RepeatedNumbers.{clear_passes}
use Rattle.vol_dir.specs.Entries.{entry_at, slot_count, IsDirectory}
use Rattle.vol_dir.specs.Names.{is_dots}
use Rattle.vol_dir.specs.Repeats.{IsEntryFrom, MarksSlots, PassSlots, entry_in_block, passes_in}
use Rattle.vol_dir.proofs.NextEntries.{entry_some}
use Rattle.vol_judge.proofs.PassedEntries.{entry_within}
use Rattle.vol_judge.specs.Directories.{root_of, Enters}
use Rattle.vol_inspect.specs.Lost.{IsInList, KnowsNamed, NotesDirectory, is_lost, is_noted}

-- a slot that is noted stays so if marks are added
noted_more : (old new : List Bool) → length new ≡ length old → ((i : ℕ) → get_or old i false ≡ true → get_or new i false ≡ true)
    → (entry : Option (List ℕ × ℕ)) → is_noted old entry ≡ true → is_noted new entry ≡ true
noted_more old new room kept None is = refl
noted_more old new room kept (Some entry) is = more (is_dots entry.0) (nat_le (length old) entry.1) (nat_le (length new) entry.1) (get_or old entry.1 false) (get_or new entry.1 false)
    (ap (λ n. nat_le n entry.1) room) (kept entry.1) is
  where
    more : (dots far far' had has : Bool) → far' ≡ far → (had ≡ true → has ≡ true) → (dots || (far || had)) ≡ true → (dots || (far' || has)) ≡ true
    more true far far' had has same kept is = refl
    more false true far' had has same kept is = rw same refl
    more false false far' had has same kept is = rw (same, kept is) refl

-- all slots below marked blocks stay noted if marks are added
pub marked_more : (geometry : Geometry) (image : List ℕ) (old new marks : List Bool) → length new ≡ length old
    → ((i : ℕ) → get_or old i false ≡ true → get_or new i false ≡ true) → MarksSlots (is_noted old) geometry image marks
    → MarksSlots (is_noted new) geometry image marks
marked_more geometry image old new marks room kept passed m n marked c part within =
    more (nat_lt part 32) (passed m n marked c part within)
  where
    block : ℕ
    block = below geometry image (constants geometry.edition).pointers m n c

    more : (b : Bool) → (if b then is_noted old (entry_in_block geometry image block part) else true) ≡ true
        → (if b then is_noted new (entry_in_block geometry image block part) else true) ≡ true
    more true is = noted_more old new room kept (entry_in_block geometry image block part) is
    more false is = refl

-- a directory up to slot n: its i-numbers are marked, and no others
pub record NotesSlots (geometry : Geometry) (image : List ℕ) (d n : ℕ) (old new marks : List Bool) : Type 0 where
  pub room : length new ≡ length old
  pub kept : (i : ℕ) → get_or old i false ≡ true → get_or new i false ≡ true
  pub passed : PassSlots (is_noted new) geometry image d 0 n
  pub only : (i : ℕ) → get_or new i false ≡ true → (get_or old i false ≡ true) ⊎ ((s : ℕ) × Enters geometry image d s i)
  pub marked : MarksSlots (is_noted new) geometry image marks

-- at the first slot
pub notes_none : (geometry : Geometry) (image : List ℕ) (d : ℕ) (named marks : List Bool) → MarksSlots (is_noted named) geometry image marks
    → NotesSlots geometry image d 0 named named marks
notes_none geometry image d named marks marked = record {
  room = refl;
  kept = λ i is. is;
  passed = λ t low high within. absurd (omega (arith, high));
  only = λ i is. inl is;
  marked = marked;
}

-- past the next slot, whose entry is noted
pub notes_next : (geometry : Geometry) (image : List ℕ) (d from s : ℕ) (slot : Slot) (old named new marks next : List Bool) → IsDirectory geometry image d
    → NotesSlots geometry image d from old named marks → IsEntryFrom geometry image d from s slot
    → PassSlots (is_noted named) geometry image d from s → MarksSlots (is_noted named) geometry image next → length new ≡ length named
    → ((i : ℕ) → get_or named i false ≡ true → get_or new i false ≡ true) → is_noted new (Some (name_of slot.name, slot.inode)) ≡ true
    → ((i : ℕ) → get_or new i false ≡ true → (get_or named i false ≡ true) ⊎ ((i ≡ slot.inode) × (is_dots (name_of slot.name) ≡ false)))
    → NotesSlots geometry image d (s + 1) old new next
notes_next geometry image d from s slot old named new marks next directory notes found passed marked room kept noted only =
    let entry : entry_at geometry image d s ≡ Some (name_of slot.name, slot.inode) = found.holds ∙ entry_some slot found.some in
    record {
      room = room ∙ notes.room;
      kept = λ i is. kept i (notes.kept i is);
      passed = λ t low high within. elim (cases_lt t from) [
        | inl early ↦ noted_more named new room kept (entry_at geometry image d t) (notes.passed t low early within)
        | inr late ↦ elim (cases_eq t s) [
          | inl here ↦ ap (λ n. is_noted new (entry_at geometry image d n)) here ∙ (ap (is_noted new) entry ∙ noted)
          | inr apart ↦ noted_more named new room kept (entry_at geometry image d t) (passed t late (omega (arith, high, apart)) within)
        ]
      ];
      only = λ i is. elim (only i is) [
        | inl had ↦ notes.only i had
        | inr here ↦ inr (s, (name_of slot.name, record { directory = directory; entry = entry ∙ ap (λ n. Some (name_of slot.name, n)) (sym here.0) }, here.1))
      ];
      marked = marked_more geometry image named new next room kept marked;
    }

-- past the last slot
pub notes_all : (geometry : Geometry) (image : List ℕ) (d from : ℕ) (old named marks : List Bool) → NotesSlots geometry image d from old named marks
    → PassSlots (is_noted named) geometry image d from (slot_count geometry image d) → NotesDirectory geometry image d old named
notes_all geometry image d from old named marks notes passed = record {
  room = notes.room;
  kept = notes.kept;
  all = λ t low high within. elim (cases_lt t from) [
    | inl early ↦ notes.passed t low early within
    | inr late ↦ passed t late high within
  ];
  only = notes.only;
}

-- the directories before d: the i-numbers that they have entries for are marked, and no others
pub record NotesBelow (geometry : Geometry) (image : List ℕ) (d : ℕ) (named marks : List Bool) : Type 0 where
  pub room : length named ≡ geometry.last_inode + 1
  pub all : (e : ℕ) → e < d → IsDirectory geometry image e → PassSlots (is_noted named) geometry image e 0 (slot_count geometry image e)
  pub only : (i : ℕ) → get_or named i false ≡ true → (e : ℕ) × (s : ℕ) × Enters geometry image e s i
  pub marked : MarksSlots (is_noted named) geometry image marks

-- before the first directory
pub below_first : (geometry : Geometry) (image : List ℕ) (named marks : List Bool) → length named ≡ geometry.last_inode + 1
    → ((i : ℕ) → get_or named i false ≡ false) → ((k : ℕ) → get_or marks k false ≡ false) → NotesBelow geometry image 1 named marks
below_first geometry image named marks room none clear = record {
  room = room;
  all = λ e low is. absurd (omega (arith, low, is.first));
  only = λ i is. absurd (let both : true ≡ false = sym is ∙ none i in cc);
  marked = clear_passes (passes_in (is_noted named) geometry image) geometry image marks clear;
}

-- past a directory
pub below_noted : (geometry : Geometry) (image : List ℕ) (d : ℕ) (old new marks next : List Bool) → NotesBelow geometry image d old marks
    → NotesDirectory geometry image d old new → MarksSlots (is_noted new) geometry image next → NotesBelow geometry image (d + 1) new next
below_noted geometry image d old new marks next below notes marked = record {
  room = notes.room ∙ below.room;
  all = λ e low is. elim (cases_lt e d) [
    | inl early ↦ λ t first high within.
        noted_more old new notes.room notes.kept (entry_at geometry image e t) (below.all e early is t first high within)
    | inr late ↦
        let same : e ≡ d = omega (arith, low, late) in
        subst (λ x. PassSlots (is_noted new) geometry image x 0 (slot_count geometry image x)) (sym same) notes.all
  ];
  only = λ i is. elim (notes.only i is) [
    | inl had ↦ below.only i had
    | inr here ↦ (d, here.0, here.1)
  ];
  marked = marked;
}

-- past an i-number that is no directory
pub below_other : (geometry : Geometry) (image : List ℕ) (d : ℕ) (named marks : List Bool) → NotesBelow geometry image d named marks
    → (IsDirectory geometry image d → ⊥) → NotesBelow geometry image (d + 1) named marks
below_other geometry image d named marks below other = record {
  room = below.room;
  all = λ e low is. elim (cases_lt e d) [
    | inl early ↦ below.all e early is
    | inr late ↦ let same : e ≡ d = omega (arith, low, late) in absurd (other (subst (IsDirectory geometry image) same is))
  ];
  only = below.only;
  marked = below.marked;
}

-- past the last directory, the marks are complete
pub below_all : (geometry : Geometry) (image : List ℕ) (d : ℕ) (named marks : List Bool) → NotesBelow geometry image d named marks
    → geometry.last_inode < d → KnowsNamed geometry image named
below_all geometry image d named marks below last = record {
  room = below.room;
  all = λ e s i low enters.
      let is = enters.1.directory in
      let within = entry_within geometry image e s (enters.0, i) enters.1.entry in
      let noted : is_noted named (Some (enters.0, i)) ≡ true =
      sym (ap (is_noted named) enters.1.entry) ∙ below.all e (omega (arith, is.last, last)) is s (omega arith) within within in
      marked_by (is_dots enters.0) (nat_le (length named) i) (get_or named i false) enters.2 (far_false (length named) i (omega (arith, low, below.room))) noted;
  only = below.only;
}
  where
    far_false : (n i : ℕ) → i < n → nat_le n i ≡ false
    far_false n i low = grind (arith, nat_tests, low)

    marked_by : (dots far has : Bool) → dots ≡ false → far ≡ false → (dots || (far || has)) ≡ true → has ≡ true
    marked_by true far has e f is = absurd (true≢false e)
    marked_by false true has e f is = absurd (true≢false f)
    marked_by false false has e f is = is

-- if a conjunction is true, its first part is
left_true : (a b : Bool) → (a && b) ≡ true → a ≡ true
left_true true b both = refl
left_true false b both = absurd (true≢false (sym both))

-- a number that passes the test is above the root
above_root : (root i : ℕ) (b : Bool) → (nat_lt root i && b) ≡ true → root < i
above_root root i b both = let above : nat_lt root i ≡ true = left_true (nat_lt root i) b both in grind (arith, nat_tests)

-- the numbers of a range are below its end
range_low : (n : ℕ) → All (λ i. i < n) (range_with_len 0 n)
range_low n = λ k d within.
    let low : k < n = omega (arith, length-range_with_len 0 n, within) in
    subst (λ i. i < n) (sym (get_or-range_with_len 0 n k d low)) (omega (arith, low))

-- lost i-nodes have i-numbers of the volume
pub lost_in_list : (geometry : Geometry) (image : List ℕ) (named : List Bool) (lost : List ℕ)
    → lost ≡ filter (is_lost geometry image named) (range_with_len 0 (geometry.last_inode + 1)) → All (IsInList geometry) lost
lost_in_list geometry image named lost is =
    let test = is_lost geometry image named in
    let range = range_with_len 0 (geometry.last_inode + 1) in
    let all : All (IsInList geometry) (filter test range) = λ k d within.
    let passes = filter_passes test range k d within in
    let low = All-filter test (λ i. i < geometry.last_inode + 1) range (range_low (geometry.last_inode + 1)) k d within in
    let above = above_root (root_of geometry) (get_or (filter test range) k d) _ passes in
    record { first = omega (arith, above); last = omega (arith, low) } in
    subst (All (IsInList geometry)) (sym is) all
