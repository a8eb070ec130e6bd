-- Noting the entries of a block slot by slot.
use Rattle.std.proofs.Common.{◌≡◌, ◌≢◌, ℕ, ◌+◌, ◌-◌, ◌*◌, ◌<◌, ◌≤◌, ◌∙◌, inl, inr, true, List, Option, None, ap, sym, arith}
use Rattle.std.proofs.lemmas.Bool.{cases_lt}
use Rattle.vol_layout.specs.Geometry.{Fits, in_zone}
use Rattle.vol_layout.specs.BlockPointers.{form_at, stored}
use Rattle.vol_layout.specs.Slot.{slot_at}
use Rattle.vol_layout.specs.declared.geometry.Geometry.{Geometry}
use Rattle.vol_layout.specs.declared.slot.Slot.{Slot}
use Rattle.vol_file.specs.Rules.{size_of}
use Rattle.vol_dir.specs.Entries.{entry_at, entry_in, slot_count, IsDirectory, HasEntry}
use Rattle.vol_dir.proofs.NextEntries.{entry_some}
use Rattle.vol_dir.proofs.ReadSlots.{entry_in_block, empty_slot}
use Rattle.vol_judge.specs.Entered.{NotesBefore, NotesUpTo}
use Rattle.vol_judge.specs.Steps.{rank, IsNextSlot, IsPastEntries}
use Rattle.vol_judge.specs.declared.directories.entered.Entered.{Entered}
use Rattle.vol_judge.proofs.CollectedNames.{count_low, none_some}
use Rattle.vol_judge.proofs.PassedEntries.{entry_low}

-- what is noted before a position is noted up to its slot
pub noted_at : {geometry : Geometry} {image : List ℕ} {ups : List (Option ℕ)} {d s : ℕ} {found : Entered} → NotesBefore geometry image ups (rank d s) found
    → NotesUpTo geometry image ups d s found
noted_at {d = d} {s = s} notes = record { place = rank d s; notes = notes; reached = omega arith; passed = λ e t i name has before. before }

-- an empty slot is passed
pub noted_empty : {geometry : Geometry} {image : List ℕ} {ups : List (Option ℕ)} {d s : ℕ} {found : Entered} → NotesUpTo geometry image ups d s found
    → s < slot_count geometry image d → entry_at geometry image d s ≡ None → NotesUpTo geometry image ups d (s + 1) found
noted_empty {geometry = geometry} {image = image} {d = d} {s = s} notes within none = record {
  place = notes.place;
  notes = notes.notes;
  reached = let low = notes.reached in omega (arith, low);
  passed = λ e t i name has before. elim (cases_lt (rank e t) (rank d s)) [
    | inl early ↦ notes.passed e t i name has early
    | inr late ↦
        let low : t < 67637568 = entry_low has in
        let same : rank e t ≡ rank d s = omega (arith, before, late) in
        absurd (here e t i name has same)
  ];
}
  where
    here : (e t i : ℕ) (name : List ℕ) → HasEntry geometry image e t name i → rank e t ≡ rank d s → ⊥
    here e t i name has same =
        let low : t < 67637568 = entry_low has in
        let few : s < 67637568 = omega (arith, count_low geometry.edition (size_of geometry image d), within) in
        let directory : e ≡ d = omega (arith, same, low, few) in
        let number : t ≡ s = omega (arith, same, directory) in
        let there = rw (directory, number) at has.entry in
        none_some (entry_at geometry image d s) (name, i) there none

-- the entry of a slot is the next one
pub next_here : {geometry : Geometry} {image : List ℕ} {ups : List (Option ℕ)} {d s : ℕ} {found : Entered} (slot : Slot) → NotesUpTo geometry image ups d s found
    → IsDirectory geometry image d → s < slot_count geometry image d → entry_at geometry image d s ≡ entry_in slot → slot.inode ≢ 0
    → (place : ℕ) × NotesBefore geometry image ups place found × IsNextSlot geometry image place d s slot
next_here {geometry = geometry} {image = image} {d = d} {s = s} slot notes is within holds some = (
  notes.place,
  notes.notes,
  record {
    reached = notes.reached;
    low = omega (arith, count_low geometry.edition (size_of geometry image d), within);
    entry = record { directory = is; entry = holds ∙ entry_some slot some };
    before = notes.passed;
  },
)

-- an entry that is found from a position on is the next one
pub next_found : {geometry : Geometry} {image : List ℕ} {ups : List (Option ℕ)} {d s e t : ℕ} {found : Entered} (slot : Slot) → NotesUpTo geometry image ups d s found
    → IsNextSlot geometry image (rank d s) e t slot
    → (place : ℕ) × NotesBefore geometry image ups place found × IsNextSlot geometry image place e t slot
next_found slot notes next = (
  notes.place,
  notes.notes,
  record {
    reached = let low = notes.reached in let high = next.reached in omega (arith, low, high);
    low = next.low;
    entry = next.entry;
    before = λ f u i name has before. notes.passed f u i name has (next.before f u i name has before);
  },
)

-- the entry of slot s, read from the block that is stored for its logical block
pub holds_here : (geometry : Geometry) (image : List ℕ) (d b s k : ℕ) (slot : Slot) → Fits geometry image → 32 * b ≤ s → s < 32 * b + 32
    → s < slot_count geometry image d → stored geometry image d (form_at geometry image d) b ≡ k → in_zone geometry k ≡ true
    → slot ≡ slot_at image (512 * k + 16 * (s - 32 * b)) → entry_at geometry image d s ≡ entry_in slot
holds_here geometry image d b s k slot fits low high within is zone read =
    let place : s ≡ 32 * b + (s - 32 * b) = omega (arith, low) in
    ap (entry_at geometry image d) place
    ∙ (entry_in_block geometry image d b (s - 32 * b) k fits (omega (arith, low, high)) (omega (arith, low, within)) is zone ∙ ap entry_in (sym read))

-- a slot without an i-number has no entry
pub empty_here : (geometry : Geometry) (image : List ℕ) (d s : ℕ) (slot : Slot) → entry_at geometry image d s ≡ entry_in slot → slot.inode ≡ 0
    → entry_at geometry image d s ≡ None
empty_here geometry image d s slot holds none = holds ∙ empty_slot slot none

-- if no entry is left, no entry follows those that are noted
pub past_all : {geometry : Geometry} {image : List ℕ} {ups : List (Option ℕ)} {d s : ℕ} {found : Entered} (notes : NotesUpTo geometry image ups d s found)
    → IsPastEntries geometry image (rank d s) → IsPastEntries geometry image notes.place
past_all notes past e t i name has = notes.passed e t i name has (past e t i name has)
