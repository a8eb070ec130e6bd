-- The command that shows the slots of a directory.
use Rattle.std.specs.Prelude.{◌≡◌, ℕ, ◌-◌, ◌*◌, ◌==◌, ◌&&◌, Bool, if◌then◌else◌, List, [], ◌∷◌, ◌++◌, codes, length, decimal, Ok, Err}
use Rattle.std.specs.List.{flat_map, list_all, range_with_len, repeat}
use Rattle.escaped_text.specs.Escape.{escaped}
use Rattle.serde_json.specs.Data.{Data, array, member, no_members, object, string}
use Rattle.serde_json.specs.View.{items_of}
use Rattle.serde_json.specs.Written.{compact_text}
use Rattle.vol_dir.specs.Directories.{find_directory}
use Rattle.vol_dir.specs.declared.directories.FoundDirectory.{FoundDirectory}
use Rattle.vol_dir.specs.declared.directories.DirectoryFault.{DirectoryFault}
use Rattle.vol_dir.specs.Entries.{slot_count}
use Rattle.vol_layout.specs.Body.{body}
use Rattle.vol_layout.specs.Slot.{name_of, slot_at}
use Rattle.vol_layout.specs.declared.edition.Edition.{Edition}
use Rattle.vol_layout.specs.declared.geometry.Geometry.{Geometry}
use Rattle.vol_layout.specs.declared.slot.Slot.{Slot}
use Rattle.vol_listing.specs.Json.{count}
use Rattle.vol_listing.specs.Lines.{shown}
use Rattle.vol_listing.specs.declared.options.Screen.{Screen}
use Rattle.command_faults.specs.declared.fault.Fault.{Fault}
use Rattle.command_reads.specs.Export.{unstarted}
use Rattle.command_terms.specs.declared.looks.OutputForm.{OutputForm}
use Rattle.command_terms.specs.declared.looks.OutputForm.TheVariants as forms
use Rattle.command_reads.specs.declared.slots.SlotForm.{SlotForm}
use Rattle.command_reads.specs.declared.slots.SlotForm.TheVariants as slot_forms

-- a number, right-aligned in 5 columns, or in as many as it has digits (ls -i)
abbrev pub aligned : ℕ → List ℕ
aligned n = repeat (5 - length (decimal n)) (32 ∷ []) ++ decimal n

-- the number of a slot and its i-number, each followed by a space (this project)
unfoldable pub slot_columns : ℕ → ℕ → List ℕ
slot_columns number inode = aligned number ++ (32 ∷ (aligned inode ++ 32 ∷ []))

-- true if all bytes of a slot are zero, as in a hole (manual section 5, directories)
abbrev pub is_blank : Slot → Bool
is_blank slot = (slot.inode == 0) && list_all (λ c. c == 0) slot.name

-- a slot: its i-number, its name, escaped as in the JSON of ls, and its number (this project)
abbrev pub slot_data : ℕ → Slot → Data
slot_data number slot =
    object (member (codes "ino") (count slot.inode)
    (member (codes "name") (string (escaped (name_of slot.name)))
    (member (codes "slot") (count number) no_members)))

-- the object of a slot, with a comma before it (RFC 8259)
abbrev pub slot_item : ℕ → Slot → List ℕ
slot_item number slot = 44 ∷ compact_text (slot_data number slot)

-- the text of a slot: a line with its number, its i-number and its name, or the object of a list (this project)
unfoldable pub slot_text : SlotForm → ℕ → Slot → List ℕ
slot_text (slot_forms.Line screen) number slot = slot_columns number slot.inode ++ (shown screen (name_of slot.name) ++ 10 ∷ [])
slot_text slot_forms.Item number slot = slot_item number slot

-- the text of a slot; an empty slot has i-number 0 and its old name; a blank one has no text (this project)
unfoldable pub slot_line : SlotForm → ℕ → Slot → List ℕ
slot_line form number slot = if is_blank slot then [] else slot_text form number slot

-- the texts of `few` slots of directory d, starting with slot `from` (this project)
unfoldable pub slot_lines : SlotForm → Geometry → List ℕ → ℕ → ℕ → ℕ → List ℕ
slot_lines form geometry image d from few =
    flat_map (λ s. slot_line form s (slot_at (body geometry image d) (16 * s))) (range_with_len from few)

-- the object of a slot, unless it is blank (this project)
abbrev pub slot_entry : ℕ → Slot → List Data
slot_entry number slot = if is_blank slot then [] else slot_data number slot ∷ []

-- the objects of all slots of directory d, in order (this project)
abbrev pub slot_entries : Geometry → List ℕ → ℕ → List Data
slot_entries geometry image d =
    flat_map (λ s. slot_entry s (slot_at (body geometry image d) (16 * s))) (range_with_len 0 (slot_count geometry image d))

-- all slots of directory d as one object, on one line (RFC 8259)
abbrev pub slots_json : Geometry → List ℕ → ℕ → List ℕ
slots_json geometry image d =
    compact_text (object (member (codes "format") (count 1)
    (member (codes "slots") (array (items_of (slot_entries geometry image d))) no_members))) ++ codes "\n"

-- all slots of directory d in this format (this project)
abbrev pub slots_in : Geometry → List ℕ → ℕ → OutputForm → Screen → List ℕ
slots_in geometry image d forms.Text screen = slot_lines (slot_forms.Line screen) geometry image d 0 (slot_count geometry image d)
slots_in geometry image d forms.Json screen = slots_json geometry image d

-- all slots of the directory at a path of an image, in order, in this format (this project)
pub record IsSlotsText (edition : Edition) (image path : List ℕ) (form : OutputForm) (screen : Screen) (text : List ℕ) : Type 0 where
  pub start : FoundDirectory
  pub begins : find_directory edition image path ≡ Ok start
  pub lines : text ≡ slots_in start.geometry image start.inode form screen

-- the reason why no slots are shown: the directory can't be reached (this project)
abbrev pub IsSlotsFault : Edition → List ℕ → List ℕ → Fault → Type 0
IsSlotsFault edition image path fault = (why : DirectoryFault) × (find_directory edition image path ≡ Err why) × (fault ≡ unstarted why)
