-- The bytes that are written for consecutive logical blocks.
use Rattle.std.specs.Prelude.{slice_range}
use Rattle.std.proofs.Common.{◌≡◌, ◌≢◌, ◌∙◌, sym, ap, subst, refl, ℕ, ◌+◌, ◌-◌, ◌*◌, ◌/◌, ◌%◌, ◌<◌, ◌≤◌, min, true, List, length, get_or, take, if◌then◌else◌, Option, None, Some, inl, inr, arith}
use Rattle.std.proofs.lemmas.Bool.{cases_eq, and_parts, leb-true, ne_eqb}
use Rattle.std.proofs.lemmas.List.{get_or-take}
use Rattle.pdp_words.specs.Words.{word}
use Rattle.vol_layout.specs.Body.{body, body_byte, zone_byte}
use Rattle.vol_layout.specs.Edition.{constants}
use Rattle.vol_layout.specs.Geometry.{Fits, in_zone}
use Rattle.vol_layout.specs.BlockPointers.{IsFile, form_at, stored}
use Rattle.vol_layout.specs.BlockMaps.{last_place}
use Rattle.vol_layout.specs.Slot.{slot_at, name_of}
use Rattle.vol_layout.specs.declared.edition.Edition.{Edition}
use Rattle.vol_layout.specs.declared.edition.Edition.TheVariants.{V7}
use Rattle.vol_layout.specs.declared.geometry.Geometry.{Geometry}
use Rattle.vol_layout.specs.declared.slot.Slot.{Slot}
use Rattle.vol_layout.specs.declared.mode.Kind.{Kind}
use Rattle.vol_layout.specs.declared.mode.Kind.TheVariants as kinds
use Rattle.vol_layout.proofs.BodyLaws.{get_or-body, get_or-slice_range, length-body, body_byte_at, zone_byte_in, zone_room}
use Rattle.vol_layout.proofs.NameLaws.{stored_is, stored_none}
use Rattle.vol_layout.proofs.PlaceLaws.{last_leaf}
use Rattle.vol_layout.proofs.SlotLaws.{slot_copied}
use Rattle.vol_file.specs.Rules.{IsZoned, Rules3To7With, kind_at, size_of}
use Rattle.vol_dir.specs.Entries.{IsDirectory, entry_at}
use Rattle.vol_dir.proofs.ReadSlots.{entry_at_in}
use Rattle.vol_change.proofs.ReadyLaws.{ready_entries, ready_slots}
use Rattle.vol_mkfs.specs.Mkfs.{IsMakeable, is_size}
use Rattle.vol_free.proofs.Stacks.{IsFree_unique, zone_behind}
use Rattle.vol_file.specs.Changes.{Writes}
use Rattle.vol_file.specs.Need.{need}
use Rattle.vol_migrate.specs.Stages.{MayMigrate, IsCarried, HasStage, CarriesTo, carried_byte, progress, raised_byte, bytes_of_slot}
use Rattle.vol_dir.specs.Tree.{shapes}
use Rattle.vol_migrate.specs.Raised.{names_block, raised_slot}
use Rattle.vol_migrate.proofs.FileShapes.{names_some}
use Rattle.vol_migrate.proofs.StageSteps.{progress_self}
use Rattle.vol_migrate.proofs.StageLaws.{old_rules, file_is_used, carried_file, need_is, need_room, stage_written}

-- a number stored for a logical block is the number of a data block
pub stored_zone : (geometry : Geometry) (image : List ℕ) (i b : ℕ) → IsZoned geometry image → IsFile geometry image i
    → stored geometry image i (form_at geometry image i) b ≢ 0 → in_zone geometry (stored geometry image i (form_at geometry image i) b) ≡ true
stored_zone geometry image i b zoned file some =
    elim (last_place (form_at geometry image i) b) as (λ o. last_place (form_at geometry image i) b ≡ o
    → in_zone geometry (stored geometry image i (form_at geometry image i) b) ≡ true) [
      | None ↦ λ e. absurd (some (stored_none geometry image i (form_at geometry image i) b e))
      | Some p ↦ λ e.
          let is = stored_is geometry image i (form_at geometry image i) b p e in
          ap (in_zone geometry) is
          ∙ zoned i p (record { file = file; place = (last_leaf (form_at geometry image i) b p e).place }) (λ none. some (is ∙ none))
    ] refl

-- the facts about `k` blocks from `m` on that hold the logical blocks from `b` on
pub record HoldsRun (from : Geometry) (old : List ℕ) (i b m k len : ℕ) : Type 0 where
  pub fits : Fits from old
  pub zone : (c : ℕ) → c < k → in_zone from (m + c) ≡ true
  pub is : (c : ℕ) → c < k → stored from old i (form_at from old i) (b + c) ≡ m + c
  pub few : len ≤ 512 * k
  pub within : 512 * b + len ≤ size_of from old i
  pub greatest : size_of from old i ≤ (constants from.edition).greatest

-- the copied bytes are in the old volume
pub run_room : (from : Geometry) (old : List ℕ) (i b m k len : ℕ) → HoldsRun from old i b m k len → 1 ≤ k → 512 * m + len ≤ length old
run_room from old i b m k len holds first =
    let few = holds.few in
    let last = zone_room from old (m + (k - 1)) holds.fits (holds.zone (k - 1) (omega (arith, first))) in
    omega (arith, last, few, first)

-- each byte copied from the blocks is a byte of the body
pub text_byte : (from : Geometry) (old : List ℕ) (i b m k len r : ℕ) → HoldsRun from old i b m k len → r < len
    → get_or (slice_range old (512 * m) (512 * m + len)) r 0 ≡ get_or (body from old i) (512 * b + r) 0
text_byte from old i b m k len r holds low =
    let few = holds.few in
    let within = holds.within in
    let greatest = holds.greatest in
    let c = r / 512 in
    let inside : c < k = omega (arith, few, low) in
    let there : 512 * m + r ≡ 512 * (m + c) + r % 512 = omega arith in
    let here : 512 * (b + c) + r % 512 ≡ 512 * b + r = omega arith in
    get_or-slice_range old (512 * m) len r low
    ∙ (ap (λ x. get_or old x 0) there
    ∙ (sym (zone_byte_in from old (m + c) (r % 512) (holds.zone c inside))
    ∙ (sym (ap (λ x. zone_byte from old x (r % 512)) (holds.is c inside))
    ∙ (sym (body_byte_at from old i (b + c) (r % 512) (omega arith))
    ∙ (ap (body_byte from old i) here ∙ sym (get_or-body from old i (512 * b + r) (omega (arith, within, greatest, low))))))))

-- each slot copied from the block is a slot of the body
pub text_slot : (from : Geometry) (old text : List ℕ) (i b m k len s : ℕ) → HoldsRun from old i b m k len → text ≡ slice_range old (512 * m) (512 * m + len)
    → length text ≡ len → 16 * s + 16 ≤ len → slot_at text (16 * s) ≡ slot_at (body from old i) (512 * b + 16 * s)
text_slot from old text i b m k len s holds is size low =
    let within = holds.within in
    let greatest = holds.greatest in
    let long = length-body from old i in
    slot_copied (body from old i) text (512 * b + 16 * s) (16 * s)
    (record {
      bytes = λ r h.
          ap (λ xs. get_or xs (16 * s + r) 0) is
          ∙ (text_byte from old i b m k len (16 * s + r) holds (omega (arith, h, low))
          ∙ ap (λ k. get_or (body from old i) k 0) (let e : 512 * b + (16 * s + r) ≡ 512 * b + 16 * s + r = omega arith in e));
    })
    (omega (arith, long, within, greatest, low)) (omega (arith, size, low))

-- each raised byte of the copied slots is a raised byte of the body
pub text_raised : (from : Geometry) (old text : List ℕ) (i b m k len r : ℕ) → HoldsRun from old i b m k len → text ≡ slice_range old (512 * m) (512 * m + len)
    → length text ≡ len → len % 16 ≡ 0 → r < len → raised_byte text r ≡ raised_byte (body from old i) (512 * b + r)
unfolding raised_byte
text_raised from old text i b m k len r holds is size whole low =
    let slot = text_slot from old text i b m k len (r / 16) holds is size (omega (arith, whole, low)) in
    let at : 512 * b + 16 * (r / 16) ≡ 16 * ((512 * b + r) / 16) = omega arith in
    let rest : r % 16 ≡ (512 * b + r) % 16 = omega arith in
    ap (λ (s : Slot). get_or (bytes_of_slot (raised_slot s)) (r % 16) 0) (slot ∙ ap (slot_at (body from old i)) at)
    ∙ ap (λ k. get_or (bytes_of_slot (raised_slot (slot_at (body from old i) (16 * ((512 * b + r) / 16))))) k 0) rest

-- a volume of the seventh edition with a permitted size has an i-list of at most 8,191 blocks
size_seventh : (edition : Edition) (end blocks : ℕ) → edition ≡ V7 → is_size edition end blocks ≡ true → blocks ≤ 8191
size_seventh edition end blocks seventh is =
    let of_seventh : is_size V7 end blocks ≡ true = ap (λ e. is_size e end blocks) (sym seventh) ∙ is in
    leb-true blocks 8191 (and_parts _ _ (and_parts _ _ of_seventh).1).0

-- the greatest i-number of the new volume is at most 65,528
pub few_numbers : (to : Geometry) → to.edition ≡ V7 → IsMakeable to → to.last_inode ≤ 65528
few_numbers to seventh makeable =
    let blocks = size_seventh to.edition to.zone_end (to.zone_start - 2) seventh makeable.size in
    let count : (constants to.edition).inodes_per_block ≡ 8 = ap (λ e. (constants e).inodes_per_block) seventh in
    let inodes : to.last_inode ≡ 8 * (to.zone_start - 2) = makeable.inodes ∙ ap (λ n. n * (to.zone_start - 2)) count in
    omega (arith, blocks, inodes)

-- an i-number in an entry of the old volume is below 65,535, so that it can be raised
pub text_number : (from to : Geometry) (old text : List ℕ) (i b m k len s : ℕ) → MayMigrate old from to → HoldsRun from old i b m k len
    → IsDirectory from old i → text ≡ slice_range old (512 * m) (512 * m + len) → length text ≡ len → 16 * s + 16 ≤ len → word text (16 * s) < 65535
text_number from to old text i b m k len s may holds directory is size low =
    let slot = text_slot from old text i b m k len s holds is size low in
    let at : 512 * b + 16 * s ≡ 16 * (32 * b + s) = omega arith in
    let here = slot_at (body from old i) (16 * (32 * b + s)) in
    let number : word text (16 * s) ≡ here.inode = ap (λ (x : Slot). x.inode) (slot ∙ ap (slot_at (body from old i)) at) in
    let within = holds.within in
    let greatest = holds.greatest in
    let few = few_numbers to may.seventh may.makeable in
    elim (cases_eq here.inode 0) [
      | inl none ↦ omega (arith, number, none)
      | inr some ↦
          let entry : entry_at from old i (32 * b + s) ≡ Some (name_of here.name, here.inode) =
          entry_at_in from old i (32 * b + s) (omega (arith, low, within, greatest))
          ∙ ap (λ t. if◌then◌else◌ {A = Option (List ℕ × ℕ)} t None (Some (name_of here.name, here.inode))) (ne_eqb here.inode 0 some) in
          let used = (ready_entries from old may.ready).allocated i (32 * b + s) here.inode (name_of here.name) (record { directory = directory; entry = entry }) in
          let raised = may.numbers here.inode (record { first = omega (arith, some); last = used.1; some = used.2 }) in
          omega (arith, number, raised, few)
    ]

-- the facts when logical blocks are written
pub record WritesRun (from to : Geometry) (old image : List ℕ) (i b m k len : ℕ) : Type 0 where
  pub may : MayMigrate old from to
  pub stage : HasStage from to old image i b
  pub file : IsFile from old i
  pub holds : HoldsRun from old i b m k len
  pub first : 1 ≤ k
  pub begun : 512 * k < len + 512
  pub whole : (x : ℕ) → x < size_of from old i → x / 512 < b + k → x < 512 * b + len
  pub named : (c : ℕ) → b ≤ c → c < b + k → names_block (shapes from old i) c ≡ true

-- `WritesRun` holds for stored logical blocks that begin within the size
pub writes_run : (from to : Geometry) (old image : List ℕ) (i b m k len : ℕ) → MayMigrate old from to → HasStage from to old image i b → IsFile from old i
    → m ≢ 0 → ((c : ℕ) → c < k → stored from old i (form_at from old i) (b + c) ≡ m + c) → 1 ≤ k → 512 * (b + k) < size_of from old i + 512
    → len ≡ min (size_of from old i - 512 * b) (512 * k) → WritesRun from to old image i b m k len
writes_run from to old image i b m k len may stage file some is first within size =
    let rules = old_rules old from to may in
    let stands : (c : ℕ) → c < k → stored from old i (form_at from old i) (b + c) ≢ 0 = λ c low none. some (let at = is c low in omega (arith, at, none)) in
    record {
      may = may;
      stage = stage;
      file = file;
      holds = record {
        fits = may.ready.fits;
        zone = λ c low. subst (λ x. in_zone from x ≡ true) (is c low) (stored_zone from old i (b + c) rules.sound.zoned file (stands c low));
        is = is;
        few = omega (arith, size);
        within = omega (arith, size, within, first);
        greatest = rules.sound.sizes.greatest i file;
      };
      first = first;
      begun = omega (arith, size, within);
      whole = λ x low at. omega (arith, size, low, at);
      named = λ c from_b to_b.
          let at : b + (c - b) ≡ c = omega (arith, from_b) in
          ap (names_block (shapes from old i)) (sym at) ∙ names_some from old i (b + (c - b)) may.sixth file (stands (c - b) (omega (arith, from_b, to_b)));
    }

-- the new i-number is at most 65,528
pub write_number : (from to : Geometry) (old image : List ℕ) (i b m k len : ℕ) → WritesRun from to old image i b m k len → i + 1 ≤ 65528
write_number from to old image i b m k len w =
    let number = w.may.numbers i (file_is_used old from i w.file) in
    let few = few_numbers to w.may.seventh w.may.makeable in
    omega (arith, number, few)

-- the new i-node is a file
pub write_file : (from to : Geometry) (old image : List ℕ) (i b m k len : ℕ) → WritesRun from to old image i b m k len → IsFile to image (i + 1)
write_file from to old image i b m k len w =
    let used = file_is_used old from i w.file in
    carried_file old from to w.stage.now image i (progress from old i b i) w.may w.file (w.stage.stage.carried i used)

-- the bytes to be written end within the greatest size
pub write_greatest : (from to : Geometry) (old image : List ℕ) (i b m k len : ℕ) → WritesRun from to old image i b m k len
    → 512 * b + len ≤ (constants to.edition).greatest
write_greatest from to old image i b m k len w =
    let within = w.holds.within in
    let greatest = w.holds.greatest in
    let sixth : (constants from.edition).greatest ≡ 16777215 = ap (λ e. (constants e).greatest) w.may.sixth in
    let seventh : (constants to.edition).greatest ≡ 1082201088 = ap (λ e. (constants e).greatest) w.may.seventh in
    omega (arith, within, greatest, sixth, seventh)

-- there are enough free blocks for the write
pub write_room : (from to : Geometry) (old image blocks : List ℕ) (i b m k len : ℕ) → WritesRun from to old image i b m k len
    → Rules3To7With to image blocks → need to image (i + 1) (512 * b) len ≤ length blocks
write_room from to old image blocks i b m k len w rules =
    let used = file_is_used old from i w.file in
    let stage = w.stage.stage in
    let here = subst (IsCarried from to old w.stage.now image i) (progress_self from old i b) (stage.carried i used) in
    let need = need_is old from to w.stage.now image i b k len w.may w.file here w.first w.begun w.holds.few in
    let within = w.holds.within in
    let begun = w.begun in
    let room = need_room old from to w.stage.now image i b k stage w.may used w.named (omega (arith, within, begun)) in
    let behind = zone_behind rules.fits in
    let same : length blocks ≡ length stage.blocks = ap length (IsFree_unique (omega (arith, behind)) rules.free stage.sound.free) in
    omega (arith, need, room, same)

-- after the write these blocks are copied
pub write_carries : (from to : Geometry) (old image new text : List ℕ) (i b m k len : ℕ) → WritesRun from to old image i b m k len
    → ((blocks : List ℕ) → Rules3To7With to image blocks → Writes to image new (i + 1) (512 * b) text blocks) → length text ≡ len
    → ((r : ℕ) → r < len → get_or text r 0 ≡ carried_byte (kind_at from old i) (body from old i) (512 * b + r))
    → CarriesTo from to old image i b new i (b + k)
write_carries from to old image new text i b m k len w written size bytes = λ now stage.
    let begun = w.begun in
    let few = w.holds.few in
    let within = w.holds.within in
    stage_written old from to now image new text i b k w.may stage w.file w.named
    (written stage.blocks stage.sound) w.first (omega (arith, begun, size)) (omega (arith, few, size)) (omega (arith, within, size))
    (λ x low at. let whole = w.whole x low at in omega (arith, whole, size))
    (λ r low. bytes r (omega (arith, low, size)))

-- a file that isn't a directory is copied unchanged
pub carried_plain : (kind : Kind) (bytes : List ℕ) (x : ℕ) → kind ≢ kinds.Directory → carried_byte kind bytes x ≡ get_or bytes x 0
carried_plain kinds.Free bytes x other = refl
carried_plain kinds.Regular bytes x other = refl
carried_plain kinds.Special bytes x other = refl
carried_plain kinds.Odd bytes x other = refl
carried_plain kinds.Directory bytes x other = absurd (other refl)

-- a directory is copied with raised slots
pub carried_slots : (kind : Kind) (bytes : List ℕ) (x : ℕ) → kind ≡ kinds.Directory → carried_byte kind bytes x ≡ raised_byte bytes x
carried_slots kind bytes x is = ap (λ k. carried_byte k bytes x) is

-- the bytes of a directory's blocks are complete slots
pub whole_slots : (from to : Geometry) (old image : List ℕ) (i b m k len : ℕ) → WritesRun from to old image i b m k len → IsDirectory from old i
    → len ≡ min (size_of from old i - 512 * b) (512 * k) → len % 16 ≡ 0
whole_slots from to old image i b m k len w directory size =
    let slots = ready_slots from old i w.may.ready directory in
    let within = w.holds.within in
    omega (arith, slots, size, within)

-- writing the bytes of the blocks copies them, if their file isn't a directory
pub plain_carries : (from to : Geometry) (old image new text : List ℕ) (i b m k len : ℕ) → WritesRun from to old image i b m k len
    → kind_at from old i ≢ kinds.Directory → text ≡ slice_range old (512 * m) (512 * m + len) → length text ≡ len
    → ((blocks : List ℕ) → Rules3To7With to image blocks → Writes to image new (i + 1) (512 * b) text blocks)
    → CarriesTo from to old image i b new i (b + k)
plain_carries from to old image new text i b m k len w plain is size written =
    write_carries from to old image new text i b m k len w written size
    (λ r low.
    ap (λ xs. get_or xs r 0) is
    ∙ (text_byte from old i b m k len r w.holds low ∙ sym (carried_plain (kind_at from old i) (body from old i) (512 * b + r) plain)))

-- writing the raised slots of the blocks copies them, if their file is a directory
pub slots_carry : (from to : Geometry) (old image new text raised : List ℕ) (i b m k len : ℕ) → WritesRun from to old image i b m k len
    → IsDirectory from old i → text ≡ slice_range old (512 * m) (512 * m + len) → length text ≡ len → len ≡ min (size_of from old i - 512 * b) (512 * k)
    → ((x : ℕ) → 16 * (x / 16) + 16 ≤ length text → get_or raised x 0 ≡ raised_byte text x) → length (take len raised) ≡ len
    → ((blocks : List ℕ) → Rules3To7With to image blocks → Writes to image new (i + 1) (512 * b) (take len raised) blocks)
    → CarriesTo from to old image i b new i (b + k)
slots_carry from to old image new text raised i b m k len w directory is size exact each long written =
    let whole = whole_slots from to old image i b m k len w directory exact in
    write_carries from to old image new (take len raised) i b m k len w written long
    (λ r low.
    get_or-take len raised r 0 low
    ∙ (each r (omega (arith, whole, low, size))
    ∙ (text_raised from old text i b m k len r w.holds is size whole low
    ∙ sym (carried_slots (kind_at from old i) (body from old i) (512 * b + r) directory.kind))))
