-- Copying the files of a volume one after another.
use Rattle.std.proofs.Common.{◌≡◌, ◌∙◌, sym, ap, subst, refl, ℕ, zero, suc, ◌+◌, ◌*◌, ◌/◌, ◌%◌, ◌<◌, ◌≤◌, eqb, true, false, not, List, length, get_or, replicate, length-append, inl, inr, arith}
use Rattle.std.specs.List.{range_with_len}
use Rattle.std.proofs.lemmas.Bool.{cases_eq, cases_lt, cases_Bool, eqb-true, true≢false}
use Rattle.std.proofs.lemmas.List.{get_or_past}
use Rattle.pdp_words.specs.Words.{word}
use Rattle.vol_layout.specs.Body.{body, body_size, zone_byte}
use Rattle.vol_layout.specs.Edition.{constants}
use Rattle.vol_layout.specs.Geometry.{Fits}
use Rattle.vol_layout.specs.Inode.{inode_place}
use Rattle.vol_layout.specs.BlockPointers.{IsFile, form_at, stored}
use Rattle.vol_layout.specs.BlockMaps.{has_places}
use Rattle.vol_layout.specs.Slot.{slot_at}
use Rattle.vol_layout.specs.declared.edition.Edition.TheVariants.{V6}
use Rattle.vol_layout.specs.declared.geometry.Geometry.{Geometry}
use Rattle.vol_layout.specs.declared.mode.Kind.{Kind}
use Rattle.vol_layout.specs.declared.mode.Kind.TheVariants as kinds
use Rattle.vol_layout.specs.declared.block_map.BlockMap.TheVariants.{Deep}
use Rattle.vol_layout.proofs.BodyLaws.{get_or-body, body_byte_is, length-body, zone_byte_out}
use Rattle.vol_layout.proofs.NameLaws.{zero_out}
use Rattle.vol_layout.proofs.NewInodes.{zeros_at}
use Rattle.vol_file.specs.Changes.{Writes, is_kept_byte, whole_blocks}
use Rattle.vol_file.specs.Need.{need, need_of}
use Rattle.vol_file.specs.Rules.{kind_at, size_of}
use Rattle.vol_file.specs.Shape.{is_named, is_on_ways, touched}
use Rattle.vol_file.proofs.Alone.{elsewhere_inode}
use Rattle.vol_dir.specs.Tree.{shapes, is_place}
use Rattle.vol_dir.proofs.PlaceTests.{place_passed}
use Rattle.vol_change.specs.Whole.{Rules3To8}
use Rattle.vol_change.proofs.ReadyLaws.{ready_whole}
use Rattle.vol_change.proofs.ShapePlaces.{at_places, guarded, need_places}
use Rattle.vol_migrate.specs.Raised.{names_block, stored_blocks}
use Rattle.vol_migrate.specs.Stages.{IsUsed, MayMigrate, IsCarried, IsStage, progress, carried_byte, raised_byte, bytes_of_slot}
use Rattle.vol_migrate.proofs.CarriedBlocks.{below_holes, count_holes, count_run, count_grows, none_below, before_more, before_within, need_all}
use Rattle.vol_migrate.proofs.FirstInodes.{byte_kept}
use Rattle.vol_migrate.proofs.FileShapes.{bare_need, names_stored}
use Rattle.vol_migrate.proofs.RaisedSlots.{raised_none}
use Rattle.vol_migrate.proofs.StageSteps.{carried_kind, form_seventh, touched_run, progress_self, progress_other, progress_before, progress_after, super_stays, other_stays, bare_carried, self_carried}

-- rules 3 to 8 hold for a volume that may be migrated
pub old_rules : (old : List ℕ) (from to : Geometry) → MayMigrate old from to → Rules3To8 from old
old_rules old from to may = ready_whole from old may.ready

-- a file is used
pub file_is_used : (old : List ℕ) (from : Geometry) (i : ℕ) → IsFile from old i → IsUsed from old i
file_is_used old from i file = record {
  first = file.first;
  last = file.last;
  some = λ free. let none : has_places (kind_at from old i) ≡ false = ap has_places free in absurd (true≢false (sym file.kind ∙ none));
}

-- a used i-node of a kind that has a block map is a file
pub used_file : (old : List ℕ) (from : Geometry) (i : ℕ) (kind : Kind) → IsUsed from old i → kind_at from old i ≡ kind → has_places kind ≡ true
    → IsFile from old i
used_file old from i kind used is places = record { first = used.first; last = used.last; kind = ap has_places is ∙ places }

-- the new i-node of a copied file is a file
pub carried_file : (old : List ℕ) (from to : Geometry) (now : ℕ) (image : List ℕ) (i n : ℕ) → MayMigrate old from to → IsFile from old i
    → IsCarried from to old now image i n → IsFile to image (i + 1)
carried_file old from to now image i n may file carried =
    let used = file_is_used old from i file in
    record {
      first = omega arith;
      last = may.numbers i used;
      kind = ap has_places (carried_kind from to old image now i n may.sixth may.seventh (old_rules old from to may).sound.kinds used carried) ∙ file.kind;
    }

-- writing the next blocks of a file needs as many blocks as are counted for them
pub need_is : (old : List ℕ) (from to : Geometry) (now : ℕ) (image : List ℕ) (i b k len : ℕ) → MayMigrate old from to → IsFile from old i
    → IsCarried from to old now image i b → 1 ≤ k → 512 * k < len + 512 → len ≤ 512 * k
    → need to image (i + 1) (512 * b) len ≡ need_of Deep (is_on_ways Deep (stored_blocks (shapes from old i) b)) (range_with_len b k)
need_is old from to now image i b k len may is carried first begun few =
    let file = carried_file old from to now image i b may is carried in
    let form = form_seventh to image (i + 1) may.seventh file in
    let places : at_places Deep (is_named to image (i + 1)) ≡ at_places Deep (is_on_ways Deep (stored_blocks (shapes from old i) b)) =
    λ t p. guarded (is_place Deep p) (is_named to image (i + 1) p) (is_on_ways Deep (stored_blocks (shapes from old i) b) p)
    (λ passes. (carried.file is.kind).names p (place_passed Deep p passes)) t in
    ap (λ f. need_of f (is_named to image (i + 1)) (touched (512 * b) len)) form
    ∙ (ap (need_of Deep (is_named to image (i + 1))) (touched_run b k len first begun few)
    ∙ (sym (need_places Deep (is_named to image (i + 1)) (range_with_len b k))
    ∙ (ap (λ names. need_of Deep names (range_with_len b k)) places
    ∙ need_places Deep (is_on_ways Deep (stored_blocks (shapes from old i) b)) (range_with_len b k))))

-- there are enough free blocks for the next blocks of a file
pub need_room : (old : List ℕ) (from to : Geometry) (now : ℕ) (image : List ℕ) (i b k : ℕ) (stage : IsStage from to old now image i b) → MayMigrate old from to
    → IsUsed from old i → ((c : ℕ) → b ≤ c → c < b + k → names_block (shapes from old i) c ≡ true) → b + k ≤ whole_blocks (size_of from old i)
    → need_of Deep (is_on_ways Deep (stored_blocks (shapes from old i) b)) (range_with_len b k) ≤ length stage.blocks
need_room old from to now image i b k stage may used some within =
    let more = count_run (shapes from old i) b k some in
    let grows = count_grows (shapes from old i) (b + k) (whole_blocks (size_of from old i)) within in
    let next = before_more from old i used.first in
    let all = before_within from old (i + 1) (from.last_inode + 1) (omega arith) (let last = used.last in omega (arith, last)) in
    let total = need_all from old in
    let space = may.space in
    let room = stage.room in
    omega (arith, more, grows, next, all, total, space, room)

-- after the write of `k` blocks from `b` on, these are copied
pub stage_written : (old : List ℕ) (from to : Geometry) (now : ℕ) (image new text : List ℕ) (i b k : ℕ) → MayMigrate old from to
    → (stage : IsStage from to old now image i b) → IsFile from old i → ((c : ℕ) → b ≤ c → c < b + k → names_block (shapes from old i) c ≡ true)
    → Writes to image new (i + 1) (512 * b) text stage.blocks
    → 1 ≤ k → 512 * k < length text + 512 → length text ≤ 512 * k → 512 * b + length text ≤ size_of from old i
    → ((x : ℕ) → x < size_of from old i → x / 512 < b + k → x < 512 * b + length text)
    → ((r : ℕ) → r < length text → get_or text r 0 ≡ carried_byte (kind_at from old i) (body from old i) (512 * b + r))
    → IsStage from to old now new i (b + k)
stage_written old from to now image new text i b k may stage old_file some writes first begun few within whole bytes =
    let used = file_is_used old from i old_file in
    let here : IsCarried from to old now image i b =
    subst (IsCarried from to old now image i) (progress_self from old i b) (stage.carried i used) in
    let file = carried_file old from to now image i b may old_file here in
    let rules = old_rules old from to may in
    let greatest = rules.sound.sizes.greatest i old_file in
    let limit : (constants from.edition).greatest ≡ 16777215 = ap (λ e. (constants e).greatest) may.sixth in
    let need = need_is old from to now image i b k (length text) may old_file here first begun few in
    let more = count_run (shapes from old i) b k some in
    let count = writes.count in
    let parts : length stage.blocks ≡ length writes.taken + length writes.rest = ap length writes.free ∙ length-append writes.taken writes.rest in
    let room = stage.room in
    record {
      blocks = writes.rest;
      sound = writes.sound;
      room = omega (arith, need, more, count, parts, room);
      super_block = super_stays to now image new stage.super_block writes.alone.elsewhere.len writes.alone.elsewhere.before writes.alone.elsewhere.super_block;
      carried = λ j other.
          elim (cases_eq j i) [
            | inl same ↦
                let now_here : IsCarried from to old now new i (b + k) =
                self_carried from to old image new text stage.blocks now i b k may.sixth may.seventh old_file.kind file (omega (arith, greatest, limit)) some writes first begun
                few within whole bytes here in
                let P : ℕ → Type 0 = λ h. IsCarried from to old now new h (progress from old i (b + k) h) in
                subst P (sym same) (subst (IsCarried from to old now new i) (sym (progress_self from old i (b + k))) now_here)
            | inr apart ↦
                let was = stage.carried j other in
                let is = carried_kind from to old image now j (progress from old i b j) may.sixth may.seventh rules.sound.kinds other was in
                let still = other_stays from to old image new now (i + 1) j (progress from old i b j) stage.sound.fits writes.alone (omega arith)
                (λ e. apart (omega (arith, e))) (may.numbers j other) may.seventh is was in
                subst (IsCarried from to old now new j) (progress_other from old i b (b + k) j apart) still
          ];
      zeros = λ h r low_h last idle low.
          let same : get_or new (inode_place to.edition h + r) 0 ≡ get_or image (inode_place to.edition h + r) 0 =
          elim (cases_eq h (i + 1)) [
            | inl is ↦
                elim idle [
                  | inl vacant ↦ absurd (vacant i is used)
                  | inr byte ↦
                      byte_kept to image new h (i + 1) r is byte
                      (writes.alone.elsewhere.inode 51 (ap (λ e. is_kept_byte e 51) may.seventh))
                ]
            | inr apart ↦
                (elsewhere_inode to image new (i + 1) h stage.sound.fits writes.alone.elsewhere (omega arith) low_h last apart).bytes r low
          ] in
          same ∙ stage.zeros h r low_h last idle low;
    }

-- a byte of the old body in a hole is 0
pub hole_byte : (from : Geometry) (old : List ℕ) (i x : ℕ) → Fits from old → stored from old i (form_at from old i) (x / 512) ≡ 0
    → get_or (body from old i) x 0 ≡ 0
hole_byte from old i x fits none =
    elim (cases_lt x (body_size from old i)) [
      | inl low ↦
          get_or-body from old i x low
          ∙ (body_byte_is from old i x
          ∙ (ap (λ k. zone_byte from old k (x % 512)) none ∙ zone_byte_out from old 0 (x % 512) (zero_out from old fits)))
      | inr past ↦ let long = length-body from old i in get_or_past (body from old i) x 0 (omega (arith, long, past))
    ]

-- an empty slot consists of zeros
empty_bytes : (r : ℕ) → r < 16 → get_or (bytes_of_slot (record { inode = 0; name = replicate 14 0 })) r 0 ≡ 0
empty_bytes zero low = refl
empty_bytes (suc zero) low = refl
empty_bytes (suc (suc r)) low = zeros_at 14 r

-- a byte copied from a hole is 0
carried_hole : (from : Geometry) (old : List ℕ) (i x : ℕ) (kind : Kind) → Fits from old → stored from old i (form_at from old i) (x / 512) ≡ 0
    → carried_byte kind (body from old i) x ≡ 0
unfolding raised_byte
carried_hole from old i x kinds.Regular fits none = hole_byte from old i x fits none
carried_hole from old i x kinds.Free fits none = hole_byte from old i x fits none
carried_hole from old i x kinds.Special fits none = hole_byte from old i x fits none
carried_hole from old i x kinds.Odd fits none = hole_byte from old i x fits none
carried_hole from old i x kinds.Directory fits none =
    let at = 16 * (x / 16) in
    let block : at / 512 ≡ x / 512 = omega arith in
    let next : (at + 1) / 512 ≡ x / 512 = omega arith in
    let low : get_or (body from old i) at 0 ≡ 0 = hole_byte from old i at fits (ap (stored from old i (form_at from old i)) block ∙ none) in
    let high : get_or (body from old i) (at + 1) 0 ≡ 0 = hole_byte from old i (at + 1) fits (ap (stored from old i (form_at from old i)) next ∙ none) in
    let number : word (body from old i) at ≡ 0 = omega (arith, low, high) in
    ap (λ slot. get_or (bytes_of_slot slot) (x % 16) 0) (raised_none (slot_at (body from old i) at) number) ∙ empty_bytes (x % 16) (omega arith)

-- if a shape doesn't have a logical block, no number is stored for it
stored_hole : (from : Geometry) (old : List ℕ) (i b : ℕ) → from.edition ≡ V6 → IsFile from old i → names_block (shapes from old i) b ≡ false
    → stored from old i (form_at from old i) b ≡ 0
stored_hole from old i b sixth file hole =
    elim (cases_Bool (eqb (stored from old i (form_at from old i) b) 0)) [
      | inl is ↦ eqb-true _ 0 is
      | inr some ↦ absurd (true≢false (sym (names_stored from old i b sixth file ∙ ap not some) ∙ hole))
    ]

-- passing holes leaves the stage as if they were copied
pub stage_holes : (old : List ℕ) (from to : Geometry) (now : ℕ) (image : List ℕ) (i m n : ℕ) → MayMigrate old from to → IsStage from to old now image i m
    → IsFile from old i → m ≤ n → ((b : ℕ) → m ≤ b → b < n → names_block (shapes from old i) b ≡ false) → IsStage from to old now image i n
stage_holes old from to now image i m n may stage file order holes =
    let used = file_is_used old from i file in
    let here : IsCarried from to old now image i m =
    subst (IsCarried from to old now image i) (progress_self from old i m) (stage.carried i used) in
    let has = here.file file.kind in
    let fits = may.ready.fits in
    let same = count_holes (shapes from old i) m n order holes in
    let room = stage.room in
    let now_here : IsCarried from to old now image i n = record {
      inode = here.inode;
      device = here.device;
      file = λ is. record {
        done = λ x low below.
            elim (cases_lt (x / 512) m) [
              | inl earlier ↦ has.done x low earlier
              | inr later ↦
                  has.rest x low later
                  ∙ sym (carried_hole from old i x (kind_at from old i) fits
                  (stored_hole from old i (x / 512) may.sixth file (holes (x / 512) later below)))
            ];
        rest = λ x low above. has.rest x low (omega (arith, order, above));
        names = λ p place. has.names p place ∙ sym (ap (λ blocks. is_on_ways Deep blocks p) (below_holes (shapes from old i) m n order holes));
      };
    } in
    record {
      blocks = stage.blocks;
      sound = stage.sound;
      room = omega (arith, same, room);
      super_block = stage.super_block;
      carried = λ j other.
          elim (cases_eq j i) [
            | inl is ↦
                let P : ℕ → Type 0 = λ k. IsCarried from to old now image k (progress from old i n k) in
                subst P (sym is) (subst (IsCarried from to old now image i) (sym (progress_self from old i n)) now_here)
            | inr apart ↦ subst (IsCarried from to old now image j) (progress_other from old i m n j apart) (stage.carried j other)
          ];
      zeros = stage.zeros;
    }

-- when i-node `i` is done, all its blocks are copied, and none of the next
progress_next : (from : Geometry) (old : List ℕ) (i n j : ℕ) → (j ≡ i → n ≡ whole_blocks (size_of from old i))
    → progress from old i n j ≡ progress from old (i + 1) 0 j
progress_next from old i n j end =
    elim (cases_lt j i) [
      | inl low ↦ progress_before from old i n j low ∙ sym (progress_before from old (i + 1) 0 j (omega (arith, low)))
      | inr high ↦
          elim (cases_eq j i) [
            | inl is ↦
                ap (progress from old i n) is ∙ (progress_self from old i n ∙ (end is ∙ (ap (λ k. whole_blocks (size_of from old k)) (sym is)
                ∙ sym (progress_before from old (i + 1) 0 j (omega (arith, is))))))
            | inr apart ↦
                progress_after from old i n j (omega (arith, high, apart))
                ∙ elim (cases_eq j (i + 1)) [
                  | inl next ↦ sym (ap (progress from old (i + 1) 0) next ∙ progress_self from old (i + 1) 0)
                  | inr later ↦ sym (progress_after from old (i + 1) 0 j (omega (arith, high, apart, later)))
                ]
          ]
    ]

-- after the last block of file `i`, the stage is at the start of the next i-node
pub stage_next : (old : List ℕ) (from to : Geometry) (now : ℕ) (image : List ℕ) (i : ℕ) → 1 ≤ i
    → IsStage from to old now image i (whole_blocks (size_of from old i)) → IsStage from to old now image (i + 1) 0
stage_next old from to now image i first stage =
    let room = stage.room in
    let more = before_more from old i first in
    let none = none_below (shapes from old (i + 1)) in
    record {
      blocks = stage.blocks;
      sound = stage.sound;
      room = omega (arith, room, more, none);
      super_block = stage.super_block;
      carried = λ j other.
          subst (IsCarried from to old now image j) (progress_next from old i (whole_blocks (size_of from old i)) j (λ is. refl)) (stage.carried j other);
      zeros = stage.zeros;
    }

-- passing an i-node that isn't a file leads to the next i-node
pub stage_pass : (old : List ℕ) (from to : Geometry) (now : ℕ) (image : List ℕ) (i : ℕ) → 1 ≤ i → i ≤ from.last_inode
    → has_places (kind_at from old i) ≡ false → IsStage from to old now image i 0 → IsStage from to old now image (i + 1) 0
stage_pass old from to now image i first last bare stage =
    let room = stage.room in
    let more = before_more from old i first in
    let need = bare_need from old i first last bare in
    let none = none_below (shapes from old (i + 1)) in
    let start = none_below (shapes from old i) in
    record {
      blocks = stage.blocks;
      sound = stage.sound;
      room = omega (arith, room, more, none, need, start);
      super_block = stage.super_block;
      carried = λ j other.
          elim (cases_eq j i) [
            | inl is ↦
                bare_carried from to old image now j (progress from old i 0 j) (progress from old (i + 1) 0 j)
                (ap (λ k. has_places (kind_at from old k)) is ∙ bare) (stage.carried j other)
            | inr apart ↦
                subst (IsCarried from to old now image j) (progress_next from old i 0 j (λ is. absurd (apart is))) (stage.carried j other)
          ];
      zeros = stage.zeros;
    }
