-- The bytes written for the blocks are those that the seventh edition has there.
use Rattle.std.proofs.Common.{◌≡◌, ◌∙◌, sym, ap, ℕ, ◌+◌, ◌-◌, ◌*◌, ◌≤◌, subst, min, length, length-take-le, take, arith}
use Rattle.std.specs.Prelude.{slice_range}
use Rattle.vol_layout.specs.Edition.{constants}
use Rattle.vol_layout.proofs.BodyLaws.{length-slice_range}
use Rattle.vol_file.specs.Need.{need}
use Rattle.vol_file.specs.Rules.{size_of}
use Rattle.vol_dir.specs.Entries.{IsDirectory}
use Rattle.vol_migrate.proofs.CopiedTexts.{WritesRun, writes_run, run_room, write_number, write_file, write_greatest, write_room, plain_carries, slots_carry, text_number}
use Rattle.vol_migrate.proofs.StageLaws.{old_rules}
use Rattle.vol_migrate.proofs.copy.copy_run.Goals as goal

pub overflow_mul-offset : goal.overflow_mul-offset
overflow_mul-offset c =
    let greatest = (old_rules c.args.old.now c.args.from.now c.args.to.now c.requires.may).sound.sizes.greatest c.args.i c.requires.file in
    let sixth : (constants c.args.from.now.edition).greatest ≡ 16777215 = ap (λ e. (constants e).greatest) c.requires.may.sixth in
    omega (arith, greatest, sixth, c.requires.within)

pub overflow_mul-count : goal.overflow_mul-count
overflow_mul-count c =
    let greatest = (old_rules c.args.old.now c.args.from.now c.args.to.now c.requires.may).sound.sizes.greatest c.args.i c.requires.file in
    let sixth : (constants c.args.from.now.edition).greatest ≡ 16777215 = ap (λ e. (constants e).greatest) c.requires.may.sixth in
    omega (arith, greatest, sixth, c.requires.within)

pub slice_bounds-text-end : goal.slice_bounds-text-end
slice_bounds-text-end c =
    let from = c.args.from.now in
    let to = c.args.to.now in
    let old = c.args.old.now in
    let i = c.args.i in
    let b = c.args.b in
    let size : c.min-len.result ≡ min (size_of from old i - 512 * b) (512 * c.args.count) =
    c.min-len.ensures ∙ ap (λ n. min (n - 512 * b) (512 * c.args.count)) c.size.ensures in
    let w : WritesRun from to old c.args.image.now i b c.args.m c.args.count c.min-len.result =
    writes_run from to old c.args.image.now i b c.args.m c.args.count c.min-len.result c.requires.may c.requires.stage c.requires.file c.requires.block c.requires.holds
    c.requires.some c.requires.within size in
    let room = run_room from old i b c.args.m c.args.count c.min-len.result w.holds c.requires.some in
    let same : length c.as_bytes.result.now ≡ length old = ap length c.as_bytes.ensures in
    omega (arith, room, same)

pub overflow_add-i : goal.overflow_add-i
overflow_add-i c =
    let from = c.args.from.now in
    let to = c.args.to.now in
    let old = c.args.old.now in
    let i = c.args.i in
    let b = c.args.b in
    let size : c.min-len.result ≡ min (size_of from old i - 512 * b) (512 * c.args.count) =
    c.min-len.ensures ∙ ap (λ n. min (n - 512 * b) (512 * c.args.count)) c.size.ensures in
    let w : WritesRun from to old c.args.image.now i b c.args.m c.args.count c.min-len.result =
    writes_run from to old c.args.image.now i b c.args.m c.args.count c.min-len.result c.requires.may c.requires.stage c.requires.file c.requires.block c.requires.holds
    c.requires.some c.requires.within size in
    let number = write_number from to old c.args.image.now i b c.args.m c.args.count c.min-len.result w in omega (arith, number)

pub raised_slots-requires-clause-numbers : goal.raised_slots-requires-clause-numbers
raised_slots-requires-clause-numbers c =
    let from = c.args.from.now in
    let to = c.args.to.now in
    let old = c.args.old.now in
    let i = c.args.i in
    let b = c.args.b in
    let size : c.min-len.result ≡ min (size_of from old i - 512 * b) (512 * c.args.count) =
    c.min-len.ensures ∙ ap (λ n. min (n - 512 * b) (512 * c.args.count)) c.size.ensures in
    let w : WritesRun from to old c.args.image.now i b c.args.m c.args.count c.min-len.result =
    writes_run from to old c.args.image.now i b c.args.m c.args.count c.min-len.result c.requires.may c.requires.stage c.requires.file c.requires.block c.requires.holds
    c.requires.some c.requires.within size in
    let text = slice_range c.as_bytes.result.now (512 * c.args.m) (512 * c.args.m + c.min-len.result) in
    let text_is : text ≡ slice_range old (512 * c.args.m) (512 * c.args.m + c.min-len.result) =
    ap (λ xs. slice_range xs (512 * c.args.m) (512 * c.args.m + c.min-len.result)) c.as_bytes.ensures in
    let room = run_room from old i b c.args.m c.args.count c.min-len.result w.holds c.requires.some in
    let same : length c.as_bytes.result.now ≡ length old = ap length c.as_bytes.ensures in
    let long : length text ≡ c.min-len.result = length-slice_range c.as_bytes.result.now (512 * c.args.m) c.min-len.result (omega (arith, room, same)) in
    let directory : IsDirectory from old i = record { first = c.requires.file.first; last = c.requires.file.last; kind = sym c.in-Directory.ensures } in
    λ s low. text_number from to old text i b c.args.m c.args.count c.min-len.result s c.requires.may w.holds directory text_is long (omega (arith, low, long))

pub write-requires-clause-file : goal.write-requires-clause-file
write-requires-clause-file c =
    let from = c.args.from.now in
    let to = c.args.to.now in
    let old = c.args.old.now in
    let i = c.args.i in
    let b = c.args.b in
    let size : c.min-len.result ≡ min (size_of from old i - 512 * b) (512 * c.args.count) =
    c.min-len.ensures ∙ ap (λ n. min (n - 512 * b) (512 * c.args.count)) c.size.ensures in
    let w : WritesRun from to old c.args.image.now i b c.args.m c.args.count c.min-len.result =
    writes_run from to old c.args.image.now i b c.args.m c.args.count c.min-len.result c.requires.may c.requires.stage c.requires.file c.requires.block c.requires.holds
    c.requires.some c.requires.within size in
    write_file from to old c.args.image.now i b c.args.m c.args.count c.min-len.result w

pub write-requires-clause-greatest : goal.write-requires-clause-greatest
write-requires-clause-greatest c =
    let from = c.args.from.now in
    let to = c.args.to.now in
    let old = c.args.old.now in
    let i = c.args.i in
    let b = c.args.b in
    let size : c.min-len.result ≡ min (size_of from old i - 512 * b) (512 * c.args.count) =
    c.min-len.ensures ∙ ap (λ n. min (n - 512 * b) (512 * c.args.count)) c.size.ensures in
    let w : WritesRun from to old c.args.image.now i b c.args.m c.args.count c.min-len.result =
    writes_run from to old c.args.image.now i b c.args.m c.args.count c.min-len.result c.requires.may c.requires.stage c.requires.file c.requires.block c.requires.holds
    c.requires.some c.requires.within size in
    let few_raised = w.holds.few in
    let one = c.requires.one (sym c.in-Directory.ensures) in
    let raised_long : length (take c.min-len.result c.raised_slots.result) ≡ c.min-len.result =
    length-take-le c.min-len.result c.raised_slots.result (omega (arith, one, few_raised)) in
    let most = write_greatest from to old c.args.image.now i b c.args.m c.args.count c.min-len.result w in omega (arith, most, raised_long)

pub write-requires-clause-room : goal.write-requires-clause-room
write-requires-clause-room c =
    let from = c.args.from.now in
    let to = c.args.to.now in
    let old = c.args.old.now in
    let i = c.args.i in
    let b = c.args.b in
    let size : c.min-len.result ≡ min (size_of from old i - 512 * b) (512 * c.args.count) =
    c.min-len.ensures ∙ ap (λ n. min (n - 512 * b) (512 * c.args.count)) c.size.ensures in
    let w : WritesRun from to old c.args.image.now i b c.args.m c.args.count c.min-len.result =
    writes_run from to old c.args.image.now i b c.args.m c.args.count c.min-len.result c.requires.may c.requires.stage c.requires.file c.requires.block c.requires.holds
    c.requires.some c.requires.within size in
    let few_raised = w.holds.few in
    let one = c.requires.one (sym c.in-Directory.ensures) in
    let raised_long : length (take c.min-len.result c.raised_slots.result) ≡ c.min-len.result =
    length-take-le c.min-len.result c.raised_slots.result (omega (arith, one, few_raised)) in
    λ blocks rules.
    let room = write_room from to old c.args.image.now blocks i b c.args.m c.args.count c.min-len.result w rules in
    let P : ℕ → Type 0 = λ n. need to c.args.image.now (i + 1) (512 * b) n ≤ length blocks in
    subst P (sym raised_long) room

pub overflow_add-i-in_default : goal.overflow_add-i-in_default
overflow_add-i-in_default c =
    let from = c.args.from.now in
    let to = c.args.to.now in
    let old = c.args.old.now in
    let i = c.args.i in
    let b = c.args.b in
    let size : c.min-len.result ≡ min (size_of from old i - 512 * b) (512 * c.args.count) =
    c.min-len.ensures ∙ ap (λ n. min (n - 512 * b) (512 * c.args.count)) c.size.ensures in
    let w : WritesRun from to old c.args.image.now i b c.args.m c.args.count c.min-len.result =
    writes_run from to old c.args.image.now i b c.args.m c.args.count c.min-len.result c.requires.may c.requires.stage c.requires.file c.requires.block c.requires.holds
    c.requires.some c.requires.within size in
    let number = write_number from to old c.args.image.now i b c.args.m c.args.count c.min-len.result w in omega (arith, number)

pub write-requires-in_default : goal.write-requires-in_default
write-requires-in_default c =
    let from = c.args.from.now in
    let to = c.args.to.now in
    let old = c.args.old.now in
    let i = c.args.i in
    let b = c.args.b in
    let size : c.min-len.result ≡ min (size_of from old i - 512 * b) (512 * c.args.count) =
    c.min-len.ensures ∙ ap (λ n. min (n - 512 * b) (512 * c.args.count)) c.size.ensures in
    let w : WritesRun from to old c.args.image.now i b c.args.m c.args.count c.min-len.result =
    writes_run from to old c.args.image.now i b c.args.m c.args.count c.min-len.result c.requires.may c.requires.stage c.requires.file c.requires.block c.requires.holds
    c.requires.some c.requires.within size in
    let text = slice_range c.as_bytes.result.now (512 * c.args.m) (512 * c.args.m + c.min-len.result) in
    let text_is : text ≡ slice_range old (512 * c.args.m) (512 * c.args.m + c.min-len.result) =
    ap (λ xs. slice_range xs (512 * c.args.m) (512 * c.args.m + c.min-len.result)) c.as_bytes.ensures in
    let room = run_room from old i b c.args.m c.args.count c.min-len.result w.holds c.requires.some in
    let same : length c.as_bytes.result.now ≡ length old = ap length c.as_bytes.ensures in
    let long : length text ≡ c.min-len.result = length-slice_range c.as_bytes.result.now (512 * c.args.m) c.min-len.result (omega (arith, room, same)) in
    let most = write_greatest from to old c.args.image.now i b c.args.m c.args.count c.min-len.result w in
    record {
      file = write_file from to old c.args.image.now i b c.args.m c.args.count c.min-len.result w;
      sound = record { blocks = c.requires.stage.stage.blocks; sound = c.requires.stage.stage.sound };
      greatest = omega (arith, most, long);
      room = λ blocks rules.
          let room = write_room from to old c.args.image.now blocks i b c.args.m c.args.count c.min-len.result w rules in
          let P : ℕ → Type 0 = λ n. need to c.args.image.now (i + 1) (512 * b) n ≤ length blocks in
          subst P (sym long) room;
    }

pub returns-in-Directory : goal.returns-in-Directory
returns-in-Directory c =
    let from = c.args.from.now in
    let to = c.args.to.now in
    let old = c.args.old.now in
    let i = c.args.i in
    let b = c.args.b in
    let size : c.min-len.result ≡ min (size_of from old i - 512 * b) (512 * c.args.count) =
    c.min-len.ensures ∙ ap (λ n. min (n - 512 * b) (512 * c.args.count)) c.size.ensures in
    let w : WritesRun from to old c.args.image.now i b c.args.m c.args.count c.min-len.result =
    writes_run from to old c.args.image.now i b c.args.m c.args.count c.min-len.result c.requires.may c.requires.stage c.requires.file c.requires.block c.requires.holds
    c.requires.some c.requires.within size in
    let text = slice_range c.as_bytes.result.now (512 * c.args.m) (512 * c.args.m + c.min-len.result) in
    let text_is : text ≡ slice_range old (512 * c.args.m) (512 * c.args.m + c.min-len.result) =
    ap (λ xs. slice_range xs (512 * c.args.m) (512 * c.args.m + c.min-len.result)) c.as_bytes.ensures in
    let room = run_room from old i b c.args.m c.args.count c.min-len.result w.holds c.requires.some in
    let same : length c.as_bytes.result.now ≡ length old = ap length c.as_bytes.ensures in
    let long : length text ≡ c.min-len.result = length-slice_range c.as_bytes.result.now (512 * c.args.m) c.min-len.result (omega (arith, room, same)) in
    let directory : IsDirectory from old i = record { first = c.requires.file.first; last = c.requires.file.last; kind = sym c.in-Directory.ensures } in
    let few_raised = w.holds.few in
    let one = c.requires.one (sym c.in-Directory.ensures) in
    let raised_long : length (take c.min-len.result c.raised_slots.result) ≡ c.min-len.result =
    length-take-le c.min-len.result c.raised_slots.result (omega (arith, one, few_raised)) in
    let begun = w.begun in
    slots_carry from to old c.args.image.now c.write.new.image text c.raised_slots.result i b c.args.m c.args.count c.min-len.result w directory text_is long size
    c.raised_slots.ensures raised_long (c.write.ensures.written (omega (arith, begun, raised_long)))

pub returns-in_default : goal.returns-in_default
returns-in_default c =
    let from = c.args.from.now in
    let to = c.args.to.now in
    let old = c.args.old.now in
    let i = c.args.i in
    let b = c.args.b in
    let size : c.min-len.result ≡ min (size_of from old i - 512 * b) (512 * c.args.count) =
    c.min-len.ensures ∙ ap (λ n. min (n - 512 * b) (512 * c.args.count)) c.size.ensures in
    let w : WritesRun from to old c.args.image.now i b c.args.m c.args.count c.min-len.result =
    writes_run from to old c.args.image.now i b c.args.m c.args.count c.min-len.result c.requires.may c.requires.stage c.requires.file c.requires.block c.requires.holds
    c.requires.some c.requires.within size in
    let text = slice_range c.as_bytes.result.now (512 * c.args.m) (512 * c.args.m + c.min-len.result) in
    let text_is : text ≡ slice_range old (512 * c.args.m) (512 * c.args.m + c.min-len.result) =
    ap (λ xs. slice_range xs (512 * c.args.m) (512 * c.args.m + c.min-len.result)) c.as_bytes.ensures in
    let room = run_room from old i b c.args.m c.args.count c.min-len.result w.holds c.requires.some in
    let same : length c.as_bytes.result.now ≡ length old = ap length c.as_bytes.ensures in
    let long : length text ≡ c.min-len.result = length-slice_range c.as_bytes.result.now (512 * c.args.m) c.min-len.result (omega (arith, room, same)) in
    let begun = w.begun in
    plain_carries from to old c.args.image.now c.write-in_default.new.image text i b c.args.m c.args.count c.min-len.result w
    (λ e. c.in_default.not-Directory (c.kind.ensures ∙ e)) text_is long (c.write-in_default.ensures.written (omega (arith, begun, long)))
