use Rattle.std.proofs.Common.{◌∙◌}
use Rattle.vol_layout.specs.BlockPointers.{mode_of}
use Rattle.vol_file.proofs.Truncated.{emptied_to, shortened, given_count, ends_v6, mode_v7, mode_left}
use Rattle.vol_file.proofs.truncate_file.truncate.Goals as goal

pub returns-in-V6-clause-truncated : goal.returns-in-V6-clause-truncated
returns-in-V6-clause-truncated c = λ blocks sound.
    let clear = c.clear_addresses-given.ensures.cleared blocks sound in
    emptied_to c.args.geometry.now c.args.image.now c.clear_addresses-given.new.image c.put_mode.new.image blocks c.args.i c.args.size c.if-size-eq0.true
    sound.fits c.requires.file clear
    (ends_v6 c.args.geometry.now c.args.image.now c.clear_addresses-given.new.image c.put_size.new.image c.put_mode.new.image c.args.i
    c.mode-mode.result.bits c.with_large.result.bits c.in-V6.is c.requires.file c.put_size.ensures.others (c.put_size.ensures.put ∙ c.if-size-eq0.true)
    c.put_mode.ensures.others c.put_mode.ensures.put c.mode-mode.ensures c.with_large.ensures.bits c.with_large.ensures.kind)

pub returns-else-size-eq0-clause-truncated : goal.returns-else-size-eq0-clause-truncated
returns-else-size-eq0-clause-truncated c = λ blocks sound.
    shortened c.args.geometry.now c.args.image.now c.clear_addresses-given.new.image c.put_size.new.image blocks c.args.i c.args.size
    sound c.requires.file c.requires.within
    (mode_left c.args.geometry.now.edition c.args.size (mode_of c.args.geometry.now c.args.image.now c.args.i) c.if-size-eq0.false)
    (c.clear_addresses-given.ensures.cleared blocks sound) c.put_size.ensures.others c.put_size.ensures.put

pub returns-in-V7-clause-truncated : goal.returns-in-V7-clause-truncated
returns-in-V7-clause-truncated c = λ blocks sound.
    shortened c.args.geometry.now c.args.image.now c.clear_addresses-given.new.image c.put_size.new.image blocks c.args.i c.args.size
    sound c.requires.file c.requires.within
    (mode_v7 c.args.geometry.now.edition c.args.size (mode_of c.args.geometry.now c.args.image.now c.args.i) c.in-V7.is)
    (c.clear_addresses-given.ensures.cleared blocks sound) c.put_size.ensures.others c.put_size.ensures.put

pub returns-in-V6-clause-sound : goal.returns-in-V6-clause-sound
returns-in-V6-clause-sound c =
    let done = returns-in-V6-clause-truncated c c.requires.sound.blocks c.requires.sound.sound in
    record { blocks = _; sound = done.sound }

pub returns-else-size-eq0-clause-sound : goal.returns-else-size-eq0-clause-sound
returns-else-size-eq0-clause-sound c =
    let done = returns-else-size-eq0-clause-truncated c c.requires.sound.blocks c.requires.sound.sound in
    record { blocks = _; sound = done.sound }

pub returns-in-V7-clause-sound : goal.returns-in-V7-clause-sound
returns-in-V7-clause-sound c =
    let done = returns-in-V7-clause-truncated c c.requires.sound.blocks c.requires.sound.sound in
    record { blocks = _; sound = done.sound }

pub returns-in-V6-clause-count : goal.returns-in-V6-clause-count
returns-in-V6-clause-count c =
    given_count c.args.geometry.now c.args.image.now c.clear_addresses-given.new.image c.args.i c.args.size c.clear_addresses-given.result
    c.requires.sound c.requires.file c.requires.within c.clear_addresses-given.ensures.counted c.clear_addresses-given.ensures.cleared

pub returns-else-size-eq0-clause-count : goal.returns-else-size-eq0-clause-count
returns-else-size-eq0-clause-count c =
    given_count c.args.geometry.now c.args.image.now c.clear_addresses-given.new.image c.args.i c.args.size c.clear_addresses-given.result
    c.requires.sound c.requires.file c.requires.within c.clear_addresses-given.ensures.counted c.clear_addresses-given.ensures.cleared

pub returns-in-V7-clause-count : goal.returns-in-V7-clause-count
returns-in-V7-clause-count c =
    given_count c.args.geometry.now c.args.image.now c.clear_addresses-given.new.image c.args.i c.args.size c.clear_addresses-given.result
    c.requires.sound c.requires.file c.requires.within c.clear_addresses-given.ensures.counted c.clear_addresses-given.ensures.cleared
