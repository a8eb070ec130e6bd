use Rattle.std.proofs.Common.{◌+◌, ◌-◌, ◌/◌, ◌≤◌, length, sym, subst, ◌∙◌, arith}
use Rattle.std.specs.List.{range_with_len}
use Rattle.vol_layout.specs.BlockMaps.{block_limit}
use Rattle.vol_layout.specs.declared.block_map.BlockMap.TheVariants.{Small}
use Rattle.vol_file.proofs.StoredNames.{file_same}
use Rattle.vol_file.proofs.Whole.{touched_run, run_room, fills_zone, writes, some_length}
use Rattle.vol_file.proofs.write_bytes.write.Goals as goal

pub name_blocks-requires-clause-may : goal.name_blocks-requires-clause-may
name_blocks-requires-clause-may c =
    let geometry = c.args.geometry.now in
    let image = c.args.image.now in
    let i = c.args.i in
    let offset = c.args.offset in
    let len = length c.args.text.now in
    let from = offset / 512 in
    let to = (offset + len - 1) / 512 + 1 in
    let some : 1 ≤ len = some_length len (sym c.is_empty.ensures ∙ c.if-is_empty.false) in
    let has = c.requires.sound in
    record {
      file = c.requires.file;
      blocks = has.blocks;
      has = run_room geometry image i offset len has.blocks some has.sound (c.requires.room has.blocks has.sound);
    }

pub put_in_blocks-requires : goal.put_in_blocks-requires
put_in_blocks-requires c =
    let geometry = c.args.geometry.now in
    let image = c.args.image.now in
    let i = c.args.i in
    let offset = c.args.offset in
    let len = length c.args.text.now in
    let from = offset / 512 in
    let to = (offset + len - 1) / 512 + 1 in
    let some : 1 ≤ len = some_length len (sym c.is_empty.ensures ∙ c.if-is_empty.false) in
    let has = c.requires.sound in
    let fills = c.name_blocks.ensures.filled has.blocks (run_room geometry image i offset len has.blocks some has.sound (c.requires.room has.blocks has.sound)) in
    record {
      file = fills.file;
      sound = record { blocks = fills.rest; sound = fills.sound };
      greatest = c.requires.greatest;
      small = λ small.
          let limit : to ≤ block_limit Small = subst (λ f. to ≤ block_limit f) small c.name_blocks.ensures.limit in omega (arith, limit, some);
      zone = λ n h. fills_zone geometry image c.name_blocks.new.image i from to ((offset + n) / 512) has.blocks fills c.name_blocks.ensures.limit
          (omega arith) (omega (arith, h));
    }

pub returns-clause-written : goal.returns-clause-written
returns-clause-written c = λ some blocks sound.
    let geometry = c.args.geometry.now in
    let image = c.args.image.now in
    let i = c.args.i in
    let offset = c.args.offset in
    let len = length c.args.text.now in
    let fills = c.name_blocks.ensures.filled blocks (run_room geometry image i offset len blocks some sound (c.requires.room blocks sound)) in
    writes geometry image c.name_blocks.new.image c.put_in_blocks.new.image i offset c.args.text.now
    (range_with_len (offset / 512) ((offset + len - 1) / 512 + 1 - offset / 512)) blocks c.requires.file sound c.requires.greatest
    (touched_run offset len some) fills (c.put_in_blocks.ensures fills.rest fills.sound)

pub returns-clause-sound : goal.returns-clause-sound
returns-clause-sound c =
    let len = length c.args.text.now in
    let some : 1 ≤ len = some_length len (sym c.is_empty.ensures ∙ c.if-is_empty.false) in
    let has = c.requires.sound in
    let whole = returns-clause-written c some has.blocks has.sound in record { blocks = whole.rest; sound = whole.sound }

pub returns-clause-fits : goal.returns-clause-fits
returns-clause-fits c = (returns-clause-sound c).sound.fits

pub returns-clause-file : goal.returns-clause-file
returns-clause-file c =
    let geometry = c.args.geometry.now in
    let image = c.args.image.now in
    let i = c.args.i in
    let len = length c.args.text.now in
    let some : 1 ≤ len = some_length len (sym c.is_empty.ensures ∙ c.if-is_empty.false) in
    let has = c.requires.sound in
    let fills = c.name_blocks.ensures.filled has.blocks
    (run_room geometry image i c.args.offset len has.blocks some has.sound (c.requires.room has.blocks has.sound)) in
    file_same geometry c.name_blocks.new.image c.put_in_blocks.new.image i (c.put_in_blocks.ensures fills.rest fills.sound).mode fills.file
