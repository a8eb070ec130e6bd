use Rattle.std.proofs.Common.{◌≡◌, ◌-◌, ◌<◌, ◌≤◌, if◌then◌else◌, ap, sym, subst, ◌∙◌, arith}
use Rattle.std.specs.List.{range_with_len}
use Rattle.vol_layout.specs.BlockMaps.{form_of, block_limit}
use Rattle.vol_layout.specs.BlockPointers.{mode_of, form_at}
use Rattle.vol_layout.specs.declared.block_map.BlockMap.TheVariants.{Small, Large}
use Rattle.vol_file.specs.Shape.{is_named, is_on_ways}
use Rattle.vol_file.proofs.FilledPaths.{grows_small, grows_few, wants_plain, fills_plain, wants_large, fills_large, grows_not, grows_then, limit_of, limit_large, enlarged_file, room_some}
use Rattle.vol_file.proofs.EnlargedFiles.{small_edition}
use Rattle.vol_file.proofs.write_bytes.name_blocks.Goals as goal

pub make_large-requires : goal.make_large-requires
make_large-requires c =
    let geometry = c.args.geometry.now in
    let image = c.args.image.now in
    let may = c.requires.may in
    let is : c.of-form.result ≡ form_at geometry image c.args.i = c.of-form.ensures ∙ ap (form_of geometry.edition) c.mode.ensures in
    let grown = grows_small c.of-form.result (c.args.to - 1) (sym c.grows_large.ensures ∙ c.if-grows_large.true) in
    let small : form_at geometry image c.args.i ≡ Small = sym is ∙ grown.0 in
    let past : 8 < c.args.to = let high = grown.1 in omega (arith, high) in
    let grows = grows_then (form_at geometry image c.args.i) c.args.from (c.args.to - c.args.from) small (omega arith) (omega arith) in
    record {
      form = small;
      may = record {
        file = may.file;
        blocks = may.blocks;
        sound = may.has.sound;
        some = room_some (form_at geometry image c.args.i) (is_named geometry image c.args.i) (range_with_len c.args.from (c.args.to - c.args.from)) may.blocks grows may.has.room;
      };
    }

pub name_ways-requires-clause-form : goal.name_ways-requires-clause-form
name_ways-requires-clause-form c =
    let geometry = c.args.geometry.now in
    let image = c.args.image.now in
    let may = c.requires.may in
    let n = c.args.to - c.args.from in
    let is : c.of-form.result ≡ form_at geometry image c.args.i = c.of-form.ensures ∙ ap (form_of geometry.edition) c.mode.ensures in
    let grown = grows_small c.of-form.result (c.args.to - 1) (sym c.grows_large.ensures ∙ c.if-grows_large.true) in
    let small : form_at geometry image c.args.i ≡ Small = sym is ∙ grown.0 in
    let past : 8 < c.args.to = let high = grown.1 in omega (arith, high) in
    let grows = grows_then (form_at geometry image c.args.i) c.args.from n small (omega arith) (omega arith) in
    let some = room_some (form_at geometry image c.args.i) (is_named geometry image c.args.i) (range_with_len c.args.from n) may.blocks grows may.has.room in
    sym (c.make_large.ensures may.blocks may.has.sound some).form

pub name_ways-requires-clause-may : goal.name_ways-requires-clause-may
name_ways-requires-clause-may c =
    let geometry = c.args.geometry.now in
    let image = c.args.image.now in
    let may = c.requires.may in
    let n = c.args.to - c.args.from in
    let is : c.of-form.result ≡ form_at geometry image c.args.i = c.of-form.ensures ∙ ap (form_of geometry.edition) c.mode.ensures in
    let grown = grows_small c.of-form.result (c.args.to - 1) (sym c.grows_large.ensures ∙ c.if-grows_large.true) in
    let small : form_at geometry image c.args.i ≡ Small = sym is ∙ grown.0 in
    let past : 8 < c.args.to = let high = grown.1 in omega (arith, high) in
    let grows = grows_then (form_at geometry image c.args.i) c.args.from n small (omega arith) (omega arith) in
    let some = room_some (form_at geometry image c.args.i) (is_named geometry image c.args.i) (range_with_len c.args.from n) may.blocks grows may.has.room in
    let enlarged = c.make_large.ensures may.blocks may.has.sound some in
    let high = limit_large geometry.edition c.args.to (small_edition geometry.edition (mode_of geometry image c.args.i) small) c.requires.greatest in
    record {
      wanted = is_on_ways Large (range_with_len c.args.from n);
      blocks = enlarged.rest;
      is = wants_large geometry image c.make_large.new.image c.args.i c.args.from n may.blocks
          (enlarged_file geometry image c.make_large.new.image c.args.i may.blocks may.file enlarged) grows may.has.room enlarged (omega arith);
    }

pub name_ways-requires-else-grows_large-clause-may : goal.name_ways-requires-else-grows_large-clause-may
name_ways-requires-else-grows_large-clause-may c =
    let geometry = c.args.geometry.now in
    let image = c.args.image.now in
    let may = c.requires.may in
    let n = c.args.to - c.args.from in
    let is : c.of-form.result ≡ form_at geometry image c.args.i = c.of-form.ensures ∙ ap (form_of geometry.edition) c.mode.ensures in
    let low : form_at geometry image c.args.i ≡ Small → c.args.to ≤ 8 = λ small.
    let last = grows_few c.of-form.result (c.args.to - 1) (sym c.grows_large.ensures ∙ c.if-grows_large.false) (is ∙ small) in omega (arith, last) in
    let grows = grows_not (form_at geometry image c.args.i) c.args.from n (λ small. let h = low small in omega arith) in
    let high = limit_of geometry.edition (mode_of geometry image c.args.i) c.args.to may.file.kind c.requires.greatest low in
    record {
      wanted = is_on_ways (form_at geometry image c.args.i) (range_with_len c.args.from n);
      blocks = may.blocks;
      is = wants_plain geometry image c.args.i c.args.from n may.blocks may.file may.has.sound grows may.has.room (omega arith);
    }

pub returns-then-grows_large-clause-filled : goal.returns-then-grows_large-clause-filled
returns-then-grows_large-clause-filled c = λ blocks has.
    let geometry = c.args.geometry.now in
    let image = c.args.image.now in
    let file = c.requires.may.file in
    let n = c.args.to - c.args.from in
    let is : c.of-form.result ≡ form_at geometry image c.args.i = c.of-form.ensures ∙ ap (form_of geometry.edition) c.mode.ensures in
    let grown = grows_small c.of-form.result (c.args.to - 1) (sym c.grows_large.ensures ∙ c.if-grows_large.true) in
    let small : form_at geometry image c.args.i ≡ Small = sym is ∙ grown.0 in
    let past : 8 < c.args.to = let high = grown.1 in omega (arith, high) in
    let grows = grows_then (form_at geometry image c.args.i) c.args.from n small (omega arith) (omega arith) in
    let some = room_some (form_at geometry image c.args.i) (is_named geometry image c.args.i) (range_with_len c.args.from n) blocks grows has.room in
    let enlarged = c.make_large.ensures blocks has.sound some in
    let file_mid = enlarged_file geometry image c.make_large.new.image c.args.i blocks file enlarged in
    let high = limit_large geometry.edition c.args.to (small_edition geometry.edition (mode_of geometry image c.args.i) small) c.requires.greatest in
    fills_large geometry image c.make_large.new.image c.name_ways.new.image c.args.i c.args.from n blocks has.sound file file_mid grows enlarged
    (c.name_ways.ensures (is_on_ways Large (range_with_len c.args.from n)) enlarged.rest
    (wants_large geometry image c.make_large.new.image c.args.i c.args.from n blocks file_mid grows has.room enlarged (omega arith)))

pub returns-then-grows_large-clause-limit : goal.returns-then-grows_large-clause-limit
returns-then-grows_large-clause-limit c =
    let geometry = c.args.geometry.now in
    let may = c.requires.may in
    let is : c.of-form.result ≡ form_at geometry c.args.image.now c.args.i = c.of-form.ensures ∙ ap (form_of geometry.edition) c.mode.ensures in
    let grown = grows_small c.of-form.result (c.args.to - 1) (sym c.grows_large.ensures ∙ c.if-grows_large.true) in
    let small : form_at geometry c.args.image.now c.args.i ≡ Small = sym is ∙ grown.0 in
    let past : 8 < c.args.to = let high = grown.1 in omega (arith, high) in
    let n = c.args.to - c.args.from in
    let fills = returns-then-grows_large-clause-filled c may.blocks may.has in
    let grows = grows_then (form_at geometry c.args.image.now c.args.i) c.args.from n small (omega arith) (omega arith) in
    let high = limit_large geometry.edition c.args.to (small_edition geometry.edition (mode_of geometry c.args.image.now c.args.i) small) c.requires.greatest in
    subst (λ f. c.args.to ≤ block_limit f) (sym (fills.form ∙ ap (λ t. if t then Large else form_at geometry c.args.image.now c.args.i) grows)) high

pub returns-else-grows_large-clause-filled : goal.returns-else-grows_large-clause-filled
returns-else-grows_large-clause-filled c = λ blocks has.
    let geometry = c.args.geometry.now in
    let image = c.args.image.now in
    let file = c.requires.may.file in
    let n = c.args.to - c.args.from in
    let is : c.of-form.result ≡ form_at geometry image c.args.i = c.of-form.ensures ∙ ap (form_of geometry.edition) c.mode.ensures in
    let low : form_at geometry image c.args.i ≡ Small → c.args.to ≤ 8 = λ small.
    let last = grows_few c.of-form.result (c.args.to - 1) (sym c.grows_large.ensures ∙ c.if-grows_large.false) (is ∙ small) in omega (arith, last) in
    let grows = grows_not (form_at geometry image c.args.i) c.args.from n (λ small. let h = low small in omega arith) in
    let high = limit_of geometry.edition (mode_of geometry image c.args.i) c.args.to file.kind c.requires.greatest low in
    fills_plain geometry image c.name_ways-else-grows_large.new.image c.args.i c.args.from n blocks file grows
    (c.name_ways-else-grows_large.ensures (is_on_ways (form_at geometry image c.args.i) (range_with_len c.args.from n)) blocks
    (wants_plain geometry image c.args.i c.args.from n blocks file has.sound grows has.room (omega arith)))

pub returns-else-grows_large-clause-limit : goal.returns-else-grows_large-clause-limit
returns-else-grows_large-clause-limit c =
    let geometry = c.args.geometry.now in
    let image = c.args.image.now in
    let may = c.requires.may in
    let n = c.args.to - c.args.from in
    let is : c.of-form.result ≡ form_at geometry image c.args.i = c.of-form.ensures ∙ ap (form_of geometry.edition) c.mode.ensures in
    let low : form_at geometry image c.args.i ≡ Small → c.args.to ≤ 8 = λ small.
    let last = grows_few c.of-form.result (c.args.to - 1) (sym c.grows_large.ensures ∙ c.if-grows_large.false) (is ∙ small) in omega (arith, last) in
    let grows = grows_not (form_at geometry image c.args.i) c.args.from n (λ small. let h = low small in omega arith) in
    let high = limit_of geometry.edition (mode_of geometry image c.args.i) c.args.to may.file.kind c.requires.greatest low in
    let fills = returns-else-grows_large-clause-filled c may.blocks may.has in
    subst (λ f. c.args.to ≤ block_limit f) (sym (fills.form ∙ ap (λ t. if t then Large else form_at geometry image c.args.i) grows)) high
