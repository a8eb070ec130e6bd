use Rattle.std.proofs.Common.{◌≡◌, ◌+◌, ◌/◌, ◌∙◌, ap, sym, subst, arith, refl}
use Rattle.vol_layout.specs.BlockPointers.{form_at, stored}
use Rattle.vol_layout.specs.BlockMaps.{form_of}
use Rattle.vol_file.specs.Steps.{Rewrites, zeros_at}
use Rattle.vol_file.proofs.Bytes.{rewrites_then, rewrites_none, hole_zero}
use Rattle.vol_file.proofs.pieces.clear_between.Goals as goal

pub loop-at-preserved : goal.loop-at-preserved
loop-at-preserved c =
    let geometry = c.args.geometry.now in
    let here = c.loop-at.image in
    let start = c.clamp-start.result in
    let next = c.next_stored-b.ensures in
    record {
      from = omega (arith, c.loop-at.invariant.from, c.clamp-start.ensures);
      within = omega (arith, c.min-count.ensures, c.clamp-start.ensures, c.loop-at-test.true);
      cleared = λ blocks sound.
          let before = c.loop-at.invariant.cleared blocks sound in
          let same : c.args.form ≡ form_at geometry here c.args.i = c.requires.form ∙ ap (form_of geometry.edition) (sym before.mode) in
          let hole = rewrites_none geometry here blocks c.args.i c.loop-at.at start zeros_at before.sound
          (λ n low high.
          let empty : stored geometry here c.args.i (form_at geometry here c.args.i) (n / 512) ≡ 0 =
          ap (λ f. stored geometry here c.args.i f (n / 512)) (sym same)
          ∙ next.hole (n / 512) (omega (arith, low)) (omega (arith, low, high, c.clamp-start.ensures)) in
          hole_zero geometry here c.args.i n n before.sound.fits empty refl) in
          let passed = rewrites_then geometry c.args.image.now here here blocks c.args.i c.args.from c.loop-at.at start zeros_at sound
          c.requires.file.first c.loop-at.invariant.from (omega (arith, c.clamp-start.ensures)) before hole in
          rewrites_then geometry c.args.image.now here c.clear_piece.new.image blocks c.args.i c.args.from start
          (start + c.min-count.result) zeros_at sound c.requires.file.first (omega (arith, c.loop-at.invariant.from, c.clamp-start.ensures)) (omega arith)
          passed (c.clear_piece.ensures blocks before.sound);
    }

pub returns : goal.returns
returns c = λ blocks sound.
    let end : c.loop-at.at ≡ c.args.to = omega (arith, c.loop-at.invariant.within, c.loop-at-test.false) in
    subst (λ n. Rewrites c.args.geometry.now c.args.image.now c.loop-at.image c.args.i c.args.from n zeros_at blocks) end
    (c.loop-at.invariant.cleared blocks sound)
