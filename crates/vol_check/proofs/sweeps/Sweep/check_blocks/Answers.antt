use Rattle.std.proofs.Common.{◌≡◌, ◌≢◌, if◌then◌else◌, sym, ap, ◌∙◌, refl, arith}
use Rattle.std.proofs.lemmas.Bool.{eq-eqb, ne_eqb}
use Rattle.vol_free.specs.FreeWalk.{free_walk}
use Rattle.vol_check.specs.Pieces.{piece_weight, free_weight, inode_weight}
use Rattle.vol_check.proofs.AddedMarks.{adds_as}
use Rattle.vol_check.proofs.PastPieces.{free_piece, inode_piece}
use Rattle.vol_check.proofs.sweeps.Sweep.check_blocks.Goals as goal

pub returns-then-number-gt0-clause-ok : goal.returns-then-number-gt0-clause-ok
returns-then-number-gt0-clause-ok c =
    let g = c.args.geometry.now in
    let image = c.args.image.now in
    let n = c.args.number in
    let low = c.if-number-gt0.true in
    let some : n ≢ 0 = λ e. omega (arith, low, e) in
    record {
      adds = adds_as c.args.self.now.tally c.args.seat.now.seat c.mark_inode.new.seat (λ weight. inode_weight g image weight n)
          (λ weight. piece_weight g image weight n) c.in_ok-mark_inode.ensures.ok (λ weight. inode_piece g image weight n low c.requires.piece);
      entries = λ weight. omega arith;
      fault = sym (ap (λ t. if t then (free_walk g image).fault else c.args.seat.now.fault) (ne_eqb n 0 some));
      ended = refl;
      spoiled = refl;
    }

pub returns-clause-ok : goal.returns-clause-ok
returns-clause-ok c =
    let g = c.args.geometry.now in
    let image = c.args.image.now in
    let n = c.args.number in
    let high = c.if-number-gt0.false in
    let none : n ≡ 0 = omega (arith, high) in
    record {
      adds = adds_as c.args.self.now.tally c.args.seat.now.seat c.mark_free.new.seat (free_weight g image)
          (λ weight. piece_weight g image weight n) c.in_ok-seat.ensures.marks (λ weight. free_piece g image weight n none);
      entries = λ weight. omega arith;
      fault = c.in_ok-seat.ensures.fault ∙ sym (ap (λ t. if t then (free_walk g image).fault else c.args.seat.now.fault) (eq-eqb n 0 none));
      ended = refl;
      spoiled = refl;
    }
