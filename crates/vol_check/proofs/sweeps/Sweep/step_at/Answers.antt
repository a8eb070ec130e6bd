use Rattle.std.proofs.Common.{◌<◌, ap, ◌∙◌, refl, inr, arith, true}
use Rattle.count_table.specs.Tallies.{table_shape}
use Rattle.vol_check.specs.declared.seats.CheckSeat.{CheckSeat}
use Rattle.vol_check.specs.Seats.{is_stopped}
use Rattle.vol_check.proofs.PastPieces.{is_past}
use Rattle.vol_check.proofs.DirectoryPieces.{laid}
use Rattle.vol_check.proofs.Draws.{done_own, done_knows, end_own, end_knows, fail_own, spoiled_knows, clash, goes_on}
use Rattle.vol_check.proofs.sweeps.Sweep.step_at.Goals as goal

pub returns-in-Ok : goal.returns-in-Ok
returns-in-Ok g c =
    let sweep = c.args.self.now in
    let image = c.args.image.now in
    let old = c.args.seat.now in
    let n = c.claim-number.result in
    let mid : CheckSeat = record { seat = c.claim-number.new.seat; fault = old.fault; entries = old.entries; ended = old.ended; spoiled = old.spoiled } in
    let well = c.if-seat.false in
    let early = c.if-seat-2.false in
    let new = c.work-done.new.seat in
    let low : n < (table_shape sweep.tally).pieces = omega (arith, c.if-number-self.false, sweep.shaped.count) in
    let there = laid sweep.checker sweep.layout sweep.pieces n sweep.starts.items sweep.links.items (table_shape sweep.tally) sweep.shaped (omega (arith, c.if-number-self.false)) in
    let geo = there.0 in
    let works = c.in-Ok.ensures.ok geo there.1 in
    let drawn = works.adds.draws ∙ ap (λ v. v.draws) c.claim-number.ensures.drew in
    record {
      own = done_own sweep.tally sweep.checker sweep.layout image old mid new n c.requires.own c.requires.image early well c.claim-number.ensures.drew refl geo low works refl;
      knows = done_knows sweep.tally sweep.checker sweep.layout image old mid new n c.requires.own c.requires.image early well c.claim-number.ensures.drew refl geo there.1 works refl;
      answers = (drawn, low, c.claim-number.ensures.more, works.spoiled ∙ well);
      drew = inr (n, drawn);
      for_good = λ s. clash old.spoiled s well;
      no_more = λ e. clash (is_stopped old) e (goes_on old early well);
    }

pub returns-in-Err : goal.returns-in-Err
returns-in-Err g c =
    let sweep = c.args.self.now in
    let image = c.args.image.now in
    let old = c.args.seat.now in
    let n = c.claim-number.result in
    let mid : CheckSeat = record { seat = c.claim-number.new.seat; fault = old.fault; entries = old.entries; ended = old.ended; spoiled = old.spoiled } in
    let well = c.if-seat.false in
    let early = c.if-seat-2.false in
    let left = c.work-done.new.seat in
    let new : CheckSeat = record { seat = left.seat; fault = left.fault; entries = left.entries; ended = left.ended; spoiled = true } in
    let low : n < (table_shape sweep.tally).pieces = omega (arith, c.if-number-self.false, sweep.shaped.count) in
    let stays = c.in-Err.ensures.err in
    let drawn = stays.draws ∙ ap (λ v. v.draws) c.claim-number.ensures.drew in
    record {
      own = fail_own sweep.tally sweep.checker sweep.layout image old mid new n c.requires.own c.requires.image early well c.claim-number.ensures.drew refl low
          (record { own = stays.own; parts = stays.parts; draws = stays.draws; ended = stays.ended }) refl;
      knows = spoiled_knows sweep.checker sweep.layout image new refl;
      answers = refl;
      drew = inr (n, drawn);
      for_good = λ s. clash old.spoiled s well;
      no_more = λ e. clash (is_stopped old) e (goes_on old early well);
    }

pub returns-then-number-self : goal.returns-then-number-self
returns-then-number-self g c =
    let sweep = c.args.self.now in
    let image = c.args.image.now in
    let old = c.args.seat.now in
    let n = c.claim-number.result in
    let mid : CheckSeat = record { seat = c.claim-number.new.seat; fault = old.fault; entries = old.entries; ended = old.ended; spoiled = old.spoiled } in
    let new : CheckSeat = record { seat = c.claim-number.new.seat; fault = old.fault; entries = old.entries; ended = true; spoiled = old.spoiled } in
    let well = c.if-seat.false in
    let early = c.if-seat-2.false in
    let past = is_past sweep.checker sweep.layout image sweep.pieces sweep.starts.items sweep.links.items (table_shape sweep.tally) n sweep.shaped
    c.requires.layout.starts c.if-number-self.true in
    record {
      own = end_own sweep.tally sweep.checker sweep.layout image old mid new n c.requires.own c.requires.image early well c.claim-number.ensures.drew refl
          (omega (arith, c.if-number-self.true, sweep.shaped.count)) c.claim-number.ensures.own refl refl;
      knows = end_knows sweep.tally sweep.checker sweep.layout image old mid new n c.requires.own c.requires.image early well c.claim-number.ensures.drew refl past refl refl refl;
      answers = (refl, well);
      drew = inr (n, ap (λ v. v.draws) c.claim-number.ensures.drew);
      for_good = λ s. clash old.spoiled s well;
      no_more = λ e. clash (is_stopped old) e (goes_on old early well);
    }
