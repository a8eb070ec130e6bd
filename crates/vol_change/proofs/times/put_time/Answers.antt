use Rattle.vol_change.proofs.FreeLists.{time_free}
use Rattle.vol_change.proofs.ListWrites.{time_keeps, time_makes, time_content, time_graph}
use Rattle.vol_change.proofs.times.put_time.Goals as goal

pub returns-clause-changed : goal.returns-clause-changed
returns-clause-changed c =
    let geometry = c.args.geometry.now in
    let old = c.args.image.now in
    let new = c.put_time.new.image in
    let same = c.put_time.ensures.others in
    record {
      keeps = time_keeps geometry old new c.requires.rules same;
      makes = time_makes geometry old new c.args.now c.requires.rules same c.put_time.ensures.put;
      free = time_free geometry old new c.requires.rules same;
      content = λ j first last any. time_content geometry old new j c.requires.rules same;
    }

pub returns-clause-graph : goal.returns-clause-graph
returns-clause-graph c = time_graph c.args.geometry.now c.args.image.now c.put_time.new.image c.requires.rules c.put_time.ensures.others
