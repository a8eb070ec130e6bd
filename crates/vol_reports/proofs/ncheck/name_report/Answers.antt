use Rattle.std.proofs.Common.{map, ap, ◌∙◌}
use Rattle.std.specs.List.{sum_by}
use Rattle.vol_judge.specs.Directories.{root_of}
use Rattle.vol_reports.specs.Climb.{path_in, seen_pair}
use Rattle.vol_reports.proofs.NameLines.{paths_weigh}
use Rattle.vol_reports.proofs.PathLists.{sorted_weigh, sorted_pairs}
use Rattle.vol_reports.proofs.ncheck.name_report.Goals as goal

pub returns : goal.returns
returns c = λ image counts.
    let f = path_in (root_of c.args.geometry.now) in
    record {
      pairs = map seen_pair c.sort.new.self.items;
      lines = c.from_vec.ensures ∙ c.in_ok-lines.ensures;
      sorted = sorted_pairs c.sort.new.self.items c.in_ok-sort.ensures.sorted;
      same = λ weight.
          sorted_weigh c.in_ok-paths.paths.items c.sort.new.self.items weight c.in_ok-sort.ensures.permutation
          ∙ (ap (sum_by weight) (c.in_ok-paths.ensures ∙ ap (λ xs. map (f xs) c.args.entries.now) c.deref.ensures.value)
          ∙ paths_weigh counts c.in_ok-naming.ensures.len c.in_ok-naming.ensures.naming weight);
    }
