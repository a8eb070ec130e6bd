use Rattle.vol_findings.proofs.Soundness.{judged_first, sound_held}
use Rattle.vol_findings.proofs.report.make_report.Goals as goal

pub returns : goal.returns
returns c =
    let edition = c.args.edition in
    let image = c.args.image.now in
    let found = c.in_ok-found.found in
    record {
      found = found;
      tells = c.in_ok-found.ensures;
      words = c.in_ok-text.ensures;
      least = judged_first edition image found c.in_ok-found.ensures;
      verdict = rw (c.are_held.ensures, c.lines_of.ensures) (sound_held edition image found c.in_ok-found.ensures);
    }
