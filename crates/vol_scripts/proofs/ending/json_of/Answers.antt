use Rattle.std.proofs.Common.{List, ap, ◌∙◌}
use Rattle.serde_json.specs.Data.{Data}
use Rattle.serde_json.specs.View.{items_of}
use Rattle.serde_json.specs.Written.{items_have_float}
use Rattle.vol_scripts.proofs.ReportWhole.{scripts_whole}
use Rattle.vol_scripts.proofs.ending.json_of.Goals as goal

pub report_line-requires : goal.report_line-requires
report_line-requires c = ap (λ (ds : List Data). items_have_float (items_of ds)) c.in_ok-lines.ensures ∙ scripts_whole 1 c.deref.result.now
