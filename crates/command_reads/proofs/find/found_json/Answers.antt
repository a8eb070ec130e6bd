use Rattle.std.proofs.Common.{◌≡◌, List, ap, subst, ◌∙◌, IfOk}
use Rattle.std.specs.Prelude.{option_map}
use Rattle.std.specs.String.{string_bytes}
use Rattle.serde_json.specs.Data.{Data}
use Rattle.serde_json.specs.View.{items_of}
use Rattle.serde_json.specs.Written.{items_have_float}
use Rattle.vol_listing.specs.Json.{entries_text}
use Rattle.command_reads.proofs.Whole.{found_whole}
use Rattle.command_reads.proofs.find.found_json.Goals as goal

pub entries_line-requires : goal.entries_line-requires
entries_line-requires c =
    ap (λ (ds : List Data). items_have_float (items_of ds)) c.in_ok-values.ensures
    ∙ found_whole (option_map (λ word. word.now) c.args.pattern) c.args.top.now c.args.founds.now

pub returns : goal.returns
returns c =
    subst (λ (ds : List Data). IfOk c.entries_line.result (λ text. string_bytes text ≡ entries_text ds)) c.in_ok-values.ensures c.entries_line.ensures
