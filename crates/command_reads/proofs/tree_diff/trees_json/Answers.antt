use Rattle.std.proofs.Common.{◌∙◌, ◌==◌, ℕ, if◌then◌else◌, List, ap, length}
use Rattle.std.specs.Global.{Vec}
use Rattle.serde_json.specs.Data.{Data}
use Rattle.serde_json.specs.View.{items_of}
use Rattle.serde_json.specs.Written.{items_have_float}
use Rattle.serde_json.specs.declared.value.Value.{Value}
use Rattle.vol_compare.specs.Merge.{all_of, merged}
use Rattle.vol_compare.proofs.JsonLaws.{differences_whole}
use Rattle.field_json.specs.Items.{lines_json}
use Rattle.command_reads.specs.Diff.{items_status}
use Rattle.command_reads.proofs.DiffItems.{values_end}
use Rattle.command_reads.proofs.tree_diff.trees_json.Goals as goal

pub values_json-requires : goal.values_json-requires
values_json-requires c =
    ap (λ (ds : List Data). items_have_float (items_of ds)) c.in_ok-values.ensures
    ∙ differences_whole c.args.times c.args.old.now.geometry.now.edition c.args.new.now.geometry.now.edition
    (merged (all_of c.args.times c.args.old.now) (all_of c.args.times c.args.new.now))

pub returns-clause-text : goal.returns-clause-text
returns-clause-text c =
    c.silent.ensures.0
    ∙ (ap (λ (bytes : Vec ℕ). bytes.items) c.into_bytes.ensures.value ∙ (c.in_ok-text.ensures ∙ ap lines_json c.in_ok-values.ensures))

pub returns-clause-status : goal.returns-clause-status
returns-clause-status c =
    c.silent.ensures.1
    ∙ (c.values_status-status.ensures ∙ (ap (λ (vs : List Value). if length vs == 0 then 0 else 1) c.deref.ensures.value
    ∙ (values_end c.in_ok-values.values.items ∙ ap items_status c.in_ok-values.ensures)))
