use Rattle.std.proofs.Common.{◌≡◌, ◌∙◌, rules}
use Rattle.serde_json.specs.Data.{no_members, object}
use Rattle.serde_json.specs.View.{members_view, view}
use Rattle.serde_json.specs.declared.value.Value.{Object, the_lemmas}
use Rattle.command_reads.proofs.InOrder.{back_built}
use Rattle.command_reads.proofs.inode.back_value.Goals as goal

pub returns : goal.returns
returns c =
    let built = c.put_device.new.object in
    let opened : view (Object built) ≡ object (members_view built.entries) = search (rules, the_lemmas) in
    let none : members_view c.new-object.result.entries ≡ no_members = search rules in
    opened ∙ back_built c.args.report.now _ _ _ _ none c.in_ok-put_numbers.ensures c.in_ok-put_words.ensures c.in_ok-put_device.ensures
