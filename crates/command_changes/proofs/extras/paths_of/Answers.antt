use Rattle.std.proofs.Common.{◌∙◌, ap, arith}
use Rattle.std.specs.Prelude.{string_bytes}
use Rattle.command_changes.proofs.ExtraEntries.{holds_more}
use Rattle.command_changes.specs.declared.sync.TreeMember.{TreeMember}
use Rattle.command_changes.proofs.extras.paths_of.Goals as goal

pub loop-member-preserved : goal.loop-member-preserved
loop-member-preserved c =
    holds_more c.loop-member.known c.insert.new.self c.args.members.now c.loop-member.member-index _ c.as_bytes.result (omega arith) c.loop-member.invariant
    (c.as_bytes.ensures.value ∙ ap (λ (member : TreeMember). string_bytes member.path) c.member-item.is) c.in_ok-insert.ensures.updates
