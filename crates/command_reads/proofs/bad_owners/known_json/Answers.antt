use Rattle.std.proofs.Common.{◌≡◌, ◌++◌, codes, IfOk, ap, subst, ◌∙◌}
use Rattle.std.specs.String.{string_bytes}
use Rattle.serde_json.specs.Data.{Data}
use Rattle.serde_json.specs.Written.{compact_text, has_float}
use Rattle.command_reads.proofs.Whole.{known_whole}
use Rattle.command_reads.proofs.bad_owners.known_json.Goals as goal

pub line-requires : goal.line-requires
line-requires c = ap has_float c.in_ok-value.ensures ∙ known_whole c.args.block c.args.unread c.args.owners.now

pub returns : goal.returns
returns c =
    subst (λ (d : Data). IfOk c.line.result (λ text. string_bytes text ≡ compact_text d ++ codes "\n")) c.in_ok-value.ensures c.line.ensures
