use Rattle.std.proofs.Common.{◌≡◌, ◌∙◌, ◌++◌, List, ℕ, ap, codes, refl}
use Rattle.serde_json.specs.Data.{object}
use Rattle.serde_json.specs.Written.{compact_text}
use Rattle.command_reads.specs.Inode.{inode_front, members_front}
use Rattle.command_reads.proofs.ListTexts.{has_first, popped}
use Rattle.command_reads.proofs.inode.inode_front.Goals as goal

pub before_last-requires : goal.before_last-requires
before_last-requires c = has_first (members_front c.args.report.now) c.as_bytes.result.now (c.as_bytes.ensures.value ∙ c.in_ok-members.ensures)

pub returns : goal.returns
unfolding inode_front
returns c =
    let ms = members_front c.args.report.now in
    let text : c.as_bytes.result.now ≡ compact_text (object ms) = c.as_bytes.ensures.value ∙ c.in_ok-members.ensures in
    c.in_ok-extend_from_slice.ensures.items
    ∙ ap (λ (front : List ℕ). front ++ codes ",\"extents\":[")
    (c.in_ok-text.ensures.items ∙ (c.before_last.ensures ∙ popped ms c.as_bytes.result.now _ text refl))
