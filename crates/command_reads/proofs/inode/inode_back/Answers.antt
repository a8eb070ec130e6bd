use Rattle.std.proofs.Common.{◌≡◌, ◌∙◌, ◌++◌, ◌∷◌, [], List, ℕ, ap, codes, false}
use Rattle.serde_json.specs.Data.{object}
use Rattle.serde_json.specs.Written.{compact_text}
use Rattle.command_reads.specs.Inode.{inode_back, members_back}
use Rattle.command_reads.specs.Json.{between_braces}
use Rattle.command_reads.proofs.ListTexts.{after_brace, after_pieces, has_first}
use Rattle.command_reads.proofs.inode.inode_back.Goals as goal

pub after_first-requires : goal.after_first-requires
after_first-requires c = has_first (members_back c.args.report.now) c.as_bytes.result.now (c.as_bytes.ensures.value ∙ c.in_ok-members.ensures)

pub returns : goal.returns
unfolding inode_back
returns c =
    let ms = members_back c.args.report.now in
    let text : c.as_bytes.result.now ≡ compact_text (object ms) = c.as_bytes.ensures.value ∙ c.in_ok-members.ensures in
    let members : c.after_first.result.now ≡ between_braces false ms ++ 125 ∷ [] = c.after_first.ensures ∙ after_brace ms c.as_bytes.result.now text in
    let first : c.extend_from_slice.new.self.items ≡ codes "]," =
    c.in_ok-extend_from_slice.ensures.items ∙ ap (λ (text : List ℕ). text ++ codes "],") c.new-text.ensures.items in
    after_pieces (between_braces false ms) c.extend_from_slice.new.self.items c.extend_from_slice-2.new.self.items c.push.new.self.items c.after_first.result.now
    c.in_ok-push.ensures.items c.in_ok-extend_from_slice-2.ensures.items first members
