use Rattle.command_reads.specs.Json.{item_text}
use Rattle.command_reads.proofs.ListTexts.{text_of}
use Rattle.command_reads.proofs.pieces.item_text.Goals as goal

pub returns : goal.returns
unfolding item_text
returns g c = text_of _ _ c.to_string.result c.in_ok-value.ensures (c.requires.whole c.args.item.now) c.to_string.ensures.text
