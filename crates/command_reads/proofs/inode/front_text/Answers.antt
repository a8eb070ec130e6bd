use Rattle.command_reads.proofs.Whole.{front_whole}
use Rattle.command_reads.proofs.ListTexts.{text_of}
use Rattle.command_reads.proofs.inode.front_text.Goals as goal

pub returns : goal.returns
returns c = text_of _ _ c.to_string.result c.in_ok-value.ensures (front_whole c.args.report.now) c.to_string.ensures.text
