use Rattle.std.proofs.Common.{refl, length, length-append}
use Rattle.fuse_words.specs.Replies.{reply_header, init_message, with_attributes, entry_message, attributes_message, open_message, data_message, written_message, statfs_message}
use Rattle.fuse_words.proofs.laws.replies_have_their_lengths.Goals as goal

pub returns : goal.returns
unfolding reply_header init_message with_attributes entry_message attributes_message open_message data_message written_message statfs_message
returns c unique errno seconds handle flags size settings entry attributes sizes content = (refl, refl, refl, refl, refl, length-append (reply_header (length content) unique) content, refl, refl)
