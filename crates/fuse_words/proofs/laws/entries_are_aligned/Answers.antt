use Rattle.std.proofs.Common.{length-append, arith}
use Rattle.std.proofs.lemmas.List.{length-replicate}
use Rattle.fuse_words.specs.Replies.{dirent_bytes}
use Rattle.fuse_words.proofs.laws.entries_are_aligned.Goals as goal

pub returns : goal.returns
unfolding dirent_bytes
returns c ino next_offset kind name = (simp (length-append, length-replicate) (omega arith), omega arith)
