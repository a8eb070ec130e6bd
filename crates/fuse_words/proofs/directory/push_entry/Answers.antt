use Rattle.std.proofs.Common.{◌∙◌, ap, ◌++◌, length, arith}
use Rattle.std.proofs.lemmas.List.{take-replicate}
use Rattle.byteorder.specs.Endian.{little_bytes}
use Rattle.fuse_words.specs.Replies.{padding}
use Rattle.fuse_words.proofs.Appended.{dirent_put}
use Rattle.fuse_words.proofs.directory.push_entry.Goals as goal

pub returns-clause-pushed : goal.returns-clause-pushed
returns-clause-pushed c =
    dirent_put c.args.out.now.items c.push_u64.new.out.items c.push_u64-2.new.out.items c.push_u32.new.out.items c.push_u32-2.new.out.items c.push.new.out.items c.push-2.new.out.items c.args.ino c.args.next_offset c.args.kind c.args.name.now c.push_u64.ensures.items c.push_u64-2.ensures.items c.push_u32.ensures.items
    (c.push_u32-2.ensures.items ∙ ap (λ n. c.push_u32.new.out.items ++ little_bytes 4 n) c.number.ensures)
    c.push.ensures.items
    (c.push-2.ensures.items ∙ ap (λ xs. c.push.new.out.items ++ xs) (take-replicate (padding (length c.args.name.now)) 8 0 (omega arith)))
