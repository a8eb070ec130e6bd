-- Changes of a file's bytes and of a directory's entries, before the node's times are set.
use Rattle.std.specs.Prelude.{ℕ, List}
use Rattle.vol_dir.specs.Tree.{Node, State}
use Rattle.vol_change.specs.Edits.{entry_added, entry_removed, bytes_written, bytes_cut}

-- the same node, with unchanged times (this project)
abbrev pub untimed : Node → Node
untimed node = node

-- bytes are written into file i at an offset, and its times don't change (Lions on writei)
abbrev pub write_body : ℕ → ℕ → List ℕ → State → State
write_body = bytes_written untimed

-- file i is cut to its first `size` bytes and the blocks that they need, and its times don't change (Lions on itrunc; that bytes may stay is this
-- project's)
abbrev pub cut_body : ℕ → ℕ → State → State
cut_body = bytes_cut untimed

-- an entry for i is added to directory d, and the directory's times don't change (Lions on wdir)
abbrev pub put_entry : ℕ → List ℕ → ℕ → State → State
put_entry = entry_added untimed

-- an entry of directory d is removed, and the directory's times don't change (Lions on unlink)
abbrev pub drop_entry : ℕ → List ℕ → State → State
drop_entry = entry_removed untimed
