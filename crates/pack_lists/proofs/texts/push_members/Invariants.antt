use Rattle.std.proofs.Common.{◌≡◌, ◌++◌, take}
use Rattle.std.specs.List.{flat_map}
use Rattle.pack_lists.specs.Texts.{member_text}
use Rattle.pack_lists.proofs.texts.push_members.Given as goal

-- Invariant: the lines of the members so far are appended.
abbrev pub invariant-members : goal.invariant-members
invariant-members l = l.text.items ≡ l.fn.text.items ++ flat_map member_text (take l.member-index l.members)
