use Rattle.std.proofs.Common.{take}
use Rattle.command_copies.specs.Lists.{HasMembers}
use Rattle.command_copies.specs.Members.{entry_member}
use Rattle.command_copies.proofs.lists.members_of.Given as goal

-- Invariant: the entries so far have these members.
abbrev pub invariant-founds : goal.invariant-founds
invariant-founds l = HasMembers (entry_member l.geometry l.image l.name l.founds) (take l.found-index l.founds) l.members.items
