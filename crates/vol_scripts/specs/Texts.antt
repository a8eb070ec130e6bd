-- The texts of outcomes.
use Rattle.std.specs.Prelude.{ℕ, ◌+◌, ◌/◌, ◌%◌, ◌++◌, List, [], ◌∷◌, length, codes, decimal}
use Rattle.hex.specs.Hex.{encode_lower}
use Rattle.vol_layout.specs.declared.mode.DeviceKind.{DeviceKind}
use Rattle.vol_layout.specs.declared.mode.DeviceKind.TheVariants as devices
use Rattle.vol_layout.specs.declared.mode.Kind.{Kind}
use Rattle.vol_layout.specs.declared.mode.Kind.TheVariants as kinds
use Rattle.vol_volume.specs.declared.calls.Done.{Done}
use Rattle.vol_volume.specs.declared.calls.Done.TheVariants as dones
use Rattle.vol_volume.specs.declared.queries.Reply.{Reply}
use Rattle.vol_volume.specs.declared.queries.Reply.TheVariants as replies
use Rattle.vol_volume.specs.declared.queries.Stat.{Stat}

-- the text of an accepted call's result: the i-number of the new node, the number of bytes written, or 0 (this project)
abbrev pub done_text : Done → List ℕ
done_text (dones.Made number) = codes "ok " ++ decimal number
done_text (dones.Wrote count) = codes "ok " ++ decimal count
done_text dones.Plain = codes "ok 0"

-- the word for a kind of node; anything but a file or a directory is special (this project)
abbrev pub kind_text : Kind → List ℕ
kind_text kinds.Regular = codes "file"
kind_text kinds.Directory = codes "dir"
kind_text _ = codes "special"

-- the letter of a kind of device (mknod, section 8 of the manual of the sixth edition, section 1 of the seventh's)
abbrev pub device_letter : DeviceKind → List ℕ
device_letter devices.Character = codes "c"
device_letter devices.Block = codes "b"

-- permissions, as four octal digits (this project)
abbrev pub permissions_text : ℕ → List ℕ
permissions_text bits = (48 + bits / 512 % 8) ∷ (48 + bits / 64 % 8) ∷ (48 + bits / 8 % 8) ∷ (48 + bits % 8) ∷ []

-- a node's i-number, its kind and its permissions (this project)
abbrev pub node_text : Stat → List ℕ
node_text stat = decimal stat.number ++ codes " " ++ kind_text stat.kind ++ codes " " ++ permissions_text stat.permissions

-- a node's attributes: its i-number, kind, permissions, links, user, group and size (this project)
abbrev pub stat_text : Stat → List ℕ
stat_text stat =
    codes "stat " ++ node_text stat ++ codes " " ++ decimal stat.links ++ codes " " ++ decimal stat.uid ++ codes " " ++ decimal stat.gid ++ codes " "
    ++ decimal stat.size

-- bytes as hexadecimal digits, or a hyphen if there are none (this project)
abbrev pub bytes_text : List ℕ → List ℕ
bytes_text [] = codes "-"
bytes_text (byte ∷ bytes) = encode_lower (byte ∷ bytes)

-- the text of a query's reply (this project)
abbrev pub reply_text : Reply → List ℕ
reply_text (replies.Stat stat) = stat_text stat
reply_text (replies.Bytes bytes) = codes "read " ++ bytes_text bytes
reply_text (replies.Names names) = codes "list " ++ decimal (length names)
