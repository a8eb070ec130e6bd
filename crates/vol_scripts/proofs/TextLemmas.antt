-- The texts of permissions and of a node's attributes.
use Rattle.std.proofs.Common.{◌≡◌, ℕ, ◌+◌, ◌/◌, ◌%◌, ◌++◌, List, [], ◌∷◌, codes, refl, arith, append_assoc}
use Rattle.std.proofs.lemmas.Fmt.{decimal_digit}
use Rattle.std.specs.Fmt.{decimal}
use Rattle.vol_dir.specs.declared.cred.Cred.{Cred}
use Rattle.vol_layout.specs.declared.mode.DeviceId.{DeviceId}
use Rattle.vol_scripts.specs.Journal.{device_after, words_before}
use Rattle.vol_scripts.specs.Refuse.{unread_text}
use Rattle.vol_scripts.specs.Texts.{device_letter, kind_text, node_text, permissions_text, stat_text}
use Rattle.vol_volume.specs.declared.queries.Stat.{Stat}

-- the four octal digits of permissions are appended one after another
pub four_digits : (bits : ℕ) → decimal (bits / 512 % 8) ++ (decimal (bits / 64 % 8) ++ (decimal (bits / 8 % 8) ++ decimal (bits % 8))) ≡ permissions_text bits
four_digits bits =
    let a : decimal (bits / 512 % 8) ≡ (48 + bits / 512 % 8) ∷ [] = decimal_digit (bits / 512 % 8) (omega arith) in
    let b : decimal (bits / 64 % 8) ≡ (48 + bits / 64 % 8) ∷ [] = decimal_digit (bits / 64 % 8) (omega arith) in
    let c : decimal (bits / 8 % 8) ≡ (48 + bits / 8 % 8) ∷ [] = decimal_digit (bits / 8 % 8) (omega arith) in
    let d : decimal (bits % 8) ≡ (48 + bits % 8) ∷ [] = decimal_digit (bits % 8) (omega arith) in
    rw (a, b, c, d) refl

-- the parts of a node's text, appended one after another, are this text
pub node_pieces : (stat : Stat) (kind permissions : List ℕ) → kind ≡ kind_text stat.kind → permissions ≡ permissions_text stat.permissions
    → decimal stat.number ++ (codes " " ++ (kind ++ (codes " " ++ permissions))) ≡ node_text stat
node_pieces stat kind permissions k p = rw (k, p) (simp append_assoc)

-- the parts of the text of a node's attributes, appended one after another, are this text
pub stat_pieces : (stat : Stat) (node : List ℕ) → node ≡ node_text stat
    → codes "stat " ++ (node ++ (codes " " ++ (decimal stat.links ++ (codes " " ++ (decimal stat.uid ++ (codes " " ++ (decimal stat.gid ++ (codes " "
    ++ decimal stat.size)))))))) ≡ stat_text stat
stat_pieces stat node n = rw n (simp append_assoc)

-- the parts of the message for an unreadable line, appended one after another, are this message
pub unread_pieces : (script line : ℕ) → codes "unixvol: script " ++ (decimal script ++ (codes " line " ++ (decimal line ++ codes "\n"))) ≡ unread_text script line
unread_pieces script line = simp append_assoc

-- the words before a call's path, appended one after another, are these words
pub before_pieces : (now : ℕ) (cred : Cred) (command : List ℕ)
    → decimal now ++ (codes " " ++ (decimal cred.uid ++ (codes " " ++ (decimal cred.gid ++ (codes " " ++ (command ++ codes " ")))))) ≡ words_before now cred command
before_pieces now cred command = simp append_assoc

-- two words, each with a space before it, are appended one after another
pub pair_pieces : (first second : List ℕ) → codes " " ++ (first ++ (codes " " ++ second)) ≡ codes " " ++ first ++ codes " " ++ second
pair_pieces first second = simp append_assoc

-- the words of a device, each with a space before it, are appended one after another
pub device_pieces : (device : DeviceId) (letter : List ℕ) → letter ≡ device_letter device.kind
    → codes " " ++ (letter ++ (codes " " ++ (decimal device.major ++ (codes " " ++ decimal device.minor)))) ≡ device_after device
device_pieces device letter is = rw is (simp append_assoc)

-- the parts of a call's words, appended one after another, are these words
pub call_pieces : (text one two three before path after : List ℕ) → one ≡ text ++ before → two ≡ one ++ path → three ≡ two ++ after
    → three ≡ text ++ (before ++ path ++ after)
call_pieces text one two three before path after first second third = rw (third, second, first) (simp append_assoc)
