-- Numbers, bytes and kinds of devices as they are written in scripts.
use Rattle.std.specs.Prelude.{ℕ, ◌==◌, if◌then◌else◌, List, [], ◌∷◌, length, Option, Some, None, find, codes}
use Rattle.std.specs.Result.{result_ok}
use Rattle.std.specs.Str.{bytes_eq}
use Rattle.hex.specs.Hex.{decode_of}
use Rattle.line_words.specs.Numbers.{number_in}
use Rattle.vol_layout.specs.declared.mode.DeviceKind.{DeviceKind}
use Rattle.vol_layout.specs.declared.mode.DeviceKind.TheVariants as devices
use Rattle.vol_scripts.specs.Texts.{device_letter}

-- the 32-bit decimal number in a word (this project)
abbrev pub long_in : List ℕ → Option ℕ
long_in word = number_in 10 4294967295 word

-- the 16-bit decimal number in a word (this project)
abbrev pub short_in : List ℕ → Option ℕ
short_in word = number_in 10 65535 word

-- the 8-bit decimal number in a word (this project)
abbrev pub byte_in : List ℕ → Option ℕ
byte_in word = number_in 10 255 word

-- the permissions in a word, an octal number of at most 7777 (this project)
abbrev pub permissions_in : List ℕ → Option ℕ
permissions_in word = number_in 8 4095 word

-- the bytes in a word: two hexadecimal digits of either case for each byte, or a hyphen for no bytes (this project)
abbrev pub bytes_in : List ℕ → Option (List ℕ)
bytes_in word =
    if bytes_eq word (codes "-") then Some []
    else if length word == 0 then None
    else result_ok (decode_of word)

-- the kind of device whose letter a word is (this project)
abbrev pub device_kind_in : List ℕ → Option DeviceKind
device_kind_in word = find (λ kind. bytes_eq (device_letter kind) word) (devices.Character ∷ devices.Block ∷ [])
