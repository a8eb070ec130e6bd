-- The long lines of a listing.
use Rattle.std.specs.Prelude.{ℕ, ◌+◌, ◌/◌, ◌%◌, if◌then◌else◌, List, [], ◌∷◌, ◌++◌, Option, None, Some, codes}
use Rattle.vol_dir.specs.Access.{has_bit}
use Rattle.vol_layout.specs.Inode.{permissions_of}
use Rattle.vol_layout.specs.declared.mode.Kind.{Kind}
use Rattle.vol_layout.specs.declared.mode.Kind.TheVariants as kinds
use Rattle.vol_listing.specs.Digits.{digit_at, padded_number}
use Rattle.vol_listing.specs.Dates.{moment_text}
use Rattle.vol_listing.specs.Rows.{is_blank, special_sort}
use Rattle.vol_listing.specs.declared.rows.Row.{Row}
use Rattle.vol_listing.specs.declared.rows.Sort.{Sort}
use Rattle.vol_listing.specs.declared.rows.Sort.TheVariants as sorts

-- the letter of a kind of node (ls -l)
abbrev pub letter_of : Sort → ℕ
letter_of sorts.Regular = 45
letter_of sorts.Directory = 100
letter_of (sorts.Character device) = 99
letter_of (sorts.Block device) = 98

-- the letter of a permission if it is granted, else a dash (ls -l)
abbrev pub flag : ℕ → ℕ → ℕ → ℕ
flag permissions value letter = if has_bit permissions value then letter else 45

-- the letter for the permission to execute and a special bit: `x` or a dash without the special bit, `both` if both are set, `alone` if only the special bit is (ls -l)
abbrev pub special_flag : ℕ → ℕ → ℕ → ℕ → ℕ → ℕ
special_flag permissions value special both alone =
    if has_bit permissions special then (if has_bit permissions value then both else alone) else flag permissions value 120

-- the kind of a node and its permissions, in ten letters (ls -l)
unfoldable pub mode_text : Sort → ℕ → List ℕ
mode_text sort permissions =
    letter_of sort
    ∷ flag permissions 256 114 ∷ flag permissions 128 119 ∷ special_flag permissions 64 2048 115 83
    ∷ flag permissions 32 114 ∷ flag permissions 16 119 ∷ special_flag permissions 8 1024 115 83
    ∷ flag permissions 4 114 ∷ flag permissions 2 119 ∷ special_flag permissions 1 512 116 84
    ∷ []

-- the letters of a mode with this kind; none if no i-node that `ls` lists has it (ls -l)
abbrev pub kind_letters : ℕ → Kind → Option (List ℕ)
kind_letters mode kinds.Regular = Some (mode_text sorts.Regular (permissions_of mode))
kind_letters mode kinds.Directory = Some (mode_text sorts.Directory (permissions_of mode))
kind_letters mode kinds.Special = Some (mode_text (special_sort (mode / 4096) 0) (permissions_of mode))
kind_letters mode kind = None

-- the kind and the permissions of a row, in ten letters; a question mark if the kind isn't known (ls -l)
abbrev pub kind_column : Row → List ℕ
kind_column row = if is_blank row then codes "?---------" else mode_text row.sort row.permissions

-- a number below 1000, right-aligned in 3 columns (ls -l)
abbrev pub short_number : ℕ → List ℕ
short_number n = digit_at 100 n ∷ digit_at 10 n ∷ (48 + n % 10) ∷ []

-- a 32-bit number, right-aligned in 10 columns (ls -l)
unfoldable pub wide_number : ℕ → List ℕ
wide_number n =
    digit_at 1000000000 n ∷ digit_at 100000000 n ∷ digit_at 10000000 n ∷ digit_at 1000000 n ∷ digit_at 100000 n
    ∷ digit_at 10000 n ∷ digit_at 1000 n ∷ digit_at 100 n ∷ digit_at 10 n ∷ (48 + n % 10) ∷ []

-- the major and the minor number of a device, right-aligned in 10 columns: its high and its low byte (ls -l)
unfoldable pub device_text : ℕ → List ℕ
device_text device = 32 ∷ 32 ∷ 32 ∷ short_number (device / 256) ++ 44 ∷ short_number (device % 256)

-- the size of a node, or its device's numbers, in 10 columns (ls -l)
abbrev pub size_text : Sort → ℕ → List ℕ
size_text sorts.Regular size = wide_number size
size_text sorts.Directory size = wide_number size
size_text (sorts.Character device) size = device_text device
size_text (sorts.Block device) size = device_text device

-- a column of a line, followed by a space (this project)
abbrev pub column : List ℕ → List ℕ
column text = text ++ 32 ∷ []

-- the i-number of a node, its kind and permissions, its link count, its owner and its group, each followed by a space (ls -li)
unfoldable pub owner_columns : Row → List ℕ
owner_columns row =
    column (padded_number row.number)
    ++ (column (kind_column row)
    ++ (column (padded_number row.links)
    ++ (column (padded_number row.uid)
    ++ column (padded_number row.gid))))

-- the columns of a long line: the owner columns, then the size and the time of the last change of the contents, each followed by a space (ls -li)
unfoldable pub long_columns : Row → List ℕ
long_columns row = owner_columns row ++ (column (size_text row.sort row.size) ++ column (moment_text row.modified))

-- the long line of a name, with its node's attributes (ls -li)
unfoldable pub long_line : Row → List ℕ → List ℕ
long_line row name = long_columns row ++ (name ++ 10 ∷ [])
