-- Sizes of new volumes: disks by name, and i-lists.
use Rattle.std.specs.Prelude.{◌==◌, ◌+◌, ◌/◌, ℕ, nat_lt, if◌then◌else◌, List, Option, Some, None, codes}
use Rattle.std.specs.Str.{str_eq_ignore_ascii_case}
use Rattle.vol_layout.specs.declared.edition.Edition.{Edition}
use Rattle.vol_layout.specs.declared.edition.Edition.TheVariants.{V6, V7}

-- the number of 512-byte blocks of the disk with this name, in letters of either case: cylinders times tracks times bytes of a track, such as 203 * 2 * 12 * 512 for an RK05 (DEC's handbooks of these disks; manual section 4, rk)
abbrev pub disk_blocks : List ℕ → Option ℕ
disk_blocks name =
    if str_eq_ignore_ascii_case name (codes "rk05") then Some 4872
    else if str_eq_ignore_ascii_case name (codes "rk06") then Some 27126
    else if str_eq_ignore_ascii_case name (codes "rk07") then Some 53790
    else if str_eq_ignore_ascii_case name (codes "rl01") then Some 10240
    else if str_eq_ignore_ascii_case name (codes "rl02") then Some 20480
    else if str_eq_ignore_ascii_case name (codes "rm03") then Some 131680
    else if str_eq_ignore_ascii_case name (codes "rp03") then Some 81200
    else if str_eq_ignore_ascii_case name (codes "rp04") then Some 171798
    else if str_eq_ignore_ascii_case name (codes "rp06") then Some 340670
    else if str_eq_ignore_ascii_case name (codes "rx01") then Some 500
    else if str_eq_ignore_ascii_case name (codes "rx02") then Some 1001
    else None

-- a number of blocks, limited to the sizes that an i-list can have: 1 to `most` (this project)
abbrev pub list_of : ℕ → ℕ → ℕ
list_of most blocks = if nat_lt most blocks then most else (if blocks == 0 then 1 else blocks)

-- the default number of blocks of the i-list that mkfs made for a volume with `blocks` blocks (mkfs.c)
abbrev pub list_default : Edition → ℕ → ℕ
list_default V6 blocks = list_of 4095 (blocks / (43 + blocks / 1000))
list_default V7 blocks = list_of 8187 (blocks / 25)
