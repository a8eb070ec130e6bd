-- The space of a volume: how much of it is used.
use Rattle.std.specs.Prelude.{ℕ, ◌-◌, List, [], ◌∷◌, ◌++◌, codes, decimal, length}
use Rattle.std.specs.List.{repeat}
use Rattle.vol_inspect.specs.Texts.{free_fault_line}
use Rattle.vol_inspect.specs.declared.super_report.SuperReport.{SuperReport}

-- the number of items in use, given the number of all items and the number of free ones (df)
abbrev pub in_use : ℕ → ℕ → ℕ
in_use all free = all - free

-- a number, right-aligned in 10 columns (df)
abbrev pub column : ℕ → List ℕ
column n = repeat (10 - length (decimal n)) (32 ∷ []) ++ decimal n

-- a line: a name, the number of items, how many are used and how many are free (df)
unfoldable pub space_line : List ℕ → ℕ → ℕ → List ℕ
space_line name all free = name ++ (column all ++ (column (in_use all free) ++ (column free ++ codes "\n")))

-- the lines of a volume's space: a heading, all blocks, the data blocks, and the i-nodes; then the fault of the free list, which ends the count of
-- free blocks (df; icheck)
abbrev pub space_text : SuperReport → List ℕ
space_text report =
    codes "                  all      used      free\n"
    ++ (space_line (codes "blocks     ") report.geometry.zone_end report.free_blocks
    ++ (space_line (codes "data blocks") (report.geometry.zone_end - report.geometry.zone_start) report.free_blocks
    ++ (space_line (codes "i-nodes    ") report.geometry.last_inode report.free_inodes
    ++ free_fault_line report.fault)))
