-- The titles of blocks.
use Rattle.std.specs.Prelude.{ℕ, ◌==◌, if◌then◌else◌, List, codes, length, map}
use Rattle.std.specs.List.{range_with_len}
use Rattle.vol_fields.specs.Tables.{role_at}
use Rattle.vol_fields.specs.Values.{role_text}
use Rattle.vol_fields.specs.declared.role.Role.{Role}
use Rattle.vol_fields.specs.declared.role.Role.TheVariants as roles

-- the title of a block in front of the data blocks (manual section 5, file system)
abbrev pub system_title : ℕ → List ℕ
system_title b = if b == 0 then codes "boot block" else if b == 1 then codes "super-block" else codes "i-list"

-- the title of a block with this role (this project)
abbrev pub title_of : ℕ → Role → List ℕ
title_of b roles.System = system_title b
title_of b role = role_text role

-- the titles of blocks with these roles, from block 0 on (this project)
unfoldable pub titles_of : List Role → List (List ℕ)
titles_of table = map (λ b. title_of b (role_at table b)) (range_with_len 0 (length table))
