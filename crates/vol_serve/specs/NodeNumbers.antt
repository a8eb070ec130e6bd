-- The kernel's numbers of nodes.
use Rattle.std.specs.Prelude.{ℕ, ◌+◌, ◌-◌, ◌==◌, ◌&&◌, nat_le, nat_lt, not, if◌then◌else◌, Option, None, Some}
use Rattle.vol_layout.specs.Edition.{constants}
use Rattle.vol_layout.specs.declared.edition.Edition.{Edition}

-- the number of the node with i-number i: 1 for the root, as the kernel requires; for any other, i + 65536, as i-numbers aren't reused while serving (FUSE_ROOT_ID; the rest is this project's)
abbrev pub node_number : Edition → ℕ → ℕ
node_number edition i = if i == (constants edition).root then 1 else 65536 + i

-- the i-number of the node with this number, if there can be one (this project)
abbrev pub i_number : Edition → ℕ → Option ℕ
i_number edition node =
    if node == 1 then Some (constants edition).root
    else if nat_le 65536 node && (nat_lt node 131072 && not (node - 65536 == (constants edition).root)) then Some (node - 65536)
    else None
