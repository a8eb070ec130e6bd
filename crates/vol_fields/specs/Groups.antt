-- Groups of the entries of a list that belong together.
use Rattle.std.specs.Prelude.{◌≡◌, ℕ, zero, suc, ◌+◌, ◌-◌, ◌<◌, ◌≤◌, nat_lt, Bool, false, if◌then◌else◌, List, [], ◌∷◌, length, slice_index_or}
use Rattle.std.specs.List.{All}
use Rattle.vol_fields.specs.declared.groups.Group.{Group}

-- the last of at most `count` entries after entry k that belong to it: entry j + 1 belongs to entry j if `joins` has true at j (this project)
unfoldable pub last_joined : List Bool → ℕ → ℕ → ℕ
last_joined joins zero k = k
last_joined joins (suc count) k = if slice_index_or joins k false then last_joined joins count (k + 1) else k

-- the last entry of the group from entry k to `last`; groups of fewer than `least` entries are of one each (this project)
abbrev pub cut_last : ℕ → ℕ → ℕ → ℕ
cut_last least k last = if nat_lt (last - k + 1) least then k else last

-- the group that begins at entry k (this project)
unfoldable pub group_at : List Bool → ℕ → ℕ → Group
group_at joins least k = record { first = k; last = cut_last least k (last_joined joins (length joins - k - 1) k) }

-- groups from entry n on follow one another; entry `done` comes after the last of them (this project)
abbrev pub AreGroupsUpTo : List Bool → ℕ → ℕ → ℕ → List Group → Type 0
AreGroupsUpTo joins least n done [] = n ≡ done
AreGroupsUpTo joins least n done (group ∷ more) =
    (n < length joins) × (group ≡ group_at joins least n) × AreGroupsUpTo joins least (group.last + 1) done more

-- the groups of all entries (this project)
abbrev pub AreGroups : List Bool → ℕ → List Group → Type 0
AreGroups joins least groups = AreGroupsUpTo joins least 0 (length joins) groups

-- the entries of each group are among the first `len` (this project)
abbrev pub AreGroupsWithin : ℕ → List Group → Type 0
AreGroupsWithin len groups = All (λ group. (group.first ≤ group.last) × (group.last < len)) groups
