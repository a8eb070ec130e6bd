-- User and group numbers that an edition's i-node can hold.
use Rattle.std.specs.Prelude.{ℕ, ◌||◌, Bool, nat_lt}
use Rattle.vol_layout.specs.Edition.{constants}
use Rattle.vol_layout.specs.declared.edition.Edition.{Edition}

-- true if the user number or the group number is above the edition's limit (manual section 5, file system)
abbrev pub is_bad_id : Edition → ℕ → ℕ → Bool
is_bad_id edition uid gid = nat_lt (constants edition).id_limit uid || nat_lt (constants edition).id_limit gid
