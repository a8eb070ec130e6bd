-- The roles of blocks as JSON.
use Rattle.std.specs.Prelude.{ℕ, List, codes}
use Rattle.serde_json.specs.Data.{Data, member, no_members, object, string}
use Rattle.vol_fields.specs.declared.role.Role.{Role}
use Rattle.vol_fields.specs.declared.role.Role.TheVariants as roles
use Rattle.vol_listing.specs.Json.{count}

-- the use of a block that no i-node uses (this project)
abbrev pub use_data : List ℕ → Data
use_data word = object (member (codes "use") (string word) no_members)

-- the use of a block that an i-node uses: the i-number, the levels of blocks below it, the first logical block of it, and the word (this project)
abbrev pub held_data : ℕ → ℕ → ℕ → List ℕ → Data
held_data ino level logical word =
    object (member (codes "ino") (count ino)
    (member (codes "level") (count level)
    (member (codes "logical") (count logical)
    (member (codes "use") (string word) no_members))))

-- the role of a block, in the words of the map (this project)
unfoldable pub role_data : Role → Data
role_data roles.System = use_data (codes "system")
role_data (roles.Slots ino logical size) = held_data ino 0 logical (codes "directory")
role_data (roles.Bytes ino logical size) = held_data ino 0 logical (codes "file")
role_data (roles.Entries ino level logical) = held_data ino level logical (codes "pointer")
role_data roles.Chain = use_data (codes "chain")
role_data roles.Free = use_data (codes "free")
role_data roles.Lost = use_data (codes "lost")
role_data roles.Twice = use_data (codes "named twice")
role_data roles.Outside = use_data (codes "outside")
