-- A file without a name that is closed.
use Rattle.std.proofs.Common.{◌≡◌, ◌∙◌, sym, ap, ℕ, ◌-◌, Bool, true, false, List, Option, Some, slice_get, slice_set}
use Rattle.std.specs.Prelude.{nat_le, if◌then◌else◌}
use Rattle.std.specs.List.{remove}
use Rattle.std.specs.Option.{option_map_or}
use Rattle.vol_mounted.specs.Orphans.{KeptFile, place_of, closed_at, closed_once}

-- the files after the one with a node number, which is at this index, was closed
found : (node place : ℕ) (files : List KeptFile) (file : KeptFile) → place_of node files ≡ Some place → slice_get files place ≡ Some file
    → closed_once node files ≡ closed_at files place file
found node place files file at is =
    ap (λ (found : Option ℕ). option_map_or (λ (place : ℕ). option_map_or (closed_at files place) (slice_get files place) files) found files) at
    ∙ ap (λ (got : Option KeptFile). option_map_or (closed_at files place) got files) is

-- if it was open once, it is freed
pub freed : (node place : ℕ) (files : List KeptFile) (file : KeptFile) → place_of node files ≡ Some place → slice_get files place ≡ Some file
    → nat_le file.opened 1 ≡ true → remove files place ≡ closed_once node files
freed node place files file at is once =
    sym (found node place files file at is
    ∙ ap (λ (b : Bool). if b then remove files place else slice_set files place (record file { opened = file.opened - 1 })) once)

-- if it was open more than once, one close is counted
pub counted : (node place : ℕ) (files : List KeptFile) (file : KeptFile) → place_of node files ≡ Some place → slice_get files place ≡ Some file
    → nat_le file.opened 1 ≡ false → slice_set files place (record file { opened = file.opened - 1 }) ≡ closed_once node files
counted node place files file at is more =
    sym (found node place files file at is
    ∙ ap (λ (b : Bool). if b then remove files place else slice_set files place (record file { opened = file.opened - 1 })) more)
