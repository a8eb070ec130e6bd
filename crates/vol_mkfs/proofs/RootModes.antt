-- The mode of a new volume's root: a directory with all permissions.
use Rattle.std.proofs.Common.{◌≡◌, ◌≢◌, ℕ, ◌<◌, ◌≤◌, ◌/◌, ◌%◌, ◌==◌, refl, Bool, true, false, nat_lt, if◌then◌else◌, arith}
use Rattle.std.proofs.lemmas.Bool.Decides.{nat_tests}
use Rattle.vol_layout.specs.Inode.{kind_of, kind_of_type_v7, is_large, permissions_of}
use Rattle.vol_layout.specs.declared.edition.Edition.{Edition}
use Rattle.vol_layout.specs.declared.edition.Edition.TheVariants.{V6, V7}
use Rattle.vol_layout.specs.declared.mode.Kind.{Kind}
use Rattle.vol_layout.specs.declared.mode.Kind.TheVariants as kinds
use Rattle.vol_mkfs.specs.Mkfs.{root_mode}

-- if a choice gives directory, and its first value isn't directory, the test is false and the other value is directory
left : (test : Bool) (first rest : Kind) → first ≢ kinds.Directory → (if test then first else rest) ≡ kinds.Directory
    → (test ≡ false) × (rest ≡ kinds.Directory)
left true first rest other is = absurd (other is)
left false first rest other is = (refl, is)

free_other : kinds.Free ≢ kinds.Directory
free_other e = cc

odd_other : kinds.Odd ≢ kinds.Directory
odd_other e = cc

regular_other : kinds.Regular ≢ kinds.Directory
regular_other e = cc

special_other : kinds.Special ≢ kinds.Directory
special_other e = cc

-- if a choice gives directory, and its other value isn't directory, the test is true
chosen : (test : Bool) (rest : Kind) → rest ≢ kinds.Directory → (if test then kinds.Directory else rest) ≡ kinds.Directory → test ≡ true
chosen true rest other is = refl
chosen false rest other is = absurd (other is)

-- in the sixth edition, the mode of a directory is at least 32768 and has the type bits 2
type_v6 : (mode : ℕ) → kind_of V6 mode ≡ kinds.Directory → (32768 ≤ mode) × (mode / 8192 % 4 ≡ 2)
unfolding kind_of
type_v6 mode is =
    let some = left (mode == 0) kinds.Free _ free_other is in
    let used = left (nat_lt mode 32768) kinds.Odd _ odd_other some.1 in
    let other = left (mode / 8192 % 4 == 0) kinds.Regular _ regular_other used.1 in
    let found : (mode / 8192 % 4 == 2) ≡ true = chosen (mode / 8192 % 4 == 2) kinds.Special special_other other.1 in
    (grind (arith, nat_tests, used.0), grind (arith, nat_tests, found))

rest_v7 : (type : ℕ) → kind_of_type_v7 type ≡ kinds.Directory → type ≡ 4
rest_v7 type is =
    let other = left (type == 8) kinds.Regular _ regular_other is in
    let rest : (if type == 2 then kinds.Special else if type == 6 then kinds.Special
    else if type == 3 then kinds.Special else if type == 7 then kinds.Special else kinds.Odd) ≢ kinds.Directory =
    λ e. odd_other (left (type == 7) kinds.Special kinds.Odd special_other
    (left (type == 3) kinds.Special _ special_other (left (type == 6) kinds.Special _ special_other (left (type == 2) kinds.Special _ special_other e).1).1).1).1 in
    let found : (type == 4) ≡ true = chosen (type == 4) _ rest other.1 in
    grind (arith, nat_tests, found)

type_v7 : (mode : ℕ) → kind_of V7 mode ≡ kinds.Directory → mode / 4096 ≡ 4
unfolding kind_of
type_v7 mode is = rest_v7 (mode / 4096) (left (mode == 0) kinds.Free _ free_other is).1

-- a 16-bit mode of a directory with all permissions that isn't large is the root's mode
pub root_bits : (edition : Edition) (mode : ℕ) → mode < 65536 → kind_of edition mode ≡ kinds.Directory → permissions_of mode ≡ 511
    → is_large edition mode ≡ false → mode ≡ root_mode edition
root_bits V6 mode low kind permissions small =
    let type = type_v6 mode kind in
    let even : mode / 4096 % 2 ≡ 0 = grind (arith, nat_tests, small) in
    omega (arith, low, type.0, type.1, permissions, even)
root_bits V7 mode low kind permissions small = let type = type_v7 mode kind in omega (arith, type, permissions)
