-- The map of a directory with each i-number one higher.
use Rattle.std.proofs.Common.{◌≡◌, ◌∙◌, ap, refl, ℕ, ◌+◌, List, [], ◌∷◌, map, Option, None, Some}
use Rattle.std.specs.Ordering.{nat_cmp}
use Rattle.std.specs.declared.cmp.Ordering.TheVariants.{Less, Equal, Greater}
use Rattle.std.specs.Cmp.Lexicographic.{slice_cmp}
use Rattle.std.specs.FinMap.Entries.{by_order, put}
use Rattle.vol_dir.specs.Names.{Names, insert, names_of, names_in}
use Rattle.vol_migrate.specs.Raised.{raised_names}
use Rattle.vol_migrate.proofs.RaisedGraphs.{raised_entry}

-- inserting the raised number into the raised map is inserting and then raising
insert_raised : (names : Names) (name : List ℕ) (i : ℕ) → insert (raised_names names) name (i + 1) ≡ raised_names (insert names name i)
insert_raised [] name i = refl
insert_raised (entry ∷ names) name i =
    elim (slice_cmp nat_cmp name entry.0) as (λ o.
    by_order o ((name, i + 1) ∷ (entry.0, entry.1 + 1) ∷ raised_names names) ((entry.0, i + 1) ∷ raised_names names)
    ((entry.0, entry.1 + 1) ∷ put (slice_cmp nat_cmp) name (i + 1) (raised_names names))
    ≡ raised_names (by_order o ((name, i) ∷ entry ∷ names) ((entry.0, i) ∷ names) (entry ∷ put (slice_cmp nat_cmp) name i names))) [
      | Less ↦ refl
      | Equal ↦ refl
      | Greater ↦ ap (λ rest. (entry.0, entry.1 + 1) ∷ rest) (insert_raised names name i)
    ]

-- the map of raised entries is the raised map of the entries
pub names_raised : (slots : List (Option (List ℕ × ℕ))) → names_of (map raised_entry slots) ≡ raised_names (names_of slots)
names_raised [] = refl
names_raised (None ∷ slots) = names_raised slots
names_raised (Some entry ∷ slots) =
    ap (λ names. insert names entry.0 (entry.1 + 1)) (names_raised slots) ∙ insert_raised (names_of slots) entry.0 entry.1

-- raising the entries of slots doesn't change their names
pub names_in_raised : (slots : List (Option (List ℕ × ℕ))) → names_in (map raised_entry slots) ≡ names_in slots
names_in_raised [] = refl
names_in_raised (None ∷ slots) = ap (λ rest. None ∷ rest) (names_in_raised slots)
names_in_raised (Some entry ∷ slots) = ap (λ rest. Some entry.0 ∷ rest) (names_in_raised slots)
