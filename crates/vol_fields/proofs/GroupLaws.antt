-- Lemmas on groups.
use Rattle.std.proofs.Common.{◌≡◌, ℕ, suc, ◌+◌, ◌<◌, ◌≤◌, ◌∙◌, Bool, true, false, if◌then◌else◌, List, [], ◌∷◌, ◌++◌, length, get_or, inl, inr, refl, sym, ap, arith}
use Rattle.std.specs.List.{Contains}
use Rattle.std.proofs.lemmas.Bool.{cases_lt}
use Rattle.std.proofs.lemmas.List.Elements.{Contains-append_left, Contains-append_right, Contains-push}
use Rattle.vol_fields.specs.Groups.{AreGroups, AreGroupsUpTo, group_at, last_joined}
use Rattle.vol_fields.specs.declared.groups.Group.{Group}

-- an entry that goes on is passed
pub joined_goes_on : (joins : List Bool) (count k : ℕ) → get_or joins k false ≡ true → last_joined joins (suc count) k ≡ last_joined joins count (k + 1)
unfolding last_joined
joined_goes_on joins count k is = ap (λ test. if test then last_joined joins count (k + 1) else k) is

-- any other entry isn't
pub joined_ends : (joins : List Bool) (count k : ℕ) → get_or joins k false ≡ false → last_joined joins (suc count) k ≡ k
unfolding last_joined
joined_ends joins count k is = ap (λ test. if test then last_joined joins count (k + 1) else k) is

-- one more group at the end
pub groups_more : (joins : List Bool) (least n done : ℕ) (groups : List Group) (group : Group) → AreGroupsUpTo joins least n done groups
    → done < length joins → group ≡ group_at joins least done → AreGroupsUpTo joins least n (group.last + 1) (groups ++ group ∷ [])
groups_more joins least n done [] group were before is =
    (omega (arith, were, before), is ∙ ap (group_at joins least) (sym were), refl)
groups_more joins least n done (first ∷ more) group were before is =
    (were.0, were.1, groups_more joins least (first.last + 1) done more group were.2 before is)

-- a group begins at its entry
group_starts : (joins : List Bool) (least n : ℕ) → (group_at joins least n).first ≡ n
unfolding group_at
group_starts joins least n = refl

-- each entry of a list is in a group
pub in_group : (joins : List Bool) (least n done k : ℕ) (groups : List Group) → AreGroupsUpTo joins least n done groups → n ≤ k → k < done
    → (group : Group) × Contains groups group × (group.first ≤ k) × (k ≤ group.last)
in_group joins least n done k [] are from below = absurd (omega (arith, are, from, below))
in_group joins least n done k (group ∷ more) are from below =
    let start : group.first ≡ n = ap (λ (g : Group). g.first) are.1 ∙ group_starts joins least n in
    elim (cases_lt group.last k) [
      | inl after ↦
          let later = in_group joins least (group.last + 1) done k more are.2 (omega (arith, after)) below in
          (later.0, Contains-append_right (group ∷ []) more later.0 later.1, later.2, later.3)
      | inr here ↦ (group, Contains-append_left (group ∷ []) more group (Contains-push [] group), omega (arith, start, from), here)
    ]

-- a list without entries has no groups
pub no_groups : (joins : List Bool) (least : ℕ) (groups : List Group) → length joins ≡ 0 → AreGroups joins least groups → groups ≡ []
no_groups joins least [] none are = refl
no_groups joins least (group ∷ more) none are = absurd (omega (arith, none, are.0))

-- a list without groups has no entries
pub no_entries : (joins : List Bool) (least : ℕ) (groups : List Group) → groups ≡ [] → AreGroups joins least groups → length joins ≡ 0
no_entries joins least [] none are = sym are
no_entries joins least (group ∷ more) none are = cc
