-- Changes of permissions, bit by bit.
use Rattle.std.proofs.Common.{◌≡◌, ◌∙◌, ℕ, sym, ap, arith}
use Rattle.std.specs.Prelude.{bit_and, bit_or, min, max}
use Rattle.std.specs.Int.{bit_at}
use Rattle.std.proofs.lemmas.Nat.Bits.{bit_at-zero, bit_at_and, bit_at_or, same_from_bits}
use Rattle.command_terms.specs.Permissions.{change_to, changed_permissions, followed_by}
use Rattle.command_terms.specs.declared.permissions.PermissionChange.{PermissionChange}

-- one bit of what is left of some bits, with others set
bit_left : (old kept set i : ℕ) → bit_at (bit_or (bit_and old kept) set) i ≡ max (min (bit_at old i) (bit_at kept i)) (bit_at set i)
bit_left old kept set i = bit_at_or (bit_and old kept) set i ∙ ap (λ b. max b (bit_at set i)) (bit_at_and old kept i)

least_twice : (a b c : ℕ) → min a (min b c) ≡ min (min a b) c
least_twice a b c = omega arith

most_twice : (a b c : ℕ) → max a (max b c) ≡ max (max a b) c
most_twice a b c = omega arith

most_of_least : (a b c : ℕ) → max (min a c) (min b c) ≡ min (max a b) c
most_of_least a b c = omega arith

-- one bit after two changes
bit_twice : (o k s l t : ℕ) → max (min o (min k l)) (max (min s l) t) ≡ max (min (max (min o k) s) l) t
bit_twice o k s l t =
    most_twice (min o (min k l)) (min s l) t
    ∙ ap (λ b. max (max b (min s l)) t) (least_twice o k l)
    ∙ ap (λ b. max b t) (most_of_least (min o k) s l)

-- a change that is one and then another makes of all permissions what the other makes of what the one makes
pub in_turn : (first second : PermissionChange) (old : ℕ)
    → changed_permissions (followed_by first second) old ≡ changed_permissions second (changed_permissions first old)
unfolding changed_permissions
in_turn first second old =
    same_from_bits _ _ (λ i.
    bit_left old (bit_and first.kept second.kept) (bit_or (bit_and first.set second.kept) second.set) i
    ∙ ap (λ b. max (min (bit_at old i) b) (bit_at (bit_or (bit_and first.set second.kept) second.set) i)) (bit_at_and first.kept second.kept i)
    ∙ ap (λ b. max (min (bit_at old i) (min (bit_at first.kept i) (bit_at second.kept i))) b) (bit_left first.set second.kept second.set i)
    ∙ bit_twice (bit_at old i) (bit_at first.kept i) (bit_at first.set i) (bit_at second.kept i) (bit_at second.set i)
    ∙ ap (λ b. max (min b (bit_at second.kept i)) (bit_at second.set i)) (sym (bit_left old first.kept first.set i))
    ∙ sym (bit_left (bit_or (bit_and old first.kept) first.set) second.kept second.set i))

only_set : (o s : ℕ) → max (min o 0) s ≡ s
only_set o s = omega arith

-- a change to some permissions leaves these, whatever they were before
pub always : (permissions old : ℕ) → changed_permissions (change_to permissions) old ≡ permissions
unfolding changed_permissions
always permissions old =
    same_from_bits _ _ (λ i.
    bit_left old 0 permissions i
    ∙ ap (λ b. max (min (bit_at old i) b) (bit_at permissions i)) (bit_at-zero i)
    ∙ only_set (bit_at old i) (bit_at permissions i))
