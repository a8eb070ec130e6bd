use Rattle.std.proofs.Common.{◌+◌, ◌-◌, ◌<◌, ◌*◌, ◌≤◌, ◌∙◌, ap, sym, subst, arith, slice_index}
use Rattle.std.proofs.Math.Nat.{mul-le-mul}
use Rattle.vol_layout.specs.Edition.{constants}
use Rattle.vol_layout.specs.Inode.{address_at, inode_place}
use Rattle.vol_layout.specs.BlockPointers.{pointer_in}
use Rattle.vol_layout.specs.BlockMaps.{end_of}
use Rattle.vol_file.specs.Holes.{IsHole, blocks_left}
use Rattle.vol_file.proofs.Subtrees.{stored_direct, hole_at_entries, hole_past, few_entries, few_pointers, low_block}
use Rattle.vol_file.proofs.holes.hole_end.Goals as goal

pub returns-then-b-direct-clause-hole : goal.returns-then-b-direct-clause-hole
returns-then-b-direct-clause-hole c = λ t low high.
    stored_direct c.args.geometry.now c.args.image.now c.args.i c.args.form t (omega (arith, c.next_address.ensures.within, c.direct_count-direct.ensures))
    ∙ c.next_address.ensures.zeros t low high

pub returns-then-b-direct-clause-none : goal.returns-then-b-direct-clause-none
returns-then-b-direct-clause-none c = λ same none.
    let within : c.next_address.result < c.direct_count-direct.result = omega (arith, c.if-b-direct.true) in
    c.next_address.ensures.some within
    (ap (address_at c.args.geometry.now.edition c.args.image.now (inode_place c.args.geometry.now.edition c.args.i)) same
    ∙ (sym (stored_direct c.args.geometry.now c.args.image.now c.args.i c.args.form c.args.b (omega (arith, c.if-b-direct.true, c.direct_count-direct.ensures))) ∙ none))

pub returns-in_default-clause-hole : goal.returns-in_default-clause-hole
returns-in_default-clause-hole c = hole_past c.args.geometry.now c.args.image.now c.args.i c.args.form c.args.b 4294967295 (sym c.in_default.ensures.end)

pub next_pointer-requires-clause-within : goal.next_pointer-requires-clause-within
next_pointer-requires-clause-within c =
    omega (
      arith,
      few_entries c.args.geometry.now c.args.image.now c.args.i c.args.form c.args.b c.in-Some.way c.requires.form c.in-Some.ensures.end
          c.loop-d.d c.loop-d-test.true,
    )

pub left_below-requires-clause-entries : goal.left_below-requires-clause-entries
left_below-requires-clause-entries c =
    few_entries c.args.geometry.now c.args.image.now c.args.i c.args.form c.args.b c.in-Some.way c.requires.form c.in-Some.ensures.end

pub overflow_add-result-then-missing-gt0 : goal.overflow_add-result-then-missing-gt0
overflow_add-result-then-missing-gt0 c =
    let few = few_pointers c.args.geometry.now.edition in
    let missing : c.next_pointer.result - slice_index c.in-Some.way.entries c.loop-d.d - 1 ≤ 256 = omega (arith, c.next_pointer.ensures.within) in
    let most : (c.next_pointer.result - slice_index c.in-Some.way.entries c.loop-d.d - 1) * c.blocks_below.result ≤ 256 * 65536 =
    mul-le-mul missing c.blocks_below.ensures.bound in
    omega (arith, low_block c.args.form c.args.b _ (sym c.in-Some.ensures.end), c.left_below.ensures.bound, most)

pub overflow_add-result : goal.overflow_add-result
overflow_add-result c = omega (arith, low_block c.args.form c.args.b _ (sym c.in-Some.ensures.end), c.left_below.ensures.bound)

pub returns-then-missing-gt0-clause-hole : goal.returns-then-missing-gt0-clause-hole
returns-then-missing-gt0-clause-hole c =
    let geometry = c.args.geometry.now in
    let image = c.args.image.now in
    let way = c.in-Some.way in
    let pointers = (constants geometry.edition).pointers in
    let j = slice_index way.entries c.loop-d.d in
    let missing = c.next_pointer.result - j in
    subst (λ n. IsHole geometry image c.args.i c.args.form c.args.b (c.args.b + n + (missing - 1) * c.blocks_below.result)) (sym c.left_below.ensures.exact)
    (subst (λ n. IsHole geometry image c.args.i c.args.form c.args.b (c.args.b + blocks_left pointers (way.depth - (c.loop-d.d + 1)) (end_of way) + (missing - 1) * n))
    (sym c.blocks_below.ensures.exact)
    (hole_at_entries geometry image c.args.i c.args.form c.args.b c.loop-d.d missing way c.requires.fits c.requires.form c.in-Some.ensures.end
    c.loop-d-test.true (omega arith) (omega (arith, c.next_pointer.ensures.within))
    (λ x low high. ap (λ m. pointer_in geometry image m x) (sym c.loop-d.invariant)
    ∙ c.next_pointer.ensures.zeros x low (omega arith))))
