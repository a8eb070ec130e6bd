use Rattle.std.proofs.Common.{◌≡◌, ℕ, ◌+◌, ◌-◌, ◌*◌, ◌/◌, ◌<◌, ◌≤◌, ◌∙◌, sym, ap, subst, true, slice_index, arith}
use Rattle.vol_layout.specs.Edition.{constants}
use Rattle.vol_layout.specs.Geometry.{in_zone}
use Rattle.vol_layout.specs.BlockPointers.{pointer_in}
use Rattle.vol_layout.proofs.NameLaws.{entry_in, entry_out}
use Rattle.vol_file.proofs.ZeroNumbers.{zeros_before, some_at, found_within}
use Rattle.vol_file.proofs.pointers.past_zeros.Goals as goal

pub returns-then-not-in_zone-clause-zeros : goal.returns-then-not-in_zone-clause-zeros
returns-then-not-in_zone-clause-zeros c = λ k low high.
    entry_out c.args.geometry.now c.args.image.now c.args.m k (sym c.in_zone.ensures ∙ c.if-not-in_zone.true)

pub returns-clause-zeros : goal.returns-clause-zeros
returns-clause-zeros c = λ k low high.
    let geometry = c.args.geometry.now in
    let found = c.next_byte-found.result in
    let width : c.constants-constants.result.number_bytes ≡ (constants geometry.edition).number_bytes = ap (λ of. of.number_bytes) c.constants-constants.ensures in
    let zone : in_zone geometry c.args.m ≡ true = sym c.in_zone.ensures ∙ c.if-not-in_zone.false in
    let zeros = subst (λ n. (k : ℕ) → 512 * c.args.m + n * c.args.from ≤ k → k < found → slice_index c.as_bytes.result.now k ≡ 0) width
    c.next_byte-found.ensures.zeros in
    entry_in geometry c.args.image.now c.args.m k zone
    ∙ zeros_before geometry.edition c.args.image.now (512 * c.args.m) c.args.from found k
    (λ n start end. ap (λ b. slice_index b n) (sym c.as_bytes.ensures) ∙ zeros n start end) low
    (subst (λ n. k < (found - 512 * c.args.m) / n) width high)

pub returns-clause-some : goal.returns-clause-some
returns-clause-some c = λ within none.
    let geometry = c.args.geometry.now in
    let found = c.next_byte-found.result in
    let width : c.constants-constants.result.number_bytes ≡ (constants geometry.edition).number_bytes = ap (λ of. of.number_bytes) c.constants-constants.ensures in
    let zone : in_zone geometry c.args.m ≡ true = sym c.in_zone.ensures ∙ c.if-not-in_zone.false in
    let order : 512 * c.args.m ≤ found = omega (arith, c.next_byte-found.ensures.order) in
    let end : found < 512 * c.args.m + 512 = found_within geometry.edition (512 * c.args.m) found order
    (subst (λ n. (found - 512 * c.args.m) / n < (constants geometry.edition).pointers) width within) in
    some_at geometry.edition c.args.image.now (512 * c.args.m) found order
    (λ e. c.next_byte-found.ensures.some end (ap (λ b. slice_index b found) c.as_bytes.ensures ∙ e))
    (sym (entry_in geometry c.args.image.now c.args.m ((found - 512 * c.args.m) / (constants geometry.edition).number_bytes) zone)
    ∙ subst (λ n. pointer_in geometry c.args.image.now c.args.m ((found - 512 * c.args.m) / n) ≡ 0) width none)
