-- The next byte of the name, or a zero behind it, is the next digit.
use Rattle.std.proofs.Common.{◌≡◌, ◌∙◌, sym, ap, refl, suc, ◌+◌, ◌-◌, ◌*◌, ◌<◌, drop, arith}
use Rattle.vol_dir.specs.NameKeys.{digits, key_of}
use Rattle.vol_dir.proofs.NameKeys.{digits_byte, digits_zero, one_more, room}
use Rattle.vol_dir.proofs.listing.key_from.Goals as goal
use Rattle.vol_dir.proofs.listing.key_from.Goals.{then-k-name, else-k-name}

pub loop-k-init : goal.loop-k-init
unfolding key_of
loop-k-init c = record { digits = refl; low = omega arith }

pub overflow_mul-key : goal.overflow_mul-key
overflow_mul-key c = let most = room c.loop-k.key c.loop-k.k c.loop-k-test.true c.loop-k.invariant.low in omega (arith, most)

pub overflow_add-key : goal.overflow_add-key
overflow_add-key c =
    let most = room c.loop-k.key c.loop-k.k c.loop-k-test.true c.loop-k.invariant.low in
    let small : c.from.result < 256 = elim c.if-k-name.branch [
      | then-k-name w ↦ let byte = c.type_inv.name c.loop-k.k in omega (arith, byte, c.from.ensures, w.byte-is)
      | else-k-name w ↦ omega (arith, c.from.ensures, w.byte-is)
    ] in omega (arith, most, small)

pub loop-k-preserved : goal.loop-k-preserved
loop-k-preserved c =
    let key = c.loop-k.key in
    let k = c.loop-k.k in
    let name = c.args.name.now in
    let m = 14 - (k + 1) in
    let more : suc m ≡ 14 - k = omega (arith, c.loop-k-test.true) in
    let before : digits key (suc m) (drop k name) ≡ key_of name = ap (λ n. digits key n (drop k name)) more ∙ c.loop-k.invariant.digits in
    elim c.if-k-name.branch [
      | then-k-name w ↦
          let byte = c.type_inv.name k in
          let is = c.from.ensures ∙ w.byte-is in
          record {
            digits = ap (λ c. digits (256 * key + c) m (drop (k + 1) name)) is ∙ (sym (digits_byte key m k name w.if-k-name.true) ∙ before);
            low = one_more key k c.from.result c.loop-k.invariant.low (omega (arith, byte, is));
          }
      | else-k-name w ↦
          let is = c.from.ensures ∙ w.byte-is in
          record {
            digits = ap (λ c. digits (256 * key + c) m (drop (k + 1) name)) is ∙ (sym (digits_zero key m k name w.if-k-name.false) ∙ before);
            low = one_more key k c.from.result c.loop-k.invariant.low (omega (arith, is));
          }
    ]
