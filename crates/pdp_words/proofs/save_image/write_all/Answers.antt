use Rattle.std.proofs.Common.{◌≡◌, ℕ, List, ◌++◌, Option, ◌+◌, ◌≤◌, length, take, drop, arith, sym, ap, ◌∙◌, subst, length-drop}
use Rattle.std.proofs.lemmas.List.{take_rest}
use Rattle.std.proofs.Math.Seq.{take-add}
use Rattle.std.specs.Io.KnownBytes.{Appends}
use Rattle.std.proofs.KnownBytes.{Appends-trans}
use Rattle.pdp_words.specs.Devices.{AppendsFront}
use Rattle.pdp_words.proofs.save_image.write_all.Goals as goal

-- appending the first `n` bytes, and then `m` of the remaining bytes, appends the first `n + m` bytes
front_more : (a b c : Option (List ℕ)) (bytes rest : List ℕ) (n m : ℕ) → rest ≡ drop n bytes → AppendsFront a b bytes n → m ≤ length rest → Appends b c (take m rest)
    → AppendsFront a c bytes (n + m)
front_more a b c bytes rest n m e (bound, front) fits more =
    let whole : take (n + m) bytes ≡ take n bytes ++ take m rest = take-add n m bytes ∙ ap (λ l. take n bytes ++ take m l) (sym e) in
    (omega (arith, ap length e, length-drop n bytes), subst (Appends a c) (sym whole) (Appends-trans a b c _ _ front more))

pub loop-at-preserved : goal.loop-at-preserved
loop-at-preserved g c =
    let taken = c.in-Ok.ensures in
    record {
      taken = front_more _ _ _ c.args.bytes.now _ c.loop-at.at c.in-Ok.count (take_rest c.args.bytes.now c.loop-at.at) c.loop-at.invariant.taken taken.bound taken.bytes;
      working = taken.kept ∙ c.loop-at.invariant.working;
    }
