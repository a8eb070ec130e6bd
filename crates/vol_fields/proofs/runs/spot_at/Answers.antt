use Rattle.std.proofs.Common.{◌≡◌, ℕ, ◌+◌, ◌-◌, ◌*◌, ◌<◌, ◌≤◌, ◌∙◌, sym, ap, subst, arith, drop, get_or, add-one, List, [], ◌∷◌, length, drop-cons}
use Rattle.std.proofs.lemmas.List.{drop_all}
use Rattle.vol_fields.specs.Runs.{AreCounted, spot_at, spot_in, total}
use Rattle.vol_fields.specs.declared.runs.Run.{Run}
use Rattle.vol_fields.specs.declared.names.Name.TheVariants as names
use Rattle.vol_fields.proofs.SpotLaws.{picks, skips}
use Rattle.vol_fields.proofs.runs.spot_at.Goals as goal

-- a run without fields
abbrev none : Run
none = record { name = names.Boot; first = 0; count = 0; bytes = 0 }

-- the runs that are left begin with the one at index `i`
split : (runs : List Run) (i : ℕ) → i < length runs → drop i runs ≡ get_or runs i none ∷ drop (i + 1) runs
split runs i low = drop-cons runs i none low ∙ ap (λ n. get_or runs i none ∷ drop n runs) (sym (add-one i))

-- the byte is in the first run
found_here : (run : Run) (more : List Run) (base n : ℕ) → n - base < run.count * run.bytes → spot_at (run ∷ more) base n ≡ spot_in run base n
unfolding spot_at
found_here run more base n low = picks (spot_in run base n) (spot_at more (base + run.count * run.bytes) n) (n - base) (run.count * run.bytes) low

-- the byte is in a later run
found_later : (run : Run) (more : List Run) (base n : ℕ) → run.count * run.bytes ≤ n - base
    → spot_at (run ∷ more) base n ≡ spot_at more (base + run.count * run.bytes) n
unfolding spot_at
found_later run more base n high = skips (spot_in run base n) (spot_at more (base + run.count * run.bytes) n) (n - base) (run.count * run.bytes) high

pub returns-then-n-start : goal.returns-then-n-start
returns-then-n-start c =
    let i = c.loop-run.run-index in
    let runs = c.args.runs.now in
    c.spot_in.ensures ∙ (sym (found_here (get_or runs i none) (drop (i + 1) runs) c.loop-run.start c.args.n c.if-n-start.true)
    ∙ (ap (λ rs. spot_at rs c.loop-run.start c.args.n) (sym (split runs i c.loop-run-test.true)) ∙ sym c.loop-run.invariant.same))

pub spot_in-requires-clause-counted : goal.spot_in-requires-clause-counted
spot_in-requires-clause-counted c =
    (subst AreCounted (split c.args.runs.now c.loop-run.run-index c.loop-run-test.true) c.loop-run.invariant.counted).0

pub loop-run-preserved : goal.loop-run-preserved
loop-run-preserved c =
    let i = c.loop-run.run-index in
    let runs = c.args.runs.now in
    let sum : total (drop i runs) ≡ total (get_or runs i none ∷ drop (i + 1) runs) = ap total (split runs i c.loop-run-test.true) in
    let before = c.loop-run.invariant.after in
    let room = c.loop-run.invariant.room in
    let past = c.if-n-start.false in
    let counted = subst AreCounted (split runs i c.loop-run-test.true) c.loop-run.invariant.counted in
    record {
      counted = counted.1;
      after = omega (arith, before, past);
      room = omega (arith, room, sum);
      same = c.loop-run.invariant.same ∙ (ap (λ rs. spot_at rs c.loop-run.start c.args.n) (split runs i c.loop-run-test.true)
          ∙ found_later (get_or runs i none) (drop (i + 1) runs) c.loop-run.start c.args.n past);
    }

pub returns : goal.returns
unfolding spot_at
returns c =
    let left : drop c.loop-run.run-index c.args.runs.now ≡ [] = drop_all c.loop-run.run-index c.args.runs.now (omega arith) in
    ap (λ rs. spot_at rs c.loop-run.start c.args.n) (sym left) ∙ sym c.loop-run.invariant.same
