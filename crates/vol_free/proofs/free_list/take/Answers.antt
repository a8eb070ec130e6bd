use Rattle.std.proofs.Common.{◌≡◌, ◌<◌, ◌≤◌, inl, inr, length, arith, sym, ◌∙◌}
use Rattle.pdp_words.proofs.Outside.{widen}
use Rattle.vol_free.proofs.Stacks.{zone_below, zone_from, zone_behind}
use Rattle.vol_free.proofs.TakenBlocks.{pops_none, pops_lowered, pops_refilled, pops_left, taken_zone, head_lowered, head_refilled}
use Rattle.vol_free.proofs.free_list.take.Goals as goal
use Rattle.vol_free.proofs.free_list.take.Goals.{then-count-eq1, else-count-eq1}

pub returns-then-count-eq0-clause-popped : goal.returns-then-count-eq0-clause-popped
returns-then-count-eq0-clause-popped c = λ blocks free.
    pops_none c.args.geometry.now c.args.image.now blocks c.requires.fits free (inl (omega arith))

pub returns-then-taken-eq0-clause-popped : goal.returns-then-taken-eq0-clause-popped
returns-then-taken-eq0-clause-popped c = λ blocks free.
    let next = rw c.free_count-count.ensures at (sym c.free-taken.ensures) in
    pops_none c.args.geometry.now c.args.image.now blocks c.requires.fits free (inr (next ∙ c.if-taken-eq0.true))

pub copy_within-requires-clause-from : goal.copy_within-requires-clause-from
copy_within-requires-clause-from c =
    let next = rw c.free_count-count.ensures at (sym c.free-taken.ensures) in
    let zone = taken_zone c.free-taken.result c.requires.stack (λ none. c.if-count-eq0.false (omega arith)) next c.if-taken-eq0.false in
    omega (arith, zone_below c.args.geometry.now c.free-taken.result zone, c.requires.fits.blocks)

pub clear-requires-clause-room : goal.clear-requires-clause-room
clear-requires-clause-room c =
    let next = rw c.free_count-count.ensures at (sym c.free-taken.ensures) in
    let zone = taken_zone c.free-taken.result c.requires.stack (λ none. c.if-count-eq0.false (omega arith)) next c.if-taken-eq0.false in
    let below : c.free-taken.result < c.args.geometry.now.zone_end = zone_below c.args.geometry.now c.free-taken.result zone in
    let len : length c.if-count-eq1.image ≡ length c.args.image.now = elim c.if-count-eq1.branch [
      | then-count-eq1 w ↦ rw w.image-is w.copy_within.ensures.others.len
      | else-count-eq1 w ↦ rw w.image-is w.put_free_count.ensures.others.len
    ] in
    omega (arith, len, below, c.requires.fits.blocks)

pub returns-clause-popped : goal.returns-clause-popped
returns-clause-popped c = λ blocks free.
    let next = rw c.free_count-count.ensures at (sym c.free-taken.ensures) in
    elim c.if-count-eq1.branch [
      | then-count-eq1 w ↦
          let within = rw (w.free_head.ensures, ← w.image-is) at w.copy_within.ensures.others in
          let copied = rw (w.free_head.ensures, ← w.image-is) at w.copy_within.ensures.copied in
          pops_refilled c.args.geometry.now c.args.image.now c.if-count-eq1.image c.clear.new.self c.free-taken.result blocks c.requires.fits
          (record { head = within; block = c.clear.ensures.others; zero = c.clear.ensures.zero }) (omega arith)
          next c.if-taken-eq0.false (record { bytes = copied }) free
      | else-count-eq1 w ↦
          let within = rw (← w.image-is) at w.put_free_count.ensures.others in
          let less = rw (← w.image-is) at w.put_free_count.ensures.put in
          pops_lowered c.args.geometry.now c.args.image.now c.if-count-eq1.image c.clear.new.self c.free-taken.result blocks c.requires.fits
          (record { head = widen within (omega arith) (omega arith); block = c.clear.ensures.others; zero = c.clear.ensures.zero })
          (λ none. c.if-count-eq0.false (omega arith)) (λ one. w.if-count-eq1.false (omega arith))
          next c.if-taken-eq0.false (omega (arith, less)) within free
    ]

pub returns-clause-stack : goal.returns-clause-stack
returns-clause-stack c =
    pops_left c.args.geometry.now c.args.image.now c.clear.new.self c.requires.stack.blocks _ c.requires.stack.free
    (returns-clause-popped c c.requires.stack.blocks c.requires.stack.free)

pub returns-clause-head : goal.returns-clause-head
returns-clause-head c =
    let next = rw c.free_count-count.ensures at (sym c.free-taken.ensures) in
    let zone = taken_zone c.free-taken.result c.requires.stack (λ none. c.if-count-eq0.false (omega arith)) next c.if-taken-eq0.false in
    let start : 2 ≤ c.args.geometry.now.zone_start = zone_behind c.requires.fits in
    let from : c.args.geometry.now.zone_start ≤ c.free-taken.result = zone_from c.args.geometry.now c.free-taken.result zone in
    elim c.if-count-eq1.branch [
      | then-count-eq1 w ↦
          let within = rw (w.free_head.ensures, ← w.image-is) at w.copy_within.ensures.others in
          let copied = rw (w.free_head.ensures, ← w.image-is) at w.copy_within.ensures.copied in
          head_refilled c.args.geometry.now c.args.image.now c.if-count-eq1.image c.clear.new.self c.free-taken.result (omega arith)
          (record { head = within; block = c.clear.ensures.others; zero = c.clear.ensures.zero }) (omega arith) (record { bytes = copied })
      | else-count-eq1 w ↦
          let within = rw (← w.image-is) at w.put_free_count.ensures.others in
          let less = rw (← w.image-is) at w.put_free_count.ensures.put in
          head_lowered c.args.geometry.now c.args.image.now c.if-count-eq1.image c.clear.new.self c.free-taken.result (omega arith)
          (record { head = widen within (omega arith) (omega arith); block = c.clear.ensures.others; zero = c.clear.ensures.zero })
          (λ one. w.if-count-eq1.false (omega arith)) (omega (arith, less)) within
    ]
