use Rattle.std.proofs.Common.{◌≡◌, ◌*◌, ◌≤◌, ◌^◌, map, take}
use Rattle.std.specs.List.{sum}
use Rattle.vol_losses.specs.LossTexts.{range_bytes}
use Rattle.vol_losses.proofs.loss_texts.lost_bytes.Given as goal

-- Invariant: `count` is the number of bytes in the ranges so far.
abbrev pub invariant-loop-range : goal.invariant-loop-range
invariant-loop-range l = record { exact : l.count ≡ sum (map (range_bytes l.bytes) (take l.range-index l.ranges)); small : l.count ≤ 2 ^ 32 * l.range-index }
