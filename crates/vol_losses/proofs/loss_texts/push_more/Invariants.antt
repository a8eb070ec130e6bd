use Rattle.std.proofs.Common.{◌≡◌, ◌++◌, take}
use Rattle.std.specs.List.{flat_map}
use Rattle.vol_losses.specs.LossTexts.{next_text}
use Rattle.vol_losses.proofs.loss_texts.push_more.Given as goal

-- Invariant: the text has the ranges so far.
abbrev pub invariant-loop-range : goal.invariant-loop-range
invariant-loop-range l = record { text : l.text.items ≡ l.fn.text.items ++ flat_map (next_text l.bytes) (take l.range-index l.ranges) }
