-- Invariant of `load_with_capacity`: the image has the bytes that the source has returned, and the source has not failed. No vector is longer than
-- 2^64.
use Rattle.std.proofs.Common.{◌≡◌, ◌-◌, ◌^◌, false, vec_len}
use Rattle.std.specs.Io.KnownBytes.{Consumes}
use Rattle.pdp_words.proofs.load_image.load_with_capacity.Given as goal

abbrev pub invariant-pieces : goal.invariant-pieces
invariant-pieces g l = record {
  read : Consumes (g.S.Source.remaining l.initial.source) (g.S.Source.remaining l.source) l.bytes.items;
  working : g.S.Source.failed l.source ≡ false;
}

abbrev pub decreases-pieces : goal.decreases-pieces
decreases-pieces g l = 2 ^ 64 - vec_len l.bytes
