use Rattle.vol_fields.specs.Changes.{ListsUpTo}
use Rattle.vol_fields.proofs.changes.changed_fields.Given as goal

-- Invariant: the fields that differ before byte `n` are listed, and cover the image up to `covered`.
abbrev pub invariant-loop-n : goal.invariant-loop-n
invariant-loop-n l = ListsUpTo l.geometry l.roles l.image l.other l.n l.covered l.found.items
