-- A mode is the sum of its type bits and its permission bits.
use Rattle.std.proofs.Common.{◌∙◌, ap, inl, inr}
use Rattle.vol_layout.specs.Inode.{kind_of, permissions_of}
use Rattle.vol_layout.specs.declared.edition.Edition.TheVariants.{V7}
use Rattle.vol_layout.proofs.RaisedModes.{raised_bits, raised_kind, raised_permissions}
use Rattle.vol_layout.proofs.mode.Mode.raised.Goals as goal
use Rattle.vol_layout.proofs.mode.Mode.raised.Goals.{then-kind-eq0, else-kind-eq0}

pub returns-clause-bits : goal.returns-clause-bits
returns-clause-bits c =
    raised_bits c.args.self.bits c.if-kind-eq0.kind (elim c.if-kind-eq0.branch [
      | then-kind-eq0 w ↦ inl (w.if-kind-eq0.true, w.kind-is)
      | else-kind-eq0 w ↦ inr (w.if-kind-eq0.false, w.kind-is)
    ])

pub returns-clause-kind : goal.returns-clause-kind
returns-clause-kind c = ap (kind_of V7) (returns-clause-bits c) ∙ raised_kind c.args.self.bits c.requires.allocated

pub returns-clause-permissions : goal.returns-clause-permissions
returns-clause-permissions c = ap permissions_of (returns-clause-bits c) ∙ raised_permissions c.args.self.bits
