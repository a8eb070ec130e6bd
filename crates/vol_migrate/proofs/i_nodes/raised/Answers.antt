-- An allocated i-node is raised, and the number of a device fits an address.
use Rattle.std.proofs.Common.{◌∙◌, sym, ap, subst, ℕ, zero, suc, ◌<◌, ◌∷◌, get_or, replicate, rules, arith}
use Rattle.std.specs.Prelude.{IsSome, Some}
use Rattle.vol_layout.specs.Inode.{inode_place}
use Rattle.vol_layout.specs.Inode.IsStorable.{in_v7}
use Rattle.vol_layout.specs.declared.i_node.Inode.{Inode}
use Rattle.vol_layout.proofs.InodeLaws.{inode_mode}
use Rattle.vol_layout.proofs.NewInodes.{zeros_at}
use Rattle.vol_migrate.proofs.i_nodes.raised.Goals as goal

-- if the first of 13 addresses is below a limit and the others are zeros, all are below it
all_below : (limit first k : ℕ) → first < limit → get_or {A = ℕ} (first ∷ replicate 12 0) k 0 < limit
all_below limit first zero fits = fits
all_below limit first (suc k) fits = omega (arith, zeros_at 12 k, fits)

pub raised-raised-requires : goal.raised-raised-requires
raised-raised-requires c =
    let mode = ap (λ (node : Inode). node.mode.bits) c.inode-node.ensures.value
    ∙ inode_mode c.args.from.now.edition c.args.old.now (inode_place c.args.from.now.edition c.args.i) in
    record { allocated = omega (arith, c.requires.allocated, mode) }

pub returns-in-Special-clause-storable : goal.returns-in-Special-clause-storable
returns-in-Special-clause-storable c =
    let changed = ap (λ (node : Inode). node.changed) c.raised-raised.ensures.value in
    let some : IsSome (Some c.args.now) = search rules in
    in_v7 (λ k. all_below 16777216 c.from.result k (omega (arith, c.from.ensures, c.device_number.ensures))) (subst IsSome (sym changed) some)
