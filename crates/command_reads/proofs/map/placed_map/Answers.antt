use Rattle.std.proofs.Common.{inr, refl, sym}
use Rattle.std.specs.Prelude.{option_map}
use Rattle.command_reads.proofs.Mapped.{map_memory}
use Rattle.command_reads.proofs.map.placed_map.Goals as goal

pub returns-in_ok-node_map-in-Ok-clause-text : goal.returns-in_ok-node_map-in-Ok-clause-text
returns-in_ok-node_map-in-Ok-clause-text c =
    (c.args.geometry.now, c.requires.read, (c.in-Ok.node, sym c.in-Ok.ensures.exact, c.in_ok-node_map-in-Ok.ensures))

pub returns-in_err-node_map-in-Ok-clause-fault : goal.returns-in_err-node_map-in-Ok-clause-fault
returns-in_err-node_map-in-Ok-clause-fault c =
    map_memory c.args.edition c.args.image.now (option_map (λ word. word.now) c.args.file) c.from_residual.result c.from_residual.ensures.1

pub returns-in-Err-clause-fault : goal.returns-in-Err-clause-fault
returns-in-Err-clause-fault c = inr (c.args.geometry.now, c.requires.read, (c.in-Err.refusal, sym c.in-Err.ensures.exact, refl))
