use Rattle.std.proofs.Common.{List, ℕ, subst}
use Rattle.command_faults.specs.Streams.{Streams, streams}
use Rattle.command_reads.specs.Export.{Exports}
use Rattle.command_reads.proofs.Printed.{plain_sight, showing, string_sight}
use Rattle.command_reads.proofs.show.show.Goals as goal
use Rattle.command_reads.proofs.show.show.Goals.{in-Sums, in-Block, in-Dump, in-Free, in-Find, in-Super, in-Df, in-Map, in-Check, in-List, in-ListUnsound}

pub returns-in-Export : goal.returns-in-Export
returns-in-Export g c =
    let both : Streams = streams g.O.Sink.contents g.O.Sink.failed c.args.output.now c.export.new.output c.export.result.fault in
    rw c.in-Export.is (subst (λ (image : List ℕ). Exports c.args.edition image c.in-Export.path.now c.in-Export.options c.args.screen both c.export.result.status)
    c.into_bytes-bytes.ensures c.export.ensures)

pub returns-in-Inode : goal.returns-in-Inode
returns-in-Inode g c = rw c.in-Inode.is c.show_inode.ensures

pub returns-in-Uses : goal.returns-in-Uses
returns-in-Uses g c = rw c.in-Uses.is c.show_uses.ensures

pub returns-in-ReadUnsound : goal.returns-in-ReadUnsound
returns-in-ReadUnsound g c = rw c.in-ReadUnsound.is c.read_unsound.ensures

pub returns-in-Slots : goal.returns-in-Slots
returns-in-Slots g c = rw c.in-Slots.is c.show_slots.ensures

pub returns : goal.returns
returns g c =
    let printed = c.print.ensures.printed in
    let told = c.print.ensures.told in
    elim c.match-look.branch [
      | in-Sums w ↦ rw w.in-Sums.is (showing _ _ _ _ _ w.shown-is w.sums-shown.ensures printed told)
      | in-Block w ↦ rw w.in-Block.is (showing _ _ _ _ _ w.shown-is (string_sight _ _ _ _ w.block_text.ensures.text w.block_text.ensures.fault w.plain_string-shown.ensures) printed told)
      | in-Dump w ↦ rw w.in-Dump.is (showing _ _ _ _ _ w.shown-is (plain_sight _ _ _ _ w.dump_text.ensures.text w.dump_text.ensures.fault w.plain-shown.ensures) printed told)
      | in-Free w ↦ rw w.in-Free.is (showing _ _ _ _ _ w.shown-is (string_sight _ _ _ _ w.free_text.ensures.text w.free_text.ensures.fault w.plain_string-shown-in-Free.ensures) printed told)
      | in-Find w ↦ rw w.in-Find.is (showing _ _ _ _ _ w.shown-is w.find-shown.ensures printed told)
      | in-Super w ↦ rw w.in-Super.is (showing _ _ _ _ _ w.shown-is (string_sight _ _ _ _ w.super_text.ensures.text w.super_text.ensures.fault w.plain_string-shown-in-Super.ensures) printed told)
      | in-Df w ↦ rw w.in-Df.is (showing _ _ _ _ _ w.shown-is (string_sight _ _ _ _ w.super_text-in-Df.ensures.text w.super_text-in-Df.ensures.fault w.plain_string-shown-in-Df.ensures) printed told)
      | in-Map w ↦ rw w.in-Map.is (showing _ _ _ _ _ w.shown-is (string_sight _ _ _ _ w.map_text.ensures.text w.map_text.ensures.fault w.plain_string-shown-in-Map.ensures) printed told)
      | in-Check w ↦ rw w.in-Check.is (showing _ _ _ _ _ w.shown-is w.check-shown.ensures printed told)
      | in-List w ↦ rw w.in-List.is (showing _ _ _ _ _ w.shown-is (plain_sight _ _ _ _ w.list_image.ensures.text w.list_image.ensures.fault w.plain-shown-in-List.ensures) printed told)
      | in-ListUnsound w ↦ rw w.in-ListUnsound.is (showing _ _ _ _ _ w.shown-is w.list_unsound-shown.ensures printed told)
    ]
