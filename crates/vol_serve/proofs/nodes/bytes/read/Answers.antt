use Rattle.std.proofs.Common.{length, arith}
use Rattle.vol_serve.proofs.ReadPieces.{read_count, read_buffer, count_past, buffer_past}
use Rattle.vol_serve.proofs.nodes.bytes.read.Goals as goal

pub returns-in-Ok-clause-count : goal.returns-in-Ok-clause-count
returns-in-Ok-clause-count c =
    read_count c.args.geometry.now c.args.image.now c.args.i c.in_ok-regular.ensures.bytes c.args.offset (length c.args.buffer.now) c.in-Ok.offset
    c.read.result (omega (arith, c.in-Ok.ensures)) c.read.ensures.count

pub returns-in-Ok-clause-buffer : goal.returns-in-Ok-clause-buffer
returns-in-Ok-clause-buffer c =
    read_buffer c.args.geometry.now c.args.image.now c.args.i c.in_ok-regular.ensures.bytes c.args.buffer.now c.read.new.buffer c.args.offset c.in-Ok.offset
    c.read.result (omega (arith, c.in-Ok.ensures)) c.read.ensures.count c.read.ensures.bytes c.read.ensures.rest

pub returns-in-Err-clause-count : goal.returns-in-Err-clause-count
returns-in-Err-clause-count c =
    count_past c.args.geometry.now c.args.image.now c.args.i c.in_ok-regular.ensures.bytes c.args.offset (length c.args.buffer.now) (omega (arith, c.in-Err.ensures))

pub returns-in-Err-clause-buffer : goal.returns-in-Err-clause-buffer
returns-in-Err-clause-buffer c =
    buffer_past c.args.geometry.now c.args.image.now c.args.i c.in_ok-regular.ensures.bytes c.args.buffer.now c.args.offset (omega (arith, c.in-Err.ensures))
