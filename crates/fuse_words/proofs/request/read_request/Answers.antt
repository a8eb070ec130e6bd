use Rattle.std.proofs.Common.{◌∙◌, sym, Some, None}
use Rattle.fuse_words.proofs.ReadRequests.{read_by}
use Rattle.fuse_words.proofs.request.read_request.Goals as goal

pub returns-in-Some-read_operation : goal.returns-in-Some-read_operation
returns-in-Some-read_operation c =
    read_by c.args.bytes.now c.in-Some.header (Some c.in-Some-read_operation.operation) (sym c.read_header.ensures.exact ∙ c.in-Some.is) c.if-header-bytes.false (sym c.in-Some-read_operation.is ∙ c.read_operation.ensures)

pub returns-in-None : goal.returns-in-None
returns-in-None c =
    read_by c.args.bytes.now c.in-Some.header None (sym c.read_header.ensures.exact ∙ c.in-Some.is) c.if-header-bytes.false (sym c.in-None.is ∙ c.read_operation.ensures)
