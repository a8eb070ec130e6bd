-- Reading a request from its header and its body.
use Rattle.std.proofs.Common.{◌≡◌, ◌∙◌, sym, ap, eq-eqb, ℕ, if◌then◌else◌, ◌-◌, List, length, take, drop, Option, Some, Err}
use Rattle.std.proofs.lemmas.List.{take_rest}
use Rattle.fuse_words.specs.Requests.{header_of, operation_of, with_operation, request_by, request_of}
use Rattle.fuse_words.specs.declared.operation.Operation.{Operation}
use Rattle.fuse_words.specs.declared.request.Header.{Header}
use Rattle.fuse_words.specs.declared.request.RequestFault.TheVariants as faults

-- if the header has the request's length, the request is read from the header and the operation in the body
pub read_by : (bytes : List ℕ) (header : Header) (operation : Option Operation) → header_of bytes ≡ Some header → header.length ≡ length bytes
    → operation ≡ operation_of header.opcode (take (length bytes - 40) (drop 40 bytes)) → with_operation header operation ≡ request_of bytes
read_by bytes header operation h l o =
    ap (with_operation header) (o ∙ ap (operation_of header.opcode) (take_rest bytes 40))
    ∙ (ap (λ b. if b then with_operation header (operation_of header.opcode (drop 40 bytes)) else Err (faults.Length header)) (sym (eq-eqb header.length (length bytes) l))
    ∙ ap (request_by bytes) (sym h))
