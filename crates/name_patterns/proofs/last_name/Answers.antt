use Rattle.std.proofs.Common.{◌∙◌, refl, sym, length}
use Rattle.name_patterns.proofs.Stars.{at_slash, at_byte, at_end, none_of, some_of}
use Rattle.name_patterns.proofs.last_name.Goals as goal

pub bytes-preserved-then-rest-eq47 : goal.bytes-preserved-then-rest-eq47
bytes-preserved-then-rest-eq47 c = at_slash c.bytes.name.now c.bytes.rest.now _ refl (some_of (length c.bytes.rest.now) c.is_empty.result c.is_empty.ensures c.bytes-test.true) c.if-rest-eq47.true ∙ c.bytes.invariant

pub bytes-preserved : goal.bytes-preserved
bytes-preserved c = at_byte c.bytes.name.now c.bytes.rest.now _ refl (some_of (length c.bytes.rest.now) c.is_empty.result c.is_empty.ensures c.bytes-test.true) c.if-rest-eq47.false ∙ c.bytes.invariant

pub returns : goal.returns
returns c = sym (at_end c.bytes.name.now c.bytes.rest.now (none_of (length c.bytes.rest.now) c.is_empty.result c.is_empty.ensures c.bytes-test.false)) ∙ c.bytes.invariant
