use Rattle.std.proofs.Common.{◌≡◌, ◌++◌, true, drop}
use Rattle.vol_trace.specs.Indent.{indented}
use Rattle.vol_trace.proofs.indent.push_indented.Given as goal

-- Invariant: the appended bytes, followed by the rest, indented, are all lines, indented.
abbrev pub invariant-bytes : goal.invariant-bytes
invariant-bytes l = l.text.items ++ indented l.starts (drop l.byte-index l.lines) ≡ l.fn.text.items ++ indented true l.lines
