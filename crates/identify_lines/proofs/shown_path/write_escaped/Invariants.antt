use Rattle.std.proofs.Common.{◌≡◌, take}
use Rattle.std.specs.Fmt.{HasWritten, IsPlainFormatter}
use Rattle.std.specs.List.{flat_map}
use Rattle.escaped_text.specs.Escape.{escaped_byte}
use Rattle.identify_lines.proofs.shown_path.write_escaped.Given as goal

-- Invariant: the bytes so far have been written.
abbrev pub invariant-bytes : goal.invariant-bytes
invariant-bytes g l =
    IsPlainFormatter l.initial.f → HasWritten g.W.Write.write_str_gives l.initial.f (flat_map escaped_byte (take l.byte-index l.bytes)) l.f
