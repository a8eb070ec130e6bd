use Rattle.std.proofs.Common.{◌∙◌, ◌++◌, ap, arith}
use Rattle.std.proofs.lemmas.List.{take_all}
use Rattle.std.specs.List.{flat_map}
use Rattle.std.specs.String.{string_bytes}
use Rattle.vol_identify.specs.PackTexts.{part_line}
use Rattle.vol_identify.proofs.pack_texts.pack_lines.Goals as goal

pub returns : goal.returns
returns c =
    let line = part_line c.args.word.now in
    let all = take_all c.loop-part.part-index c.args.parts.now (omega arith) in
    c.loop-part.invariant
    ∙ (ap (λ parts. string_bytes c.in_ok-lines.lines ++ flat_map line parts) all
    ∙ ap (λ first. first ++ flat_map line c.args.parts.now) c.in_ok-lines.ensures.ok)
