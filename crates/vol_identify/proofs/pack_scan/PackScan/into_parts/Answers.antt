use Rattle.std.proofs.Common.{◌≡◌, ◌∙◌, ◌*◌, ℕ, List, length}
use Rattle.std.proofs.lemmas.Result.{IfOk-weaker}
use Rattle.vol_identify.specs.Packs.{HasScanned, found_of, parts_at_end, parts_of}
use Rattle.vol_identify.proofs.PackScans.{whole_parts}
use Rattle.vol_identify.proofs.pack_scan.PackScan.into_parts.Goals as goal

pub returns : goal.returns
returns c =
    let scan = c.args.self in
    IfOk-weaker c.parts_at_end.result (λ parts. parts.items ≡ parts_at_end scan.blocks (found_of scan.found))
    (λ parts. (pack : List ℕ) → HasScanned pack scan → length pack ≡ 512 * scan.blocks → parts.items ≡ parts_of scan.blocks pack)
    (λ parts is pack has whole. is ∙ whole_parts pack scan has whole) c.parts_at_end.ensures
