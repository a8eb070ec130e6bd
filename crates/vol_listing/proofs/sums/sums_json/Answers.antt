use Rattle.std.proofs.Common.{◌≡◌, map}
use Rattle.std.specs.String.{string_bytes}
use Rattle.serde_json.specs.View.{view}
use Rattle.vol_listing.proofs.KnownData.{known_json, known_whole}
use Rattle.vol_listing.proofs.sums.sums_json.Goals as goal

pub entries_line-requires : goal.entries_line-requires
entries_line-requires c =
    known_whole c.args.geometry.now c.args.image.now c.args.lost.now c.args.top.now c.args.founds.now (map view c.in_ok-values.values.items) c.in_ok-values.ensures

pub returns : goal.returns
returns c =
    known_json c.args.geometry.now c.args.image.now c.args.lost.now c.args.top.now c.args.founds.now (map view c.in_ok-values.values.items) _
    c.in_ok-values.ensures c.in_ok-text.ensures
