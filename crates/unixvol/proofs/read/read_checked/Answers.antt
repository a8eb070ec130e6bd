use Rattle.std.proofs.Common.{◌∙◌, ap, sym}
use Rattle.unixvol.specs.Runs.{is_other_longer}
use Rattle.unixvol.proofs.Given.{other_read}
use Rattle.unixvol.proofs.read.read_checked.Goals as goal

pub returns-clause-given : goal.returns-clause-given
returns-clause-given g c =
    let edition = c.args.volume.edition in
    let longer = sym (ap (is_other_longer edition) c.from_bytes-image.ensures) ∙ sym c.is_other_longer.ensures ∙ c.if-not-is_other_longer.false in
    other_read g.R.File.Read.remaining c.args.volume.at edition _ c.in_ok-bytes.bytes.items c.read_volume.result c.other_edition-edition.ensures
    c.in_ok-bytes.ensures.given longer c.read_volume.ensures.given
