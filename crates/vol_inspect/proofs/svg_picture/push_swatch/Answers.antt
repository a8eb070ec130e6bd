use Rattle.vol_inspect.proofs.svg_picture.push_swatch.Goals as goal

pub returns : goal.returns
returns c = rw (c.label-label.ensures, c.legend_count-count.ensures) at c.write.ensures.bytes
