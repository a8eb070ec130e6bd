use Rattle.std.proofs.Common.{◌∙◌, arith}
use Rattle.vol_check.proofs.Layouts.{read_fits}
use Rattle.vol_check.proofs.sweeps.Sweep.work.Goals as goal

pub check_blocks-requires-clause-fits : goal.check_blocks-requires-clause-fits
check_blocks-requires-clause-fits c =
    let ready = c.args.self.now.shaped.ready c.in-Ok.geometry c.in-Ok.is in
    read_fits c.args.self.now.edition c.args.image.now c.in-Ok.geometry (c.requires.layout.read ∙ c.in-Ok.is) ready.bounds

pub check_blocks-requires-clause-words : goal.check_blocks-requires-clause-words
check_blocks-requires-clause-words c = (c.args.self.now.shaped.ready c.in-Ok.geometry c.in-Ok.is).words.of_blocks c.in-Blocks.is

pub check_blocks-requires-clause-piece : goal.check_blocks-requires-clause-piece
check_blocks-requires-clause-piece c =
    let words = (c.args.self.now.shaped.ready c.in-Ok.geometry c.in-Ok.is).words.of_blocks c.in-Blocks.is in
    omega (arith, words.pieces, c.args.self.now.shaped.count, c.requires.piece)
