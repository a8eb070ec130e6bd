use Rattle.std.proofs.Common.{subst, sym}
use Rattle.std.specs.Io.KnownBytes.{Appends}
use Rattle.host_files.proofs.Zeros.{are_zeros}
use Rattle.host_files.proofs.holed_file.HoledFileHoleSink.append_zeros.Goals as goal

pub returns-clause-ok : goal.returns-clause-ok
returns-clause-ok g c =
    subst (Appends (g.R.File.Write.contents c.args.self.now.file) (g.R.File.Write.contents c.append_hole-result.new.file)) (sym (are_zeros c.args.zeros.now c.requires))
    c.in_default.ensures
