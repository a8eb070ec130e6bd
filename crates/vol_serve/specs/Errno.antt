-- Error numbers.
use Rattle.std.specs.Prelude.{ℕ}
use Rattle.vol_serve.specs.declared.nodes.fault.NodeFault.TheVariants as faults
use Rattle.vol_serve.specs.declared.errno.RequestRefusal.{RequestRefusal}
use Rattle.vol_serve.specs.declared.errno.RequestRefusal.TheVariants.{Node, ReadOnly, Malformed, Version, Unserved}

-- the number of the error: ESTALE, ENOTDIR, EISDIR, ENOENT, ENAMETOOLONG, EROFS, EIO, EPROTO, ENOSYS (Linux, errno.h)
abbrev pub errno : RequestRefusal → ℕ
errno (Node faults.Stale) = 116
errno (Node faults.NotDirectory) = 20
errno (Node faults.NotRegular) = 21
errno (Node faults.NoEntry) = 2
errno (Node faults.LongName) = 36
errno ReadOnly = 30
errno Malformed = 5
errno Version = 71
errno Unserved = 38
