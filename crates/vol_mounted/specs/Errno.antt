-- The numbers of errors.
use Rattle.std.specs.Prelude.{ℕ}
use Rattle.vol_dir.specs.declared.refusal.Refusal.{Refusal}
use Rattle.vol_dir.specs.declared.refusal.Refusal.TheVariants as refusals
use Rattle.vol_serve.specs.Errno.{errno as request_errno}
use Rattle.vol_mounted.specs.declared.refusal.MountedRefusal.{MountedRefusal}
use Rattle.vol_mounted.specs.declared.refusal.MountedRefusal.TheVariants.{Request, Call, NotPermitted, IsDirectory, Flags, Unsaved}

-- the number of a refused call's error: EPERM, ENOENT, ENOMEM, EACCES, EEXIST, ENOTDIR, EISDIR, EINVAL, EFBIG, ENOSPC, EMLINK, ENOTEMPTY, ENXIO, ENOSPC, EINVAL (Linux, errno.h)
abbrev pub call_errno : Refusal → ℕ
call_errno refusals.NotOwner = 1
call_errno refusals.NoEntry = 2
call_errno refusals.NoMemory = 12
call_errno refusals.Access = 13
call_errno refusals.Exists = 17
call_errno refusals.NotDirectory = 20
call_errno refusals.IsDirectory = 21
call_errno refusals.Invalid = 22
call_errno refusals.TooBig = 27
call_errno refusals.NoSpace = 28
call_errno refusals.TooManyLinks = 31
call_errno refusals.NotEmpty = 39
call_errno refusals.NotRegular = 6
call_errno refusals.NoInode = 28
call_errno refusals.BadId = 22

-- the error number of a refusal: the same as for a volume served read-only, the same as for a refused call, EPERM, EXDEV, EINVAL, EIO (Linux,
-- errno.h)
abbrev pub errno : MountedRefusal → ℕ
errno (Request refusal) = request_errno refusal
errno (Call refusal) = call_errno refusal
errno NotPermitted = 1
errno IsDirectory = 18
errno Flags = 22
errno Unsaved = 5
