-- The contents of request readers and reply writers.
use Rattle.std.specs.Prelude.{◌≡◌, ◌<◌, ℕ, List, Bool, true, false, Option, None, Some}
use Rattle.std.specs.Io.KnownBytes.{IsAtEnd}
use Rattle.std.specs.IoError.{error_kind}
use Rattle.std.specs.declared.io.Error.{Error}
use Rattle.std.specs.declared.io.ErrorKind.{ErrorKind}
use Rattle.std.specs.declared.io.ErrorKind.TheVariants as kinds
use Rattle.vol_serve.specs.declared.streams.RequestReader.{RequestReader}
use Rattle.vol_serve.specs.declared.streams.ReplyWriter.{ReplyWriter}

-- the reader of requests (std::io)
abbrev pub reader_in : {R : Type 0} → RequestReader R → R
reader_in requests = requests.reader

-- true if the reader has no more requests (std::io)
abbrev pub has_reader_ended : {R : Type 0} → RequestReader R → Bool
has_reader_ended requests = requests.ended

-- the error that ended the requests (std::io)
abbrev pub read_fault : {R : Type 0} → RequestReader R → Option Error
read_fault requests = requests.fault

-- the writer of replies (std::io)
abbrev pub writer_in : {W : Type 0} → ReplyWriter W → W
writer_in replies = replies.writer

-- true if nobody waited for the last reply that was sent (Linux, fs/fuse/dev.c: ENOENT)
abbrev pub is_withdrawn : {W : Type 0} → ReplyWriter W → Bool
is_withdrawn replies = replies.withdrawn

-- true if a write has failed (std::io)
abbrev pub has_writer_failed : {W : Type 0} → ReplyWriter W → Bool
has_writer_failed replies = replies.failed

-- the error of the failed write (std::io)
abbrev pub write_fault : {W : Type 0} → ReplyWriter W → Option Error
write_fault replies = replies.fault

-- true for a kind of error that ends serving: any but that a signal interrupted a read or write, or that its request was withdrawn (Linux,
-- fs/fuse/dev.c: EINTR, ENOENT)
abbrev pub is_final_kind : ErrorKind → Bool
is_final_kind kinds.Interrupted = false
is_final_kind kinds.NotFound = false
is_final_kind kind = true

-- true if an error ends serving (this project)
abbrev pub is_final : Error → Bool
is_final fault = is_final_kind (error_kind fault)

-- the requests ended with an error that ends serving; or with none, at the end of the reader's bytes, if these are known and the buffer had room
-- (std::io)
abbrev pub HasEnd : Option (List ℕ) → ℕ → Option Error → Type 0
HasEnd remaining room None = 0 < room → IsAtEnd remaining
HasEnd remaining room (Some fault) = is_final fault ≡ true
