-- The state of the devices that are made from a reader and from a writer.
use Rattle.std.specs.Prelude.{Bool}
use Rattle.pdp_words.specs.declared.from_read.FromRead.{FromRead}
use Rattle.pdp_words.specs.declared.into_write.IntoWrite.{IntoWrite}

-- the reader of a source (std::io)
abbrev pub reader_in : {R : Type 0} → FromRead R → R
reader_in source = source.reader

-- true if a read of the source has returned an error (std::io)
abbrev pub has_read_failed : {R : Type 0} → FromRead R → Bool
has_read_failed source = source.failed

-- the writer of a sink (std::io)
abbrev pub writer_in : {W : Type 0} → IntoWrite W → W
writer_in sink = sink.writer

-- true if a write to the sink has returned an error (std::io)
abbrev pub has_write_failed : {W : Type 0} → IntoWrite W → Bool
has_write_failed sink = sink.failed
