-- The words for a guess.
use Rattle.std.specs.Prelude.{ℕ, List, ◌++◌, codes, decimal, Option, None, Some}
use Rattle.vol_findings.specs.Reports.{edition_number}
use Rattle.vol_identify.specs.declared.foreign.Foreign as foreigns
use Rattle.vol_identify.specs.declared.foreign.Foreign.TheVariants.{Simh, Dump, Tp, Fat, Rt11, Files11}
use Rattle.vol_identify.specs.declared.front.FoundVolume.{FoundVolume}
use Rattle.vol_identify.specs.declared.guess.Guess.{Guess}
use Rattle.vol_identify.specs.declared.guess.Guess.TheVariants.{Empty, Packed, Tar, Volume, Swapped, Ext2, CutOff, Foreign, Inside, Unknown}
use Rattle.vol_identify.specs.declared.magic.Packing.{Packing}
use Rattle.vol_identify.specs.declared.magic.Packing.TheVariants.{Gzip, Bzip2, Xz, Zstd, Zip}

-- the name of the program that packed a file (file(1), magic)
abbrev pub packing_text : Packing → List ℕ
packing_text Gzip = codes "gzip"
packing_text Bzip2 = codes "bzip2"
packing_text Xz = codes "xz"
packing_text Zstd = codes "zstd"
packing_text Zip = codes "zip"

-- the words for a volume (this project)
abbrev pub volume_text : FoundVolume → List ℕ
volume_text volume =
    codes "a volume of edition " ++ (decimal (edition_number volume.edition) ++ (codes ", with " ++ (decimal volume.blocks ++ codes " blocks")))

-- the words for a tape or a disk of another system (this project)
abbrev pub foreign_text : foreigns.Foreign → List ℕ
foreign_text Simh = codes "a tape in the format of SIMH"
foreign_text Dump = codes "a tape of V7's dump"
foreign_text Tp = codes "a tape of tp"
foreign_text Fat = codes "a volume of FAT"
foreign_text Rt11 = codes "a disk of RT-11"
foreign_text Files11 = codes "a disk of Files-11"

-- the words for a guess, and for the first rule that a whole volume breaks (this project)
abbrev pub identified_text : Guess → Option ℕ → List ℕ
identified_text Empty broken = codes "looks empty: it has no bytes but zeros"
identified_text (Packed packing) broken = codes "looks packed by " ++ packing_text packing
identified_text Tar broken = codes "looks like an archive of tar"
identified_text (Volume volume) None = codes "looks like " ++ (volume_text volume ++ codes ", sound")
identified_text (Volume volume) (Some rule) =
    codes "looks like " ++ (volume_text volume ++ (codes ", which breaks rule " ++ decimal rule))
identified_text (Swapped volume) broken = codes "looks like " ++ (volume_text volume ++ codes ", with each pair of bytes exchanged")
identified_text Ext2 broken = codes "looks like a volume of ext2, ext3 or ext4"
identified_text (CutOff volume there) broken =
    codes "looks like " ++ (volume_text volume ++ (codes ", cut off after " ++ decimal there))
identified_text (Foreign foreign) broken = codes "looks like " ++ foreign_text foreign
identified_text (Inside volume block) broken =
    codes "looks like a larger pack: at block " ++ (decimal block ++ (codes " begins " ++ volume_text volume))
identified_text Unknown broken = codes "looks like nothing that unixvol knows"
