-- The trace of the calls that a command makes.
use Rattle.std.specs.Prelude.{◌≡◌, ℕ, Bool, true, false, List, [], Option, None, Some, Result, Ok, Err}
use Rattle.std.specs.Global.{Vec}
use Rattle.vol_layout.specs.declared.edition.Edition.{Edition}
use Rattle.vol_volume.specs.Volume.{Mounted, mounted}
use Rattle.vol_volume.specs.declared.calls.Call.{Call}
use Rattle.vol_batch.specs.Batch.{AreMade}
use Rattle.vol_import.specs.Make.{Imports}
use Rattle.vol_import.specs.declared.make.ImportFault.{ImportFault}
use Rattle.vol_trace.specs.Trace.{IsTrace}
use Rattle.command_faults.specs.ChangeFaults.{Makes}
use Rattle.command_faults.specs.declared.answer.Remarked.{Remarked}

-- the trace of a volume if it is wanted, and none otherwise (this project)
abbrev pub IsTraced : Bool → Mounted → Option (Vec ℕ) → Type 0
IsTraced true volume trace = (text : Vec ℕ) × (trace ≡ Some text) × IsTrace volume text.items
IsTraced false volume trace = trace ≡ None

-- a volume was mounted from an image, and accepted these calls; its bytes are those that the calls make (this project)
abbrev pub MakesVolume : Edition → List ℕ → List Call → Mounted → Type 0
MakesVolume edition image calls volume = Makes edition image calls volume.image × AreMade (mounted edition image) calls volume

-- a volume with these bytes was mounted from an image, and accepted these calls; this is its trace, if a trace is wanted (this project)
abbrev pub TracesCalls : Bool → Edition → List ℕ → List Call → List ℕ → Option (Vec ℕ) → Type 0
TracesCalls wanted edition image calls bytes trace =
    (volume : Mounted) × AreMade (mounted edition image) calls volume × (volume.image ≡ bytes) × IsTraced wanted volume trace

-- there are calls to make, and a volume that was mounted from an image accepted them (this project)
abbrev pub AcceptsImport : Edition → List ℕ → Result (List Call) ImportFault → Mounted → Type 0
AcceptsImport edition image (Ok calls) volume = AreMade (mounted edition image) calls volume
AcceptsImport edition image (Err fault) volume = ⊥

-- there are calls to make, and a volume that was mounted from an image accepted them; its bytes are those that the calls make (this project)
abbrev pub ImportsVolume : Edition → List ℕ → Result (List Call) ImportFault → Mounted → Type 0
ImportsVolume edition image wanted volume = Imports edition image wanted volume.image × AcceptsImport edition image wanted volume

-- there are calls to make, and a volume with these bytes accepted them; this is its trace, if a trace is wanted (this project)
abbrev pub TracesImport : Bool → Edition → List ℕ → Result (List Call) ImportFault → List ℕ → Option (Vec ℕ) → Type 0
TracesImport wanted edition image calls bytes trace =
    (volume : Mounted) × AcceptsImport edition image calls volume × (volume.image ≡ bytes) × IsTraced wanted volume trace

-- these are the bytes of a volume, its trace if it is wanted, and no lines (this project)
abbrev pub IsTracedVolume : Bool → Mounted → Remarked → Type 0
IsTracedVolume wanted volume made = (made.bytes.items ≡ volume.image) × IsTraced wanted volume made.trace × (made.lines.items ≡ [])
