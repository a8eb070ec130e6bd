-- Copies of trees: the result of saving them.
use Rattle.std.proofs.Common.{◌≡◌, ◌∙◌, ◌≤◌, ℕ, List, Result, Ok, Err, IfErr, OnOk, inl, inr, sym, subst, arith}
use Rattle.std.specs.Io.KnownBytes.{Keeps}
use Rattle.command_copies.specs.Trees.{told_status}
use Rattle.command_copies.specs.declared.nodes.NodeRead.{NodeRead}
use Rattle.command_copies.specs.declared.trees.TreesRead.{TreesRead}
use Rattle.command_faults.proofs.Concluded.{fault_few}
use Rattle.command_faults.specs.Streams.{Streams}
use Rattle.command_faults.specs.declared.fault.Fault.{Fault}
use Rattle.host_files.specs.declared.image_file.Stamp.{Stamp}
use Rattle.unixvol.specs.Copies.{AreCopied, EndsCopied}
use Rattle.unixvol.specs.FileFaults.{file_status, saved_status}
use Rattle.unixvol.specs.Runs.{Ends, IsStatusOfFileOrMemory}
use Rattle.unixvol.specs.declared.file_fault.FileFault.{FileFault}
use Rattle.unixvol.proofs.Looked.{lines_few}

-- the end of a run that was to save the nodes that were read
pub saved_nodes : (taken : List ℕ → Type 0) (stood : Stamp → Type 0) (lines : List ℕ) (read : TreesRead) (given : List NodeRead) (own : ℕ)
    (saved : Result (Unit {0}) FileFault) (status : ℕ) → given ≡ read.nodes.items → own ≡ told_status read.lines.items
    → status ≡ saved_status own saved → OnOk saved (AreCopied taken stood given) → IfErr saved (λ fault. IsStatusOfFileOrMemory (file_status fault))
    → lines ≡ read.lines.items → EndsCopied taken stood lines (Ok read) status
saved_nodes taken stood lines read given own (Ok done) status same told is ok err said = (inl (is ∙ told, subst (AreCopied taken stood) same ok), said)
saved_nodes taken stood lines read given own (Err fault) status same told is ok err said = (inr (subst IsStatusOfFileOrMemory (sym is) err), said)

-- if trees were read and saved, or weren't read, the run ends as `Ends` requires
pub ends_copied : (streams : Streams) (taken : List ℕ → Type 0) (stood : Stamp → Type 0) (read : Result TreesRead Fault) (status : ℕ)
    → EndsCopied taken stood streams.lines read status → Keeps streams.old streams.new → streams.failed ≡ streams.had_failed → Ends streams status
ends_copied streams taken stood (Ok read) status (inl (is, copied), said) unprinted unused =
    let few = lines_few 1 1 status read.lines.items (omega arith) (omega arith) is in
    record { within = omega (arith, few.0); silent = λ _ _. unprinted; whole = λ e. (unused, said ∙ few.1 e) }
ends_copied streams taken stood (Ok read) status (inr file, said) unprinted unused = record {
  within = elim file [ inl three ↦ omega (arith, three) | inr four ↦ omega (arith, four) ];
  silent = λ _ _. unprinted;
  whole = λ e. absurd (elim file [ inl three ↦ omega (arith, three, e) | inr four ↦ omega (arith, four, e) ]);
}
ends_copied streams taken stood (Err fault) status told unprinted unused =
    let one : 1 ≤ status = subst (λ n. 1 ≤ n) (sym told.0) (fault_few fault).0 in
    let four : status ≤ 4 = subst (λ n. n ≤ 4) (sym told.0) (fault_few fault).1 in
    record { within = four; silent = λ _ _. unprinted; whole = λ e. absurd (omega (arith, one, e)) }
