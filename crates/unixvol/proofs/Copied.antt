-- Copies of several files: their names, and the result of saving them.
use Rattle.std.proofs.Common.{◌≡◌, ◌∙◌, ◌<◌, ◌+◌, ◌++◌, ℕ, List, [], ◌∷◌, length, map, take, get_or, Result, Ok, Err, IfErr, OnOk, inl, inr, sym, ap, subst}
use Rattle.std.specs.Borrow.{Bor}
use Rattle.std.specs.Global.{Vec}
use Rattle.std.proofs.lemmas.List.{map-append, take_more}
use Rattle.command_reads.specs.declared.get.FileRead.{FileRead}
use Rattle.command_changes.specs.declared.put.NewFile.{NewFile}
use Rattle.command_copies.specs.Trees.{name_of}
use Rattle.unixvol.specs.Copies.{AreSaved, EndsRead}
use Rattle.unixvol.specs.FileFaults.{file_status, saved_status}
use Rattle.unixvol.specs.Runs.{IsStatusOfFileOrMemory}
use Rattle.unixvol.specs.declared.file_fault.FileFault.{FileFault}

-- the name of a new file
abbrev file_name : NewFile → List ℕ
file_name file = file.name.now

-- the last name of a path
abbrev path_name : Bor (List ℕ) → List ℕ
path_name path = name_of path.now

-- if the files so far have the last names of the first `k` paths, then with one more file they have the last names of the first `k + 1` paths
pub names_more : (paths : List (Bor (List ℕ))) (k : ℕ) (d : Bor (List ℕ)) (old new : List NewFile) (file : NewFile) → k < length paths
    → map file_name old ≡ map path_name (take k paths) → new ≡ old ++ file ∷ [] → file.name.now ≡ name_of (get_or paths k d).now
    → map file_name new ≡ map path_name (take (k + 1) paths)
names_more paths k d old new file within was is named =
    ap (map file_name) is ∙ map-append file_name old (file ∷ [])
    ∙ ap (λ (names : List (List ℕ)). names ++ file.name.now ∷ []) was
    ∙ ap (λ (name : List ℕ). map path_name (take k paths) ++ name ∷ []) named
    ∙ sym (ap (map path_name) (take_more paths k d within) ∙ map-append path_name (take k paths) (get_or paths k d ∷ []))

-- the end of a run that was to save the files that were read
pub saved_read : (taken : List ℕ → Type 0) (lines : List ℕ) (files : Vec FileRead) (given : List FileRead) (saved : Result (Unit {0}) FileFault) (status : ℕ) → given ≡ files.items
    → status ≡ saved_status 0 saved → OnOk saved (AreSaved taken given) → IfErr saved (λ fault. IsStatusOfFileOrMemory (file_status fault)) → lines ≡ []
    → EndsRead taken lines (Ok files) status
saved_read taken lines files given (Ok done) status same is ok err quiet = (inl (is, subst (AreSaved taken) same ok), quiet)
saved_read taken lines files given (Err fault) status same is ok err quiet = (inr (subst IsStatusOfFileOrMemory (sym is) err), quiet)
