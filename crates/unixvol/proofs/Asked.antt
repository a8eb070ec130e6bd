-- Facts about the words that were read, from the invocation that they are read as.
use Rattle.std.proofs.Common.{◌≡◌, ◌∙◌, ℕ, List, Option, Result, Ok, Err, inl, inr, sym, ap, subst}
use Rattle.clap.specs.Words.{kind_of}
use Rattle.clap.specs.declared.error.Error.{Error}
use Rattle.command_line.specs.CommandLine.{IsRead}
use Rattle.command_words.specs.Invocations.{IsWorkable, with_volume}
use Rattle.command_words.specs.declared.invocation.Invocation.{Invocation}
use Rattle.command_words.specs.declared.invocation.Invocation.TheVariants as invocations
use Rattle.command_words.specs.declared.invocation.VolumeFile.{VolumeFile}
use Rattle.command_words.specs.declared.invocation.Work.{Work}
use Rattle.command_line.proofs.ReadWords.{workable}
use Rattle.command_faults.specs.Streams.{Streams}
use Rattle.unixvol.specs.Editions.{IsSettled, ReadsSettled}
use Rattle.unixvol.specs.Runs.{HostFiles, RunsRead, Tells}

-- the same command on another volume is work with several threads only if the command itself is that work
same_work : (asked : Invocation) (found volume : VolumeFile) (work : Work) → with_volume asked found ≡ invocations.Work volume work
    → (old : VolumeFile) × (asked ≡ invocations.Work old work)
same_work (invocations.Work old w) found volume work is = let same : w ≡ work = cc in (old, ap (invocations.Work old) same)
same_work (invocations.Cat old node) found volume work is = absurd (cc)
same_work (invocations.Mkfs image made) found volume work is = absurd (cc)
same_work (invocations.Migrate old at new migration) found volume work is = absurd (cc)
same_work (invocations.Build list new) found volume work is = absurd (cc)
same_work (invocations.Get old path) found volume work is = absurd (cc)
same_work (invocations.Salvage old copy) found volume work is = absurd (cc)
same_work (invocations.Repair old copy repairing) found volume work is = absurd (cc)
same_work (invocations.Resize old blocks is_trial) found volume work is = absurd (cc)
same_work (invocations.Change old change trace) found volume work is = absurd (cc)
same_work (invocations.Look old look) found volume work is = absurd (cc)
same_work (invocations.LookBad old image look) found volume work is = absurd (cc)
same_work (invocations.RepairBad old image copy repairing) found volume work is = absurd (cc)
same_work (invocations.Copy old copying) found volume work is = absurd (cc)
same_work (invocations.Serve old serving) found volume work is = absurd (cc)
same_work (invocations.Diff old other by) found volume work is = absurd (cc)
same_work (invocations.Identify images form is_deep) found volume work is = absurd (cc)

-- if a command with its edition found is work with several threads, the command that was asked for is that work
settled_work : {F : Type 0} (remaining : F → Option (List ℕ)) (asked settled : Invocation) (volume : VolumeFile) (work : Work) → IsSettled remaining asked settled
    → settled ≡ invocations.Work volume work → (old : VolumeFile) × (asked ≡ invocations.Work old work)
settled_work remaining asked settled volume work (inl (none, same)) is = (volume, sym same ∙ is)
settled_work remaining asked settled volume work (inr (old, found, some, settles, same)) is = same_work asked found volume work (sym same ∙ is)

-- if words are read as work with several threads, with the edition found, the number of threads or scripts is 1 to 64
pub settled_workable : {F : Type 0} (remaining : F → Option (List ℕ)) (clock : Option ℕ) (words : List (List ℕ)) (read : Result Invocation Error)
    (volume : VolumeFile) (work : Work) → ReadsSettled remaining clock words read → read ≡ Ok (invocations.Work volume work) → IsWorkable work
settled_workable remaining clock words (Ok settled) volume work (asked, reads, settles) is =
    let same : settled ≡ invocations.Work volume work = cc in
    let old = settled_work remaining asked settled volume work settles same in
    workable clock words old.0 work (subst (λ (i : Invocation). IsRead clock words i) old.1 reads)
settled_workable remaining clock words (Err error) volume work reads is = absurd (cc)

-- if the words are refused, printing the text of the refusal is the run of these words
pub refusal_runs : (streams : Streams) (files : HostFiles) (status : ℕ) (read : Result Invocation Error) (error : Error) → read ≡ Err error
    → Tells streams (kind_of error) status → RunsRead streams files status read
refusal_runs streams files status (Ok invocation) error is tells = absurd (cc)
refusal_runs streams files status (Err e) error is tells =
    let same : error ≡ e = cc in subst (λ (x : Error). Tells streams (kind_of x) status) same tells
