-- The ends of `get`, and of a change that lacks what it needs.
use Rattle.std.proofs.Common.{◌≡◌, ◌≢◌, ◌∙◌, ℕ, zero, suc, ◌≤◌, List, Option, Err, refl, sym, ap, subst, arith}
use Rattle.std.specs.Io.KnownBytes.{Keeps}
use Rattle.command_faults.proofs.Concluded.{fault_few}
use Rattle.command_faults.specs.Faults.{fault_status}
use Rattle.command_reads.specs.Get.{Asks, Prints}
use Rattle.command_terms.specs.declared.changes.Needs.{Needs}
use Rattle.command_terms.specs.declared.changes.Needs.TheVariants as needs
use Rattle.command_faults.specs.Streams.{Streams}
use Rattle.command_faults.specs.declared.fault.Fault.{Fault}
use Rattle.command_faults.specs.declared.fault.Fault.TheVariants as faults
use Rattle.vol_layout.specs.declared.edition.Edition.{Edition}
use Rattle.vol_volume.specs.declared.queries.Query.{Query}
use Rattle.unixvol.specs.Runs.{Ends, IsUngiven, IsUnread}
use Rattle.unixvol.proofs.Concluded.{ends_unread}

-- if the status isn't 3, the fault isn't a failure of standard output, and nothing was printed
kept_by : (edition : Edition) (image : List ℕ) (query : Query) (streams : Streams) (status : ℕ) (fault : Fault)
    → Prints edition image query streams.old streams.new streams.had_failed streams.failed (Err fault) → status ≢ 3
    → (faults.Output ≡ fault → status ≡ 3) → Keeps streams.old streams.new
kept_by edition image query streams status (faults.Unsound rule) printed other is = printed.2
kept_by edition image query streams status (faults.Refused refusal) printed other is = printed.2
kept_by edition image query streams status (faults.RefusedAt refusal line) printed other is = printed.2
kept_by edition image query streams status faults.Bounds printed other is = printed.2
kept_by edition image query streams status faults.HasDevice printed other is = printed.2
kept_by edition image query streams status (faults.BadLine script number line flaw) printed other is = printed.2
kept_by edition image query streams status (faults.Worded rule lines) printed other is = printed.2
kept_by edition image query streams status faults.Output printed other is = absurd (other (is refl))

-- a status is at most 4 if it is so whenever it isn't 0
few_by : (status : ℕ) → (status ≢ 0 → status ≤ 4) → status ≤ 4
few_by zero other = omega arith
few_by (suc n) other = other (λ e. omega (arith, e))

-- if a command prints the answer to a query, its run ends as `Ends` requires
pub ends_shown : (edition : Edition) (image : List ℕ) (query : Query) (streams : Streams) (status : ℕ)
    → Asks edition image streams status query → Ends streams status
ends_shown edition image query streams status asks = record {
  within = few_by status (λ other. let why = asks.refused other in subst (λ n. n ≤ 4) (sym why.2) (fault_few why.0).1);
  silent = λ other third.
      let why = asks.refused other in
      kept_by edition image query streams status why.0 why.1 third (λ same. why.2 ∙ ap fault_status (sym same));
  whole = λ e. let shown = asks.shown e in (shown.0.0, shown.1);
}

-- if what a change needs can't be read, the run ends as `Ends` requires
pub ends_ungiven : {F G : Type 0} (remaining : F → Option (List ℕ)) (heard : G → Option (List ℕ)) (streams : Streams) (status : ℕ) (wanted : Needs)
    → IsUngiven (IsUnread remaining) (IsUnread heard) wanted status → Keeps streams.old streams.new → Ends streams status
ends_ungiven remaining heard streams status (needs.File file keep) ungiven kept = ends_unread remaining streams status ungiven kept
ends_ungiven remaining heard streams status needs.Archive ungiven kept = ends_unread heard streams status ungiven kept
ends_ungiven remaining heard streams status needs.Nothing ungiven kept = absurd ungiven
