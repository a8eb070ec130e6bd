-- Refusals and the verdict on a call, or the answer to a query.
use Rattle.std.proofs.Common.{◌≡◌, refl, sym}
use Rattle.std.specs.Prelude.{Some, Err}
use Rattle.vol_dir.specs.Tree.{State, Tree}
use Rattle.vol_volume.specs.Answer.{Answers, answer}
use Rattle.vol_volume.specs.Journal.{Refuses}
use Rattle.vol_volume.specs.Verdict.{verdict}
use Rattle.vol_dir.specs.declared.refusal.Refusal.{Refusal}
use Rattle.vol_dir.specs.declared.refusal.Refusal.TheVariants as refusals
use Rattle.vol_volume.specs.declared.calls.Call.{Call}
use Rattle.vol_volume.specs.declared.queries.Query.{Query}

-- a refusal of a call, other than NoMemory, is the verdict on it
pub verdict_is : (state : State) (call : Call) (refusal : Refusal) → (refusal ≡ refusals.NoMemory → ⊥) → Refuses state call refusal
    → verdict state call ≡ Some refusal
verdict_is state call refusals.NoMemory other refuses = absurd (other refl)
verdict_is state call refusals.NotOwner other refuses = refuses
verdict_is state call refusals.NoEntry other refuses = refuses
verdict_is state call refusals.Access other refuses = refuses
verdict_is state call refusals.Exists other refuses = refuses
verdict_is state call refusals.NotDirectory other refuses = refuses
verdict_is state call refusals.IsDirectory other refuses = refuses
verdict_is state call refusals.Invalid other refuses = refuses
verdict_is state call refusals.TooBig other refuses = refuses
verdict_is state call refusals.NoSpace other refuses = refuses
verdict_is state call refusals.TooManyLinks other refuses = refuses
verdict_is state call refusals.NotEmpty other refuses = refuses
verdict_is state call refusals.NotRegular other refuses = refuses
verdict_is state call refusals.NoInode other refuses = refuses
verdict_is state call refusals.BadId other refuses = refuses

-- a refusal of a query, other than NoMemory, is the answer to it
pub answer_is : (tree : Tree) (query : Query) (refusal : Refusal) → (refusal ≡ refusals.NoMemory → ⊥) → Answers tree query (Err refusal)
    → answer tree query ≡ Err refusal
answer_is tree query refusals.NoMemory other answers = absurd (other refl)
answer_is tree query refusals.NotOwner other answers = sym answers
answer_is tree query refusals.NoEntry other answers = sym answers
answer_is tree query refusals.Access other answers = sym answers
answer_is tree query refusals.Exists other answers = sym answers
answer_is tree query refusals.NotDirectory other answers = sym answers
answer_is tree query refusals.IsDirectory other answers = sym answers
answer_is tree query refusals.Invalid other answers = sym answers
answer_is tree query refusals.TooBig other answers = sym answers
answer_is tree query refusals.NoSpace other answers = sym answers
answer_is tree query refusals.TooManyLinks other answers = sym answers
answer_is tree query refusals.NotEmpty other answers = sym answers
answer_is tree query refusals.NotRegular other answers = sym answers
answer_is tree query refusals.NoInode other answers = sym answers
answer_is tree query refusals.BadId other answers = sym answers
