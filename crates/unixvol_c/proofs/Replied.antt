-- A reply is of the kind of its query.
use Rattle.std.proofs.Common.{ℕ, ◌≤◌, List, Option, None, Some, Result, Ok, Err, length, drop, sym, subst, arith}
use Rattle.std.proofs.lemmas.List.{length-take}
use Rattle.vol_dir.specs.Tree.{Tree}
use Rattle.vol_dir.specs.Walk.{walk}
use Rattle.vol_dir.specs.declared.refusal.Refusal.{Refusal}
use Rattle.vol_change.specs.Edits.{body_of}
use Rattle.vol_change.specs.Nodes.{node_at, names_at}
use Rattle.vol_volume.specs.Answer.{answer, query_refusal, read_bytes, refused_or, reply_at, reply_of, stat_of, Answers}
use Rattle.vol_volume.specs.declared.queries.Query.{Query}
use Rattle.vol_volume.specs.declared.queries.Query.TheVariants as queries
use Rattle.vol_volume.specs.declared.queries.Reply.{Reply}
use Rattle.vol_volume.specs.declared.queries.Reply.TheVariants as replies
use Rattle.unixvol_c.specs.Calls.{Replies}

-- an outcome, if it is a reply, is of its query's kind
abbrev pub RepliesIfOk : Query → Result Reply Refusal → Type 0
RepliesIfOk query (Ok reply) = Replies query reply
RepliesIfOk query (Err refusal) = Unit {0}

-- if the reply for each node is of the query's kind, so is the reply for the node that a walk leads to
by_walk : (query : Query) (refusal : Option Refusal) (walked : Result ℕ Refusal) (reply : ℕ → Reply) → ((i : ℕ) → Replies query (reply i))
    → RepliesIfOk query (refused_or refusal (reply_at walked reply))
by_walk query (Some refusal) walked reply each = tt
by_walk query None (Err refusal) reply each = tt
by_walk query None (Ok i) reply each = each i

-- `read_bytes` returns at most `len` bytes
few_bytes : (bytes : List ℕ) (offset len : ℕ) → length (read_bytes bytes offset len) ≤ len
few_bytes bytes offset len = omega (arith, length-take len (drop offset bytes))

-- the answer to a query, if it is a reply, is of the query's kind
answered : (tree : Tree) (query : Query) → RepliesIfOk query (answer tree query)
unfolding reply_of
answered tree (queries.Stat cred path) =
    by_walk (queries.Stat cred path) (query_refusal tree (queries.Stat cred path)) (walk tree cred path) (λ i. replies.Stat (stat_of i (node_at tree i))) (λ i. tt)
answered tree (queries.Read cred path offset len) =
    by_walk (queries.Read cred path offset len) (query_refusal tree (queries.Read cred path offset len)) (walk tree cred path)
    (λ i. replies.Bytes (read_bytes (body_of (node_at tree i).content) offset len)) (λ i. few_bytes (body_of (node_at tree i).content) offset len)
answered tree (queries.List cred path) =
    by_walk (queries.List cred path) (query_refusal tree (queries.List cred path)) (walk tree cred path) (λ i. replies.Names (names_at tree i)) (λ i. tt)

-- a reply to a query is of the query's kind
pub replies_alike : (tree : Tree) (query : Query) (reply : Reply) → Answers tree query (Ok reply) → Replies query reply
replies_alike tree query reply answers = subst (RepliesIfOk query) (sym answers) (answered tree query)
