-- A listing has all names of its directory.
use Rattle.std.proofs.Common.{◌≡◌, ℕ, List, Option, None, Some, Result, Ok, Err, refl, ap}
use Rattle.std.specs.List.{flat_map}
use Rattle.vol_dir.specs.Tree.{Tree}
use Rattle.vol_dir.specs.Walk.{walk}
use Rattle.vol_change.specs.Nodes.{names_at}
use Rattle.vol_dir.specs.declared.refusal.Refusal.{Refusal}
use Rattle.vol_dir.specs.Access.{user}
use Rattle.vol_volume.specs.Answer.{reply_of, reply_at, refused_or, query_refusal}
use Rattle.vol_volume.specs.declared.queries.Query.TheVariants as queries
use Rattle.vol_volume.specs.declared.queries.Reply.{Reply}
use Rattle.vol_volume.specs.declared.queries.Reply.TheVariants as replies
use Rattle.vol_listing.specs.Laws.{ListsNames}
use Rattle.vol_listing.specs.Lines.{names_text, line_of}
use Rattle.vol_listing.specs.Places.{names_after, names_under}

-- if the answer to a List is a reply, it has the names of the directory that the walk leads to
names_replied : (tree : Tree) (refusal : Option Refusal) (walked : Result ℕ Refusal) (reply : Reply)
    → refused_or refusal (reply_at walked (λ i. replies.Names (names_at tree i))) ≡ Ok reply
    → (i : ℕ) × (walked ≡ Ok i) × (replies.Names (names_at tree i) ≡ reply)
names_replied tree None (Ok i) reply e = (i, refl, cc)
names_replied tree None (Err refusal) reply e = absurd (cc)
names_replied tree (Some refusal) walked reply e = absurd (cc)

-- a listing of the directory at a path has a line for each of its names
pub lists_names : ListsNames
unfolding reply_of names_text names_under
lists_names style tree path reply e =
    let at = names_replied tree (query_refusal tree (queries.List user path)) (walk tree user path) reply e in
    (at.0, at.1, ap (λ walked. flat_map (line_of style tree) (names_after tree walked)) at.1)
