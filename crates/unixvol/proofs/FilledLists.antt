-- The members of a list, each with the bytes of its file.
use Rattle.std.proofs.Common.{◌≡◌, ◌∙◌, ◌<◌, ◌+◌, ◌++◌, ◌∷◌, ℕ, List, [], Option, ap, get_or, inl, inr, length, map, sym, take}
use Rattle.std.proofs.lemmas.List.{map-append, take_more}
use Rattle.pack_lists.specs.declared.archive.FilledMember.{FilledMember}
use Rattle.pack_lists.specs.declared.members.ListedMember.{ListedMember}
use Rattle.unixvol.specs.Runs.{GaveBytes, IsStatusOfFileOrMemory, IsUnread}

-- the member of the list
abbrev listed_of : FilledMember → ListedMember
listed_of member = member.listed.now

-- if the filled members so far are the first `k` of a list, then with one more they are its first `k + 1`
pub filled_more : (members : List ListedMember) (k : ℕ) (d : ListedMember) (old new : List FilledMember) (one : FilledMember) → k < length members
    → map listed_of old ≡ take k members → new ≡ old ++ one ∷ [] → one.listed.now ≡ get_or members k d → map listed_of new ≡ take (k + 1) members
filled_more members k d old new one within was is named =
    ap (map listed_of) is ∙ map-append listed_of old (one ∷ [])
    ∙ ap (λ (before : List ListedMember). before ++ one.listed.now ∷ []) was
    ∙ ap (λ (member : ListedMember). take k members ++ member ∷ []) named ∙ sym (take_more members k d within)

-- if a file was read to its end, and then one that it names isn't, or memory runs out, a file isn't read
pub unread_after : {F : Type 0} (remaining : F → Option (List ℕ)) (bytes : List ℕ) (status : ℕ) → GaveBytes remaining bytes → IsStatusOfFileOrMemory status
    → IsUnread remaining status
unread_after remaining bytes status given (inl three) = inl three
unread_after remaining bytes status (old, new, whole) (inr four) = inr (four, old, new, (bytes, whole.0))
