-- The parts of a directory entry, appended one after another.
use Rattle.std.proofs.Common.{◌≡◌, ℕ, List, ◌++◌, length, ap, ◌∙◌, append_assoc}
use Rattle.std.proofs.Math.ListN.{replicate}
use Rattle.byteorder.specs.Endian.{little_bytes}
use Rattle.fuse_words.specs.declared.directory.EntryKind.{EntryKind}
use Rattle.fuse_words.specs.Replies.{kind_number, padding, dirent_bytes}

-- if `front` and then `part` are appended, `front ++ part` is appended
more : (old front mid new part : List ℕ) → mid ≡ old ++ front → new ≡ mid ++ part → new ≡ old ++ (front ++ part)
more old front mid new part m n = n ∙ (ap (λ xs. xs ++ part) m ∙ append_assoc old front part)

-- the appended parts are the whole entry
pub dirent_put : (old a b c d e new : List ℕ) (ino next_offset : ℕ) (kind : EntryKind) (name : List ℕ)
    → a ≡ old ++ little_bytes 8 ino → b ≡ a ++ little_bytes 8 next_offset → c ≡ b ++ little_bytes 4 (length name)
    → d ≡ c ++ little_bytes 4 (kind_number kind) → e ≡ d ++ name → new ≡ e ++ replicate (padding (length name)) 0
    → new ≡ old ++ dirent_bytes ino next_offset kind name
unfolding dirent_bytes
dirent_put old a b c d e new ino next_offset kind name ha hb hc hd he hn =
    more old _ e new _ (more old _ d e _ (more old _ c d _ (more old _ b c _ (more old _ a b _ ha hb) hc) hd) he) hn
