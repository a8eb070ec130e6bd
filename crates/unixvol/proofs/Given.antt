-- Files of which only a front may be read.
use Rattle.std.proofs.Common.{◌≡◌, ◌∙◌, ◌+◌, ◌<◌, ◌++◌, ℕ, true, List, [], length, Option, Result, Ok, Err, IfOk, inl, inr, sym, ap, subst, arith}
use Rattle.std.proofs.KnownBytes.{Consumes-trans}
use Rattle.std.proofs.lemmas.Bool.{cases_lt}
use Rattle.std.specs.Global.{Vec}
use Rattle.std.specs.Io.KnownBytes.{Consumes}
use Rattle.vol_layout.specs.Edition.{constants}
use Rattle.vol_layout.specs.declared.edition.Edition.{Edition}
use Rattle.vol_findings.specs.Reports.{other_edition}
use Rattle.host_files.specs.ReadParts.{IsReadOn}
use Rattle.host_files.specs.declared.volume_front.UpTo.TheVariants.{Volume}
use Rattle.unixvol.specs.Runs.{GaveAt, GaveBytes, GaveImage, GavePut, GaveScript, IsUnread, is_other_longer}

-- bytes that were read after none are the bytes that left the source
none_before : (old new : Option (List ℕ)) (none bytes : List ℕ) (most : ℕ) → none ≡ [] → IsReadOn old new none bytes most → Consumes old new bytes
none_before old new none bytes most empty on =
    subst (Consumes old new) (sym (on.all ∙ ap (λ xs. xs ++ on.more) empty)) on.front

-- bytes that were read up to some number are all of the file if there are fewer
pub short_read : {F : Type 0} (remaining : F → Option (List ℕ)) (old new : F) (none bytes : List ℕ) (most : ℕ) → none ≡ []
    → IsReadOn (remaining old) (remaining new) none bytes most → length bytes < most → GaveBytes remaining bytes
short_read remaining old new none bytes most empty on short =
    (old, new, (none_before (remaining old) (remaining new) none bytes most empty on, on.end short))

-- bytes that were read up to one more than an edition's greatest size are a file to put
pub put_read : {F : Type 0} (remaining : F → Option (List ℕ)) (edition : Edition) (old new : F) (none bytes : List ℕ) (most : ℕ)
    → none ≡ [] → most ≡ (constants edition).greatest + 1 → IsReadOn (remaining old) (remaining new) none bytes most → GavePut edition remaining bytes
put_read remaining edition old new none bytes most empty count on =
    elim (cases_lt (length bytes) most) [
      | inl short ↦ inl (short_read remaining old new none bytes most empty on short)
      | inr all ↦ inr (
        omega (arith, all, on.bound, ap length empty, count),
        old,
        new,
        none_before (remaining old) (remaining new) none bytes most empty on,
      )
    ]

-- if memory runs out after a file to put was read, bytes of some file were read
pub put_unread : {F : Type 0} (remaining : F → Option (List ℕ)) (edition : Edition) (bytes : List ℕ) (status : ℕ) → status ≡ 4
    → GavePut edition remaining bytes → IsUnread remaining status
put_unread remaining edition bytes status is (inl whole) = inr (is, whole.0, whole.1, (bytes, whole.2.0))
put_unread remaining edition bytes status is (inr (count, old, new, read)) = inr (is, old, new, (bytes, read))

-- bytes that were read in two steps, the second up to some number, are all of the file if there are fewer
pub rest_read : {F : Type 0} (remaining : F → Option (List ℕ)) (a b c : F) (none front bytes : List ℕ) (first most : ℕ) → none ≡ []
    → IsReadOn (remaining a) (remaining b) none front first → IsReadOn (remaining b) (remaining c) front bytes most → length bytes < most
    → GaveBytes remaining bytes
rest_read remaining a b c none front bytes first most empty one other short =
    let read = Consumes-trans _ _ _ front other.more (none_before (remaining a) (remaining b) none front first empty one) other.front in
    (a, c, (subst (Consumes (remaining a) (remaining c)) (sym other.all) read, other.end short))

-- if memory runs out after a script was read, bytes of some file were read
pub script_unread : {F : Type 0} (remaining : F → Option (List ℕ)) (script : List ℕ) (status : ℕ) → status ≡ 4 → GaveScript remaining script
    → IsUnread remaining status
script_unread remaining script status is (inl whole) = inr (is, whole.0, whole.1, (script, whole.2.0))
script_unread remaining script status is (inr (front, old, new, read, count, bad, same)) = inr (is, old, new, (front, read))

-- an image that was read up to the end of the other edition's volume is one for `check` if that one is longer
pub other_read : {E F : Type 0} (remaining : F → Option (List ℕ)) (at : ℕ) (edition other : Edition) (own : List ℕ) (result : Result (Vec ℕ) E)
    → other ≡ other_edition edition → GaveAt at (Volume edition) remaining own → is_other_longer edition own ≡ true
    → IfOk result (λ bytes. GaveAt at (Volume other) remaining bytes.items) → IfOk result (λ image. GaveImage at edition remaining image.items)
other_read remaining at edition other own (Ok image) is read longer gave =
    inr ((own, read, longer), subst (λ (edition : Edition). GaveAt at (Volume edition) remaining image.items) is gave)
other_read remaining at edition other own (Err fault) is read longer gave = tt
