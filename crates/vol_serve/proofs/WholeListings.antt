-- READDIRs, each from the last offset in the reply before, give the whole directory.
use Rattle.std.proofs.Common.{◌≡◌, ◌∙◌, sym, ap, refl, ℕ, zero, suc, ◌+◌, ◌-◌, ◌*◌, ◌≤◌, ◌==◌, min, arith, Bool, true, false, cond, nat_le, nat_lt, List, [], ◌∷◌, ◌++◌, append_assoc, drop, length, Option, None, Some, Result, Ok, Err}
use Rattle.std.specs.Prelude.{T, ◌||◌, if◌then◌else◌, slice_range}
use Rattle.std.specs.List.{cons_option, flat_map, list_any, position_or_len, range_with_len}
use Rattle.std.specs.Option.{ok_or}
use Rattle.std.proofs.lemmas.Bool.{false≢true}
use Rattle.std.proofs.lemmas.Bool.Decides.{nat_tests}
use Rattle.std.proofs.lemmas.List.{length-take}
use Rattle.fuse_words.specs.Replies.{data_message, dirent_bytes, dirent_size, padding}
use Rattle.fuse_words.specs.declared.directory.EntryKind.{EntryKind}
use Rattle.fuse_words.specs.declared.operation.Operation.TheVariants as operations
use Rattle.vol_dir.specs.Walk.{is_plain, is_nil}
use Rattle.vol_layout.specs.Body.{body}
use Rattle.vol_layout.specs.Slot.{name_of, slot_at}
use Rattle.vol_layout.specs.declared.geometry.Geometry.{Geometry}
use Rattle.vol_layout.specs.declared.slot.Slot.{Slot}
use Rattle.vol_dir.specs.Entries.{entry_in, entry_at, slot_count}
use Rattle.vol_dir.specs.Names.{Names}
use Rattle.vol_dir.specs.Tree.{tree}
use Rattle.vol_serve.specs.Nodes.{after_ok, names_in}
use Rattle.vol_serve.specs.declared.nodes.fault.NodeFault.{NodeFault}
use Rattle.vol_serve.specs.declared.nodes.fault.NodeFault.TheVariants as faults
use Rattle.vol_serve.specs.Answers.{answered, is_change, node_reply, operation_reply, served_reply}
use Rattle.vol_serve.specs.Attributes.{entry_kind_in}
use Rattle.vol_serve.specs.Laws.{AreReplied, ListedEntry, ListingsAreWhole, ReadDir, bytes_of, listed_at, listed_in, offset_after}
use Rattle.vol_serve.specs.Listings.{entries_from, listed}
use Rattle.vol_serve.specs.declared.errno.RequestRefusal.TheVariants.{ReadOnly}

-- the name in a slot, if there is one, has at most 14 bytes
abbrev IsShort : Option (List ℕ × ℕ) → Type 0
IsShort None = T true
IsShort (Some entry) = length entry.0 ≤ 14

short_at : (geometry : Geometry) (image : List ℕ) (d slot : ℕ) → IsShort (entry_at geometry image d slot)
unfolding entry_at
short_at geometry image d slot = by (nat_lt slot (slot_count geometry image d)) (slot_at (body geometry image d) (16 * slot)) (low (body geometry image d) (16 * slot))
  where
    low : (bytes : List ℕ) (at : ℕ) → length (slice_range bytes (at + 2) (at + 16)) ≤ 14
    low bytes at = omega (arith, length-take ((at + 16) - (at + 2)) (drop (at + 2) bytes))

    named : (b : Bool) (slot : Slot) → length slot.name ≤ 14 → IsShort (cond b None (Some (name_of slot.name, slot.inode)))
    named true slot low = tt
    named false slot low = omega (arith, length-take (position_or_len (λ c. c == 0) slot.name) slot.name)

    by : (b : Bool) (slot : Slot) → length slot.name ≤ 14 → IsShort (cond b (entry_in slot) None)
    by true slot low = named (slot.inode == 0) slot low
    by false slot low = tt

-- an entry with a name of at most 14 bytes has at most 40 bytes
small : (n : ℕ) → n ≤ 14 → 24 + n + padding n ≤ 40
small n low = omega (arith, low)

-- the entries of `count` slots, starting at `slot`
abbrev ranged : (ℕ → Option (List ℕ × ℕ)) → (ℕ → EntryKind) → ℕ → ℕ → List ListedEntry
ranged entry kind slot count = listed_at entry kind (range_with_len slot count)

-- these are the bytes of the first entries of `count` slots, starting at `slot`; none only if the slots have none, or if there is no room
record IsPage (entry : ℕ → Option (List ℕ × ℕ)) (kind : ℕ → EntryKind) (slot count room : ℕ) (bytes : List ℕ) : Type 0 where
  pub entries : List ListedEntry
  pub are : bytes ≡ bytes_of entries
  pub goes_on : ranged entry kind slot count ≡ entries ++ ranged entry kind (offset_after slot entries) (slot + count - offset_after slot entries)
  pub within : offset_after slot entries ≤ slot + count
  pub ends : entries ≡ [] → 40 ≤ room → ranged entry kind slot count ≡ []

module _ (entry : ℕ → Option (List ℕ × ℕ)) (kind : ℕ → EntryKind) where
  -- the first slot's entry isn't listed
  skipped : (slot count room : ℕ) (bytes : List ℕ) → ranged entry kind slot (suc count) ≡ ranged entry kind (slot + 1) count → (entries : List ListedEntry)
      → bytes ≡ bytes_of entries
      → ranged entry kind (slot + 1) count ≡ entries ++ ranged entry kind (offset_after (slot + 1) entries) (slot + 1 + count - offset_after (slot + 1) entries)
      → offset_after (slot + 1) entries ≤ slot + 1 + count → (entries ≡ [] → 40 ≤ room → ranged entry kind (slot + 1) count ≡ [])
      → IsPage entry kind slot (suc count) room bytes
  skipped slot count room bytes same [] are goes_on within ends =
      let all : suc count ≡ slot + suc count - slot = omega arith in
      record {
        entries = [];
        are = are;
        goes_on = ap (λ n. ranged entry kind slot n) all;
        within = omega arith;
        ends = λ none low. same ∙ ends none low;
      }
  skipped slot count room bytes same (first ∷ entries) are goes_on within ends =
      let k = offset_after first.next entries in
      let all : slot + 1 + count ≡ slot + suc count = omega arith in
      record {
        entries = first ∷ entries;
        are = are;
        goes_on = same ∙ (goes_on ∙ ap (λ n. first ∷ (entries ++ ranged entry kind k (n - k))) all);
        within = omega (arith, within);
        ends = λ none low. absurd (cc);
      }

  page_of : ((slot : ℕ) → IsShort (entry slot)) → (count slot room : ℕ) → IsPage entry kind slot count room (entries_from entry kind slot room count)
  unfolding entries_from
  page_of short zero slot room =
      let none : 0 ≡ slot + 0 - slot = omega arith in
      record {
        entries = [];
        are = refl;
        goes_on = ap (λ n. ranged entry kind slot n) none;
        within = omega arith;
        ends = λ none low. refl;
      }
  page_of short (suc count) slot room = by (entry slot) refl (short slot) (λ left. page_of short count (slot + 1) left)
    where
      -- the first slot has an entry with this name and i-number
      one : (name : List ℕ) (number : ℕ) → entry slot ≡ Some (name, number) → length name ≤ 14
          → ((left : ℕ) → IsPage entry kind (slot + 1) count left (entries_from entry kind (slot + 1) left count))
          → (plain : Bool) → is_plain name ≡ plain → (fits : Bool) → nat_le (dirent_size name) room ≡ fits
          → IsPage entry kind slot (suc count) room
          (if plain then (if fits then dirent_bytes number (slot + 1) (kind number) name ++ entries_from entry kind (slot + 1) (room - dirent_size name) count else [])
          else entries_from entry kind (slot + 1) room count)
      one name number is low next false odd fits is_fit =
          let page = next room in
          skipped slot count room (entries_from entry kind (slot + 1) room count)
          (ap (λ (found : Option (List ℕ × ℕ)). cons_option (listed_in kind slot found) (ranged entry kind (slot + 1) count)) is
          ∙ ap (λ b. cons_option (if b then Some (record { number = number; next = slot + 1; kind = kind number; name = name }) else None) (ranged entry kind (slot + 1) count)) odd)
          page.entries page.are page.goes_on page.within page.ends
      one name number is low next true plain true fits =
          let page = next (room - dirent_size name) in
          let first : ListedEntry = record { number = number; next = slot + 1; kind = kind number; name = name } in
          let k = offset_after (slot + 1) page.entries in
          let all : slot + 1 + count ≡ slot + suc count = omega arith in
          let within = page.within in
          record {
            entries = first ∷ page.entries;
            are = ap (λ bytes. dirent_bytes number (slot + 1) (kind number) name ++ bytes) page.are;
            goes_on = ap (λ (found : Option (List ℕ × ℕ)). cons_option (listed_in kind slot found) (ranged entry kind (slot + 1) count)) is
                ∙ (ap (λ b. cons_option (if b then Some first else None) (ranged entry kind (slot + 1) count)) plain
                ∙ (ap (λ entries. first ∷ entries) page.goes_on ∙ ap (λ n. first ∷ (page.entries ++ ranged entry kind k (n - k))) all));
            within = omega (arith, within);
            ends = λ none low. absurd (cc);
          }
      one name number is low next true plain false tight =
          let all : suc count ≡ slot + suc count - slot = omega arith in
          let size = small (length name) low in
          record {
            entries = [];
            are = refl;
            goes_on = ap (λ n. ranged entry kind slot n) all;
            within = omega arith;
            ends = λ none room. absurd (grind (arith, nat_tests, tight, size, room));
          }

      by : (found : Option (List ℕ × ℕ)) → entry slot ≡ found → IsShort found
          → ((left : ℕ) → IsPage entry kind (slot + 1) count left (entries_from entry kind (slot + 1) left count))
          → IsPage entry kind slot (suc count) room (listed kind slot room found (λ left. entries_from entry kind (slot + 1) left count))
      by None is low next =
          let page = next room in
          skipped slot count room (entries_from entry kind (slot + 1) room count)
          (ap (λ (found : Option (List ℕ × ℕ)). cons_option (listed_in kind slot found) (ranged entry kind (slot + 1) count)) is)
          page.entries page.are page.goes_on page.within page.ends
      by (Some found) is low next =
          one found.0 found.1 is low next (is_plain found.0) refl (nat_le (dirent_size found.0) room) refl

-- the reply to READDIR has the bytes of the listing
replied : (geometry : Geometry) (image : List ℕ) (d offset : ℕ) (names : Names) (request : ReadDir geometry d) → names_in (tree geometry image) d ≡ Ok names
    → operation_reply geometry image request.header (operations.ReadDir request.handle offset request.size)
    ≡ Ok (data_message request.header.unique (entries_from (entry_at geometry image d) (entry_kind_in (tree geometry image)) offset (min 131072 request.size)
    (slot_count geometry image d - offset)))
unfolding served_reply node_reply
replied geometry image d offset names request named =
    let operation = operations.ReadDir request.handle offset request.size in
    let header = request.header in
    ap (λ opcode. if is_change opcode then Err ReadOnly else served_reply geometry image header operation) request.opcode
    ∙ (ap (λ (found : Option ℕ). answered (ok_or found faults.Stale) (λ i. node_reply geometry image header.unique i operation)) request.node
    ∙ ap (λ (found : Result Names NodeFault). answered (after_ok found (λ names. Ok (entries_from (entry_at geometry image d) (entry_kind_in (tree geometry image)) offset (min 131072 request.size)
    (slot_count geometry image d - offset)))) (λ entries. Ok (data_message header.unique entries))) named)

-- if two lists together are empty, the second one is
none_after : (xs ys : List ListedEntry) → xs ++ ys ≡ [] → ys ≡ []
none_after [] ys is = is
none_after (x ∷ xs) ys is = absurd (cc)

-- the replies to some READDIRs, starting with an offset
record HasReplies (geometry : Geometry) (image : List ℕ) (d offset : ℕ) (requests : List (ReadDir geometry d)) : Type 0 where
  pub replies : List (List ListedEntry)
  pub rest : List ListedEntry
  pub are : AreReplied geometry image d offset requests replies
  pub whole : flat_map (λ (reply : List ListedEntry). reply) replies ++ rest
      ≡ ranged (entry_at geometry image d) (entry_kind_in (tree geometry image)) offset (slot_count geometry image d - offset)
  pub ends : list_any is_nil replies ≡ true → rest ≡ []

-- the replies to one READDIR and to those after it
replies_more : (geometry : Geometry) (image : List ℕ) (d offset room : ℕ) (bytes : List ℕ) (request : ReadDir geometry d) (requests : List (ReadDir geometry d))
    → (page : IsPage (entry_at geometry image d) (entry_kind_in (tree geometry image)) offset (slot_count geometry image d - offset) room bytes)
    → operation_reply geometry image request.header (operations.ReadDir request.handle offset request.size) ≡ Ok (data_message request.header.unique bytes)
    → offset + (slot_count geometry image d - offset) ≡ slot_count geometry image d → 40 ≤ room
    → HasReplies geometry image d (offset_after offset page.entries) requests → HasReplies geometry image d offset (request ∷ requests)
unfolding AreReplied
replies_more geometry image d offset room bytes request requests page reply all low more =
    let joined : List ListedEntry = flat_map (λ (reply : List ListedEntry). reply) more.replies in
    let left = λ (n : ℕ). page.entries ++ ranged (entry_at geometry image d) (entry_kind_in (tree geometry image)) (offset_after offset page.entries) (n - offset_after offset page.entries) in
    let whole : (page.entries ++ joined) ++ more.rest ≡ ranged (entry_at geometry image d) (entry_kind_in (tree geometry image)) offset (slot_count geometry image d - offset) =
    append_assoc page.entries joined more.rest ∙ (ap (λ entries. page.entries ++ entries) more.whole ∙ sym (page.goes_on ∙ ap left all)) in
    record {
      replies = page.entries ∷ more.replies;
      rest = more.rest;
      are = (reply ∙ ap (λ bytes. Ok (data_message request.header.unique bytes)) page.are, more.are);
      whole = whole;
      ends = ended page.entries (list_any is_nil more.replies) more.rest (λ none. none_after (page.entries ++ joined) more.rest (whole ∙ page.ends none low)) more.ends;
    }
  where
    ended : (entries : List ListedEntry) (later : Bool) (rest : List ListedEntry) → (entries ≡ [] → rest ≡ []) → (later ≡ true → rest ≡ [])
        → (is_nil entries || later) ≡ true → rest ≡ []
    ended [] later rest here after any = here refl
    ended (entry ∷ entries) later rest here after any = after any

has_replies : (geometry : Geometry) (image : List ℕ) (d : ℕ) (names : Names) → names_in (tree geometry image) d ≡ Ok names
    → (requests : List (ReadDir geometry d)) (offset : ℕ) → offset ≤ slot_count geometry image d → HasReplies geometry image d offset requests
unfolding AreReplied
has_replies geometry image d names named [] offset low = record {
  replies = [];
  rest = ranged (entry_at geometry image d) (entry_kind_in (tree geometry image)) offset (slot_count geometry image d - offset);
  are = refl;
  whole = refl;
  ends = λ none. absurd (false≢true none);
}
has_replies geometry image d names named (request ∷ requests) offset low =
    let page = page_of (entry_at geometry image d) (entry_kind_in (tree geometry image)) (short_at geometry image d) (slot_count geometry image d - offset) offset (min 131072 request.size) in
    let all : offset + (slot_count geometry image d - offset) ≡ slot_count geometry image d = omega (arith, low) in
    let within = page.within in
    let asked = request.room in
    replies_more geometry image d offset (min 131072 request.size) _ request requests page (replied geometry image d offset names request named) all (omega (arith, asked))
    (has_replies geometry image d names named requests (offset_after offset page.entries) (omega (arith, all, within)))

pub listings_whole : ListingsAreWhole
listings_whole geometry image d names requests named =
    let all = has_replies geometry image d names named requests 0 (omega arith) in
    let count : ℕ = slot_count geometry image d in
    let whole : count - 0 ≡ count = omega arith in (
      all.replies,
      all.rest,
      all.are,
      all.whole ∙ ap (λ n. ranged (entry_at geometry image d) (entry_kind_in (tree geometry image)) 0 n) whole,
      all.ends,
    )
