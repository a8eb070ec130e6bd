-- A list is read from its text as it was written.
use Rattle.std.proofs.Common.{◌≡◌, ◌∙◌, sym, ap, refl, ℕ, ◌+◌, ◌<◌, ◌≤◌, ◌==◌, ◌&&◌, true, false, not, nat_lt, List, [], ◌∷◌, ◌++◌, length, Option, None, Some, Ok, arith, append-nil, append_assoc, length-append}
use Rattle.std.specs.Prelude.{All, codes, decimal}
use Rattle.std.specs.Char.{digit_value}
use Rattle.std.specs.Fmt.{digits}
use Rattle.std.specs.List.{AllByRecursion, flat_map, list_all, list_any, slice_split}
use Rattle.std.specs.Str.{is_utf8}
use Rattle.std.specs.Str.Parse.{AllDigits, IsNumeral, digits_value}
use Rattle.std.proofs.lemmas.Bool.{and_parts, le-leb, lt-ltb, ne_eqb}
use Rattle.std.proofs.lemmas.Fmt.{decimal_is_IsNumeral, digits_is_IsNumeral}
use Rattle.std.proofs.lemmas.List.Elements.{All-append, All-cons, All-nil}
use Rattle.std.proofs.lemmas.List.Splits.{slice_split_at, slice_split_none}
use Rattle.line_words.specs.Numbers.{number_in}
use Rattle.line_words.specs.Pieces.{words_of}
use Rattle.vol_layout.specs.declared.edition.Edition.{Edition}
use Rattle.vol_layout.specs.declared.edition.Edition.TheVariants as editions
use Rattle.vol_layout.specs.declared.mode.DeviceKind.{DeviceKind}
use Rattle.vol_layout.specs.declared.mode.DeviceKind.TheVariants as devices
use Rattle.pack_lists.specs.Drafts.{Drafted, blank, is_comment, with_line, with_lines, with_named}
use Rattle.pack_lists.specs.Laws.{AreOwned, IsPathWord, IsWritable, IsWritableBoot, IsWritableRoot, IsWritableVolume, ListsReadAsWritten}
use Rattle.pack_lists.specs.Lists.{list_in}
use Rattle.pack_lists.specs.MemberLines.{boot_in, device_in, directory_in, file_member_in, kind_word, link_in, marks_of, member_in, root_in, root_of, sizes_in, time_in}
use Rattle.pack_lists.specs.Paths.{has_byte, is_path}
use Rattle.pack_lists.specs.Texts.{boot_text, edition_word, line_of, line_text, list_text, member_text, member_words, owner_word, permissions_word, root_text, sizes_text, time_text}
use Rattle.pack_lists.specs.Words.{byte_in, edition_in, is_list_word, long_in, owner_in, owner_of, permissions_in, short_in, words_in}
use Rattle.pack_lists.specs.declared.draft.Stage.TheVariants as stages
use Rattle.pack_lists.specs.declared.member_lines.MemberKind.{MemberKind}
use Rattle.pack_lists.specs.declared.member_lines.MemberKind.TheVariants as kinds
use Rattle.pack_lists.specs.declared.members.ListedMember.{ListedMember}
use Rattle.pack_lists.specs.declared.members.ListedMember.TheVariants as members
use Rattle.pack_lists.specs.declared.members.ListedOwner.{ListedOwner}
use Rattle.pack_lists.specs.declared.members.ListedVolume.{ListedVolume}
use Rattle.pack_lists.specs.declared.members.NodeMarks.{NodeMarks}
use Rattle.pack_lists.specs.declared.members.RootMarks.{RootMarks}
use Rattle.pack_lists.specs.declared.members.VolumeSizes.{VolumeSizes}
use Rattle.pack_lists.proofs.Lemmas.{above, line_read, neither, not_true}

-- no byte of these is this one
abbrev Lacks : ℕ → List ℕ → Type 0
Lacks byte bytes = All (λ b. (b == byte) ≡ false) bytes

-- words with a space before each
abbrev spaced : List (List ℕ) → List ℕ
spaced words = flat_map (λ (word : List ℕ). 32 ∷ word) words

-- the lines of a text
abbrev lines_of : List ℕ → List (List ℕ)
lines_of text = slice_split (λ b. b == 10) text

-- a word of a line
record IsPlain (word : List ℕ) : Type 0 where
  pub some : 0 < length word
  pub spaces : Lacks 32 word
  pub newlines : Lacks 10 word

-- bytes that haven't a byte lack it
lacks : (byte : ℕ) (bytes : List ℕ) → has_byte byte bytes ≡ false → Lacks byte bytes
lacks byte [] none = All-nil (λ b. (b == byte) ≡ false)
lacks byte (c ∷ bytes) none =
    let parts = neither (c == byte) (list_any (λ b. b == byte) bytes) none in
    All-cons (λ b. (b == byte) ≡ false) c bytes parts.0 (lacks byte bytes parts.1)

-- a number above 0 isn't 0
not_zero : (n : ℕ) → 0 < n → (n == 0) ≡ false
not_zero n some = ne_eqb n 0 (λ is. omega (arith, some, is))

-- bytes that can be a word are one
plain_word : (word : List ℕ) → is_list_word word ≡ true → IsPlain word
plain_word word is =
    let parts = and_parts (not (length word == 0)) (not (has_byte 32 word) && not (has_byte 10 word)) is in
    let bytes = and_parts (not (has_byte 32 word)) (not (has_byte 10 word)) parts.1 in
    record {
      some = above (length word) (not_true (length word == 0) parts.0);
      spaces = lacks 32 word (not_true (has_byte 32 word) bytes.0);
      newlines = lacks 10 word (not_true (has_byte 10 word) bytes.1);
    }

-- numbers on both sides of another one differ
apart : (a b radix : ℕ) → a < radix → radix ≤ b → a ≡ b → ⊥
apart a b radix below least is = omega (arith, below, least, is)

-- digits lack a byte that is no digit
digits_lack : (radix byte : ℕ) (word : List ℕ) → radix ≤ digit_value byte → AllDigits radix word → Lacks byte word
digits_lack radix byte [] least all = All-nil (λ b. (b == byte) ≡ false)
digits_lack radix byte (c ∷ word) least all =
    All-cons (λ b. (b == byte) ≡ false) c word
    (ne_eqb c byte (λ is. apart (digit_value c) (digit_value byte) radix all.0 least (ap digit_value is)))
    (digits_lack radix byte word least all.1)

-- digits are a word
digits_plain : (radix : ℕ) (word : List ℕ) → radix ≤ 16 → IsNumeral radix word → IsPlain word
digits_plain radix word high is = record {
  some = is.0;
  spaces = digits_lack radix 32 word (omega (arith, high)) is.1;
  newlines = digits_lack radix 10 word (omega (arith, high)) is.1;
}

-- digits pass the test of digits
all_digits : (radix : ℕ) (word : List ℕ) → AllDigits radix word → list_all (λ c. nat_lt (digit_value c) radix) word ≡ true
all_digits radix [] all = refl
all_digits radix (c ∷ word) all = rw (lt-ltb (digit_value c) radix all.0) (all_digits radix word all.1)

-- digits whose value is at most `most` are read as their value
number_read : (radix most n : ℕ) (word : List ℕ) → IsNumeral radix word → digits_value radix word ≡ n → n ≤ most → number_in radix most word ≡ Some n
number_read radix most n word is value within =
    rw (lt-ltb 0 (length word) is.0, all_digits radix word is.1, value, le-leb n most within) refl

-- a number that is written and read
record IsBack (most n : ℕ) : Type 0 where
  pub plain : IsPlain (decimal n)
  pub read : number_in 10 most (decimal n) ≡ Some n

decimal_back : (most n : ℕ) → n ≤ most → most ≤ 4294967295 → IsBack most n
decimal_back most n within small =
    let is = decimal_is_IsNumeral n (omega (arith, within, small)) in
    record { plain = digits_plain 10 (decimal n) (omega arith) is.0; read = number_read 10 most n (decimal n) is.0 is.1 within }

-- permissions that are written are read
permissions_plain : (n : ℕ) → n < 4096 → IsPlain (permissions_word n)
permissions_plain n small =
    digits_plain 8 (digits 8 false n) (omega arith) (digits_is_IsNumeral 8 false (omega arith) (omega arith) n (omega (arith, small))).0

permissions_read : (n : ℕ) → n < 4096 → permissions_in (permissions_word n) ≡ Some n
permissions_read n small =
    let is = digits_is_IsNumeral 8 false (omega arith) (omega arith) n (omega (arith, small)) in
    number_read 8 4095 n (digits 8 false n) is.0 is.1 (omega (arith, small))

-- an owner that is written is read
owner_plain : (owner : ListedOwner) → owner.uid < 65536 → owner.gid < 65536 → IsPlain (owner_word owner)
owner_plain owner uid gid =
    let user = (decimal_back 65535 owner.uid (omega (arith, uid)) (omega arith)).plain in
    let group = (decimal_back 65535 owner.gid (omega (arith, gid)) (omega arith)).plain in
    record {
      some = omega (arith, length-append (decimal owner.uid) (58 ∷ decimal owner.gid), user.some);
      spaces = joined 32 refl user.spaces group.spaces;
      newlines = joined 10 refl user.newlines group.newlines;
    }
  where
    joined : (byte : ℕ) → (58 == byte) ≡ false → Lacks byte (decimal owner.uid) → Lacks byte (decimal owner.gid)
        → Lacks byte (owner_word owner)
    joined byte colon user group =
        All-append (λ b. (b == byte) ≡ false) (decimal owner.uid) (58 ∷ decimal owner.gid) user (All-cons (λ b. (b == byte) ≡ false) 58 (decimal owner.gid) colon group)

decimal_lacks_colon : (n : ℕ) → n < 65536 → Lacks 58 (decimal n)
decimal_lacks_colon n small = digits_lack 10 58 (decimal n) (omega arith) (decimal_is_IsNumeral n (omega (arith, small))).0.1

-- the parts of an owner's word
owner_parts : (owner : ListedOwner) → owner.uid < 65536 → owner.gid < 65536
    → slice_split (λ b. b == 58) (owner_word owner) ≡ decimal owner.uid ∷ decimal owner.gid ∷ []
owner_parts owner uid gid =
    slice_split_at (λ b. b == 58) (decimal owner.uid) 58 (decimal owner.gid) (decimal_lacks_colon owner.uid uid) refl
    ∙ ap (λ (parts : List (List ℕ)). decimal owner.uid ∷ parts) (slice_split_none (λ b. b == 58) (decimal owner.gid) (decimal_lacks_colon owner.gid gid))

-- two parts that are numbers are an owner
owner_from : (uid gid : ℕ) (user group : List ℕ) → short_in user ≡ Some uid → short_in group ≡ Some gid
    → owner_of (user ∷ group ∷ []) ≡ Some (record { uid = uid; gid = gid })
owner_from uid gid user group u g = rw (u, g) refl

owner_read : (owner : ListedOwner) → owner.uid < 65536 → owner.gid < 65536 → owner_in (owner_word owner) ≡ Some owner
owner_read owner uid gid =
    ap owner_of (owner_parts owner uid gid)
    ∙ owner_from owner.uid owner.gid (decimal owner.uid) (decimal owner.gid) (decimal_back 65535 owner.uid (omega (arith, uid)) (omega arith)).read
    (decimal_back 65535 owner.gid (omega (arith, gid)) (omega arith)).read

-- a word and more words, with a space before each, are split into these words
split_words : (word : List ℕ) (words : List (List ℕ)) → IsPlain word → AllByRecursion IsPlain words
    → slice_split (λ b. b == 32) (word ++ spaced words) ≡ word ∷ words
split_words word [] plain all = ap (slice_split (λ b. b == 32)) (append-nil word) ∙ slice_split_none (λ b. b == 32) word plain.spaces
split_words word (next ∷ words) plain all =
    slice_split_at (λ b. b == 32) word 32 (next ++ spaced words) plain.spaces refl
    ∙ ap (λ (rest : List (List ℕ)). word ∷ rest) (split_words next words all.0 all.1)

-- none of some words is left out
all_words : (words : List (List ℕ)) → AllByRecursion IsPlain words → words_of words ≡ words
all_words [] all = refl
all_words (word ∷ words) all = rw (not_zero (length word) all.0.some) (ap (λ (rest : List (List ℕ)). word ∷ rest) (all_words words all.1))

-- the words of a line are read
words_read : (name : List ℕ) (words : List (List ℕ)) → IsPlain name → AllByRecursion IsPlain words
    → words_in (name ++ spaced words) ≡ name ∷ words
words_read name words plain all = ap words_of (split_words name words plain all) ∙ all_words (name ∷ words) (plain, all)

-- words with a space before each lack newlines
spaced_lacks : (words : List (List ℕ)) → AllByRecursion IsPlain words → Lacks 10 (spaced words)
spaced_lacks [] all = All-nil (λ b. (b == 10) ≡ false)
spaced_lacks (word ∷ words) all =
    All-cons (λ b. (b == 10) ≡ false) 32 (word ++ spaced words) refl
    (All-append (λ b. (b == 10) ≡ false) word (spaced words) all.0.newlines (spaced_lacks words all.1))

-- the first line of a text is split from the rest
line_split : (name : List ℕ) (words : List (List ℕ)) (rest : List ℕ) → IsPlain name → AllByRecursion IsPlain words
    → lines_of (line_text name words ++ rest) ≡ (name ++ spaced words) ∷ lines_of rest
unfolding line_text
line_split name words rest plain all =
    let line = name ++ spaced words in
    ap (lines_of) (append_assoc line (10 ∷ []) rest)
    ∙ slice_split_at (λ b. b == 10) line 10 rest
    (All-append (λ b. (b == 10) ≡ false) name (spaced words) plain.newlines (spaced_lacks words all)) refl

-- a line whose words are read is read
line_from : (draft next : Drafted) (line name : List ℕ) (words : List (List ℕ)) → words_in line ≡ name ∷ words → is_comment name ≡ false
    → with_named draft.0 draft name words ≡ Ok next → with_line draft line ≡ Ok next
unfolding with_line
line_from draft next line name words is plain read = rw (is, plain) read

-- the first line of a text is read, and the rest next
line_goes : (number : ℕ) (draft next : Drafted) (name : List ℕ) (words : List (List ℕ)) (rest : List ℕ) → IsPlain name → AllByRecursion IsPlain words
    → is_comment name ≡ false → with_named draft.0 draft name words ≡ Ok next
    → with_lines number draft (lines_of (line_text name words ++ rest)) ≡ with_lines (number + 1) next (lines_of rest)
line_goes number draft next name words rest plain all word read =
    line_read number draft next (name ++ spaced words) _ (lines_of rest) (line_split name words rest plain all)
    (line_from draft next _ name words (words_read name words plain all) word read)

-- the sizes of a volume are read from their words
sizes_from : (edition : Edition) (blocks list_blocks : ℕ) (first second third : List ℕ) → edition_in first ≡ Some edition → long_in second ≡ Some blocks
    → short_in third ≡ Some list_blocks
    → sizes_in (first ∷ second ∷ third ∷ []) ≡ Ok (record { edition = edition; blocks = blocks; list_blocks = list_blocks })
sizes_from edition blocks list_blocks first second third e b l = rw (e, b, l) refl

edition_read : (edition : Edition) → edition_in (edition_word edition) ≡ Some edition
edition_read editions.V6 = refl
edition_read editions.V7 = refl

edition_plain : (edition : Edition) → IsPlain (edition_word edition)
edition_plain editions.V6 = plain_word (codes "6") refl
edition_plain editions.V7 = plain_word (codes "7") refl

-- a time, a file and marks are read from their words
time_from : (time : ℕ) (word : List ℕ) → long_in word ≡ Some time → time_in (word ∷ []) ≡ Ok time
time_from time word is = rw is refl

boot_from : (file : List ℕ) → is_utf8 file ≡ true → boot_in (file ∷ []) ≡ Ok file
boot_from file is = rw is refl

root_from : (permissions : ℕ) (owner : ListedOwner) (first second : List ℕ) → permissions_in first ≡ Some permissions → owner_in second ≡ Some owner
    → root_in (first ∷ second ∷ []) ≡ Ok (root_of permissions owner)
root_from permissions owner first second p o = rw (p, o) refl

-- a member is read from its words
directory_from : (time permissions modified : ℕ) (owner : ListedOwner) (path bits whose when : List ℕ) → is_path path ≡ true
    → permissions_in bits ≡ Some permissions → owner_in whose ≡ Some owner → long_in when ≡ Some modified
    → directory_in time (path ∷ bits ∷ whose ∷ when ∷ []) ≡ Ok (members.Directory path (marks_of permissions owner modified))
directory_from time permissions modified owner path bits whose when is p o m = rw (is, p, o, m) refl

file_from : (time permissions modified : ℕ) (owner : ListedOwner) (path bits whose file when : List ℕ) → is_path path ≡ true
    → permissions_in bits ≡ Some permissions → owner_in whose ≡ Some owner → is_utf8 file ≡ true → long_in when ≡ Some modified
    → file_member_in time (path ∷ bits ∷ whose ∷ file ∷ when ∷ []) ≡ Ok (members.File path (marks_of permissions owner modified) file)
file_from time permissions modified owner path bits whose file when is p o f m = rw (is, p, o, f, m) refl

device_from : (kind : DeviceKind) (time permissions modified major minor : ℕ) (owner : ListedOwner) (path bits whose high low when : List ℕ) → is_path path ≡ true
    → permissions_in bits ≡ Some permissions → owner_in whose ≡ Some owner → byte_in high ≡ Some major → byte_in low ≡ Some minor → long_in when ≡ Some modified
    → device_in kind time (path ∷ bits ∷ whose ∷ high ∷ low ∷ when ∷ [])
    ≡ Ok (members.Device path (marks_of permissions owner modified) (record { kind = kind; major = major; minor = minor }))
device_from kind time permissions modified major minor owner path bits whose high low when is p o h l m = rw (is, p, o, h, l, m) refl

link_from : (time : ℕ) (path target : List ℕ) → is_path path ≡ true → is_path target ≡ true → link_in time (path ∷ target ∷ []) ≡ Ok (members.Link path target time)
link_from time path target p t = rw (p, t) refl

-- the words of a member are words, and are read as this member
record IsMemberBack (time : ℕ) (member : ListedMember) : Type 0 where
  pub plain : AllByRecursion IsPlain (member_words member)
  pub read : member_in (line_of member) time (member_words member) ≡ Ok member

-- the words of marks are words, and are read as these
record AreBack (permissions : ℕ) (owner : ListedOwner) : Type 0 where
  pub bits : IsPlain (permissions_word permissions)
  pub whose : IsPlain (owner_word owner)
  pub bits_read : permissions_in (permissions_word permissions) ≡ Some permissions
  pub whose_read : owner_in (owner_word owner) ≡ Some owner

owned_back : (permissions : ℕ) (owner : ListedOwner) → AreOwned permissions owner → AreBack permissions owner
owned_back permissions owner are = record {
  bits = permissions_plain permissions are.permissions;
  whose = owner_plain owner are.uid are.gid;
  bits_read = permissions_read permissions are.permissions;
  whose_read = owner_read owner are.uid are.gid;
}

-- a special file of either kind is read
device_read : (kind : DeviceKind) (time major minor : ℕ) (path : List ℕ) (marks : NodeMarks) → IsPathWord path → AreBack marks.permissions marks.owner
    → IsBack 4294967295 marks.modified → IsBack 255 major → IsBack 255 minor
    → member_in (line_of (members.Device path marks (record { kind = kind; major = major; minor = minor }))) time
    (member_words (members.Device path marks (record { kind = kind; major = major; minor = minor })))
    ≡ Ok (members.Device path marks (record { kind = kind; major = major; minor = minor }))
device_read devices.Character time major minor path marks named are when high low =
    device_from devices.Character time marks.permissions marks.modified major minor marks.owner path _ _ _ _ _ named.path are.bits_read are.whose_read high.read
    low.read when.read
device_read devices.Block time major minor path marks named are when high low =
    device_from devices.Block time marks.permissions marks.modified major minor marks.owner path _ _ _ _ _ named.path are.bits_read are.whose_read high.read
    low.read when.read

-- each member is read from its words
member_back : (time : ℕ) (member : ListedMember) → IsWritable time member → IsMemberBack time member
member_back time (members.Directory path marks) (named, owned, modified) =
    let are = owned_back marks.permissions marks.owner owned in
    let when = decimal_back 4294967295 marks.modified (omega (arith, modified)) (omega arith) in
    record {
      plain = (plain_word path named.word, (are.bits, (are.whose, (when.plain, tt))));
      read = directory_from time marks.permissions marks.modified marks.owner path _ _ _ named.path are.bits_read are.whose_read when.read;
    }
member_back time (members.File path marks file) (named, owned, modified, content) =
    let are = owned_back marks.permissions marks.owner owned in
    let when = decimal_back 4294967295 marks.modified (omega (arith, modified)) (omega arith) in
    record {
      plain = (plain_word path named.word, (are.bits, (are.whose, (plain_word file content.word, (when.plain, tt)))));
      read =
          file_from time marks.permissions marks.modified marks.owner path _ _ file _ named.path are.bits_read are.whose_read content.utf8 when.read;
    }
member_back time (members.Device path marks device) (named, owned, modified, major, minor) =
    let are = owned_back marks.permissions marks.owner owned in
    let when = decimal_back 4294967295 marks.modified (omega (arith, modified)) (omega arith) in
    let high = decimal_back 255 device.major (omega (arith, major)) (omega arith) in
    let low = decimal_back 255 device.minor (omega (arith, minor)) (omega arith) in
    record {
      plain = (plain_word path named.word, (are.bits, (are.whose, (high.plain, (low.plain, (when.plain, tt))))));
      read = device_read device.kind time device.major device.minor path marks named are when high low;
    }
member_back time (members.Link path target modified) (named, linked, is) = record {
  plain = (plain_word path named.word, (plain_word target linked.word, tt));
  read = link_from time path target named.path linked.path ∙ ap (λ (when : ℕ). Ok (members.Link path target when)) (sym is);
}

-- the first word of a member's line is a word, and begins no comment
kind_plain : (kind : MemberKind) → IsPlain (kind_word kind)
kind_plain kinds.Directory = plain_word (codes "dir") refl
kind_plain kinds.File = plain_word (codes "file") refl
kind_plain kinds.Link = plain_word (codes "link") refl
kind_plain kinds.Character = plain_word (codes "char") refl
kind_plain kinds.Block = plain_word (codes "block") refl

kind_named_so : (kind : MemberKind) → is_comment (kind_word kind) ≡ false
kind_named_so kinds.Directory = refl
kind_named_so kinds.File = refl
kind_named_so kinds.Link = refl
kind_named_so kinds.Character = refl
kind_named_so kinds.Block = refl

-- a line that begins with the word of a kind is read as a member of this kind
kind_read : (kind : MemberKind) (volume : ListedVolume) (boot : Option (List ℕ)) (root : Option RootMarks) (done : List ListedMember) (member : ListedMember)
    (words : List (List ℕ)) → member_in kind volume.time words ≡ Ok member
    → with_named (stages.Begun volume) (stages.Begun volume, boot, root, done) (kind_word kind) words ≡ Ok (stages.Begun volume, boot, root, done ++ member ∷ [])
kind_read kinds.Directory volume boot root done member words read = rw read refl
kind_read kinds.File volume boot root done member words read = rw read refl
kind_read kinds.Link volume boot root done member words read = rw read refl
kind_read kinds.Character volume boot root done member words read = rw read refl
kind_read kinds.Block volume boot root done member words read = rw read refl

-- after the last newline there is one more line, which says nothing
end_read : (number : ℕ) (draft : Drafted) → with_lines number draft (lines_of []) ≡ Ok draft
unfolding with_lines with_line
end_read number draft = refl

-- the lines of members are read
members_read : (number : ℕ) (volume : ListedVolume) (boot : Option (List ℕ)) (root : Option RootMarks) (done all : List ListedMember)
    → AllByRecursion (IsWritable volume.time) all
    → with_lines number (stages.Begun volume, boot, root, done) (lines_of (flat_map member_text all))
    ≡ Ok (stages.Begun volume, boot, root, done ++ all)
members_read number volume boot root done [] are =
    end_read number (stages.Begun volume, boot, root, done)
    ∙ ap (λ (m : List ListedMember). Ok (stages.Begun volume, boot, root, m)) (sym (append-nil done))
members_read number volume boot root done (member ∷ all) are =
    let back = member_back volume.time member are.0 in
    line_goes number (stages.Begun volume, boot, root, done) (stages.Begun volume, boot, root, done ++ member ∷ []) (kind_word (line_of member))
    (member_words member) (flat_map member_text all) (kind_plain (line_of member)) back.plain (kind_named_so (line_of member))
    (kind_read (line_of member) volume boot root done member (member_words member) back.read)
    ∙ members_read (number + 1) volume boot root (done ++ member ∷ []) all are.1
    ∙ ap (λ (m : List ListedMember). Ok (stages.Begun volume, boot, root, m)) (append_assoc done (member ∷ []) all)

-- the line of the root, if there is one, and those of members are read
root_goes : (number : ℕ) (volume : ListedVolume) (boot : Option (List ℕ)) (root : Option RootMarks) (all : List ListedMember) → IsWritableRoot root
    → AllByRecursion (IsWritable volume.time) all
    → with_lines number (stages.Begun volume, boot, None, []) (lines_of (root_text root ++ flat_map member_text all))
    ≡ Ok (stages.Begun volume, boot, root, all)
root_goes number volume boot None all owned are = members_read number volume boot None [] all are
root_goes number volume boot (Some root) all owned are =
    let back = owned_back root.permissions root.owner owned in
    line_goes number (stages.Begun volume, boot, None, []) (stages.Begun volume, boot, Some root, []) (codes "root")
    (permissions_word root.permissions ∷ owner_word root.owner ∷ []) (flat_map member_text all) (plain_word (codes "root") refl) (back.bits, (back.whose, tt))
    refl
    (root_named volume boot root (permissions_word root.permissions ∷ owner_word root.owner ∷ [])
    (root_from root.permissions root.owner (permissions_word root.permissions) (owner_word root.owner) back.bits_read back.whose_read))
    ∙ members_read (number + 1) volume boot (Some root) [] all are
  where
    root_named : (v : ListedVolume) (b : Option (List ℕ)) (r : RootMarks) (words : List (List ℕ)) → root_in words ≡ Ok r
        → with_named (stages.Begun v) (stages.Begun v, b, None, []) (codes "root") words ≡ Ok (stages.Begun v, b, Some r, [])
    root_named v b r words read = rw read refl

-- the line of the boot block, if there is one, and those after it are read
boot_goes : (number : ℕ) (volume : ListedVolume) (boot : Option (List ℕ)) (root : Option RootMarks) (all : List ListedMember) → IsWritableBoot boot
    → IsWritableRoot root → AllByRecursion (IsWritable volume.time) all
    → with_lines number (stages.Begun volume, None, None, []) (lines_of (boot_text boot ++ (root_text root ++ flat_map member_text all)))
    ≡ Ok (stages.Begun volume, boot, root, all)
boot_goes number volume None root all is owned are = root_goes number volume None root all owned are
boot_goes number volume (Some file) root all is owned are =
    line_goes number (stages.Begun volume, None, None, []) (stages.Begun volume, Some file, None, []) (codes "boot") (file ∷ [])
    (root_text root ++ flat_map member_text all) (plain_word (codes "boot") refl) (plain_word file is.word, tt) refl (boot_named volume file (boot_from file is.utf8))
    ∙ root_goes (number + 1) volume (Some file) root all owned are
  where
    boot_named : (v : ListedVolume) (f : List ℕ) → boot_in (f ∷ []) ≡ Ok f
        → with_named (stages.Begun v) (stages.Begun v, None, None, []) (codes "boot") (f ∷ []) ≡ Ok (stages.Begun v, Some f, None, [])
    boot_named v f read = rw read refl

-- the line of the time and those after it are read
time_goes : (number : ℕ) (volume : ListedVolume) (boot : Option (List ℕ)) (root : Option RootMarks) (all : List ListedMember) → volume.time < 4294967296
    → IsWritableBoot boot → IsWritableRoot root → AllByRecursion (IsWritable volume.time) all
    → with_lines number (stages.Untimed volume.sizes, None, None, [])
    (lines_of (time_text volume.time ++ (boot_text boot ++ (root_text root ++ flat_map member_text all))))
    ≡ Ok (stages.Begun volume, boot, root, all)
time_goes number volume boot root all small is owned are =
    let back = decimal_back 4294967295 volume.time (omega (arith, small)) (omega arith) in
    line_goes number (stages.Untimed volume.sizes, None, None, []) (stages.Begun volume, None, None, []) (codes "time") (decimal volume.time ∷ [])
    (boot_text boot ++ (root_text root ++ flat_map member_text all)) (plain_word (codes "time") refl) (back.plain, tt) refl
    (time_named volume.sizes volume.time (decimal volume.time ∷ []) (time_from volume.time (decimal volume.time) back.read))
    ∙ boot_goes (number + 1) volume boot root all is owned are
  where
    time_named : (s : VolumeSizes) (t : ℕ) (words : List (List ℕ)) → time_in words ≡ Ok t
        → with_named (stages.Untimed s) (stages.Untimed s, None, None, []) (codes "time") words
        ≡ Ok (stages.Begun (record { sizes = s; time = t }), None, None, [])
    time_named s t words read = rw read refl

-- the line of the sizes and those after it are read
sizes_goes : (volume : ListedVolume) (boot : Option (List ℕ)) (root : Option RootMarks) (all : List ListedMember) → IsWritableVolume volume
    → IsWritableBoot boot → IsWritableRoot root → AllByRecursion (IsWritable volume.time) all
    → with_lines 1 blank
    (lines_of (sizes_text volume.sizes ++ (time_text volume.time ++ (boot_text boot ++ (root_text root ++ flat_map member_text all)))))
    ≡ Ok (stages.Begun volume, boot, root, all)
sizes_goes volume boot root all numbers is owned are =
    let blocks = decimal_back 4294967295 volume.sizes.blocks (omega (arith, numbers.blocks)) (omega arith) in
    let list_blocks = decimal_back 65535 volume.sizes.list_blocks (omega (arith, numbers.list_blocks)) (omega arith) in
    line_goes 1 blank (stages.Untimed volume.sizes, None, None, []) (codes "volume")
    (edition_word volume.sizes.edition ∷ decimal volume.sizes.blocks ∷ decimal volume.sizes.list_blocks ∷ [])
    (time_text volume.time ++ (boot_text boot ++ (root_text root ++ flat_map member_text all))) (plain_word (codes "volume") refl)
    (edition_plain volume.sizes.edition, (blocks.plain, (list_blocks.plain, tt))) refl
    (sizes_named volume.sizes (edition_word volume.sizes.edition ∷ decimal volume.sizes.blocks ∷ decimal volume.sizes.list_blocks ∷ [])
    (sizes_from volume.sizes.edition volume.sizes.blocks volume.sizes.list_blocks (edition_word volume.sizes.edition) (decimal volume.sizes.blocks)
    (decimal volume.sizes.list_blocks) (edition_read volume.sizes.edition) blocks.read list_blocks.read))
    ∙ time_goes 2 volume boot root all numbers.time is owned are
  where
    sizes_named : (s : VolumeSizes) (words : List (List ℕ)) → sizes_in words ≡ Ok s
        → with_named stages.Unsized blank (codes "volume") words ≡ Ok (stages.Untimed s, None, None, [])
    sizes_named s words read = rw read refl

-- the parts of a text, of which the first are appended first, are those of which the last are
parts_of : (a b c d e : List ℕ) → a ++ b ++ c ++ d ++ e ≡ a ++ (b ++ (c ++ (d ++ e)))
parts_of a b c d e = simp append_assoc

-- a list is read from its text as it was written
pub read_as_written : ListsReadAsWritten
unfolding list_text
read_as_written (volume, boot, root, all) (numbers, is, owned, are) =
    ap (λ (text : List ℕ). list_in text) (parts_of (sizes_text volume.sizes) (time_text volume.time) (boot_text boot) (root_text root) (flat_map member_text all))
    ∙ ended (sizes_goes volume boot root all numbers is owned are)
  where
    ended : with_lines 1 blank
        (lines_of (sizes_text volume.sizes ++ (time_text volume.time ++ (boot_text boot ++ (root_text root ++ flat_map member_text all)))))
        ≡ Ok (stages.Begun volume, boot, root, all)
        → list_in (sizes_text volume.sizes ++ (time_text volume.time ++ (boot_text boot ++ (root_text root ++ flat_map member_text all))))
        ≡ Ok (volume, boot, root, all)
    ended read = rw read refl
