-- The pieces in which lists and objects of JSON are written.
use Rattle.std.proofs.Common.{◌≡◌, ◌∙◌, ap, sym, refl, ℕ, ◌+◌, ◌-◌, ◌≤◌, Bool, true, false, if◌then◌else◌, List, [], ◌∷◌, ◌++◌, codes, map, take, drop, length, length-append, append_assoc, subst, arith}
use Rattle.std.specs.Prelude.{decimal, slice_range, String, Result, Ok, Err, IfOk}
use Rattle.std.specs.String.{string_bytes}
use Rattle.std.specs.declared.alloc.Global.{Global}
use Rattle.std.specs.List.{flat_map}
use Rattle.std.proofs.lemmas.Fmt.{decimal_digit}
use Rattle.std.proofs.lemmas.Grind.{flat_map-append}
use Rattle.std.proofs.lemmas.List.{take-append-drop, take_at}
use Rattle.std.proofs.Math.Seq.{take-add}
use Rattle.serde_json.specs.Data.{Data, Items, Members, array, boolean, object, string, member, no_members}
use Rattle.serde_json.specs.View.{items_of}
use Rattle.serde_json.specs.Written.{comma_if, compact_text, has_float, items_text, members_text}
use Rattle.serde_json.proofs.OnLiterals.{serde_json_on_literals}
use Rattle.vol_layout.specs.Inode.{address_count}
use Rattle.vol_inspect.specs.declared.inode_report.InodeReport.{InodeReport}
use Rattle.vol_reports.specs.Reports.{has_faults}
use Rattle.vol_reports.specs.declared.line.Line.{Line}
use Rattle.command_reads.specs.CheckersJson.{checker_json, line_data, report_front}
use Rattle.command_reads.specs.Inode.{inode_back, inode_data, inode_front, inode_json, members_back, members_front}
use Rattle.command_reads.specs.MapJson.{run_data, runs_json}
use Rattle.command_reads.specs.declared.map_json.UseRun.{UseRun}
use Rattle.vol_listing.specs.Json.{count}
use Rattle.field_json.proofs.ItemTexts.{after_items, list_of}
use Rattle.command_reads.specs.Json.{between_braces, count_or_null, counts, extent_data, item_text, later_text, listed_text}

-- the items after the first, with the bracket after them
items_later : {X : Type 0} (shown : X → Data) (xs : List X) → items_text true (items_of (map shown xs)) ≡ flat_map (later_text shown) xs ++ 93 ∷ []
unfolding item_text
items_later shown [] = refl
items_later shown (x ∷ xs) =
    ap (λ rest. 44 ∷ (compact_text (shown x) ++ rest)) (items_later shown xs)
    ∙ ap (λ rest. 44 ∷ rest) (sym (append_assoc (compact_text (shown x)) (flat_map (later_text shown) xs) (93 ∷ [])))

-- the items of a list, with the bracket after them
items_listed : {X : Type 0} (shown : X → Data) (xs : List X) → items_text false (items_of (map shown xs)) ≡ listed_text shown xs ++ 93 ∷ []
unfolding item_text
items_listed shown [] = refl
items_listed shown (x ∷ xs) =
    ap (λ rest. compact_text (shown x) ++ rest) (items_later shown xs)
    ∙ sym (append_assoc (compact_text (shown x)) (flat_map (later_text shown) xs) (93 ∷ []))

-- the text of the first items and of a few more is that of all these
pub few_more : {X : Type 0} (f : X → List ℕ) (xs : List X) (from few : ℕ)
    → flat_map f (take from xs) ++ flat_map f (slice_range xs from (from + few)) ≡ flat_map f (take (from + few) xs)
few_more f xs from few =
    let count : from + few - from ≡ few = omega arith in
    sym (flat_map-append f (take from xs) (slice_range xs from (from + few)))
    ∙ ap (flat_map f) (ap (λ k. take from xs ++ take k (drop from xs)) count ∙ sym (take-add from few xs))

-- the text of the first items, of a few more, and of those after them is that of all items
pub few_around : {X : Type 0} (f : X → List ℕ) (xs : List X) (from few : ℕ)
    → flat_map f xs ≡ flat_map f (take from xs) ++ (flat_map f (slice_range xs from (from + few)) ++ flat_map f (drop (from + few) xs))
few_around f xs from few =
    ap (flat_map f) (sym (take-append-drop (from + few) xs))
    ∙ (flat_map-append f (take (from + few) xs) (drop (from + few) xs)
    ∙ (ap (λ front. front ++ flat_map f (drop (from + few) xs)) (sym (few_more f xs from few))
    ∙ append_assoc (flat_map f (take from xs)) (flat_map f (slice_range xs from (from + few))) (flat_map f (drop (from + few) xs))))

-- the text of a report, from that of its format and of its lines on
abbrev report_of : Bool → List ℕ → List ℕ → List ℕ
report_of faulty format lines =
    123 ∷ (compact_text (string (codes "faulty")) ++ 58 ∷ (compact_text (boolean faulty)
    ++ (44 ∷ (compact_text (string (codes "format")) ++ 58 ∷ (format
    ++ (44 ∷ (compact_text (string (codes "lines")) ++ 58 ∷ (91 ∷ (lines ++ 125 ∷ [])))))))))

-- a report is written in three pieces
in_three : (faulty : Bool) (items : List ℕ)
    → (if faulty then codes "{\"faulty\":true,\"format\":1,\"lines\":[" else codes "{\"faulty\":false,\"format\":1,\"lines\":[") ++ (items ++ codes "]}\n")
    ≡ report_of faulty (codes "1") (items ++ 93 ∷ []) ++ codes "\n"
unfolding serde_json_on_literals
in_three true items = ap (λ rest. codes "{\"faulty\":true,\"format\":1,\"lines\":[" ++ rest) (after_items items)
in_three false items = ap (λ rest. codes "{\"faulty\":false,\"format\":1,\"lines\":[" ++ rest) (after_items items)

-- the pieces of a checker's report are its text
pub report_pieces : (report : List Line) → report_front report ++ (listed_text line_data report ++ codes "]}\n") ≡ checker_json report
report_pieces report =
    let faulty = has_faults report in
    let lines = listed_text line_data report in
    in_three faulty lines
    ∙ (ap (λ format. report_of faulty format (lines ++ 93 ∷ []) ++ codes "\n") (sym (decimal_digit 1 (omega arith)))
    ∙ ap (λ items. report_of faulty (decimal 1) items ++ codes "\n") (sym (items_listed line_data report)))

-- an object with a list is written in two pieces
map_in_two : (items : List ℕ) → codes "{\"format\":1,\"map\":[" ++ (items ++ codes "]}\n") ≡ list_of (codes "map") (codes "1") (items ++ 93 ∷ []) ++ codes "\n"
unfolding serde_json_on_literals
map_in_two items = ap (λ rest. codes "{\"format\":1,\"map\":[" ++ rest) (after_items items)

slots_in_two : (items : List ℕ)
    → codes "{\"format\":1,\"slots\":[" ++ (items ++ codes "]}\n") ≡ list_of (codes "slots") (codes "1") (items ++ 93 ∷ []) ++ codes "\n"
unfolding serde_json_on_literals
slots_in_two items = ap (λ rest. codes "{\"format\":1,\"slots\":[" ++ rest) (after_items items)

-- the pieces in which runs of blocks are written are their text
pub runs_pieces : (found : List UseRun) → codes "{\"format\":1,\"map\":[" ++ (listed_text run_data found ++ codes "]}\n") ≡ runs_json found
runs_pieces found =
    let items = listed_text run_data found in
    map_in_two items
    ∙ (ap (λ format. list_of (codes "map") format (items ++ 93 ∷ []) ++ codes "\n") (sym (decimal_digit 1 (omega arith)))
    ∙ ap (λ items. list_of (codes "map") (decimal 1) items ++ codes "\n") (sym (items_listed run_data found)))

-- the pieces in which the slots of a directory are written are an object with all of them
pub slots_pieces : (items : List ℕ) (all : Items) → items_text false all ≡ items ++ 93 ∷ []
    → codes "{\"format\":1,\"slots\":[" ++ (items ++ codes "]}\n")
    ≡ compact_text (object (member (codes "format") (count 1) (member (codes "slots") (array all) no_members))) ++ codes "\n"
slots_pieces items all is =
    slots_in_two items
    ∙ (ap (λ format. list_of (codes "slots") format (items ++ 93 ∷ []) ++ codes "\n") (sym (decimal_digit 1 (omega arith)))
    ∙ ap (λ items. list_of (codes "slots") (decimal 1) items ++ codes "\n") (sym is))

-- the text of a member and of the others, with more text after them
after_member : (comma key value rest more : List ℕ)
    → comma ++ (key ++ 58 ∷ (value ++ (rest ++ more))) ≡ (comma ++ (key ++ 58 ∷ (value ++ rest))) ++ more
after_member comma key value rest more =
    ap (λ r. comma ++ (key ++ 58 ∷ r)) (sym (append_assoc value rest more))
    ∙ (ap (λ r. comma ++ r) (sym (append_assoc key (58 ∷ (value ++ rest)) more))
    ∙ sym (append_assoc comma (key ++ 58 ∷ (value ++ rest)) more))

-- the text of an object's members, with its brace after them
pub closed : (later : Bool) (ms : Members) → members_text later ms ≡ between_braces later ms ++ 125 ∷ []
closed later no_members = refl
closed later (member k d ms) =
    let key = compact_text (string k) in
    let value = compact_text d in
    ap (λ rest. comma_if later ++ (key ++ 58 ∷ (value ++ rest))) (closed true ms)
    ∙ after_member (comma_if later) key value (between_braces true ms) (125 ∷ [])

-- some members, followed by others
join : Members → Members → Members
join no_members more = more
join (member k d ms) more = member k d (join ms more)

-- the text of some members followed by others
joined : (ms more : Members) → members_text true (join ms more) ≡ between_braces true ms ++ members_text true more
unfolding join
joined no_members more = refl
joined (member k d ms) more =
    let key = compact_text (string k) in
    let value = compact_text d in
    ap (λ rest. 44 ∷ (key ++ 58 ∷ (value ++ rest))) (joined ms more)
    ∙ after_member (44 ∷ []) key value (between_braces true ms) (members_text true more)

joined_first : (k : List ℕ) (d : Data) (ms more : Members)
    → members_text false (join (member k d ms) more) ≡ between_braces false (member k d ms) ++ members_text true more
unfolding join
joined_first k d ms more =
    let key = compact_text (string k) in
    let value = compact_text d in
    ap (λ rest. key ++ 58 ∷ (value ++ rest)) (joined ms more)
    ∙ after_member [] key value (between_braces true ms) (members_text true more)

-- the last piece of an i-node's report is the rest of its text
after_extents : (items back : List ℕ)
    → items ++ (codes "]," ++ (back ++ codes "}\n")) ≡ ((items ++ 93 ∷ []) ++ (44 ∷ (back ++ 125 ∷ []))) ++ codes "\n"
after_extents items back =
    sym (append_assoc (items ++ 93 ∷ []) (44 ∷ (back ++ 125 ∷ [])) (codes "\n")
    ∙ (ap (λ rest. (items ++ 93 ∷ []) ++ 44 ∷ rest) (append_assoc back (125 ∷ []) (codes "\n"))
    ∙ append_assoc items (93 ∷ []) (44 ∷ (back ++ codes "}\n"))))

-- the text of an i-node's report after its first members
abbrev from_extents : List ℕ → List ℕ → List ℕ
from_extents items back = 44 ∷ (compact_text (string (codes "extents")) ++ 58 ∷ (91 ∷ (items ++ (44 ∷ back))))

-- an i-node's report is written in three pieces
around_extents : (front items back : List ℕ)
    → (123 ∷ (front ++ codes ",\"extents\":[")) ++ (items ++ (codes "]," ++ (back ++ codes "}\n")))
    ≡ (123 ∷ (front ++ from_extents (items ++ 93 ∷ []) (back ++ 125 ∷ []))) ++ codes "\n"
unfolding serde_json_on_literals
around_extents front items back =
    ap (λ rest. 123 ∷ rest) (append_assoc front (codes ",\"extents\":[") (items ++ (codes "]," ++ (back ++ codes "}\n")))
    ∙ (ap (λ rest. front ++ (codes ",\"extents\":[" ++ rest)) (after_extents items back)
    ∙ sym (append_assoc front (from_extents (items ++ 93 ∷ []) (back ++ 125 ∷ [])) (codes "\n"))))

-- the text of an i-node's members, from those before the extents on
joined_front : (report : InodeReport)
    → members_text false (join (members_front report) (member (codes "extents") (array (items_of (map extent_data report.extents.items))) (members_back report)))
    ≡ between_braces false (members_front report)
    ++ members_text true (member (codes "extents") (array (items_of (map extent_data report.extents.items))) (members_back report))
unfolding members_front join
joined_front report =
    joined_first (codes "addr") (counts (take (address_count report.edition) report.node.addresses))
    (member (codes "atime") (count report.node.accessed) (member (codes "ctime") (count_or_null report.node.changed) no_members))
    (member (codes "extents") (array (items_of (map extent_data report.extents.items))) (members_back report))

-- the pieces of an i-node's report are its text
pub inode_pieces : (report : InodeReport)
    → inode_front report ++ (listed_text extent_data report.extents.items ++ inode_back report) ≡ inode_json report
unfolding inode_front inode_back inode_data members_front members_back join
inode_pieces report =
    let front = between_braces false (members_front report) in
    let back = between_braces false (members_back report) in
    let extents = report.extents.items in
    around_extents front (listed_text extent_data extents) back
    ∙ (ap (λ items. (123 ∷ (front ++ from_extents items (back ++ 125 ∷ []))) ++ codes "\n") (sym (items_listed extent_data extents))
    ∙ (ap (λ rest. (123 ∷ (front ++ from_extents (items_text false (items_of (map extent_data extents))) rest)) ++ codes "\n")
    (sym (closed false (members_back report)))
    ∙ ap (λ members. (123 ∷ members) ++ codes "\n") (sym (joined_front report))))

-- the text of a value without floats, given its data
pub text_of : {E : Type 0} (value d : Data) (text : Result (String Global) E) → value ≡ d → has_float d ≡ false
    → IfOk text (λ t. has_float value ≡ false → string_bytes t ≡ compact_text value) → IfOk text (λ t. string_bytes t ≡ compact_text d)
text_of value d (Ok t) is whole writes = writes (ap has_float is ∙ whole) ∙ ap compact_text is
text_of value d (Err e) is whole writes = tt

-- the text of an object without its last brace
pub popped : (ms : Members) (text : List ℕ) (n : ℕ) → text ≡ compact_text (object ms) → n ≡ length text - 1 → take n text ≡ 123 ∷ between_braces false ms
popped ms text n is count =
    let front = 123 ∷ between_braces false ms in
    let whole : text ≡ front ++ 125 ∷ [] = is ∙ ap (λ rest. 123 ∷ rest) (closed false ms) in
    let len : length text ≡ length front + 1 = ap length whole ∙ length-append front (125 ∷ []) in
    ap (take n) whole ∙ take_at front (125 ∷ []) n (omega (arith, count, len))

-- the text of an object has a first brace
pub has_first : (ms : Members) (text : List ℕ) → text ≡ compact_text (object ms) → 1 ≤ length text
has_first ms text is = subst (λ (t : List ℕ). 1 ≤ length t) (sym is) (omega arith)

-- the text of an object without its first brace
pub after_brace : (ms : Members) (text : List ℕ) → text ≡ compact_text (object ms) → drop 1 text ≡ between_braces false ms ++ 125 ∷ []
after_brace ms text is = ap (drop 1) is ∙ closed false ms

-- the text after a list is put together from three pieces
pub after_pieces : (back first second third members : List ℕ) → third ≡ second ++ 10 ∷ [] → second ≡ first ++ members → first ≡ codes "],"
    → members ≡ back ++ 125 ∷ [] → third ≡ codes "]," ++ (back ++ codes "}\n")
after_pieces back first second third members last middle front is =
    last
    ∙ (ap (λ text. text ++ 10 ∷ []) (middle ∙ (ap (λ text. text ++ members) front ∙ ap (λ text. codes "]," ++ text) is))
    ∙ (append_assoc (codes "],") (back ++ 125 ∷ []) (10 ∷ [])
    ∙ ap (λ text. codes "]," ++ text) (append_assoc back (125 ∷ []) (10 ∷ []))))
