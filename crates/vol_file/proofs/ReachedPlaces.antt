-- One more position in the block map on a path gets a block, after the positions above it.
use Rattle.std.proofs.Common.{◌≡◌, ◌≢◌, ℕ, ◌+◌, ◌*◌, ◌<◌, ◌≤◌, ◌∙◌, sym, ap, subst, List, [], ◌∷◌, ◌++◌, length, map, filter, reverse, refl, arith, rules, true, false, true≢false, Bool, None, Some, inl, inr}
use Rattle.std.specs.Prelude.{◌&&◌, ◌||◌, not}
use Rattle.std.specs.Str.{bytes_eq}
use Rattle.std.proofs.lemmas.Bool.{or_cases, false_from_ne_true}
use Rattle.std.proofs.lemmas.List.{append_assoc, map-append, reverse-append}
use Rattle.std.proofs.lemmas.List.Elements.{filter-append}
use Rattle.std.proofs.Math.Bool.{or-false, or_assoc}
use Rattle.pdp_words.specs.Words.{SameOutside}
use Rattle.vol_layout.specs.Edition.{constants, number}
use Rattle.vol_layout.specs.Geometry.{in_zone, Fits}
use Rattle.vol_layout.specs.Inode.{inode_place, address_at, address_bytes, address_place}
use Rattle.vol_layout.specs.BlockMaps.{first_count, pointer_count, fronts, places}
use Rattle.vol_layout.specs.Laws.{IsFront}
use Rattle.vol_layout.specs.BlockPointers.{mode_of, form_at, IsPlaceOf, named, pointer_in}
use Rattle.vol_layout.specs.declared.geometry.Geometry.{Geometry}
use Rattle.vol_layout.proofs.BodyLaws.{zone_bounds, zone_room}
use Rattle.vol_layout.proofs.CopyLaws.{number_room}
use Rattle.vol_layout.proofs.FrameLaws.{pointers_of, addresses_few}
use Rattle.vol_layout.proofs.NameLaws.{entry_in, zone_some}
use Rattle.vol_layout.proofs.InodeLaws.{mode_kept}
use Rattle.vol_free.specs.Stack.{Popped, Pops}
use Rattle.vol_file.specs.Laws.{IsAmong}
use Rattle.vol_file.specs.Shape.{is_named}
use Rattle.vol_file.specs.Rules.{Rules3To7With}
use Rattle.vol_file.specs.Steps.{lacking, Extends, Reaches, IsReadyToName, IsWanted, NamesNext, has_front, unnamed_of}
use Rattle.vol_file.proofs.Stores.{Stores}
use Rattle.vol_file.proofs.PlaceLists.{among_append, bytes_same, other_place, same_bytes, places_once}
use Rattle.vol_file.proofs.Alone.{elsewhere_self, elsewhere_then, keeps_then}
use Rattle.vol_file.proofs.Cells.{stores_address, stores_entry, entry_end}
use Rattle.vol_file.proofs.StoredNames.{place_same, file_same}
use Rattle.vol_file.proofs.TakenBlocks.{stays_inode, stays_named, first_unnamed, first_zoned, taken_sound, rest_within}
use Rattle.vol_file.proofs.Fronts.{front_longer}
use Rattle.vol_file.proofs.OneMoreBlock.{count_less, unnamed_false, named_true, extends_one}

-- if the search `has_front` finds position `p` in the block map, it is on the path to `q`
pub has_front_is : (q p : List ℕ) → has_front q p ≡ true → IsFront p q
has_front_is [] p e = absurd (true≢false (sym e))
has_front_is (j ∷ q) p e = elim (or_cases (bytes_eq p (j ∷ q)) (has_front q p) e) [
  | inl here ↦ inl (same_bytes p (j ∷ q) here)
  | inr above ↦ inr (has_front_is q p above)
]

-- the effect of one step: position `q` in the block map points to block `k`, which was allocated if `q` pointed to no block
pub record Steps (geometry : Geometry) (old new : List ℕ) (i : ℕ) (wanted : List ℕ → Bool) (q blocks : List ℕ) (k : ℕ) : Type 0 where
  pub rest : List ℕ
  pub extends : Extends geometry old new i wanted (λ p. bytes_eq p q) (unnamed_of (is_named geometry old i) (q ∷ [])) blocks rest
  pub is : named geometry new i q ≡ k
  pub some : k ≢ 0

-- the operands of `||` can be swapped
or_comm : (x y : Bool) → (x || y) ≡ (y || x)
or_comm true true = refl
or_comm true false = refl
or_comm false true = refl
or_comm false false = refl

-- `Extends` also holds for an equal set and an equal list of positions in the block map
pub extends_as : (geometry : Geometry) (old new : List ℕ) (i : ℕ) (wanted set same : List ℕ → Bool) (gained list : List (List ℕ)) (blocks rest : List ℕ)
    → ((p : List ℕ) → set p ≡ same p) → gained ≡ list → Extends geometry old new i wanted set gained blocks rest
    → Extends geometry old new i wanted same list blocks rest
extends_as geometry old new i wanted set same gained list blocks rest equal is e = record {
  alone = e.alone;
  sound = e.sound;
  covered = e.covered;
  taken = e.taken;
  free = e.free;
  count = e.count;
  mode = e.mode;
  size = e.size;
  names = λ p place. e.names p place ∙ ap (λ t. is_named geometry old i p || t) (equal p);
  bytes = e.bytes;
  kept = e.kept;
  some = λ p among. e.some p (subst (IsAmong p) (sym is) among);
  order = e.order ∙ ap (map (named geometry new i)) is;
  unused = e.unused;
}

-- two functions that agree on the items of a list map it to the same list
pub map_same : (f g : List ℕ → ℕ) (ps : List (List ℕ)) → ((p : List ℕ) → IsAmong p ps → f p ≡ g p) → map f ps ≡ map g ps
map_same f g [] same = refl
map_same f g (p ∷ ps) same =
    ap (λ k. k ∷ map f ps) (same p (inl refl)) ∙ ap (λ ks. g p ∷ ks) (map_same f g ps (λ q among. same q (inr among)))

-- if `Extends` holds for two successive changes, it holds for both together, with both sets of positions in the block map
pub extends_then : (geometry : Geometry) (old mid new : List ℕ) (i : ℕ) (wanted first second : List ℕ → Bool) (gained more : List (List ℕ))
    (blocks some rest : List ℕ) → IsReadyToName geometry old i wanted blocks
    → Extends geometry old mid i wanted first gained blocks some → Extends geometry mid new i wanted second more some rest
    → Extends geometry old new i wanted (λ p. first p || second p) (gained ++ more) blocks rest
extends_then geometry old mid new i wanted first second gained more blocks some rest ready e f = record {
  alone = elsewhere_then geometry old mid new i ready.sound.fits ready.file.first e.alone f.alone;
  sound = f.sound;
  covered = λ all. f.covered (e.covered all);
  taken = e.taken ++ f.taken;
  free = e.free ∙ (ap (λ xs. e.taken ++ xs) f.free ∙ sym (append_assoc e.taken f.taken rest));
  count = omega (arith, e.count, f.count);
  mode = f.mode ∙ e.mode;
  size = f.size ∙ e.size;
  names = λ p place. f.names p (place_same geometry old mid i p e.mode place)
      ∙ (ap (λ t. t || second p) (e.names p place) ∙ or_assoc (is_named geometry old i p) (first p) (second p));
  bytes = λ n. f.bytes n ∙ e.bytes n;
  kept = λ p place some.
      let same = e.kept p place some in
      f.kept p (place_same geometry old mid i p e.mode place) (λ zero. some (sym same ∙ zero)) ∙ same;
  some = λ p among. elim (among_append p gained more among) [
    | inl early ↦
        let has = e.some p early in
        record {
          place = place_same geometry mid new i p f.mode has.place;
          some = λ zero. has.some (sym (f.kept p has.place has.some) ∙ zero);
        }
    | inr late ↦ f.some p late
  ];
  order =
      ap (λ xs. xs ++ f.taken) (e.order ∙ map_same (named geometry mid i) (named geometry new i) gained
      (λ p among. let has = e.some p among in sym (f.kept p has.place has.some)))
      ∙ (ap (λ xs. map (named geometry new i) gained ++ xs) f.order ∙ sym (map-append (named geometry new i) gained more));
  unused = keeps_then old mid new some rest (λ k within. rest_within k f.taken rest some f.free within) e.unused f.unused;
}

-- `x || y` is `x` if `y` implies `x`
or_there : (x y : Bool) → (y ≡ true → x ≡ true) → x ≡ (x || y)
or_there true y h = refl
or_there false true h = h refl
or_there false false h = refl

-- `Extends` holds without a change if all positions in `set` point to blocks
pub extends_none : (geometry : Geometry) (image : List ℕ) (i : ℕ) (wanted set : List ℕ → Bool) (blocks : List ℕ) → Rules3To7With geometry image blocks
    → ((p : List ℕ) → set p ≡ true → is_named geometry image i p ≡ true) → Extends geometry image image i wanted set [] blocks blocks
extends_none geometry image i wanted set blocks sound all = record {
  alone = elsewhere_self geometry image i;
  sound = sound;
  covered = λ covered. covered;
  taken = [];
  free = refl;
  count = refl;
  mode = refl;
  size = refl;
  names = λ p place. or_there (is_named geometry image i p) (set p) (all p);
  bytes = λ n. refl;
  kept = λ p place some. refl;
  some = λ p among. absurd among;
  order = refl;
  unused = λ k r within low. refl;
}

-- after a change with `Extends`, the remaining free blocks are enough for the positions in `wanted` that still point to no block
pub ready_after : (geometry : Geometry) (old new : List ℕ) (i : ℕ) (wanted set : List ℕ → Bool) (gained : List (List ℕ)) (blocks rest : List ℕ)
    → IsReadyToName geometry old i wanted blocks → Extends geometry old new i wanted set gained blocks rest → IsReadyToName geometry new i wanted rest
ready_after geometry old new i wanted set gained blocks rest ready e = record {
  file = file_same geometry old new i e.mode ready.file;
  sound = e.sound;
  room = omega (arith, e.count, ready.room);
}

-- `x && true` is `x`
and_all : (x : Bool) → (x && true) ≡ x
and_all true = refl
and_all false = refl

-- a position in `wanted` that points to no block is counted as lacking
lacking_some : (geometry : Geometry) (image : List ℕ) (i : ℕ) (wanted : List ℕ → Bool) (q : List ℕ) → IsPlaceOf geometry image i q → wanted q ≡ true
    → named geometry image i q ≡ 0 → 1 ≤ lacking geometry image i wanted
unfolding lacking
lacking_some geometry image i wanted q place want none =
    let f : List ℕ → Bool = λ p. wanted p && not (is_named geometry image i p) in
    let here : f q ≡ true = rw (want, unnamed_false geometry image i q none) refl in
    let less = count_less f (λ p. f p && not (bytes_eq p q)) q (places (form_at geometry image i)) 1
    (places_once (form_at geometry image i) q place.place) here
    (rw (here, bytes_same q q refl) refl)
    (λ p among differ. ap (λ t. f p && not t) (other_place p q differ) ∙ and_all (f p)) in
    omega (arith, less)

-- if no block could be taken, none was free
pops_none : (geometry : Geometry) (old new blocks : List ℕ) → Pops geometry old new blocks None → blocks ≡ []
pops_none geometry old new [] pops = refl
pops_none geometry old new (b ∷ rest) pops = absurd (search (pops.0, rules))

-- block `b` is the first of the free blocks, and was taken
pub record IsFirst (geometry : Geometry) (old new blocks : List ℕ) (b : ℕ) : Type 0 where
  pub rest : List ℕ
  pub is : blocks ≡ b ∷ rest
  pub popped : Popped geometry old new b rest

-- two options with equal values have the same value
some_same : (b c : ℕ) → Some b ≡ Some c → b ≡ c
some_same b c e = cc

-- the block that is taken is the first free block
pub pops_some : (geometry : Geometry) (old new blocks : List ℕ) (b : ℕ) → Pops geometry old new blocks (Some b) → IsFirst geometry old new blocks b
pops_some geometry old new [] b pops = absurd (search (pops.0, rules))
pops_some geometry old new (c ∷ rest) b pops =
    let e : b ≡ c = some_same b c pops.0 in
    record { rest = rest; is = ap (λ x. x ∷ rest) (sym e); popped = subst (λ x. Popped geometry old new x rest) (sym e) pops.1 }

-- a position in the block map that points to a block is not listed among the positions that point to none
unnamed_none : (names : List ℕ → Bool) (q : List ℕ) → names q ≡ true → unnamed_of names (q ∷ []) ≡ []
unnamed_none names q e = rw e refl

-- a position in the block map that points to no block is listed among the positions that point to none
unnamed_one : (names : List ℕ → Bool) (q : List ℕ) → names q ≡ false → unnamed_of names (q ∷ []) ≡ q ∷ []
unnamed_one names q e = rw e refl

-- with one more position in front of a list, the positions in the block map that point to no block are those of the list, and then this one
pub unnamed_step : (names : List ℕ → Bool) (q : List ℕ) (qs : List (List ℕ)) → unnamed_of names (q ∷ qs) ≡ unnamed_of names qs ++ unnamed_of names (q ∷ [])
unnamed_step names q qs =
    ap (filter (λ p. not (names p))) (reverse-append (q ∷ []) qs) ∙ filter-append (λ p. not (names p)) (reverse qs) (q ∷ [])

-- `Steps` holds without a change for a position in the block map that points to a block
pub steps_named : (geometry : Geometry) (image : List ℕ) (i : ℕ) (wanted : List ℕ → Bool) (q blocks : List ℕ) (k : ℕ)
    → IsWanted geometry image i wanted q blocks → named geometry image i q ≡ k → k ≢ 0 → Steps geometry image image i wanted q blocks k
steps_named geometry image i wanted q blocks k want is some = record {
  rest = blocks;
  extends = extends_as geometry image image i wanted (λ p. bytes_eq p q) (λ p. bytes_eq p q) [] (unnamed_of (is_named geometry image i) (q ∷ [])) blocks blocks
      (λ p. refl) (sym (unnamed_none (is_named geometry image i) q (named_true geometry image i q (λ zero. some (sym is ∙ zero)))))
      (extends_none geometry image i wanted (λ p. bytes_eq p q) blocks want.ready.sound
      (λ p e. named_true geometry image i p (λ zero. some (sym is ∙ (ap (named geometry image i) (sym (same_bytes p q e)) ∙ zero)))));
  is = is;
  some = some;
}

-- taking a block for a position in `wanted` never fails, since enough blocks are free
pub steps_out : (geometry : Geometry) (image new : List ℕ) (i : ℕ) (wanted : List ℕ → Bool) (q blocks : List ℕ)
    → IsWanted geometry image i wanted q blocks → named geometry image i q ≡ 0 → Pops geometry image new blocks None → ⊥
steps_out geometry image new i wanted q blocks want none pops =
    let empty : length blocks ≡ 0 = ap length (pops_none geometry image new blocks pops) in
    omega (arith, empty, want.ready.room, lacking_some geometry image i wanted q want.place want.want none)

-- taking a block for a position in the block map that points to no block, and storing its number there, satisfies `Steps`
steps_taken : (geometry : Geometry) (old mid new : List ℕ) (i : ℕ) (wanted : List ℕ → Bool) (q blocks : List ℕ) (b : ℕ)
    → IsWanted geometry old i wanted q blocks → named geometry old i q ≡ 0 → Pops geometry old mid blocks (Some b)
    → ((rest : List ℕ) → Rules3To7With geometry mid rest → mode_of geometry mid i ≡ mode_of geometry old i
    → ((p : List ℕ) → IsPlaceOf geometry old i p → named geometry mid i p ≡ named geometry old i p) → Stores geometry mid new i q b rest)
    → Steps geometry old new i wanted q blocks b
steps_taken geometry old mid new i wanted q blocks b want none pops stores =
    let first = pops_some geometry old mid blocks b pops in
    let sound : Rules3To7With geometry old (b ∷ first.rest) = subst (Rules3To7With geometry old) first.is want.ready.sound in
    let zoned = first_zoned geometry old b first.rest sound in
    let kept = stays_inode geometry old mid b 512 i sound.fits first.popped.stays zoned want.place.file.first want.place.file.last in
    let put = stores first.rest (taken_sound geometry old mid b first.rest sound first.popped) (mode_kept geometry old mid i kept)
    (λ p place. stays_named geometry old mid b 512 i p sound.fits first.popped.stays (omega arith) zoned (first_unnamed geometry old b first.rest sound) place) in
    record {
      rest = first.rest;
      extends = subst (λ xs. Extends geometry old new i wanted (λ p. bytes_eq p q) (unnamed_of (is_named geometry old i) (q ∷ [])) xs first.rest) (sym first.is)
          (subst (λ qs. Extends geometry old new i wanted (λ p. bytes_eq p q) qs (b ∷ first.rest) first.rest)
          (sym (unnamed_one (is_named geometry old i) q (unnamed_false geometry old i q none)))
          (extends_one geometry old mid new i b q first.rest wanted sound want.place none want.want first.popped put));
      is = put.here;
      some = zone_some geometry old b sound.fits zoned;
    }

-- taking a block for an address that is 0, and storing its number there, satisfies `Steps`
pub steps_address : (geometry : Geometry) (old mid new : List ℕ) (i : ℕ) (wanted : List ℕ → Bool) (k : ℕ) (blocks : List ℕ) (b : ℕ)
    → IsWanted geometry old i wanted (k ∷ []) blocks → named geometry old i (k ∷ []) ≡ 0 → Pops geometry old mid blocks (Some b)
    → SameOutside mid new (address_place geometry.edition i k) (address_place geometry.edition i k + address_bytes geometry.edition)
    → address_at geometry.edition new (inode_place geometry.edition i) k ≡ b → Steps geometry old new i wanted (k ∷ []) blocks b
steps_address geometry old mid new i wanted k blocks b want none pops same put =
    steps_taken geometry old mid new i wanted (k ∷ []) blocks b want none pops
    (λ rest sound mode names. stores_address geometry mid new rest i k b sound (file_same geometry old mid i mode want.place.file)
    (let few = addresses_few geometry.edition (mode_of geometry old i) in let index : k < first_count (form_at geometry old i) = want.place.place in omega (arith, index, few))
    same put)

-- taking a block for an entry that is 0, and storing its number there, satisfies `Steps`
pub steps_entry : (geometry : Geometry) (old mid new : List ℕ) (i : ℕ) (wanted : List ℕ → Bool) (j a : ℕ) (p blocks : List ℕ) (m b : ℕ)
    → IsWanted geometry old i wanted (j ∷ (a ∷ p)) blocks → named geometry old i (j ∷ (a ∷ p)) ≡ 0 → Pops geometry old mid blocks (Some b)
    → named geometry old i (a ∷ p) ≡ m → in_zone geometry m ≡ true
    → SameOutside mid new (512 * m + (constants geometry.edition).number_bytes * j) (512 * m + (constants geometry.edition).number_bytes * (j + 1))
    → number geometry.edition new (512 * m) j ≡ b → Steps geometry old new i wanted (j ∷ (a ∷ p)) blocks b
steps_entry geometry old mid new i wanted j a p blocks m b want none pops is zone same put =
    steps_taken geometry old mid new i wanted (j ∷ (a ∷ p)) blocks b want none pops
    (λ rest sound mode names. stores_entry geometry mid new rest i m j a b p sound (place_same geometry old mid i (j ∷ (a ∷ p)) mode want.place)
    (names (a ∷ p) (record { file = want.place.file; place = want.place.place.2 }) ∙ is) zone same put)

-- after a step for an address, the path down to it points to blocks
pub reaches_first : (geometry : Geometry) (old new : List ℕ) (i : ℕ) (wanted : List ℕ → Bool) (k : ℕ) (blocks : List ℕ) (b : ℕ)
    → Steps geometry old new i wanted (k ∷ []) blocks b → Reaches geometry old new i wanted (k ∷ []) blocks b
reaches_first geometry old new i wanted k blocks b steps = record {
  rest = steps.rest;
  extends = extends_as geometry old new i wanted (λ p. bytes_eq p (k ∷ [])) (has_front (k ∷ []))
      (unnamed_of (is_named geometry old i) ((k ∷ []) ∷ [])) (unnamed_of (is_named geometry old i) (fronts (k ∷ []))) blocks steps.rest
      (λ p. sym (or-false (bytes_eq p (k ∷ [])))) refl steps.extends;
  is = steps.is;
  some = steps.some;
}

-- whether a single position in the block map is listed as pointing to no block depends only on the test of that position
unnamed_same : (names same : List ℕ → Bool) (q : List ℕ) → names q ≡ same q → unnamed_of names (q ∷ []) ≡ unnamed_of same (q ∷ [])
unnamed_same names same q e = rw e refl

-- a position in the block map below `p` is not on the path to `p`
front_below : (j : ℕ) (p : List ℕ) → has_front p (j ∷ p) ≡ false
front_below j p = false_from_ne_true (has_front p (j ∷ p)) (λ e. front_longer j p (has_front_is p (j ∷ p) e))

-- allocating the blocks on the path to an entry's block does not change whether the entry points to a block
next_same : (geometry : Geometry) (old mid : List ℕ) (i : ℕ) (wanted : List ℕ → Bool) (j a : ℕ) (p blocks : List ℕ) (m : ℕ)
    → NamesNext geometry old mid i wanted j a p blocks m → is_named geometry mid i (j ∷ (a ∷ p)) ≡ is_named geometry old i (j ∷ (a ∷ p))
next_same geometry old mid i wanted j a p blocks m next =
    next.reached.extends.names (j ∷ (a ∷ p)) next.want.place
    ∙ (ap (λ t. is_named geometry old i (j ∷ (a ∷ p)) || t) (front_below j (a ∷ p)) ∙ or-false (is_named geometry old i (j ∷ (a ∷ p))))

-- after a step for an entry, the path down to it points to blocks
pub reaches_next : (geometry : Geometry) (old mid new : List ℕ) (i : ℕ) (wanted : List ℕ → Bool) (j a : ℕ) (p blocks : List ℕ) (m b : ℕ)
    → (next : NamesNext geometry old mid i wanted j a p blocks m) → Steps geometry mid new i wanted (j ∷ (a ∷ p)) next.reached.rest b
    → Reaches geometry old new i wanted (j ∷ (a ∷ p)) blocks b
reaches_next geometry old mid new i wanted j a p blocks m b next steps = record {
  rest = steps.rest;
  extends = extends_as geometry old new i wanted (λ q. has_front (a ∷ p) q || bytes_eq q (j ∷ (a ∷ p))) (has_front (j ∷ (a ∷ p)))
      (unnamed_of (is_named geometry old i) (fronts (a ∷ p)) ++ unnamed_of (is_named geometry mid i) ((j ∷ (a ∷ p)) ∷ []))
      (unnamed_of (is_named geometry old i) (fronts (j ∷ (a ∷ p)))) blocks steps.rest
      (λ q. or_comm (has_front (a ∷ p) q) (bytes_eq q (j ∷ (a ∷ p))))
      (ap (λ qs. unnamed_of (is_named geometry old i) (fronts (a ∷ p)) ++ qs)
      (unnamed_same (is_named geometry mid i) (is_named geometry old i) (j ∷ (a ∷ p)) (next_same geometry old mid i wanted j a p blocks m next))
      ∙ sym (unnamed_step (is_named geometry old i) (j ∷ (a ∷ p)) (fronts (a ∷ p))))
      (extends_then geometry old mid new i wanted (has_front (a ∷ p)) (λ q. bytes_eq q (j ∷ (a ∷ p)))
      (unnamed_of (is_named geometry old i) (fronts (a ∷ p))) (unnamed_of (is_named geometry mid i) ((j ∷ (a ∷ p)) ∷ []))
      blocks next.reached.rest steps.rest next.want.ready next.reached.extends steps.extends);
  is = steps.is;
  some = steps.some;
}

-- an entry in `wanted` is still to be filled after the path down to its block is filled
pub wanted_next : (geometry : Geometry) (old mid : List ℕ) (i : ℕ) (wanted : List ℕ → Bool) (j a : ℕ) (p blocks : List ℕ) (m : ℕ)
    → (next : NamesNext geometry old mid i wanted j a p blocks m) → IsWanted geometry mid i wanted (j ∷ (a ∷ p)) next.reached.rest
wanted_next geometry old mid i wanted j a p blocks m next = record {
  ready = ready_after geometry old mid i wanted (has_front (a ∷ p)) (unnamed_of (is_named geometry old i) (fronts (a ∷ p))) blocks next.reached.rest next.want.ready next.reached.extends;
  place = place_same geometry old mid i (j ∷ (a ∷ p)) next.reached.extends.mode next.want.place;
  want = next.want.want;
}

-- the block reached so far is a data block
pub reached_zone : (geometry : Geometry) (old mid : List ℕ) (i : ℕ) (wanted : List ℕ → Bool) (j a : ℕ) (p blocks : List ℕ) (m : ℕ)
    → NamesNext geometry old mid i wanted j a p blocks m → in_zone geometry m ≡ true
reached_zone geometry old mid i wanted j a p blocks m next =
    let place = place_same geometry old mid i (a ∷ p) next.reached.extends.mode
    (record { file = next.want.place.file; place = next.want.place.place.2 }) in
    subst (λ k. in_zone geometry k ≡ true) next.reached.is
    (next.reached.extends.sound.zoned i (a ∷ p) place (λ zero. next.reached.some (sym next.reached.is ∙ zero)))

-- the block that is taken is a data block
pub taken_zoned : (geometry : Geometry) (old new blocks : List ℕ) (b : ℕ) → Rules3To7With geometry old blocks → Pops geometry old new blocks (Some b)
    → in_zone geometry b ≡ true
taken_zoned geometry old new blocks b sound pops =
    let first = pops_some geometry old new blocks b pops in
    first_zoned geometry old b first.rest (subst (Rules3To7With geometry old) first.is sound)

-- the number of a data block is within the edition's limit
pub zone_limit : (geometry : Geometry) (image : List ℕ) (b : ℕ) → Fits geometry image → in_zone geometry b ≡ true
    → b < (constants geometry.edition).number_limit
zone_limit geometry image b fits zone = let bounds = zone_bounds geometry b zone in omega (arith, bounds.1, fits.limit)

-- an entry of a data block is within the image
pub entry_room : (geometry : Geometry) (image : List ℕ) (m j : ℕ) → Fits geometry image → in_zone geometry m ≡ true
    → j < (constants geometry.edition).pointers → 512 * m + (constants geometry.edition).number_bytes * (j + 1) ≤ length image
entry_room geometry image m j fits zone low =
    let room = zone_room geometry image m fits zone in
    let fit = number_room geometry.edition j low in
    let end = entry_end (512 * m) (constants geometry.edition).number_bytes j fit in omega (arith, room, end)

-- an entry in `wanted` is an entry of an indirect block
pub next_index : (geometry : Geometry) (old mid : List ℕ) (i : ℕ) (wanted : List ℕ → Bool) (j a : ℕ) (p blocks : List ℕ) (m : ℕ)
    → NamesNext geometry old mid i wanted j a p blocks m → j < (constants geometry.edition).pointers
next_index geometry old mid i wanted j a p blocks m next =
    let many = pointers_of geometry.edition (mode_of geometry old i) in
    let index : j < pointer_count (form_at geometry old i) = next.want.place.place.0 in omega (arith, index, many)

-- the number at the position in the block map of an entry in `wanted` is the number stored in the entry
pub next_named : (geometry : Geometry) (old mid : List ℕ) (i : ℕ) (wanted : List ℕ → Bool) (j a : ℕ) (p blocks : List ℕ) (m : ℕ)
    → NamesNext geometry old mid i wanted j a p blocks m → named geometry mid i (j ∷ (a ∷ p)) ≡ number geometry.edition mid (512 * m) j
next_named geometry old mid i wanted j a p blocks m next =
    ap (λ k. pointer_in geometry mid k j) next.reached.is ∙ entry_in geometry mid m j (reached_zone geometry old mid i wanted j a p blocks m next)
