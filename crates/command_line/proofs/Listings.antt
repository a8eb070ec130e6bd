-- The words of `ls`.
use Rattle.std.proofs.Common.{◌≡◌, ◌↔◌, ◌==◌, ◌∙◌, Bool, ℕ, true≢false, true, false, List, ◌∷◌, ◌++◌, [], drop, map, slice_get, slice_index_or, Option, Some, None, refl, sym, ap, subst, codes}
use Rattle.std.specs.Borrow.{Bor}
use Rattle.std.specs.Str.{bytes_eq}
use Rattle.std.proofs.lemmas.Bool.{ne_eqb}
use Rattle.std.proofs.lemmas.Slice.Eq.{bytes_eq-Decides}
use Rattle.clap.proofs.OnLiterals.{clap_on_literals}
use Rattle.clap.specs.Words.{Row}
use Rattle.command_words.proofs.Copies.{not_whole}
use Rattle.command_words.specs.BadWords.{IsBadImageGiven}
use Rattle.command_words.specs.Invocations.{AreLinesGiven, IsDepthGiven, IsEditionGiven, IsEditionNamed, IsGiven, IsNumberOr, Words, first_word, is_set, the_word, verb_of}
use Rattle.command_words.specs.Verbs.{verb_name}
use Rattle.command_words.specs.declared.invocation.Invocation.{Invocation}
use Rattle.command_words.specs.declared.invocation.Invocation.TheVariants as invocations
use Rattle.command_words.specs.declared.invocation.Copying.TheVariants as copies
use Rattle.command_words.specs.declared.invocation.Work.TheVariants as works
use Rattle.vol_listing.specs.declared.options.Depth.{Depth}
use Rattle.vol_listing.specs.declared.options.Depth.TheVariants as depths
use Rattle.vol_listing.specs.declared.options.Lines.{Lines}
use Rattle.vol_listing.specs.declared.options.Lines.TheVariants as lines
use Rattle.command_terms.specs.declared.bad_looks.BadLook.TheVariants as bad_looks
use Rattle.command_terms.specs.declared.looks.Look.TheVariants as looks
use Rattle.command_terms.specs.declared.changes.Change.TheVariants as changes
use Rattle.vol_check.specs.declared.checker.Checker.TheVariants as checkers
use Rattle.vol_layout.specs.declared.edition.Edition.{Edition}
use Rattle.vol_layout.specs.declared.edition.Edition.TheVariants.{V6, V7}
use Rattle.command_line.specs.CommandLine.{MetAsks, words_by}
use Rattle.command_line.specs.Laws.{IsListing, IsPlainWord, ReadsListing}
use Rattle.command_line.specs.Words.{AreEditions, argument_rule, bare_program, command_in, explain_rule, faults_of, named_shape, need_rule, program, unixvol_app, verb_shape, with_argument, with_command}

-- the word of an edition
abbrev word_of : Edition → List ℕ
word_of V6 = codes "6"
word_of V7 = codes "7"

-- a reference to the names of the editions, made of these references
abbrev names_at : ℕ × ℕ → ℕ × ℕ → ℕ × ℕ → ℕ × ℕ → Bor (List (Bor (List ℕ)))
names_at p q r s = record {
  ref_ptr = p;
  now = record { ref_ptr = q; now = codes "6" } ∷ record { ref_ptr = r; now = codes "7" } ∷ record { ref_ptr = s; now = codes "any" } ∷ [];
}

-- a property of each of these references is a property of every reference to the names of the editions
at_names : (P : Bor (List (Bor (List ℕ))) → Type 0) → ((p q r s : ℕ × ℕ) → P (names_at p q r s)) → (editions : Bor (List (Bor (List ℕ)))) → AreEditions editions → P editions
at_names P holds editions are = go editions.ref_ptr editions.now are
  where
    go : (p : ℕ × ℕ) (names : List (Bor (List ℕ))) → map (λ name. name.now) names ≡ codes "6" ∷ codes "7" ∷ codes "any" ∷ [] → P (record { ref_ptr = p; now = names })
    go p [] is = absurd (cc)
    go p (a ∷ []) is = absurd (cc)
    go p (a ∷ b ∷ []) is = absurd (cc)
    go p (a ∷ b ∷ c ∷ []) is =
        let six : a.now ≡ codes "6" = cc in
        let seven : b.now ≡ codes "7" = cc in
        let any : c.now ≡ codes "any" = cc in
        subst (λ (t : List ℕ). P (record { ref_ptr = p; now = record { ref_ptr = a.ref_ptr; now = t } ∷ b ∷ c ∷ [] })) (sym six)
        (subst (λ (t : List ℕ). P (record { ref_ptr = p; now = record { ref_ptr = a.ref_ptr; now = codes "6" } ∷ record { ref_ptr = b.ref_ptr; now = t } ∷ c ∷ [] })) (sym seven)
        (subst (λ (t : List ℕ). P (record { ref_ptr = p; now = record { ref_ptr = a.ref_ptr; now = codes "6" } ∷ record { ref_ptr = b.ref_ptr; now = codes "7" } ∷ record { ref_ptr = c.ref_ptr; now = t } ∷ [] })) (sym any)
        (holds p a.ref_ptr b.ref_ptr c.ref_ptr)))
    go p (a ∷ b ∷ c ∷ d ∷ rest) is = absurd (cc)

-- the name of the command that clap found, and the words for the arguments of `ls`
abbrev seen : Option (List ℕ × List Row) → List (List ℕ)
seen None = []
seen (Some met) = met.0 ∷ the_word (words_by met.1) (codes "EDITION") ∷ the_word (words_by met.1) (codes "IMAGE") ∷ the_word (words_by met.1) (codes "PATH")
    ∷ the_word (words_by met.1) (codes "json") ∷ the_word (words_by met.1) (codes "long") ∷ the_word (words_by met.1) (codes "recursive")
    ∷ the_word (words_by met.1) (codes "directory") ∷ the_word (words_by met.1) (codes "slots")
    ∷ the_word (words_by met.1) (codes "unsound") ∷ the_word (words_by met.1) (codes "cut")
    ∷ (words_by met.1 (codes "at") ++ (words_by met.1 (codes "bad") ++ (words_by met.1 (codes "bad-blocks") ++ (words_by met.1 (codes "sizes")
    ++ words_by met.1 (codes "like")))))

-- the words of options that weren't given
abbrev no_options : List (List ℕ)
no_options = codes "false" ∷ codes "false" ∷ codes "false" ∷ codes "false" ∷ codes "false" ∷ codes "false" ∷ codes "false" ∷ []

-- the name of the command, and the words for the arguments of `ls` without options
abbrev words_of : Edition → List ℕ → List ℕ → List (List ℕ)
words_of edition image path = codes "ls" ∷ word_of edition ∷ image ∷ path ∷ no_options

-- the command line accepts the words of `ls`, and finds these arguments and no options
abbrev IsTaken : Bor (List (Bor (List ℕ))) → Edition → List ℕ → List ℕ → List ℕ → Type 0
IsTaken editions edition program image path =
    (faults_of (unixvol_app editions) (program ∷ codes "ls" ∷ word_of edition ∷ image ∷ path ∷ []) ≡ [])
    × (seen (command_in (unixvol_app editions) (program ∷ codes "ls" ∷ word_of edition ∷ image ∷ path ∷ [])) ≡ words_of edition image path)

-- the command line accepts the words of `ls` if the file and the path don't begin with a hyphen
taken : (p q r s : ℕ × ℕ) (edition : Edition) (name image path : List ℕ) → IsPlainWord image → IsPlainWord path → IsTaken (names_at p q r s) edition name image path
unfolding clap_on_literals faults_of command_in unixvol_app program bare_program explain_rule with_command verb_shape with_argument named_shape argument_rule need_rule
taken p q r s V6 name [] [] image path = (refl {a = []}, refl {a = words_of V6 [] []})
taken p q r s V6 name (x ∷ xs) [] image path =
    let e : (x == 45) ≡ false = ne_eqb _ _ image in
    (rw (e, e) (refl {a = []}), rw (e, e) (refl {a = words_of V6 (x ∷ xs) []}))
taken p q r s V6 name [] (y ∷ ys) image path =
    let f : (y == 45) ≡ false = ne_eqb _ _ path in
    (rw (f, f) (refl {a = []}), rw (f, f) (refl {a = words_of V6 [] (y ∷ ys)}))
taken p q r s V6 name (x ∷ xs) (y ∷ ys) image path =
    let e : (x == 45) ≡ false = ne_eqb _ _ image in
    let f : (y == 45) ≡ false = ne_eqb _ _ path in
    (rw (e, e, f, f) (refl {a = []}), rw (e, e, f, f) (refl {a = words_of V6 (x ∷ xs) (y ∷ ys)}))
taken p q r s V7 name [] [] image path = (refl {a = []}, refl {a = words_of V7 [] []})
taken p q r s V7 name (x ∷ xs) [] image path =
    let e : (x == 45) ≡ false = ne_eqb _ _ image in
    (rw (e, e) (refl {a = []}), rw (e, e) (refl {a = words_of V7 (x ∷ xs) []}))
taken p q r s V7 name [] (y ∷ ys) image path =
    let f : (y == 45) ≡ false = ne_eqb _ _ path in
    (rw (f, f) (refl {a = []}), rw (f, f) (refl {a = words_of V7 [] (y ∷ ys)}))
taken p q r s V7 name (x ∷ xs) (y ∷ ys) image path =
    let e : (x == 45) ≡ false = ne_eqb _ _ image in
    let f : (y == 45) ≡ false = ne_eqb _ _ path in
    (rw (e, e, f, f) (refl {a = []}), rw (e, e, f, f) (refl {a = words_of V7 (x ∷ xs) (y ∷ ys)}))

-- if two texts are equal, `bytes_eq` is true for them
same : (one other : List ℕ) → one ≡ other → bytes_eq one other ≡ true
same one other is = (bytes_eq-Decides one other).1 is

-- if an edition is named by the word of another, both are the same
edition_is : (one other : Edition) → IsEditionNamed one (word_of other) → one ≡ other
edition_is V6 V6 named = refl
edition_is V6 V7 named = absurd (true≢false (sym (same _ _ named)))
edition_is V7 V6 named = absurd (true≢false (sym (same _ _ named)))
edition_is V7 V7 named = refl

-- if an edition is given by the word of another, both are the same, and the word isn't `any`
given_is : (one : Edition) (is_any : Bool) (other : Edition) → IsEditionGiven one is_any (word_of other) → (one ≡ other) × (is_any ≡ false)
given_is one false other is = (edition_is one other is, refl)
given_is one true V6 is = absurd (true≢false (sym (same _ _ is.0)))
given_is one true V7 is = absurd (true≢false (sym (same _ _ is.0)))

-- if a word names an edition, it is the edition's word
word_is : (edition : Edition) (word : List ℕ) → IsEditionNamed edition word → word ≡ word_of edition
word_is V6 word named = named
word_is V7 word named = named

-- no option of `ls` was given
record HasNoOptions (given : Words) : Type 0 where
  json : first_word (given (codes "json")) ≡ codes "false"
  long : first_word (given (codes "long")) ≡ codes "false"
  below : first_word (given (codes "recursive")) ≡ codes "false"
  itself : first_word (given (codes "directory")) ≡ codes "false"
  slots : first_word (given (codes "slots")) ≡ codes "false"
  unsound : first_word (given (codes "unsound")) ≡ codes "false"
  cut : first_word (given (codes "cut")) ≡ codes "false"
  at : given (codes "at") ≡ []
  bad : given (codes "bad") ≡ []
  blocks : given (codes "bad-blocks") ≡ []
  sizes : given (codes "sizes") ≡ []
  like : given (codes "like") ≡ []

-- if the word of an option is `false`, the option wasn't given
unset : (words : List (List ℕ)) → first_word words ≡ codes "false" → is_set words ≡ false
unset words is = ap (λ (word : List ℕ). bytes_eq word (codes "true")) is

-- if two lists in one are empty, both are
empty_both : (one other : List (List ℕ)) → one ++ other ≡ [] → (one ≡ []) × (other ≡ [])
empty_both [] other is = (refl, is)
empty_both (word ∷ one) other is = absurd (cc)

-- if no option was given, nothing was said of lost blocks
none_lost : (given : Words) → HasNoOptions given → IsBadImageGiven given V7 (is_set (given (codes "cut"))) None
none_lost given none = (
  (ap (λ (words : List (List ℕ)). slice_get words 0) none.bad, ap (λ (words : List (List ℕ)). slice_get words 0) none.blocks),
  (ap (λ (words : List (List ℕ)). slice_get words 0) none.sizes, ap (λ (words : List (List ℕ)). slice_get words 0) none.like),
  unset (given (codes "cut")) none.cut,
)

-- if no option was given, the lines are plain
plain : (given : Words) (form : Lines) → HasNoOptions given → AreLinesGiven given form → form ≡ lines.Plain
plain given lines.Plain none are = refl
plain given lines.Long none are = absurd (true≢false (sym are.1 ∙ unset (given (codes "long")) none.long))
plain given lines.Json none are = absurd (true≢false (sym are ∙ unset (given (codes "json")) none.json))

plain_given : (given : Words) (form : Lines) → HasNoOptions given → form ≡ lines.Plain → AreLinesGiven given form
plain_given given form none is =
    subst (AreLinesGiven given) (sym is) (unset (given (codes "json")) none.json, unset (given (codes "long")) none.long)

-- if no option was given, the names are listed
to_names : (given : Words) (depth : Depth) → HasNoOptions given → IsDepthGiven given depth → depth ≡ depths.Names
to_names given depths.Itself none is = absurd (true≢false (sym is ∙ unset (given (codes "directory")) none.itself))
to_names given depths.Names none is = refl
to_names given depths.Below none is = absurd (true≢false (sym is.1 ∙ unset (given (codes "recursive")) none.below))

to_names_given : (given : Words) (depth : Depth) → HasNoOptions given → depth ≡ depths.Names → IsDepthGiven given depth
to_names_given given depth none is =
    subst (IsDepthGiven given) (sym is) (unset (given (codes "directory")) none.itself, unset (given (codes "recursive")) none.below)

-- if the words for the arguments of `ls` have no option, every invocation that is read from them is that listing
asks_listing : (clock : Option ℕ) (given : Words) (edition : Edition) (image path : List ℕ) (invocation : Invocation) → bytes_eq (codes "ls") (verb_name (verb_of invocation)) ≡ true
    → the_word given (codes "EDITION") ≡ word_of edition → the_word given (codes "IMAGE") ≡ image → the_word given (codes "PATH") ≡ path → HasNoOptions given
    → IsGiven clock given invocation → IsListing edition image path invocation
asks_listing clock given edition image path (invocations.Look volume (looks.Slots p form)) test e_is i_is p_is none is =
    absurd (true≢false (sym is.1.1 ∙ unset (given (codes "slots")) none.slots))
asks_listing clock given edition image path (invocations.Look volume (looks.ListUnsound p listing)) test e_is i_is p_is none is =
    absurd (true≢false (sym is.1.4 ∙ unset (given (codes "unsound")) none.unsound))
asks_listing clock given edition image path (invocations.Look volume (looks.List directory listing)) test e_is i_is p_is none is = (
  (given_is volume.edition volume.is_any edition (subst (IsEditionGiven volume.edition volume.is_any) e_is is.0.0)).0,
  is.0.1 ∙ i_is,
  is.1.0 ∙ p_is,
  plain given listing.lines none is.1.1,
  to_names given listing.depth none is.1.2,
  subst (λ (words : List (List ℕ)). IsNumberOr 4294967295 0 words volume.at) none.at is.0.2,
  (given_is volume.edition volume.is_any edition (subst (IsEditionGiven volume.edition volume.is_any) e_is is.0.0)).1,
)
asks_listing clock given edition image path (invocations.Change volume (changes.Put p file keep owner now) trace) test e_is i_is p_is none is = absurd (true≢false (sym test))
asks_listing clock given edition image path (invocations.Copy volume (copies.Put directory files keep owner now trace)) test e_is i_is p_is none is = absurd (true≢false (sym test))
asks_listing clock given edition image path (invocations.Work volume (works.Check checkers.Blocks workers form)) test e_is i_is p_is none is = absurd (true≢false (sym test))
asks_listing clock given edition image path (invocations.LookBad volume bad (bad_looks.List p listing)) test e_is i_is p_is none is =
    absurd (not_whole given volume.edition (is_set (given (codes "cut"))) bad is.1.5 (none_lost given none))
asks_listing clock given edition image path (invocations.LookBad volume bad (bad_looks.Export p options)) test e_is i_is p_is none is = absurd (true≢false (sym test))
asks_listing clock given edition image path invocation test e_is i_is p_is none is = absurd (true≢false (sym test))

-- if clap found the words of `ls` without options, no option was given
no_options_by : (met : List ℕ × List Row) (edition : Edition) (image path : List ℕ) → seen (Some met) ≡ words_of edition image path
    → HasNoOptions (words_by met.1)
no_options_by met edition image path is =
    let given = words_by met.1 in
    let rest = ap (drop 11) is in
    let at = empty_both (given (codes "at")) _ rest in
    let bad = empty_both (given (codes "bad")) _ at.1 in
    let blocks = empty_both (given (codes "bad-blocks")) _ bad.1 in
    let sizes = empty_both (given (codes "sizes")) (given (codes "like")) blocks.1 in record {
      json = ap (λ (l : List (List ℕ)). slice_index_or l 4 []) is;
      long = ap (λ (l : List (List ℕ)). slice_index_or l 5 []) is;
      below = ap (λ (l : List (List ℕ)). slice_index_or l 6 []) is;
      itself = ap (λ (l : List (List ℕ)). slice_index_or l 7 []) is;
      slots = ap (λ (l : List (List ℕ)). slice_index_or l 8 []) is;
      unsound = ap (λ (l : List (List ℕ)). slice_index_or l 9 []) is;
      cut = ap (λ (l : List (List ℕ)). slice_index_or l 10 []) is;
      at = at.0;
      bad = bad.0;
      blocks = blocks.0;
      sizes = sizes.0;
      like = sizes.1;
    }

-- if clap found the command `ls` with its words and no options, every invocation that is read from them is that listing
listed : (clock : Option ℕ) (met : Option (List ℕ × List Row)) (edition : Edition) (image path : List ℕ) (invocation : Invocation) → seen met ≡ words_of edition image path
    → MetAsks clock met invocation → IsListing edition image path invocation
listed clock None edition image path invocation is asks = absurd asks
listed clock (Some met) edition image path invocation is asks =
    let name : met.0 ≡ codes "ls" = ap (λ (l : List (List ℕ)). slice_index_or l 0 []) is in
    asks_listing clock (words_by met.1) edition image path invocation (same _ _ (sym name ∙ asks.0)) (ap (λ (l : List (List ℕ)). slice_index_or l 1 []) is)
    (ap (λ (l : List (List ℕ)). slice_index_or l 2 []) is) (ap (λ (l : List (List ℕ)). slice_index_or l 3 []) is)
    (no_options_by met edition image path is) asks.1

-- an edition is named by its word
word_names : (edition : Edition) → IsEditionNamed edition (word_of edition)
word_names V6 = refl
word_names V7 = refl

-- an edition is given by its word
given_by : (one : Edition) (is_any : Bool) (edition : Edition) (text : List ℕ) → one ≡ edition → is_any ≡ false → text ≡ word_of edition
    → IsEditionGiven one is_any text
given_by one true edition text is none word = absurd (true≢false none)
given_by one false edition text is none word =
    subst (λ (e : Edition). IsEditionNamed e text) (sym is) (subst (IsEditionNamed edition) (sym word) (word_names edition))

-- if clap found the command `ls` with its words and no options, they are read as that listing
listing_asks : (clock : Option ℕ) (met : Option (List ℕ × List Row)) (edition : Edition) (image path : List ℕ) (invocation : Invocation)
    → seen met ≡ words_of edition image path → IsListing edition image path invocation → MetAsks clock met invocation
listing_asks clock None edition image path invocation is listed = absurd (cc)
listing_asks clock (Some met) edition image path (invocations.Look volume (looks.List directory listing)) is listed =
    let name : met.0 ≡ codes "ls" = ap (λ (l : List (List ℕ)). slice_index_or l 0 []) is in
    let word : the_word (words_by met.1) (codes "EDITION") ≡ word_of edition = ap (λ (l : List (List ℕ)). slice_index_or l 1 []) is in
    let file : the_word (words_by met.1) (codes "IMAGE") ≡ image = ap (λ (l : List (List ℕ)). slice_index_or l 2 []) is in
    let none = no_options_by met edition image path is in
    let end : the_word (words_by met.1) (codes "PATH") ≡ path = ap (λ (l : List (List ℕ)). slice_index_or l 3 []) is in (
      name,
      (
        (
          given_by volume.edition volume.is_any edition _ listed.0 listed.6 word,
          listed.1 ∙ sym file,
          subst (λ (words : List (List ℕ)). IsNumberOr 4294967295 0 words volume.at) (sym none.at) listed.5,
        ),
        (
          listed.2 ∙ sym end,
          plain_given (words_by met.1) listing.lines none listed.3,
          to_names_given (words_by met.1) listing.depth none listed.4,
          unset (words_by met.1 (codes "slots")) none.slots,
          unset (words_by met.1 (codes "unsound")) none.unsound,
          none_lost (words_by met.1) none,
        ),
      ),
    )
listing_asks clock (Some met) edition image path invocation is listed = absurd listed

-- these words of `ls` are read as that listing, and as no other invocation
abbrev AsksListing : Option ℕ → Bor (List (Bor (List ℕ))) → Edition → List ℕ → List ℕ → List ℕ → List ℕ → Type 0
AsksListing clock editions edition program image path word = (faults_of (unixvol_app editions) (program ∷ codes "ls" ∷ word ∷ image ∷ path ∷ []) ≡ [])
    × ((invocation : Invocation) → MetAsks clock (command_in (unixvol_app editions) (program ∷ codes "ls" ∷ word ∷ image ∷ path ∷ [])) invocation
    ↔ IsListing edition image path invocation)

asks : (clock : Option ℕ) (editions : Bor (List (Bor (List ℕ)))) (edition : Edition) (program image path : List ℕ) → IsTaken editions edition program image path
    → AsksListing clock editions edition program image path (word_of edition)
asks clock editions edition program image path t =
    let met = command_in (unixvol_app editions) (program ∷ codes "ls" ∷ word_of edition ∷ image ∷ path ∷ []) in
    (t.0, λ invocation. (listed clock met edition image path invocation t.1, listing_asks clock met edition image path invocation t.1))

-- the words of `ls` are read as a listing, for every edition, file and path
pub reads_listing : ReadsListing
reads_listing clock editions are edition program word image path named plain_image plain_path =
    subst (AsksListing clock editions edition program image path) (sym (word_is edition word named))
    (asks clock editions edition program image path
    (at_names (λ e. IsTaken e edition program image path) (λ p q r s. taken p q r s edition program image path plain_image plain_path) editions are))
