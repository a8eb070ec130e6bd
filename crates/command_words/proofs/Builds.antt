-- Invocations of `build`: a volume is built of a list, or the list of a volume is written.
use Rattle.std.proofs.Common.{◌≡◌, ◌⊎◌, ◌∙◌, ℕ, List, Option, Some, None, Bool, true, false, true≢false, codes, slice_get, sym, ap, inl, inr}
use Rattle.vol_layout.specs.declared.edition.Edition.{Edition}
use Rattle.vol_layout.specs.declared.edition.Edition.TheVariants.{V6, V7}
use Rattle.vol_check.specs.declared.checker.Checker.TheVariants as checkers
use Rattle.command_terms.specs.declared.bad_looks.BadLook.TheVariants as bad_looks
use Rattle.command_terms.specs.declared.changes.Change.TheVariants as changes
use Rattle.command_terms.specs.declared.looks.Look.TheVariants as looks
use Rattle.command_words.specs.Invocations.{AsksForNothing, IsEditionGiven, IsFirstWord, IsGiven, IsLeftOut, IsValue, IsWrongBy, Words, first_word, is_set, verb_of}
use Rattle.command_words.specs.declared.invocation.Copying.TheVariants as copies
use Rattle.command_words.specs.declared.invocation.Invocation.{Invocation}
use Rattle.command_words.specs.declared.invocation.Invocation.TheVariants as invocations
use Rattle.command_words.specs.declared.invocation.Work.TheVariants as works
use Rattle.command_words.specs.declared.parameters.WordKind.TheVariants as kinds
use Rattle.command_words.specs.declared.verbs.Verb.{Verb}
use Rattle.command_words.specs.declared.verbs.Verb.TheVariants as verbs
use Rattle.command_words.proofs.Values.{no_value}

-- a volume is built, or a list is written
abbrev IsBuilt : Words → Type 0
IsBuilt given = (IsLeftOut given (codes "MORE") × IsLeftOut given (codes "at") × (is_set (given (codes "list")) ≡ false))
    ⊎ ((edition : Edition) × (is_any : Bool) × (path : List ℕ) × IsEditionGiven edition is_any (first_word (given (codes "LIST")))
    × IsFirstWord given (codes "MORE") path × (is_set (given (codes "list")) ≡ true))

-- true if the command is `build`
is_build : Verb → Bool
is_build verbs.Build = true
is_build _ = false

-- every invocation of `build` builds a volume or writes a list
builds : (clock : Option ℕ) (given : Words) (invocation : Invocation) → is_build (verb_of invocation) ≡ true → IsGiven clock given invocation → IsBuilt given
unfolding is_build
builds clock given (invocations.Build list new) built is = inl (is.2, is.3, is.4)
builds clock given (invocations.Copy volume (copies.List new)) built is =
    inr (volume.edition, volume.is_any, new.path.now, is.0.0, is.1.0.0, is.1.1)
builds clock given (invocations.Change volume (changes.Put p file keep owner now) trace) built is = absurd (true≢false (sym built))
builds clock given (invocations.Work volume (works.Check checkers.Blocks workers form)) built is = absurd (true≢false (sym built))
builds clock given (invocations.Look volume (looks.Export path options)) built is = absurd (true≢false (sym built))
builds clock given (invocations.LookBad volume image (bad_looks.Export path options)) built is = absurd (true≢false (sym built))
builds clock given invocation built is = absurd (true≢false (sym built))

-- if the words do neither, `build` has no invocation
no_build : (clock : Option ℕ) (given : Words) → (IsBuilt given → ⊥) → AsksForNothing clock verbs.Build given
unfolding AsksForNothing is_build
no_build clock given none = λ invocation asks. none (builds clock given invocation (sym (ap is_build asks.0)) asks.1)

-- a word that exists can't have been left out
both : (first : Option (List ℕ)) (word : List ℕ) → first ≡ Some word → first ≡ None → ⊥
both first word some none = absurd (cc)

-- a word that names an edition is one of those for editions
edition_value : (edition : Edition) (is_any : Bool) (words : List (List ℕ)) → IsEditionGiven edition is_any (first_word words) → IsValue None kinds.Edition words
edition_value V6 false words is = inl is
edition_value V7 false words is = inr (inl is)
edition_value edition true words is = inr (inr is.0)

-- without `--list`, a third word or the block of a volume leaves `build` without an invocation
pub not_alone : (clock : Option ℕ) (given : Words) → is_set (given (codes "list")) ≡ false
    → (IsLeftOut given (codes "MORE") → ⊥) ⊎ (IsLeftOut given (codes "at") → ⊥) → AsksForNothing clock verbs.Build given
not_alone clock given unset more = no_build clock given (go more)
  where
    go : (IsLeftOut given (codes "MORE") → ⊥) ⊎ (IsLeftOut given (codes "at") → ⊥) → IsBuilt given → ⊥
    go (inl third) (inl one) = third one.0
    go (inr at) (inl one) = at one.1
    go any (inr list) = true≢false (sym list.5 ∙ unset)

-- with `--list`, words that don't name a volume leave `build` without an invocation
pub no_volume : (clock : Option ℕ) (given : Words) → is_set (given (codes "list")) ≡ true → IsWrongBy given (codes "LIST")
    → AsksForNothing clock verbs.Build given
no_volume clock given set (inr at) = no_value clock verbs.Build given (inr (inr (inr (inr (inr (inl at))))))
no_volume clock given set (inl edition) = no_build clock given go
  where
    go : IsBuilt given → ⊥
    go (inl one) = true≢false (sym set ∙ one.2)
    go (inr list) = edition (edition_value list.0 list.1 (given (codes "LIST")) list.3)

-- with `--list`, a missing third word leaves `build` without an invocation
pub no_list : (clock : Option ℕ) (given : Words) → is_set (given (codes "list")) ≡ true → IsLeftOut given (codes "MORE")
    → AsksForNothing clock verbs.Build given
no_list clock given set left = no_build clock given go
  where
    go : IsBuilt given → ⊥
    go (inl one) = true≢false (sym set ∙ one.2)
    go (inr list) = both _ list.2 list.4 left
