-- An i-number that is free in the graph may be given to a new node.
use Rattle.std.proofs.Common.{◌≡◌, ◌≢◌, ◌∙◌, sym, ap, ℕ, ◌/◌, ◌%◌, ◌==◌, Bool, true, false, nat_lt, if◌then◌else◌, List, inl, inr, arith, Option, None, Some, IfSome}
use Rattle.std.specs.Option.{unwrap_or}
use Rattle.std.proofs.lemmas.Bool.{cases_eq}
use Rattle.std.proofs.lemmas.Bool.Decides.{nat_tests}
use Rattle.vol_layout.specs.Inode.{kind_of, kind_of_type_v6, kind_of_type_v7}
use Rattle.vol_layout.specs.BlockPointers.{mode_of}
use Rattle.vol_layout.specs.declared.edition.Edition.{Edition}
use Rattle.vol_layout.specs.declared.edition.Edition.TheVariants.{V6, V7}
use Rattle.vol_layout.specs.declared.geometry.Geometry.{Geometry}
use Rattle.vol_layout.specs.declared.mode.Kind.{Kind}
use Rattle.vol_layout.specs.declared.mode.Kind.TheVariants as kinds
use Rattle.vol_layout.proofs.KindLaws.{kind_zero}
use Rattle.vol_free.specs.Numbers.{IsFreeNumber}
use Rattle.vol_judge.specs.Graph.{graph_of}
use Rattle.vol_judge.specs.GraphEdits.{IsSameGraph}
use Rattle.vol_judge.proofs.ImageGraphs.{kind_inside}

-- if two kinds are in use, a choice between them is in use
either_used : (b : Bool) (x y : Kind) → x ≢ kinds.Free → y ≢ kinds.Free → (if b then x else y) ≢ kinds.Free
either_used true x y one other = one
either_used false x y one other = other

-- no type bits of the sixth edition mean a free i-node
type_v6_used : (type : ℕ) → kind_of_type_v6 type ≢ kinds.Free
type_v6_used type =
    either_used (type == 0) kinds.Regular _ (λ e. cc)
    (either_used (type == 2) kinds.Directory kinds.Special (λ e. cc) (λ e. cc))

-- no type bits of the seventh edition mean a free i-node
type_v7_used : (type : ℕ) → kind_of_type_v7 type ≢ kinds.Free
type_v7_used type =
    either_used (type == 8) kinds.Regular _ (λ e. cc)
    (either_used (type == 4) kinds.Directory _ (λ e. cc)
    (either_used (type == 2) kinds.Special _ (λ e. cc)
    (either_used (type == 6) kinds.Special _ (λ e. cc)
    (either_used (type == 3) kinds.Special _ (λ e. cc)
    (either_used (type == 7) kinds.Special kinds.Odd (λ e. cc) (λ e. cc))))))

-- only mode 0 is the mode of a free i-node
pub free_zero : (edition : Edition) (mode : ℕ) → kind_of edition mode ≡ kinds.Free → mode ≡ 0
unfolding kind_of
free_zero V6 mode free = elim (cases_eq mode 0) [
  | inl e ↦ e
  | inr other ↦
      let some : (mode == 0) ≡ false = grind (arith, nat_tests) in
      absurd (either_used (nat_lt mode 32768) kinds.Odd _ (λ e. cc) (type_v6_used (mode / 8192 % 4))
      (sym (ap (λ b. if b then kinds.Free else if nat_lt mode 32768 then kinds.Odd else kind_of_type_v6 (mode / 8192 % 4)) some) ∙ free))
]
free_zero V7 mode free = elim (cases_eq mode 0) [
  | inl e ↦ e
  | inr other ↦
      let some : (mode == 0) ≡ false = grind (arith, nat_tests) in
      absurd (type_v7_used (mode / 4096) (sym (ap (λ b. if b then kinds.Free else kind_of_type_v7 (mode / 4096)) some) ∙ free))
]

-- an i-number for a new node is free in the graph
pub number_free : (geometry : Geometry) (image : List ℕ) (i : ℕ) → IsFreeNumber geometry image i → (graph_of geometry image).kind i ≡ kinds.Free
number_free geometry image i free =
    kind_inside geometry image i (omega (arith, free.above)) free.within ∙ (ap (kind_of geometry.edition) free.mode ∙ kind_zero geometry.edition)

-- an i-number that may be given to a new node still may be if its kind in the graph doesn't change
pub free_kept : (geometry : Geometry) (old new : List ℕ) (i : ℕ) → (graph_of geometry new).kind i ≡ (graph_of geometry old).kind i
    → IsFreeNumber geometry old i → IsFreeNumber geometry new i
free_kept geometry old new i same free = record {
  above = free.above;
  within = free.within;
  mode = free_zero geometry.edition (mode_of geometry new i)
      (sym (kind_inside geometry new i (omega (arith, free.above)) free.within) ∙ (same ∙ number_free geometry old i free));
}

-- if the graph doesn't change, the recorded i-number, or else the one taken, may still be given to a new node
pub chosen_free : (geometry : Geometry) (old new : List ℕ) (recorded : Option ℕ) (taken : ℕ)
    → IsSameGraph (graph_of geometry old) (graph_of geometry new) → IfSome recorded (λ i. IsFreeNumber geometry old i)
    → IsFreeNumber geometry new taken → IsFreeNumber geometry new (unwrap_or recorded taken)
chosen_free geometry old new None taken same free other = other
chosen_free geometry old new (Some i) taken same free other = free_kept geometry old new i (same.kind i) free

-- if an i-number was recorded, it is the chosen one
pub chosen_recorded : (recorded : Option ℕ) (taken number : ℕ) → number ≡ unwrap_or recorded taken → IfSome recorded (λ i. number ≡ i)
chosen_recorded None taken number chosen = tt
chosen_recorded (Some i) taken number chosen = chosen
