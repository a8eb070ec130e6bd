-- The bytes that aren't written are unchanged.
use Rattle.std.proofs.Common.{◌≡◌, ◌∙◌, ap, ℕ, ◌+◌, List, get_or, inl, inr, arith}
use Rattle.std.proofs.lemmas.Bool.{cases_lt}
use Rattle.pdp_words.specs.Words.{SameOutside}
use Rattle.vol_layout.specs.Super.{time_place}
use Rattle.vol_layout.specs.declared.edition.Edition.TheVariants.{V7}
use Rattle.vol_mkfs.specs.Mkfs.{sizes_bytes, IsNoneOf}
use Rattle.vol_migrate.proofs.i_nodes.put_super.Goals as goal

-- a byte outside the bytes written is unchanged
kept : {old new : List ℕ} (at count k : ℕ) → SameOutside old new at (at + count) → IsNoneOf at count k → get_or new k 0 ≡ get_or old k 0
kept at count k same none =
    elim (cases_lt k at) [
      | inl low ↦ same.below k low
      | inr high ↦ elim (cases_lt k (at + count)) [ inl inside ↦ absurd (none high inside) | inr past ↦ same.above k past ]
    ]

pub returns-clause-rest : goal.returns-clause-rest
returns-clause-rest c = λ k sizes time.
    let edition = ap sizes_bytes c.requires.seventh in
    let place = ap time_place c.requires.seventh in
    kept (time_place V7) 4 k c.put_time.ensures.others (λ from to. time (omega (arith, from, place)) (omega (arith, to, place)))
    ∙ (kept 514 4 k c.put_block_count.ensures.others (λ from to. sizes (omega (arith, from)) (omega (arith, to, edition)))
    ∙ kept 512 2 k c.put_list_size.ensures.others (λ from to. sizes from (omega (arith, to, edition))))
