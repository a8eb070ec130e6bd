use Rattle.std.proofs.lemmas.List.FromFn.{fill_by_all}
use Rattle.std.proofs.lemmas.List.Edits.{fill_by_more}
use Rattle.std.proofs.Common.{◌≡◌, ◌<◌, ◌≤◌, ℕ, List, get_or, set, length, length-set, arith}
use Rattle.std.proofs.lemmas.Grind.{common_steps}
use Rattle.vol_layout.specs.Edition.{constants}
use Rattle.vol_layout.specs.Inode.{address_at, addresses_at}
use Rattle.vol_layout.proofs.i_list.addresses.Goals as goal

-- an item of a list after one item was set to `x` is `x` or its old value
each_set : (xs : List ℕ) (k j x : ℕ) → k < length xs → (P : ℕ → Type 0) → P x → P (get_or xs j 0) → P (get_or (set xs k x) j 0)
each_set xs k j x room P new old = grind (arith, common_steps)

-- setting an item of the first eight, or setting a later item to 0, leaves all items after the first eight 0
none_set : (xs : List ℕ) (k j x : ℕ) → k < length xs → (8 ≤ k → x ≡ 0) → 8 ≤ j → get_or xs j 0 ≡ 0 → get_or (set xs k x) j 0 ≡ 0
none_set xs k j x room zero h old = grind (arith, common_steps)

pub loop-k-preserved : goal.loop-k-preserved
loop-k-preserved c =
    let room : c.loop-k.k < length c.loop-k.all = omega arith in record {
      len = simp length-set c.loop-k.invariant.len;
      read = rw c.address_in.ensures.value (fill_by_more (address_at c.args.edition c.args.image.now c.args.at) c.loop-k.all c.loop-k.k 0 room c.loop-k.invariant.read);
      bound = λ j. each_set c.loop-k.all c.loop-k.k j c.address_in.result room (λ x. x < (constants c.args.edition).number_limit) c.address_in.ensures.bound (c.loop-k.invariant.bound j);
      none = λ e j h. none_set c.loop-k.all c.loop-k.k j c.address_in.result room (c.address_in.ensures.none e) h (c.loop-k.invariant.none e j h);
    }

pub returns-clause-value : goal.returns-clause-value
unfolding addresses_at
returns-clause-value c =
    fill_by_all (address_at c.args.edition c.args.image.now c.args.at) c.loop-k.all 13 0 c.loop-k.invariant.len
    (λ k h. c.loop-k.invariant.read k (omega arith))
