use Rattle.std.proofs.Common.{◌≡◌, length, vec_capacity, All}
use Rattle.vol_views.specs.Views.{IsNew}
use Rattle.vol_shared.proofs.made_views.watch.Given as goal

abbrev pub invariant-loop-i : goal.invariant-loop-i
invariant-loop-i l = record {
  same : l.publisher ≡ l.fn.publisher;
  count : length l.all.items ≡ l._i;
  room : vec_capacity l.all ≡ l.views;
  new : All (IsNew l.fn.publisher) l.all.items;
}
