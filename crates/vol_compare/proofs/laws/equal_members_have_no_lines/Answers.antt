use Rattle.std.proofs.Common.{◌≡◌, [], subst}
use Rattle.vol_compare.specs.Merge.{merged_lines}
use Rattle.vol_compare.proofs.MergeLaws.{merged_equal, merged_same}
use Rattle.vol_compare.proofs.laws.equal_members_have_no_lines.Goals as goal

pub returns : goal.returns
returns c olds news = ((λ same. subst (λ xs. merged_lines olds xs ≡ []) same.0 (merged_same olds same.1)), merged_equal olds news)
