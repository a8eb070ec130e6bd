use Rattle.vol_layout.specs.BlockPointers.{form_at}
use Rattle.vol_file.specs.Shape.{is_named}
use Rattle.vol_file.proofs.MissingLaws.{count_blocks, need_nothing}
use Rattle.vol_file.proofs.laws.need_is_counted_by_blocks.Goals as goal

pub returns : goal.returns
returns c = record {
  count = count_blocks;
  nothing = λ geometry image i offset. need_nothing (form_at geometry image i) (is_named geometry image i);
}
