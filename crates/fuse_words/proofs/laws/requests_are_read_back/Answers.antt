use Rattle.fuse_words.proofs.ReadBack.{requests_back}
use Rattle.fuse_words.proofs.laws.requests_are_read_back.Goals as goal

pub returns : goal.returns
returns c = requests_back
