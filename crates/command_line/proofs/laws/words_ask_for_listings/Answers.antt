use Rattle.command_line.proofs.Listings.{reads_listing}
use Rattle.command_line.proofs.laws.words_ask_for_listings.Goals as goal

pub returns : goal.returns
returns c = reads_listing
