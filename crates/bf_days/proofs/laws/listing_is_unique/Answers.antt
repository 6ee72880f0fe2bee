use Rattle.bf_days.proofs.OneListing as listings
use Rattle.bf_days.proofs.laws.listing_is_unique.Goals as goal

pub returns : goal.returns
returns c = listings.one_listing
