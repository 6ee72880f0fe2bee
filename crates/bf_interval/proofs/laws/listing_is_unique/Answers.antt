use Rattle.bf_interval.proofs.OneListing as listings
use Rattle.bf_interval.proofs.laws.listing_is_unique.Goals as goal

pub returns : goal.returns
returns c = listings.one_listing
