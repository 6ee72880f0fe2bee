use Rattle.std.proofs.lemmas.List.Elements.{Contains-get_or}
use Rattle.bf_graph.proofs.climb.first_unranked_from.Goals as goal

pub bounds-ranks-upstreams : goal.bounds-ranks-upstreams
bounds-ranks-upstreams c = c.requires _ (Contains-get_or c.args.upstreams.now c.loop-place.place 0 c.loop-place-test.true)
