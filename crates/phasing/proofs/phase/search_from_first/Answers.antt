use Rattle.std.proofs.Common.{lit≤}
use Rattle.phasing.specs.inside.Places.{element_at}
use Rattle.phasing.proofs.phase.search_from_first.Goals as goal

pub search_block-fourth-requires-clause-first : goal.search_block-fourth-requires-clause-first
search_block-fourth-requires-clause-first g c = c.likely_marked-first.ensures 150 (element_at (g.E.Elements.list c.args.e)) (lit≤ tt) c.planes_from.ensures c.planes_from-middle.ensures

pub search_block-fourth-requires-clause-second : goal.search_block-fourth-requires-clause-second
search_block-fourth-requires-clause-second g c = c.likely_marked-second.ensures 214 (element_at (g.E.Elements.list c.args.e)) (lit≤ tt) c.planes_from-middle.ensures c.planes_from-last.ensures

pub search_block-fourth-requires-clause-third : goal.search_block-fourth-requires-clause-third
search_block-fourth-requires-clause-third g c = c.likely_marked-third.ensures 278 (element_at (g.E.Elements.list c.args.e)) (lit≤ tt) c.planes_from-last.ensures c.planes_from-behind.ensures

pub first_within-far-requires-clause-first : goal.first_within-far-requires-clause-first
first_within-far-requires-clause-first g c = c.likely_marked-second.ensures 214 (element_at (g.E.Elements.list c.args.e)) (lit≤ tt) c.planes_from-middle.ensures c.planes_from-last.ensures

pub first_within-far-requires-clause-second : goal.first_within-far-requires-clause-second
first_within-far-requires-clause-second g c = c.likely_marked-third.ensures 278 (element_at (g.E.Elements.list c.args.e)) (lit≤ tt) c.planes_from-last.ensures c.planes_from-behind.ensures
