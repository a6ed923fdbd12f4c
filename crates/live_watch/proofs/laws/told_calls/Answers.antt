use Rattle.live_watch.proofs.Telling.{answered, told_of_more}
use Rattle.live_watch.proofs.Sending.{sent_call}
use Rattle.live_watch.proofs.laws.told_calls.Goals as goal

pub returns-clause-answered : goal.returns-clause-answered
returns-clause-answered c = λ F call extra is. answered c.one_check_place.ensures c.one_end_place.ensures F call extra is

pub returns-clause-more : goal.returns-clause-more
returns-clause-more c = λ F G call among told. told_of_more F G among call told

pub returns-clause-sent : goal.returns-clause-sent
returns-clause-sent c = λ F call other lawful only told. sent_call c.formats_begin_calls.ensures F other told call only c.call_or_missing_place.ensures lawful
