use Rattle.slot_evidence.specs.Sheet.{facts_in}
use Rattle.live_watch.proofs.Polling.{first_news}
use Rattle.live_watch.proofs.watchers.news_of.Goals as goal

pub returns-in-None : goal.returns-in-None
returns-in-None c = first_news c.one_answer.ensures c.args.sheet.now c.report.result c.args.told c.first_news.result c.in-None.is (c.report.ensures (facts_in c.args.sheet.now) c.sheet_has_facts.ensures) c.first_news.ensures
