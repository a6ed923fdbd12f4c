use Rattle.dsc_cmd.specs.Promises.{spoken}
use Rattle.dsc_cmd.proofs.Promised as promised
use Rattle.dsc_cmd.proofs.SentJoins as joins
use Rattle.dsc_cmd.proofs.promises.runs_of_words.Goals as goal

pub returns-clause-answered : goal.returns-clause-answered
returns-clause-answered g c = promised.answered (spoken c.args.words.now) g.S.Source g.K.Sink c.args.from.now c.args.rest.now c.args.before.now c.args.after.now c.args.status c.one_plan.ensures c.requires

pub returns-clause-faulty : goal.returns-clause-faulty
returns-clause-faulty g c = promised.faulty (spoken c.args.words.now) g.S.Source g.K.Sink c.args.from.now c.args.rest.now c.args.before.now c.args.after.now c.args.status c.one_plan.ensures c.requires

pub returns-clause-stopped : goal.returns-clause-stopped
returns-clause-stopped g c = promised.stopped (spoken c.args.words.now) g.S.Source g.K.Sink c.args.from.now c.args.rest.now c.args.before.now c.args.after.now c.args.status c.one_plan.ensures c.requires

pub returns-clause-unwritten : goal.returns-clause-unwritten
returns-clause-unwritten g c = promised.unwritten (spoken c.args.words.now) g.S.Source g.K.Sink c.args.from.now c.args.rest.now c.args.before.now c.args.after.now c.args.status c.one_plan.ensures c.requires

pub returns-clause-completes : goal.returns-clause-completes
returns-clause-completes g c = promised.completes (spoken c.args.words.now) g.S.Source g.K.Sink c.args.from.now c.args.rest.now c.args.before.now c.args.after.now c.args.status c.one_plan.ensures c.requires

pub returns-clause-planned : goal.returns-clause-planned
returns-clause-planned g c = promised.planned (spoken c.args.words.now) g.S.Source g.K.Sink c.args.from.now c.args.rest.now c.args.before.now c.args.after.now c.args.status c.requires

pub returns-clause-unplanned : goal.returns-clause-unplanned
returns-clause-unplanned g c = promised.unplanned (spoken c.args.words.now) g.S.Source g.K.Sink c.args.from.now c.args.rest.now c.args.before.now c.args.after.now c.args.status c.requires

pub returns-clause-words : goal.returns-clause-words
returns-clause-words g c = promised.refused (spoken c.args.words.now) g.S.Source g.K.Sink c.args.from.now c.args.rest.now c.args.before.now c.args.after.now c.args.status c.requires

pub returns-clause-unread : goal.returns-clause-unread
returns-clause-unread g c = promised.unread (spoken c.args.words.now) g.S.Source g.K.Sink c.args.from.now c.args.rest.now c.args.before.now c.args.after.now c.args.status c.requires

pub returns-clause-read_fault : goal.returns-clause-read_fault
returns-clause-read_fault g c = promised.read_fault (spoken c.args.words.now) g.S.Source g.K.Sink c.args.from.now c.args.rest.now c.args.before.now c.args.after.now c.args.status c.requires

pub returns-clause-write_fault : goal.returns-clause-write_fault
returns-clause-write_fault g c = promised.write_fault (spoken c.args.words.now) g.S.Source g.K.Sink c.args.from.now c.args.rest.now c.args.before.now c.args.after.now c.args.status c.requires

pub returns-clause-cut : goal.returns-clause-cut
returns-clause-cut g c = promised.cut (spoken c.args.words.now) g.S.Source g.K.Sink c.args.from.now c.args.rest.now c.args.before.now c.args.after.now c.args.status c.requires

pub returns-clause-memory : goal.returns-clause-memory
returns-clause-memory g c = promised.memory (spoken c.args.words.now) g.S.Source g.K.Sink c.args.from.now c.args.rest.now c.args.before.now c.args.after.now c.args.status c.requires

pub returns-clause-unflushed : goal.returns-clause-unflushed
returns-clause-unflushed g c = promised.unflushed (spoken c.args.words.now) g.S.Source g.K.Sink c.args.from.now c.args.rest.now c.args.before.now c.args.after.now c.args.status c.requires

pub returns-clause-read_sound : goal.returns-clause-read_sound
returns-clause-read_sound g c = promised.read_sound (spoken c.args.words.now) g.S.Source g.K.Sink c.args.from.now c.args.rest.now c.args.before.now c.args.after.now c.args.status c.requires

pub returns-clause-write_sound : goal.returns-clause-write_sound
returns-clause-write_sound g c = promised.write_sound (spoken c.args.words.now) g.S.Source g.K.Sink c.args.from.now c.args.rest.now c.args.before.now c.args.after.now c.args.status c.requires

pub returns-clause-range : goal.returns-clause-range
returns-clause-range g c = promised.range (spoken c.args.words.now) g.S.Source g.K.Sink c.args.from.now c.args.rest.now c.args.before.now c.args.after.now c.args.status c.requires

pub returns-clause-refuses_words : goal.returns-clause-refuses_words
returns-clause-refuses_words g c = promised.refuses_words (spoken c.args.words.now) g.S.Source g.K.Sink c.args.from.now c.args.rest.now c.args.before.now c.args.after.now c.args.status c.requires

pub returns-clause-reported : goal.returns-clause-reported
returns-clause-reported g c = joins.reported g.S.Source g.K.Sink c.args.from.now c.args.rest.now c.args.before.now c.args.after.now c.args.status
