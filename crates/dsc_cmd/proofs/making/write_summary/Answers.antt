use Rattle.std.proofs.Common.{ℕ, List, cond, inl, refl, subst}
use Rattle.std.specs.List.{list_all}
use Rattle.line_engine.specs.Endings.{Writes, WritesFront}
use Rattle.slot_join.specs.Answer.{is_reported}
use Rattle.generated_join.specs.Generator.{generated}
use Rattle.generated_join.specs.Summary.{Answered}
use Rattle.dsc_cmd.proofs.MadeEndings.{no_cut}
use Rattle.dsc_cmd.proofs.making.write_summary.Goals as goal

pub returns-in-Ok-clause-which : goal.returns-in-Ok-clause-which
returns-in-Ok-clause-which g c = inl c.status_of.ensures.which

pub returns-in-Ok-clause-done : goal.returns-in-Ok-clause-done
returns-in-Ok-clause-done g c = λ finished. record {
  text = c.text.result.items;
  is_made = record {
    summary = c.args.summary.now;
    is_summary = c.requires;
    text_is = c.text.ensures;
    status_is = c.status_of.ensures.whole (generated c.args.groups) c.requires;
  };
  writes = subst (λ (text : List ℕ). Writes (g.K.Sink.written c.args.sink.now) (g.K.Sink.written c.write_flushed.new.sink) (g.K.Sink.flushed c.write_flushed.new.sink) text)
      c.deref.ensures.0 c.in-Ok.ensures.ok;
}

pub returns-in-Ok-clause-cut : goal.returns-in-Ok-clause-cut
returns-in-Ok-clause-cut g c = λ cut. absurd (no_cut c.status_of.result c.status_of.ensures.which cut)

pub returns-in-Ok-clause-cause : goal.returns-in-Ok-clause-cause
returns-in-Ok-clause-cause g c = λ cut. absurd (no_cut c.status_of.result c.status_of.ensures.which cut)

pub returns-in-Err-clause-cut : goal.returns-in-Err-clause-cut
returns-in-Err-clause-cut g c = λ cut. record {
  text = c.text.result.items;
  status = cond {A = ℕ} (list_all (λ (one : Answered). is_reported one.answer) c.requires.all) 0 1;
  is_made = record {
    summary = c.args.summary.now;
    is_summary = c.requires;
    text_is = c.text.ensures;
    status_is = refl;
  };
  writes = subst (λ (text : List ℕ). WritesFront (g.K.Sink.written c.args.sink.now) (g.K.Sink.written c.write_flushed.new.sink) text) c.deref.ensures.0 c.in-Err.ensures.front;
}
