use Rattle.std.proofs.Common.{◌≡◌, ◌-◌, ◌≤◌, List, ℕ, [], length, drop, refl, sym, ◌∙◌, ap, subst, arith, length-drop}
use Rattle.std.proofs.lemmas.Result.{MatchResult-weaker, IfErr-at_err, on_ok_weaker}
use Rattle.byte_streams.proofs.PublicLaws.{Loses-none}
use Rattle.line_engine.specs.declared.halts.Halt.TheVariants as halt
use Rattle.line_engine.specs.inside.Progress.{PassesLimit}
use Rattle.line_engine.proofs.Cutting.{is_text}
use Rattle.line_engine.proofs.Going.{on_start, on_written, on_left, on_paused, on_counted, stopped, stops_in_write, stops_in_pause, stops_open, not_read}
use Rattle.line_engine.proofs.Pieces.{exit_is, no_window, read_on, stops_after, text_still, runs_through, runs_into_last, few_bytes}
use Rattle.line_engine.proofs.Writing.{nothing_written, exit}
use Rattle.line_engine.proofs.driving.take_input.Goals as goal

pub returns-in_err-window-clause-stopped : goal.returns-in_err-window-clause-stopped
returns-in_err-window-clause-stopped g c =
    exit c.from_residual.result halt.Memory _ c.from_residual.ensures.1
    (no_window g.C.Command.meaning g.C.Command.stands_for g.K.Sink.written g.K.Sink.faults (g.S.Source.left c.args.source.now) c.args.sink.now c.args.command.now c.args.out.now.items g.met.C.Command.gives c.requires.fresh)

pub loop-window-init : goal.loop-window-init
loop-window-init g c =
    let none : length c.in_ok-window.window ≡ 0 = ap length c.in_ok-window.ensures in
    record {
      taken = [];
      lost = Loses-none (g.S.Source.left c.args.source.now);
      sound = refl;
      flushed = refl;
      most = omega arith;
      few = omega arith;
      within = omega arith;
      some = λ is. omega arith;
      short = omega arith;
      is_open = ap is_text c.in_ok-window.ensures;
      on = on_left (sym c.in_ok-window.ensures) (on_start c.args.out.now.items c.requires.empty c.requires.fresh (nothing_written g.K.Sink.written g.K.Sink.faults c.args.sink.now));
    }

pub returns-in_err-write_pending-clause-stopped : goal.returns-in_err-write_pending-clause-stopped
returns-in_err-write_pending-clause-stopped g c =
    let was = c.loop-window.invariant in
    let h = c.in_err-write_pending.field-0.0 in
    let new = c.write_pending.new.sink in
    let after = c.write_pending.new.out.items in
    let left = g.S.Source.left c.loop-window.source in
    let within : length was.taken ≤ 275447808 = omega (arith, was.most, was.few) in
    exit c.from_residual-in_err-write_pending.result h _ c.from_residual-in_err-write_pending.ensures.1
    (stopped (g.S.Source.left c.args.source.now) left c.args.sink.now new was.taken after h was.lost within (stops_in_write new after left g.met.C.Command.gives was.on h c.in_err-write_pending.ensures.failed))

pub take_last-requires-clause-counted : goal.take_last-requires-clause-counted
take_last-requires-clause-counted g c =
    let on = c.loop-window.invariant.on in
    on_counted (on_written c.write_pending.new.out.items c.in_ok-write_pending.ensures.emptied on (c.in_ok-write_pending.ensures.wrote c.args.sink.now on.text on.wrote))

pub take_lines-requires-clause-counted : goal.take_lines-requires-clause-counted
take_lines-requires-clause-counted g c =
    let on = c.loop-window.invariant.on in
    on_counted (on_written c.write_pending.new.out.items c.in_ok-write_pending.ensures.emptied on (c.in_ok-write_pending.ensures.wrote c.args.sink.now on.text on.wrote))

pub returns-in-Ok-eq0-clause-through : goal.returns-in-Ok-eq0-clause-through
returns-in-Ok-eq0-clause-through g c =
    let was = c.loop-window.invariant in
    let given = c.in-Ok-eq0.ensures.given in
    let is = read_on (g.S.Source.left c.args.source.now) (g.S.Source.left c.loop-window.source) (g.S.Source.left c.read.new.source) c.write_pending.new.out.items given.0 c.bytes.result.now c.in-Ok-eq0.field-0 was.on was.lost was.most was.few
    c.in_ok-write_pending.ensures.emptied (c.in_ok-write_pending.ensures.wrote c.args.sink.now was.on.text was.on.wrote) (c.bytes.ensures ∙ given.1) given.2 c.in-Ok-eq0.ensures.most given.3 in
    let none : c.in-Ok-eq0.field-0 ≡ 0 = omega arith in
    on_ok_weaker c.take_last.result (runs_through c.bytes.result.now c.take_last.new.command c.take_last.new.out.items (c.in-Ok-eq0.ensures.end none) is) c.take_last.ensures.taken

pub returns-in-Ok-eq0-clause-stopped : goal.returns-in-Ok-eq0-clause-stopped
returns-in-Ok-eq0-clause-stopped g c =
    let was = c.loop-window.invariant in
    let given = c.in-Ok-eq0.ensures.given in
    let is = read_on (g.S.Source.left c.args.source.now) (g.S.Source.left c.loop-window.source) (g.S.Source.left c.read.new.source) c.write_pending.new.out.items given.0 c.bytes.result.now c.in-Ok-eq0.field-0 was.on was.lost was.most was.few
    c.in_ok-write_pending.ensures.emptied (c.in_ok-write_pending.ensures.wrote c.args.sink.now was.on.text was.on.wrote) (c.bytes.ensures ∙ given.1) given.2 c.in-Ok-eq0.ensures.most given.3 in
    let none : c.in-Ok-eq0.field-0 ≡ 0 = omega arith in
    let text = text_still c.loop-window.window given.0 c.bytes.result.now was.is_open (given.2 ∙ none) (c.bytes.ensures ∙ given.1) in
    MatchResult-weaker c.take_last.result c.take_last.ensures.stopped (λ _ _. tt) (runs_into_last c.bytes.result.now c.take_last.new.out.items g.met.C.Command.gives (c.in-Ok-eq0.ensures.end none) text is)

pub returns-in-Ok-eq0-clause-cause : goal.returns-in-Ok-eq0-clause-cause
returns-in-Ok-eq0-clause-cause g c = λ e.
    let was = c.loop-window.invariant in
    let given = c.in-Ok-eq0.ensures.given in
    let is = read_on (g.S.Source.left c.args.source.now) (g.S.Source.left c.loop-window.source) (g.S.Source.left c.read.new.source) c.write_pending.new.out.items given.0 c.bytes.result.now c.in-Ok-eq0.field-0 was.on was.lost was.most was.few
    c.in_ok-write_pending.ensures.emptied (c.in_ok-write_pending.ensures.wrote c.args.sink.now was.on.text was.on.wrote) (c.bytes.ensures ∙ given.1) given.2 c.in-Ok-eq0.ensures.most given.3 in
    absurd ((IfErr-at_err _ e c.take_last.ensures.stopped).1 is.on.lines is.on.text is.on.stands is.on.count_is)

pub returns-in_err-walked-clause-stopped : goal.returns-in_err-walked-clause-stopped
returns-in_err-walked-clause-stopped g c =
    let was = c.loop-window.invariant in
    let given = c.in-Ok.ensures.given in
    let is = read_on (g.S.Source.left c.args.source.now) (g.S.Source.left c.loop-window.source) (g.S.Source.left c.read.new.source) c.write_pending.new.out.items given.0 c.bytes-in-loop-window.result.now c.in-Ok.field-0 was.on was.lost was.most was.few
    c.in_ok-write_pending.ensures.emptied (c.in_ok-write_pending.ensures.wrote c.args.sink.now was.on.text was.on.wrote) (c.bytes-in-loop-window.ensures ∙ given.1) given.2 c.in-Ok.ensures.most given.3 in
    let h = c.in_err-walked.field-0.0 in
    exit c.from_residual-in_err-walked.result h _ c.from_residual-in_err-walked.ensures.1
    (stops_after c.take_lines.new.sink c.take_lines.new.out.items is h (c.in_err-walked.ensures.stopped c.args.sink.now (g.S.Source.left c.read.new.source) is.taken is.on))

pub returns-in_err-walked-clause-cause : goal.returns-in_err-walked-clause-cause
returns-in_err-walked-clause-cause g c = λ e.
    let was = c.loop-window.invariant in
    let given = c.in-Ok.ensures.given in
    let is = read_on (g.S.Source.left c.args.source.now) (g.S.Source.left c.loop-window.source) (g.S.Source.left c.read.new.source) c.write_pending.new.out.items given.0 c.bytes-in-loop-window.result.now c.in-Ok.field-0 was.on was.lost was.most was.few
    c.in_ok-write_pending.ensures.emptied (c.in_ok-write_pending.ensures.wrote c.args.sink.now was.on.text was.on.wrote) (c.bytes-in-loop-window.ensures ∙ given.1) given.2 c.in-Ok.ensures.most given.3 in
    let h = c.in_err-walked.field-0.0 in
    let left = g.S.Source.left c.read.new.source in
    let stops = c.in_err-walked.ensures.stopped c.args.sink.now left is.taken is.on in
    absurd (not_read g.C.Command.meaning g.K.Sink.written g.K.Sink.faults c.args.sink.now c.take_lines.new.sink left is.taken c.take_lines.new.out.items h stops (exit_is c.from_residual-in_err-walked.result h halt.Read c.from_residual-in_err-walked.ensures.1 e))

pub loop-window-preserved : goal.loop-window-preserved
loop-window-preserved g c =
    let was = c.loop-window.invariant in
    let given = c.in-Ok.ensures.given in
    let is = read_on (g.S.Source.left c.args.source.now) (g.S.Source.left c.loop-window.source) (g.S.Source.left c.read.new.source) c.write_pending.new.out.items given.0 c.bytes-in-loop-window.result.now c.in-Ok.field-0 was.on was.lost was.most was.few
    c.in_ok-write_pending.ensures.emptied (c.in_ok-write_pending.ensures.wrote c.args.sink.now was.on.text was.on.wrote) (c.bytes-in-loop-window.ensures ∙ given.1) given.2 c.in-Ok.ensures.most given.3 in
    let bytes = c.bytes-in-loop-window.result.now in
    let walked = c.in_ok-walked.walked in
    let kept : c.keep_last.new.self ≡ drop (length bytes - walked.left) bytes = c.keep_last.ensures ∙ ap (λ (l : List ℕ). drop (length l - walked.left) l) (sym c.bytes-in-loop-window.ensures) in
    let left : walked.left ≤ length bytes = c.in_ok-walked.ensures.left in
    let len : length c.keep_last.new.self ≡ walked.left = omega (arith, ap length kept, length-drop (length bytes - walked.left) bytes) in
    let most = is.most in
    let goes_on = c.in_ok-walked.ensures.goes_on in
    let within = c.in_ok-check_open.ensures.within in
    let few = c.in_ok-walked.ensures.few in
    record {
      taken = is.taken;
      lost = is.lost;
      sound = c.in-Ok.ensures.sound ∙ was.sound;
      flushed = c.take_lines.ensures.not_flushed ∙ c.write_pending.ensures.not_flushed ∙ was.flushed;
      most = omega arith;
      few = few_bytes walked.count walked.left _ few within.0 within.1 len;
      within = few;
      some = λ is. omega arith;
      short = omega arith;
      is_open = ap is_text kept ∙ c.in_ok-walked.ensures.open_end;
      on = on_paused c.pause.new.out.items c.in_ok-pause.ensures.stands (on_left (sym kept) (c.in_ok-walked.ensures.on c.args.sink.now is.taken is.on));
    }

pub returns-in_err-check_open-clause-stopped : goal.returns-in_err-check_open-clause-stopped
returns-in_err-check_open-clause-stopped g c =
    let was = c.loop-window.invariant in
    let given = c.in-Ok.ensures.given in
    let is = read_on (g.S.Source.left c.args.source.now) (g.S.Source.left c.loop-window.source) (g.S.Source.left c.read.new.source) c.write_pending.new.out.items given.0 c.bytes-in-loop-window.result.now c.in-Ok.field-0 was.on was.lost was.most was.few
    c.in_ok-write_pending.ensures.emptied (c.in_ok-write_pending.ensures.wrote c.args.sink.now was.on.text was.on.wrote) (c.bytes-in-loop-window.ensures ∙ given.1) given.2 c.in-Ok.ensures.most given.3 in
    let bytes = c.bytes-in-loop-window.result.now in
    let walked = c.in_ok-walked.walked in
    let left : walked.left ≤ length bytes = c.in_ok-walked.ensures.left in
    let len : length (drop (length bytes - walked.left) bytes) ≡ walked.left = omega (arith, length-drop (length bytes - walked.left) bytes) in
    let on = c.in_ok-walked.ensures.on c.args.sink.now is.taken is.on in
    let passed = c.in_err-check_open.ensures.passed in
    let h = c.in_err-check_open.field-0.0 in
    let source = g.S.Source.left c.read.new.source in
    exit c.from_residual-in_err-check_open.result h _ c.from_residual-in_err-check_open.ensures.1
    (stops_after c.take_lines.new.sink c.take_lines.new.out.items is h
    (stops_open source g.met.C.Command.gives c.in_ok-walked.ensures.open_end (omega (arith, passed.0)) on h (subst (λ (n : ℕ). PassesLimit walked.count n h) (sym len) passed.1)))

pub returns-in_err-pause-clause-stopped : goal.returns-in_err-pause-clause-stopped
returns-in_err-pause-clause-stopped g c =
    let was = c.loop-window.invariant in
    let given = c.in-Ok.ensures.given in
    let is = read_on (g.S.Source.left c.args.source.now) (g.S.Source.left c.loop-window.source) (g.S.Source.left c.read.new.source) c.write_pending.new.out.items given.0 c.bytes-in-loop-window.result.now c.in-Ok.field-0 was.on was.lost was.most was.few
    c.in_ok-write_pending.ensures.emptied (c.in_ok-write_pending.ensures.wrote c.args.sink.now was.on.text was.on.wrote) (c.bytes-in-loop-window.ensures ∙ given.1) given.2 c.in-Ok.ensures.most given.3 in
    let on = c.in_ok-walked.ensures.on c.args.sink.now is.taken is.on in
    let h = c.in_err-pause.field-0.0 in
    exit c.from_residual-in_err-pause.result h _ c.from_residual-in_err-pause.ensures.1
    (stops_after c.take_lines.new.sink c.pause.new.out.items is h
    (stops_in_pause c.pause.new.out.items (g.S.Source.left c.read.new.source) g.met.C.Command.gives on h c.in_err-pause.ensures.stopped))
