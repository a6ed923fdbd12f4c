use Rattle.std.proofs.Common.{◌≡◌, ◌+◌, List, ℕ, drop, true, refl, sym, ◌∙◌, subst, arith}
use Rattle.line_engine.proofs.Cutting.{is_text, behind_feed, still_left, length_behind, is_line, text_first, text_all}
use Rattle.line_engine.proofs.Going.{on_left}
use Rattle.line_engine.proofs.Writing.{exit}
use Rattle.line_engine.proofs.walk.take_lines.Goals as goal

pub returns-in_err-take_and_write-clause-stopped : goal.returns-in_err-take_and_write-clause-stopped
returns-in_err-take_and_write-clause-stopped g c =
    let rest = c.loop-at.rest.now in
    let feed = c.in-Some.ensures in
    let split = is_line rest c.split_at.result.0.now (drop (c.in-Some.at + 1) rest) c.in-Some.at feed.0 feed.1 c.split_at.ensures.front refl in
    let text : is_text c.split_at.result.0.now ≡ true = subst (λ (l : List ℕ). is_text l ≡ true) (sym c.split_at.ensures.front) (text_first rest c.in-Some.at feed.0) in
    exit c.from_residual.result c.in_err-take_and_write.field-0.0 _ c.from_residual.ensures.1
    (λ start left taken on. c.in_err-take_and_write.ensures.stopped start left taken _ text (on_left split (c.loop-at.invariant.on start taken on)))

pub loop-at-preserved : goal.loop-at-preserved
loop-at-preserved g c =
    let was = c.loop-at.invariant in
    let bytes = c.args.bytes.now in
    let rest = c.loop-at.rest.now in
    let at = c.in-Some.at in
    let feed = c.in-Some.ensures in
    let new = behind_feed rest c.split_at.result.1.now at c.split_at.ensures.back in
    let split = is_line rest c.split_at.result.0.now _ at feed.0 feed.1 c.split_at.ensures.front new in
    let text : is_text c.split_at.result.0.now ≡ true = subst (λ (l : List ℕ). is_text l ≡ true) (sym c.split_at.ensures.front) (text_first rest at feed.0) in
    let high = feed.0.high in
    let len = length_behind rest _ at high new in
    let within = c.in_ok-take_and_write.ensures.within in
    record {
      left = still_left bytes rest _ at was.left was.less high new;
      less = omega arith;
      few = omega arith;
      goes_on = omega (arith, was.goes_on, within.1, c.split_at.ensures.front_len, len);
      flushed = c.take_and_write.ensures.not_flushed ∙ was.flushed;
      counted = c.in_ok-take_and_write.ensures.counted;
      on = λ start taken on. c.in_ok-take_and_write.ensures.on start taken _ text (on_left split (was.on start taken on));
    }

pub returns-clause-open_end : goal.returns-clause-open_end
returns-clause-open_end g c =
    subst (λ (l : List ℕ). is_text l ≡ true) c.loop-at.invariant.left (text_all c.loop-at.rest.now c.in_default.ensures)
