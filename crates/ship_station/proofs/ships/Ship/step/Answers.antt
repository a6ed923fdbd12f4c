use Rattle.std.proofs.lemmas.Result.{err_from_is_err_and}
use Rattle.ship_station.proofs.ships.Ship.step.Goals as goal

pub returns-in_err-step_into : goal.returns-in_err-step_into
returns-in_err-step_into c =
    let p = err_from_is_err_and c.from_residual.result c.from_residual.ensures.1 in
    rw (p.1, p.2) (record {
      answers = c.in_err-step_into.ensures.answers;
      goes_on = c.in_err-step_into.ensures.goes_on;
      unchanged = c.in_err-step_into.ensures.unchanged;
    })

pub returns : goal.returns
returns c = record {
  answers = c.in_ok-step_into.ensures.answers;
  goes_on = c.in_ok-step_into.ensures.goes_on;
  unchanged = tt;
}
