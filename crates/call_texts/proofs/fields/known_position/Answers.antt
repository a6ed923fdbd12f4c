use Rattle.std.proofs.Common.{◌≡◌, Some, arith}
use Rattle.std.proofs.lemmas.Grind.{common_steps}
use Rattle.call_texts.proofs.FieldSteps.{passed_on, first_missed, second_missed, pair_read}
use Rattle.call_texts.proofs.fields.known_position.Goals as goal

pub returns-in_err-quadrant-clause-left : goal.returns-in_err-quadrant-clause-left
returns-in_err-quadrant-clause-left c = passed_on _ _ _ c.from_residual.ensures.1 (first_missed _ _ _ _ c.in_err-quadrant.ensures.left)

pub returns-in_err-lat_deg-clause-left : goal.returns-in_err-lat_deg-clause-left
returns-in_err-lat_deg-clause-left c =
    passed_on _ _ _ c.from_residual-in_err-lat_deg.ensures.1
    (second_missed _ _ _ _ _ _ c.in_ok-quadrant.ensures.value (first_missed _ _ _ _ c.in_err-lat_deg.ensures.left))

pub returns-in_err-lon_deg-clause-left : goal.returns-in_err-lon_deg-clause-left
returns-in_err-lon_deg-clause-left c =
    passed_on _ _ _ c.from_residual-in_err-lon_deg.ensures.1
    (second_missed _ _ _ _ _ _ c.in_ok-quadrant.ensures.value
    (second_missed _ _ _ _ _ _ c.in_ok-lat_deg.ensures.value c.in_err-lon_deg.ensures.left))

pub returns-clause-value : goal.returns-clause-value
returns-clause-value c =
    let lat = c.in_ok-lat_deg in
    let lon = c.in_ok-lon_deg in
    let value : c.unwrap.result ≡ Some (record { quadrant = c.in_ok-quadrant.quadrant; lat_deg = lat.lat_deg; lat_min = lat.lat_min; lon_deg = lon.lon_deg; lon_min = lon.lon_min }) = grind (arith, common_steps) in
    rw value (pair_read _ _ _ _ _ _ _ c.in_ok-quadrant.ensures.value (pair_read _ _ _ _ _ _ _ lat.ensures.value lon.ensures.value))
