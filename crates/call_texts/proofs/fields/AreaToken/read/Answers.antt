use Rattle.std.proofs.Common.{◌≡◌, refl, arith}
use Rattle.std.proofs.lemmas.Grind.{common_steps}
use Rattle.line_grammar.specs.inside.Reading.{read_token, read_shape}
use Rattle.call_texts.proofs.FieldSteps.{passed_on}
use Rattle.call_texts.proofs.fields.AreaToken.read.Goals as goal

pub returns-in_err-quadrant-clause-left : goal.returns-in_err-quadrant-clause-left
unfolding read_token read_shape
returns-in_err-quadrant-clause-left c = passed_on _ _ _ c.from_residual.ensures.1 (rw (c.in_err-quadrant.ensures.left) refl)

pub returns-in_err-latitude-clause-left : goal.returns-in_err-latitude-clause-left
unfolding read_token read_shape
returns-in_err-latitude-clause-left c = passed_on _ _ _ c.from_residual-in_err-latitude.ensures.1 (rw (c.in_ok-quadrant.ensures.value, c.in_err-latitude.ensures.left) refl)

pub returns-in_err-longitude-clause-left : goal.returns-in_err-longitude-clause-left
unfolding read_token read_shape
returns-in_err-longitude-clause-left c = passed_on _ _ _ c.from_residual-in_err-longitude.ensures.1 (rw (c.in_ok-quadrant.ensures.value, c.in_ok-latitude.ensures.value, c.in_err-longitude.ensures.left) refl)

pub returns-in_err-south-clause-left : goal.returns-in_err-south-clause-left
unfolding read_token read_shape
returns-in_err-south-clause-left c = passed_on _ _ _ c.from_residual-in_err-south.ensures.1 (rw (c.in_ok-quadrant.ensures.value, c.in_ok-latitude.ensures.value, c.in_ok-longitude.ensures.value, c.in_err-south.ensures.left) refl)

pub returns-in_err-east-clause-left : goal.returns-in_err-east-clause-left
unfolding read_token read_shape
returns-in_err-east-clause-left c = passed_on _ _ _ c.from_residual-in_err-east.ensures.1 (rw (c.in_ok-quadrant.ensures.value, c.in_ok-latitude.ensures.value, c.in_ok-longitude.ensures.value, c.in_ok-south.ensures.value, c.in_err-east.ensures.left) refl)

pub returns-clause-value : goal.returns-clause-value
unfolding read_token read_shape
returns-clause-value c =
    let value : c.unwrap-area.result ≡ record { quadrant = c.in_ok-quadrant.quadrant; latitude = c.in_ok-latitude.latitude; longitude = c.in_ok-longitude.longitude; south = c.in_ok-south.south; east = c.in_ok-east.east } = grind (arith, common_steps) in
    rw (value, c.in_ok-quadrant.ensures.value, c.in_ok-latitude.ensures.value, c.in_ok-longitude.ensures.value, c.in_ok-south.ensures.value, c.in_ok-east.ensures.value) refl
