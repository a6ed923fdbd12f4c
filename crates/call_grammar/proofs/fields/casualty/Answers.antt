use Rattle.symbol_reader.proofs.Laws.{only_good}
use Rattle.symbol_reader.proofs.Steps.{alike, next, stop, fail, only_read}
use Rattle.call_grammar.proofs.IdentityParts.{identity_good}
use Rattle.call_grammar.proofs.SymbolParts.{nature_good, comm_good}
use Rattle.call_grammar.proofs.PositionParts.{position_good}
use Rattle.call_grammar.proofs.TimeParts.{time_good}
use Rattle.call_grammar.proofs.CasualtyParts.{casualty_of, casualty_alike, after_identity_good, after_nature_good, after_position_good, after_time_good}
use Rattle.call_grammar.proofs.fields.casualty.Goals as goal

pub returns-in_err-mmsi : goal.returns-in_err-mmsi
returns-in_err-mmsi c = fail c.from_residual.ensures.1 (alike casualty_alike
    (stop identity_good (λ m _ _. after_identity_good m) c.in_err-mmsi.ensures))

pub returns-in_err-nature : goal.returns-in_err-nature
returns-in_err-nature c = fail c.from_residual-in_err-nature.ensures.1 (alike casualty_alike
    (next identity_good c.in_ok-mmsi.ensures
    (stop nature_good (λ n _ _. after_nature_good c.in_ok-mmsi.mmsi n) c.in_err-nature.ensures)))

pub returns-in_err-position : goal.returns-in_err-position
returns-in_err-position c = fail c.from_residual-in_err-position.ensures.1 (alike casualty_alike
    (next identity_good c.in_ok-mmsi.ensures
    (next nature_good c.in_ok-nature.ensures
    (stop position_good (λ p _ _. after_position_good c.in_ok-mmsi.mmsi c.in_ok-nature.nature p) c.in_err-position.ensures))))

pub returns-in_err-time : goal.returns-in_err-time
returns-in_err-time c = fail c.from_residual-in_err-time.ensures.1 (alike casualty_alike
    (next identity_good c.in_ok-mmsi.ensures
    (next nature_good c.in_ok-nature.ensures
    (next position_good c.in_ok-position.ensures
    (stop time_good (λ t _ _. after_time_good c.in_ok-mmsi.mmsi c.in_ok-nature.nature c.in_ok-position.position t) c.in_err-time.ensures)))))

pub returns-in_err-comm : goal.returns-in_err-comm
returns-in_err-comm c = fail c.from_residual-in_err-comm.ensures.1 (alike casualty_alike
    (next identity_good c.in_ok-mmsi.ensures
    (next nature_good c.in_ok-nature.ensures
    (next position_good c.in_ok-position.ensures
    (next time_good c.in_ok-time.ensures
    (stop comm_good
    (λ k _ _. only_good (casualty_of c.in_ok-mmsi.mmsi c.in_ok-nature.nature c.in_ok-position.position c.in_ok-time.time k)) c.in_err-comm.ensures))))))

pub returns : goal.returns
returns c = alike casualty_alike
    (next identity_good c.in_ok-mmsi.ensures
    (next nature_good c.in_ok-nature.ensures
    (next position_good c.in_ok-position.ensures
    (next time_good c.in_ok-time.ensures
    (next comm_good c.in_ok-comm.ensures
    (only_read _ _))))))
