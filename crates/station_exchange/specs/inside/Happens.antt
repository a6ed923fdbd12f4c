-- What an event line gives after a history.
use Rattle.std.specs.Prelude.{◌≡◌, ℕ, Bool, List, ◌++◌}
use Rattle.exchange.specs.declared.events.WorldEvent.{WorldEvent}
use Rattle.exchange.specs.AlertEnds.{is_accepted}
use Rattle.exchange.specs.WorldHistories.{WorldHistory, histories_of}
use Rattle.exchange.specs.WorldRules.{Parties, answer_behind, world_continued}
use Rattle.exchange.specs.StandsFor.{WorldParts, StandsFor as WorldStandsFor}
use Rattle.station_exchange.specs.Output.{entry_lines}

-- after this history an event happened: the exchange stands for the history after it, its lines are written, and it was
-- accepted or not
pub record Happens (who : Parties) (w : WorldHistory) (event : WorldEvent) (parts : WorldParts) (before after : List ℕ) (accepted : Bool) : Type 0 where
  pub stands : WorldStandsFor parts who (world_continued who w event)
  pub lines : after ≡ before ++ entry_lines (record { event = event; gave = answer_behind who (histories_of w) event })
  pub well : accepted ≡ is_accepted (answer_behind who (histories_of w) event)
