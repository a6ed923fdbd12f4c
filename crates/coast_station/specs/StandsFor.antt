-- The histories that a coast station stands for: this project's profile.
use Rattle.std.specs.Prelude.{◌≡◌}
use Rattle.traffic_rules.specs.Histories.{History, last_moment}
use Rattle.traffic_rules.specs.Rules.{Legal}
use Rattle.coast_station.specs.declared.events.CoastWhat.{CoastWhat}
use Rattle.coast_station.specs.declared.coasts.Coast.{Coast}
use Rattle.coast_station.specs.Casualties.{open_casualties}
use Rattle.coast_station.specs.CoastRules.{Station, held, coast_rules}

-- each part that a coast station keeps is what a history says
pub record Keeps (coast : Coast) (who : Station) (h : History CoastWhat) : Type 0 where
  pub own : coast.own ≡ who.own
  pub band : coast.band ≡ who.band
  pub last : coast.last ≡ last_moment h
  pub casualties : coast.casualties ≡ open_casualties who.own h
  pub held : coast.held ≡ held h

-- a coast station of this identity and band stands for a history: it is legal, and the station keeps what it says
abbrev pub StandsFor : Coast → Station → History CoastWhat → Type 0
StandsFor coast who h = Legal (coast_rules who) h × Keeps coast who h
