-- after the end of its alert a ship sends no alert until an event begins one
use Rattle.std.proofs.Common.{◌≡◌, ℕ, inl, inr, true, false, None, is_some, List, [], ◌∷◌, ◌++◌, refl, sym, ◌∙◌, ap}
use Rattle.std.proofs.lemmas.Bool.{false≢true, or_from, or_parts}
use Rattle.std.specs.List.{list_any}
use Rattle.std.proofs.lemmas.Option.{none-some}
use Rattle.traffic_rules.specs.declared.acts.Act.{Act}
use Rattle.traffic_rules.specs.declared.acts.Act.TheVariants as act
use Rattle.traffic_rules.specs.Histories.{Entry, History, does, NoneIs}
use Rattle.traffic_rules.specs.Rules.{Legal}
use Rattle.traffic_rules.specs.Sendings.{is_alert, sends}
use Rattle.ship_station.specs.declared.events.ShipWhat.{ShipWhat}
use Rattle.ship_station.specs.declared.events.ShipWhat.TheVariants.{Alert, Tick}
use Rattle.ship_station.specs.declared.alerts.OwnAlert.{OwnAlert}
use Rattle.ship_station.specs.Attempted.{IsTried}
use Rattle.ship_station.specs.Events.{alert_of, begins_alert}
use Rattle.ship_station.specs.Past.{is_end, open_alert}
use Rattle.ship_station.specs.ShipRules.{Identities, ship_rules}
use Rattle.ship_station.proofs.Endings.{off_after_end}
use Rattle.ship_station.proofs.Sent.{IsSentSo, AreSentSo, entry_so}

-- where no alert is on, no event tries one but one that begins it
module _ (own : ℕ) (h : History ShipWhat) (what : ShipWhat) (off : open_alert h ≡ None) (none : is_some (alert_of what) ≡ false) where
  untried : (alert : OwnAlert) (w : ShipWhat) → w ≡ what → IsTried h w alert → ⊥
  untried alert (Alert nature comm) is tried = false≢true (sym none ∙ sym (ap (λ (x : ShipWhat). is_some (alert_of x)) is))
  untried alert Tick is tried = none-some alert (sym (sym tried ∙ off))
  untried alert _ is tried = absurd tried

  one_silent : (a : Act) → IsSentSo own h what a → sends is_alert a ≡ false
  one_silent (act.Send c times) (inl attempted) = absurd (untried attempted.alert what refl attempted.tried)
  one_silent (act.Send c times) (inr other) = other.0
  one_silent _ so = refl

  pub all_silent : (acts : List Act) → AreSentSo own h what acts → list_any (sends is_alert) acts ≡ false
  all_silent [] so = refl
  all_silent (a ∷ acts) so = or_from (sends is_alert a) (list_any (sends is_alert) acts) (one_silent a so.0) (all_silent acts so.1)

pub silent_after_end : (who : Identities) (later earlier : History ShipWhat) (ended : Entry ShipWhat) → Legal (ship_rules who) (later ++ ended ∷ earlier)
    → does is_end ended ≡ true → NoneIs begins_alert later → NoneIs (does (sends is_alert)) later
silent_after_end who [] earlier ended legal end none = refl
silent_after_end who (e ∷ later) earlier ended legal end none =
    let h = later ++ ended ∷ earlier in
    let parts = or_parts (begins_alert e) (list_any begins_alert later) none in
    or_from (does (sends is_alert) e) (list_any (does (sends is_alert)) later)
    (all_silent who.own h e.what (off_after_end later earlier ended end parts.1) parts.0 e.acts (entry_so who e h legal))
    (silent_after_end who later earlier ended legal.1 end parts.1)
