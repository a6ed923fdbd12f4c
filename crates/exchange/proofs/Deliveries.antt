-- the calls that a station sent are those of its entries' acts
use Rattle.std.proofs.Common.{◌≡◌, ℕ, zero, suc, ◌⊎◌, inl, inr, Some, List, [], ◌∷◌, ◌++◌, slice_get, refl, ap}
use Rattle.std.proofs.lemmas.Option.{none-some, same_Some}
use Rattle.call_values.specs.declared.calls.Call.{Call}
use Rattle.traffic_rules.specs.declared.acts.Act.{Act}
use Rattle.traffic_rules.specs.declared.acts.Act.TheVariants as act
use Rattle.traffic_rules.specs.Histories.{Entry, History}
use Rattle.exchange.specs.Sent.{calls_of, sent_by}

abbrev pub IsIn : Call → List Call → Type 0
IsIn c [] = ⊥
IsIn c (x ∷ xs) = (x ≡ c) ⊎ IsIn c xs

found : (xs : List Call) (n : ℕ) (c : Call) → slice_get xs n ≡ Some c → IsIn c xs
found [] n c is = absurd (none-some c is)
found (x ∷ xs) zero c is = inl (same_Some x c is)
found (x ∷ xs) (suc n) c is = inr (found xs n c is)

in_either : (xs ys : List Call) (c : Call) → IsIn c (xs ++ ys) → IsIn c xs ⊎ IsIn c ys
in_either [] ys c here = inr here
in_either (x ∷ xs) ys c (inl is) = inl (inl is)
in_either (x ∷ xs) ys c (inr rest) =
    elim (in_either xs ys c rest) [
      | inl left ↦ inl (inr left)
      | inr right ↦ inr right
    ]

-- acts send a call
pub record Sends (c : Call) (acts : List Act) : Type 0 where
  pub first : List Act
  pub times : ℕ
  pub last : List Act
  pub split : acts ≡ first ++ act.Send c times ∷ last

behind : (a : Act) (acts : List Act) (c : Call) → Sends c acts → Sends c (a ∷ acts)
behind a acts c s = record { first = a ∷ s.first; times = s.times; last = s.last; split = ap (λ (l : List Act). a ∷ l) s.split }

in_acts : (acts : List Act) (c : Call) → IsIn c (calls_of acts) → Sends c acts
in_acts [] c here = absurd here
in_acts (act.Send x times ∷ acts) c (inl is) =
    record { first = []; times = times; last = acts; split = ap (λ (y : Call). act.Send y times ∷ acts) is }
in_acts (act.Send x times ∷ acts) c (inr rest) = behind (act.Send x times) acts c (in_acts acts c rest)
in_acts (a ∷ acts) c here = behind a acts c (in_acts acts c here)

-- a station's history has an entry that sends a call
pub record HasSent {What : Type 0} (c : Call) (h : History What) : Type 0 where
  pub later : History What
  pub sent : Entry What
  pub earlier : History What
  pub order : h ≡ later ++ sent ∷ earlier
  pub sends : Sends c sent.acts

module _ {What : Type 0} where
  in_sent : (h : History What) (c : Call) → IsIn c (sent_by h) → HasSent c h
  in_sent [] c here = absurd here
  in_sent (e ∷ h) c here =
      elim (in_either (sent_by h) (calls_of e.acts) c here) [
        | inl before ↦
            let r = in_sent h c before in
            record { later = e ∷ r.later; sent = r.sent; earlier = r.earlier; order = ap (λ (l : History What). e ∷ l) r.order; sends = r.sends }
        | inr now ↦ record { later = []; sent = e; earlier = h; order = refl; sends = in_acts e.acts c now }
      ]

  -- a call with a number among those that a station sent is sent at one of its entries
  pub sent_at : (h : History What) (number : ℕ) (c : Call) → slice_get (sent_by h) number ≡ Some c → HasSent c h
  sent_at h number c is = in_sent h c (found (sent_by h) number c is)
