-- the laws of acknowledgements in legal histories
use Rattle.std.proofs.Common.{◌≡◌, ℕ, ◌+◌, ◌-◌, ◌≤◌, inl, inr, ◌||◌, not, Bool, true, false, if◌then◌else◌, Option, Some, None, is_some, IfSome, List, [], ◌∷◌, ◌++◌, map, refl, sym, ◌∙◌, ap, subst, arith}
use Rattle.std.proofs.lemmas.Bool.{false≢true, or_left, or_right, or_cases, or_parts, or_from, and_left, eqb-true, eq-eqb, leb-true}
use Rattle.std.proofs.lemmas.List.{append_assoc}
use Rattle.std.proofs.lemmas.List.Folds.{list_any-append}
use Rattle.std.specs.List.{list_any, filter}
use Rattle.std.specs.Option.{option_to_list}
use Rattle.call_values.specs.Delays.{IsCoastDelay}
use Rattle.call_values.specs.declared.calls.Call.{Call}
use Rattle.call_values.specs.declared.calls.Call.TheVariants as call
use Rattle.call_values.specs.declared.calls.Casualty.{Casualty}
use Rattle.call_values.specs.declared.choices.Band.{Band}
use Rattle.traffic_rules.specs.declared.acts.Act.{Act}
use Rattle.traffic_rules.specs.declared.acts.Act.TheVariants as act
use Rattle.traffic_rules.specs.Histories.{Entry, History, does, since}
use Rattle.traffic_rules.specs.Rules.{Legal, Follows}
use Rattle.traffic_rules.proofs.PublicLaws.{follows_rules, legal_before}
use Rattle.traffic_rules.specs.Hearing.{heard_due}
use Rattle.traffic_rules.specs.Repeating.{repeats}
use Rattle.coast_station.specs.declared.events.CoastWhat.{CoastWhat}
use Rattle.coast_station.specs.declared.events.CoastWhat.TheVariants.{Accept, Tick, Relay, Send, Answer, Heard}
use Rattle.coast_station.specs.declared.casualties.OpenCasualty.{OpenCasualty}
use Rattle.coast_station.specs.Accepting.{waits, has_ended, is_due, is_due_at_once, find_casualty, acknowledgement, accept_due_of, acknowledgements_due}
use Rattle.coast_station.specs.Acknowledged.{accepts, GoesBackToAlert}
use Rattle.coast_station.specs.Casualties.{acknowledges, closes, is_alert, open_casualty, born, open_casualties}
use Rattle.coast_station.specs.CoastRules.{Station, held, is_for, at_call, due_at, coast_rules}
use Rattle.coast_station.specs.Events.{IsCoastWhat}
use Rattle.coast_station.proofs.Births.{by_test}
use Rattle.coast_station.proofs.Identities.{is_among, AreApart, born_apart, open_born}
use Rattle.coast_station.proofs.Listed.{listed_of, AreNamed}
use Rattle.coast_station.proofs.Changes.{named, any_due}
use Rattle.coast_station.proofs.Silence.{sent_ends, relayed_ends, answered_ends, heard_ends, repeats_end}
use Rattle.coast_station.proofs.Among.{Among, among_here, among_any, some_among}
use Rattle.coast_station.proofs.Origins.{Origin, origin_of}
use Rattle.coast_station.proofs.Behind.{HeardBehind, heard_behind, accepts_with}

-- a delay has ended: one was given, and it has passed
ended_delay : (o : Option ℕ) (from at : ℕ) → has_ended o from at ≡ true → (d : ℕ) × (o ≡ Some d) × (d ≤ at - from)
ended_delay None from at is = absurd (false≢true is)
ended_delay (Some d) from at is = (d, refl, leb-true d (at - from) is)

a_minute : (d from at : ℕ) → IsCoastDelay d → d ≤ at - from → from + 60000 ≤ at
a_minute d from at range passed = let long = range.0 in omega arith

origin_in : (who : Station) (earlier : History CoastWhat) (sent : Entry CoastWhat) (from times : ℕ) (casualty : Casualty) → Follows (coast_rules who) sent earlier → Legal (coast_rules who) earlier
    → Among (act.Send (call.Ack from casualty) times) sent.acts → Origin who earlier sent.at sent.what casualty
origin_in who earlier sent from times casualty follows legal among =
    origin_of who earlier sent.at from times sent.what casualty legal (follows_rules (coast_rules who) sent earlier follows)
    (subst (λ (acts : List Act). Among (act.Send (call.Ack from casualty) times) acts) follows.acts among)

origin_named : (who : Station) (h : History CoastWhat) (at : ℕ) (what : CoastWhat) (casualty : Casualty) (o : Origin who h at what casualty) → o.identity ≡ casualty.mmsi
origin_named who h at what casualty o = sym (named who.own h o.identity o.open_one o.was_open) ∙ ap (λ (c : Casualty). c.mmsi) (sym o.carried)

-- an acknowledgement that was accepted before
goes_back_by : (who : Station) (earlier : History CoastWhat) (sent : Entry CoastWhat) (casualty : Casualty) (x : OpenCasualty) (m : ℕ) → m ≡ casualty.mmsi → casualty ≡ x.alert
    → Legal (coast_rules who) earlier → HeardBehind who.own m earlier x → is_due sent.at x ≡ true → GoesBackToAlert who.band casualty sent earlier
goes_back_by who earlier sent casualty x m named_so carried legal b due =
    let ended = ended_delay x.delay x.heard_at sent.at due in
    let a = b.accepted ended.0 ended.1 in
    let later = a.0 in
    let accept = a.1 in
    let rest = a.2 in
    let order : earlier ≡ later ++ accept ∷ (rest ++ b.heard ∷ b.before) =
    b.order ∙ ap (λ g. g ++ b.heard ∷ b.before) a.3 ∙ append_assoc later (accept ∷ rest) (b.heard ∷ b.before) in
    let follows = (legal_before (coast_rules who) later (accept ∷ (rest ++ b.heard ∷ b.before)) (subst (λ (g : History CoastWhat). Legal (coast_rules who) g) order legal)).0 in
    let given = accepts_with m ended.0 accept.what a.4 follows.event in
    let there : Among accept b.between = subst (λ (g : History CoastWhat). Among accept g) (sym a.3) (among_here accept later rest) in
    record {
      between = b.between;
      heard = b.heard;
      before = b.before;
      order = b.order;
      alert = b.what ∙ ap (λ (c : Casualty). Heard (call.Alert c)) (sym carried);
      accepted = among_any (λ (e : Entry CoastWhat). accepts casualty.mmsi e.what) accept (sent ∷ b.between) (inr there)
          (ap (λ (n : ℕ). accepts n accept.what) (sym named_so) ∙ given.0);
      waited = λ _. subst (λ (n : ℕ). n + 60000 ≤ sent.at) (sym b.at) (a_minute ended.0 x.heard_at sent.at given.1 ended.2);
    }

-- an acknowledgement that is sent as it is accepted
waited_once : (band : Band) (delay : Option ℕ) (x : OpenCasualty) (at : ℕ) → IfSome delay IsCoastDelay → is_due_at_once band at delay x ≡ true → waits band ≡ true → x.heard_at + 60000 ≤ at
waited_once band delay x at range now wait =
    let ended = ended_delay delay x.heard_at at (ap (λ b. not b || has_ended delay x.heard_at at) (sym wait) ∙ now) in
    a_minute ended.0 x.heard_at at (subst (λ (o : Option ℕ). IfSome o IsCoastDelay) ended.1 range) ended.2

goes_back_now : (who : Station) (earlier : History CoastWhat) (sent : Entry CoastWhat) (casualty : Casualty) (x : OpenCasualty) (m : ℕ) (delay : Option ℕ) → m ≡ casualty.mmsi → casualty ≡ x.alert
    → HeardBehind who.own m earlier x → IsCoastWhat sent.what → sent.what ≡ Accept m delay → is_due_at_once who.band sent.at delay x ≡ true → GoesBackToAlert who.band casualty sent earlier
goes_back_now who earlier sent casualty x m delay named_so carried b event what now =
    let range : IfSome delay IsCoastDelay = (subst IsCoastWhat what event).1 in
    record {
      between = b.between;
      heard = b.heard;
      before = b.before;
      order = b.order;
      alert = b.what ∙ ap (λ (c : Casualty). Heard (call.Alert c)) (sym carried);
      accepted = or_left (accepts casualty.mmsi sent.what) _ (ap (accepts casualty.mmsi) what ∙ eq-eqb m casualty.mmsi named_so);
      waited = λ wait. subst (λ (n : ℕ). n + 60000 ≤ sent.at) (sym b.at) (waited_once who.band delay x sent.at range now wait);
    }

pub goes_back : (who : Station) (later earlier : History CoastWhat) (sent : Entry CoastWhat) (from times : ℕ) (casualty : Casualty) (first last : List Act)
    → Legal (coast_rules who) (later ++ sent ∷ earlier) → sent.acts ≡ first ++ act.Send (call.Ack from casualty) times ∷ last → GoesBackToAlert who.band casualty sent earlier
goes_back who later earlier sent from times casualty first last legal acts =
    let here = legal_before (coast_rules who) later (sent ∷ earlier) legal in
    let sends = act.Send (call.Ack from casualty) times in
    let o = origin_in who earlier sent from times casualty here.0 here.1 (subst (λ (some : List Act). Among sends some) (sym acts) (among_here sends first last)) in
    let b = heard_behind who.own o.identity earlier o.open_one o.was_open in
    let named_so = origin_named who earlier sent.at sent.what casualty o in
    elim o.reason [
      | inl due ↦ goes_back_by who earlier sent casualty o.open_one o.identity named_so o.carried here.1 b due
      | inr now ↦ goes_back_now who earlier sent casualty o.open_one o.identity now.0 named_so o.carried b here.0.event now.1 now.3
    ]

-- two acknowledgements of one identity
ack_form : (m : ℕ) (a : Act) → acknowledges m a ≡ true → (from : ℕ) × (times : ℕ) × (casualty : Casualty) × (a ≡ act.Send (call.Ack from casualty) times) × (casualty.mmsi ≡ m)
ack_form m (act.Send (call.Ack from casualty) times) is = (from, times, casualty, refl, eqb-true casualty.mmsi m is)
ack_form m _ is = absurd (false≢true is)

ack_ends : (m : ℕ) (a : Act) → acknowledges m a ≡ true → closes m a ≡ true
ack_ends m (act.Send c times) is = is
ack_ends m _ is = absurd (false≢true is)

any_ends : (m : ℕ) (acts : List Act) → list_any (acknowledges m) acts ≡ true → list_any (closes m) acts ≡ true
any_ends m acts is = let some = some_among (acknowledges m) acts is in among_any (closes m) some.0 acts some.1 (ack_ends m some.0 some.2)

within : (q p : Entry CoastWhat → Bool) (between earlier : History CoastWhat) (first : Entry CoastWhat) → p first ≡ true
    → list_any q (since p (between ++ first ∷ earlier)) ≡ true → list_any q between ≡ true
within q p [] earlier first ended is =
    absurd (false≢true (ap (λ b. list_any q (if b then [] else first ∷ since p earlier)) (sym ended) ∙ is))
within q p (e ∷ between) earlier first ended is =
    by_test (p e) (λ b. list_any q (if b then [] else e ∷ since p (between ++ first ∷ earlier)) ≡ true → (q e || list_any q between) ≡ true)
    (λ _ none. absurd (false≢true none))
    (λ _ some. elim (or_cases (q e) (list_any q (since p (between ++ first ∷ earlier))) some) [
      | inl here ↦ or_left (q e) (list_any q between) here
      | inr there ↦ or_right (q e) (list_any q between) (within q p between earlier first ended there)
    ])
    is

-- an identity that is acknowledged at an entry is open before it
acknowledged_open : (who : Station) (earlier : History CoastWhat) (sent : Entry CoastWhat) (m : ℕ) → Follows (coast_rules who) sent earlier → Legal (coast_rules who) earlier
    → does (acknowledges m) sent ≡ true → is_some (open_casualty who.own m earlier) ≡ true
acknowledged_open who earlier sent m follows legal acknowledged =
    let some = some_among (acknowledges m) sent.acts acknowledged in
    let form = ack_form m some.0 some.2 in
    let o = origin_in who earlier sent form.0 form.1 form.2 follows legal (subst (λ (a : Act). Among a sent.acts) form.3 some.1) in
    let same = origin_named who earlier sent.at sent.what form.2 o ∙ form.4 in
    ap (λ (n : ℕ). is_some (open_casualty who.own n earlier)) (sym same) ∙ ap is_some o.was_open

pub heard_between : (who : Station) (later between earlier : History CoastWhat) (first second : Entry CoastWhat) (mmsi : ℕ)
    → Legal (coast_rules who) (later ++ second ∷ (between ++ first ∷ earlier)) → does (acknowledges mmsi) first ≡ true → does (acknowledges mmsi) second ≡ true
    → list_any (is_alert who.own mmsi) between ≡ true
heard_between who later between earlier first second mmsi legal one two =
    let here = legal_before (coast_rules who) later (second ∷ (between ++ first ∷ earlier)) legal in
    within (is_alert who.own mmsi) (does (closes mmsi)) between earlier first (any_ends mmsi first.acts one)
    (sym (open_born who.own mmsi (between ++ first ∷ earlier)) ∙ acknowledged_open who (between ++ first ∷ earlier) second mmsi here.0 here.1 two)

-- one acknowledgement of an identity at an event
abbrev Once : (m : ℕ) → List Act → Type 0
Once m [] = Unit {0}
Once m (a ∷ acts) = (acknowledges m a ≡ true → list_any (acknowledges m) acts ≡ false) × Once m acts

once_behind : (m : ℕ) (first last : List Act) (a : Act) → Once m (first ++ a ∷ last) → acknowledges m a ≡ true → list_any (acknowledges m) last ≡ false
once_behind m [] last a once is = once.0 is
once_behind m (b ∷ first) last a once is = once_behind m first last a once.1 is

ends_no_ack : (m : ℕ) (acts : List Act) → list_any (closes m) acts ≡ false → list_any (acknowledges m) acts ≡ false
ends_no_ack m acts none =
    by_test (list_any (acknowledges m) acts) (λ b. list_any (acknowledges m) acts ≡ b → b ≡ false)
    (λ _ is. absurd (false≢true (sym none ∙ any_ends m acts is))) (λ _ _. refl) refl

once_none : (m : ℕ) (acts : List Act) → list_any (acknowledges m) acts ≡ false → Once m acts
once_none m [] none = tt
once_none m (a ∷ acts) none = let parts = or_parts (acknowledges m a) (list_any (acknowledges m) acts) none in (λ _. parts.1, once_none m acts parts.1)

silent_once : (m : ℕ) (acts : List Act) → list_any (closes m) acts ≡ false → Once m acts
silent_once m acts none = once_none m acts (ends_no_ack m acts none)

once_append : (m : ℕ) (first last : List Act) → Once m first → list_any (acknowledges m) last ≡ false → Once m (first ++ last)
once_append m [] last once none = once_none m last none
once_append m (a ∷ first) last once none =
    (λ is. list_any-append (acknowledges m) first last ∙ or_from (list_any (acknowledges m) first) (list_any (acknowledges m) last) (once.0 is) none, once_append m first last once.1 none)

once_listed : (own at m k : ℕ) (told : ℕ → Option OpenCasualty) (ms : List ℕ) (o : Option OpenCasualty) → told k ≡ o → AreNamed told → is_among k ms ≡ false
    → Once m (acknowledgements_due own at (listed_of told ms)) → Once m (acknowledgements_due own at (option_to_list o ++ listed_of told ms))
once_listed own at m k told ms None was names apart once = once
once_listed own at m k told ms (Some x) was names apart once =
    by_test (is_due at x)
    (λ b. Once m (map (λ (y : OpenCasualty). acknowledgement own y.alert) (if b then x ∷ filter (is_due at) (listed_of told ms) else filter (is_due at) (listed_of told ms))))
    (λ _. (
      λ is.
          let same : m ≡ k = sym (eqb-true x.alert.mmsi m is) ∙ names k x was in
          ends_no_ack m (acknowledgements_due own at (listed_of told ms))
          (any_due own at m told ms names ∙ and_left (is_among m ms) _ (ap (λ (n : ℕ). is_among n ms) same ∙ apart)),
      once,
    ))
    (λ _. once)

once_due : (own at m : ℕ) (told : ℕ → Option OpenCasualty) (ms : List ℕ) → AreNamed told → AreApart ms → Once m (acknowledgements_due own at (listed_of told ms))
once_due own at m told [] names apart = tt
once_due own at m told (k ∷ ms) names apart = once_listed own at m k told ms (told k) refl names apart.0 (once_due own at m told ms names apart.1)

once_accepted : (own : ℕ) (band : Band) (at m : ℕ) (delay : Option ℕ) (o : Option OpenCasualty) → Once m (accept_due_of own band at delay o)
once_accepted own band at m delay None = tt
once_accepted own band at m delay (Some x) =
    by_test (is_some x.delay) (λ b. Once m (if b then [] else (if is_due_at_once band at delay x then acknowledgement own x.alert ∷ [] else []))) (λ _. tt)
    (λ _. by_test (is_due_at_once band at delay x) (λ b. Once m (if b then acknowledgement own x.alert ∷ [] else [])) (λ _. (λ _. refl, tt)) (λ _. tt))

call_once : (own m : ℕ) (h : History CoastWhat) (c : Call) → Once m (at_call own (open_casualties own h) (held h) c)
call_once own m h (call.Alert alert) = (λ _. refl, tt)
call_once own m h (call.Ack other closed) =
    by_test (is_some (find_casualty closed.mmsi (open_casualties own h))) (λ b. Once m (if b then act.CasualtyClosed closed.mmsi ∷ [] else [])) (λ _. (λ _. refl, tt)) (λ _. tt)
call_once own m h c = silent_once m (heard_due own None (held h) c) (heard_ends m own (held h) c)

due_once : (who : Station) (h : History CoastWhat) (e : Entry CoastWhat) (m : ℕ) (what : CoastWhat) → e.what ≡ what → Follows (coast_rules who) e h → Legal (coast_rules who) h
    → Once m (due_at who h e.at what)
due_once who h e m (Accept k delay) is follows legal = once_accepted who.own who.band e.at m delay (find_casualty k (open_casualties who.own h))
due_once who h e m Tick is follows legal =
    once_append m (acknowledgements_due who.own e.at (open_casualties who.own h)) (repeats e.at 1 (held h))
    (once_due who.own e.at m (λ k. open_casualty who.own k h) (born who.own h) (named who.own h) (born_apart who.own h))
    (ends_no_ack m (repeats e.at 1 (held h)) (repeats_end who h e.at m legal))
due_once who h e m (Relay k to ask) is follows legal =
    silent_once m (due_at who h e.at (Relay k to ask)) (relayed_ends m who.own to ask (held h) (find_casualty k (open_casualties who.own h)))
due_once who h e m (Send c) is follows legal =
    let none = subst (λ (what : CoastWhat). (coast_rules who).refusal h what ≡ None) is (follows_rules (coast_rules who) e h follows) in
    silent_once m (due_at who h e.at (Send c)) (sent_ends m who.own (held h) c none)
due_once who h e m (Answer number accepts) is follows legal = silent_once m (due_at who h e.at (Answer number accepts)) (answered_ends m who.own (held h) number accepts)
due_once who h e m (Heard c) is follows legal =
    by_test (is_for who.own c) (λ b. Once m (if b then at_call who.own (open_casualties who.own h) (held h) c else [])) (λ _. call_once who.own m h c) (λ _. tt)

pub acknowledged_once : (who : Station) (later earlier : History CoastWhat) (sent : Entry CoastWhat) (mmsi : ℕ) (first last : List Act) (acknowledgement : Act)
    → Legal (coast_rules who) (later ++ sent ∷ earlier) → sent.acts ≡ first ++ acknowledgement ∷ last → acknowledges mmsi acknowledgement ≡ true → list_any (acknowledges mmsi) last ≡ false
acknowledged_once who later earlier sent mmsi first last acknowledgement legal acts is =
    let here = legal_before (coast_rules who) later (sent ∷ earlier) legal in
    let once = due_once who earlier sent mmsi sent.what refl here.0 here.1 in
    once_behind mmsi first last acknowledgement (subst (λ (some : List Act). Once mmsi some) (sym here.0.acts ∙ acts) once) is
