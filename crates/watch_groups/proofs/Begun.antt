-- A watcher begins with the groups that lines named.
use Rattle.std.proofs.Common.{◌≡◌, ℕ, List, [], ◌∷◌, ◌++◌, Some, None, Contains, length, refl, sym, ap, subst, ◌∙◌, inl, inr, arith}
use Rattle.std.proofs.lemmas.Bool.{or_cases, eqb-true, cases_lt}
use Rattle.std.proofs.lemmas.List.{get_or_append_left, get_or_push, length-append}
use Rattle.call_values.specs.declared.calls.Call.{Call}
use Rattle.live_watch.specs.Batches.{Sight, HasSeen}
use Rattle.join_groups.specs.declared.groups.NamedGroups.{NamedGroups}
use Rattle.join_groups.specs.Groups.{is_among}
use Rattle.join_groups.specs.Holds.{number_in}
use Rattle.watch_groups.specs.inside.Begun.{AreWatched}
use Rattle.watch_groups.proofs.Looks.{among_push}

contains_left : (sights : List Sight) (one s : Sight) → Contains sights s → Contains (sights ++ one ∷ []) s
contains_left sights one s c = (c.0, omega (arith, c.1, length-append sights (one ∷ [])), get_or_append_left sights (one ∷ []) s c.0 c.1 ∙ c.2)

contains_last : (sights : List Sight) (one : Sight) → Contains (sights ++ one ∷ []) one
contains_last sights one = (length sights, omega (arith, length-append sights (one ∷ [])), get_or_push sights one one (length sights) refl)

seen_before : (sights : List Sight) (n m : ℕ) (call : Call) → HasSeen (sights ++ record { group = m; seen = None } ∷ []) n call → HasSeen sights n call
seen_before sights n m call c =
    let one : Sight = record { group = m; seen = None } in
    let s : Sight = record { group = n; seen = Some call } in
    elim (cases_lt c.0 (length sights)) [
      | inl below ↦ (c.0, below, sym (get_or_append_left sights (one ∷ []) s c.0 below) ∙ c.2)
      | inr past ↦
          let last : one ≡ s = sym (get_or_push sights one s c.0 (omega (arith, past, c.1, length-append sights (one ∷ [])))) ∙ c.2 in
          absurd (cc (ap (λ (x : Sight). x.seen) last))
    ]

pub none_watched : (groups : NamedGroups) (named : List ℕ) (watcher : List Sight) → named ≡ [] → watcher ≡ [] → AreWatched groups named watcher
none_watched groups named watcher no_names nobody = record {
  watched = λ group n among is. absurd (cc (ap (λ (l : List ℕ). is_among l group) no_names, among));
  unseen = λ n call c. absurd (omega (arith, c.1, ap (λ (l : List Sight). length l) nobody));
}

-- one group more is watched
pub one_watched : (groups : NamedGroups) (named more : List ℕ) (watcher after : List Sight) (group number : ℕ) → more ≡ named ++ group ∷ [] → number_in groups group ≡ Some number
    → after ≡ watcher ++ record { group = number; seen = None } ∷ [] → AreWatched groups named watcher → AreWatched groups more after
one_watched groups named more watcher after group number is at then was =
    let one : Sight = record { group = number; seen = None } in
    subst (λ (w : List Sight). AreWatched groups more w) (sym then)
    (record {
      watched = λ g n among has. elim (or_cases (is_among named g) _ (sym (ap (λ (l : List ℕ). is_among l g) is ∙ among_push named group g) ∙ among)) [
        | inl before ↦ (let under = was.watched g n before has in (under.0, contains_left watcher one (record { group = n; seen = under.0 }) under.1))
        | inr here ↦
            let same : number ≡ n = cc (eqb-true group g here, at, has) in
            (None, subst (λ (m : ℕ). Contains (watcher ++ one ∷ []) (record { group = m; seen = None })) same (contains_last watcher one))
      ];
      unseen = λ n call c. was.unseen n call (seen_before watcher n number call c);
    })

-- a group that has no number isn't
pub none_more : (groups : NamedGroups) (named more : List ℕ) (watcher : List Sight) (group : ℕ) → more ≡ named ++ group ∷ [] → number_in groups group ≡ None → AreWatched groups named watcher → AreWatched groups more watcher
none_more groups named more watcher group is none was = record {
  watched = λ g n among has. elim (or_cases (is_among named g) _ (sym (ap (λ (l : List ℕ). is_among l g) is ∙ among_push named group g) ∙ among)) [
    | inl before ↦ was.watched g n before has
    | inr here ↦ absurd (cc (eqb-true group g here, none, has))
  ];
  unseen = was.unseen;
}
