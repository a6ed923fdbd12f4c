use Rattle.std.proofs.Common.{◌+◌, ◌++◌, ◌∷◌, [], ℕ, List, sym, subst, arith}
use Rattle.watch_groups.specs.declared.command.Naming.{Naming}
use Rattle.watch_groups.specs.inside.Names.{Names}
use Rattle.watch_groups.specs.inside.Kept.{Watches}
use Rattle.watch_groups.proofs.Kept.{stands_nothing, stands_evidence, stands_open, stands_anew, named_more}
use Rattle.watch_groups.proofs.command.WatchGroups.count.Goals as goal

pub returns-in-Nothing-clause-stands : goal.returns-in-Nothing-clause-stands
returns-in-Nothing-clause-stands g c = λ before said line written was keeps names text.
    let self = c.args.self.now in
    let is = subst (λ (n : Naming). Names line n) c.in-Nothing.is names in
    (stands_nothing c.told_calls.ensures.more before self.groups self.named.items self.told self.heard said line is was keeps, text)

pub returns-in_ok-note_untold-in-Evidence-clause-stands :
    goal.returns-in_ok-note_untold-in-Evidence-clause-stands
returns-in_ok-note_untold-in-Evidence-clause-stands g c = λ before said line written was keeps names text.
    let self = c.args.self.now in
    let is = subst (λ (n : Naming). Names line n) c.in-Evidence.is names in (
      stands_evidence c.told_calls.ensures.more before self.groups self.named.items c.note_untold.new.named.items self.told self.heard said line c.in-Evidence.group is.0 is.1 c.in_ok-note_untold-in-Evidence.ensures was keeps,
      text,
    )

pub returns-in_ok-end_batch-in-Reception-clause-stands :
    goal.returns-in_ok-end_batch-in-Reception-clause-stands
returns-in_ok-end_batch-in-Reception-clause-stands g c = λ before said line written was keeps names text.
    let self = c.args.self.now in
    let new = c.end_batch.new.self in
    let is = subst (λ (n : Naming). Names line n) c.in-Reception.is names in
    let more = c.note_untold-in-Reception.new.named.items in
    let ended = c.in_ok-end_batch-in-Reception.ensures.ended in
    let behind = said ++ line ∷ [] in
    let looks = c.in_ok-end_batch-in-Reception.ensures.told behind keeps (named_more said line self.named.items more self.told c.in-Reception.group is.0 is.1 c.in_ok-note_untold-in-Reception.ensures was.done) in (
      subst (λ (h : ℕ). Watches new.groups new.named.items new.told h behind) (sym ended.2)
          (subst (λ (n : List ℕ). Watches new.groups n new.told 0 behind) (sym ended.1)
          (stands_anew c.told_calls.ensures.more before new.groups self.named.items more self.told new.told self.heard said line c.in-Reception.group is.0 c.args.out.now.items c.end_batch.new.out.items is.1
          c.if-self-eq-MOST_IN_BATCH.true c.in_ok-note_untold-in-Reception.ensures was (c.in_ok-end_batch-in-Reception.ensures.keeps behind keeps) looks)),
      looks.tells.text written text,
    )

pub returns-else-self-eq-MOST_IN_BATCH-clause-stands :
    goal.returns-else-self-eq-MOST_IN_BATCH-clause-stands
returns-else-self-eq-MOST_IN_BATCH-clause-stands g c = λ before said line written was keeps names text.
    let self = c.args.self.now in
    let is = subst (λ (n : Naming). Names line n) c.in-Reception.is names in (
      stands_open c.told_calls.ensures.more before self.groups self.named.items c.note_untold-in-Reception.new.named.items self.told self.heard (self.heard + 1) said line c.in-Reception.group is.0 is.1
          (omega arith) (omega (arith, c.requires.few, c.if-self-eq-MOST_IN_BATCH.false)) c.in_ok-note_untold-in-Reception.ensures was keeps,
      text,
    )
