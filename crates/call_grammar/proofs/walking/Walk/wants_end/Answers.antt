use Rattle.std.proofs.Common.{◌≡◌, true, false, refl, inl, inr}
use Rattle.call_grammar.proofs.Ends.{at_end}
use Rattle.call_grammar.proofs.walking.Walk.wants_end.Goals as goal

pub returns-then-ends_with : goal.returns-then-ends_with
returns-then-ends_with c = (λ _. c.ends_with.ensures.at_end c.if-ends_with.true, λ _. refl)

pub returns-then-ends_with-2 : goal.returns-then-ends_with-2
returns-then-ends_with-2 c = (λ _. c.ends_with-2.ensures.at_end c.if-ends_with-2.true, λ _. refl)

pub returns : goal.returns
returns c = (
  c.ends_with-3.ensures.at_end,
  λ a. elim (at_end c.args.self.now a) [
    | inl k ↦ (let yes : c.ends_with.result ≡ true = c.ends_with.ensures.covered k in
        let no : c.ends_with.result ≡ false = c.if-ends_with.false in absurd (cc))
    | inr h ↦ elim h [
      | inl k ↦ (let yes : c.ends_with-2.result ≡ true = c.ends_with-2.ensures.covered k in
          let no : c.ends_with-2.result ≡ false = c.if-ends_with-2.false in absurd (cc))
      | inr k ↦ c.ends_with-3.ensures.covered k
    ]
  ],
)
