use Rattle.std.proofs.Common.{◌≡◌, ◌∙◌, ◌<◌, ltb, Some, Bool, true, sym, ap, refl, arith, inl, inr, ℕ, List, IfSome, Option, subst}
use Rattle.std.proofs.lemmas.Bool.{eqb-true, eq-eqb, lt-ltb, ltb-true, cases_Bool}
use Rattle.std.specs.Bool.{then_some}
use Rattle.ten_unit.specs.declared.character.Element.{Element}
use Rattle.ten_unit.specs.Word.{is_word}
use Rattle.ten_unit.specs.inside.Symbol.{IsSymbol}
use Rattle.ten_unit.proofs.character.symbol.Goals as goal

-- the symbol, where the number that it is kept as is one
shown : (w : List Element) (s : ℕ) (o : Option ℕ) → IsSymbol w s → o ≡ then_some (ltb s 128) s → IfSome o (λ v. (v < 128) × (is_word w v ≡ true))
shown w s o is at =
    subst (λ (o : Option ℕ). IfSome o (λ v. (v < 128) × (is_word w v ≡ true))) (sym at)
    (elim (cases_Bool (ltb s 128)) [
      | inl small ↦
          let below : s < 128 = ltb-true s 128 small in
          subst (λ (b : Bool). IfSome (then_some b s) (λ v. (v < 128) × (is_word w v ≡ true))) (sym small) (below, is.shown s below ∙ eq-eqb s s refl)
      | inr large ↦ subst (λ (b : Bool). IfSome (then_some b s) (λ v. (v < 128) × (is_word w v ≡ true))) (sym large) tt
    ])

pub returns-clause-some : goal.returns-clause-some
returns-clause-some c =
    shown c.args.w.now _ _ (c.symbol_of-symbol.ensures c.args.w.now c.told-w (sym c.number.ensures)) c.then_some.ensures

pub returns-clause-only : goal.returns-clause-only
returns-clause-only c = λ v below shown.
    let is = c.symbol_of-symbol.ensures c.args.w.now c.told-w (sym c.number.ensures) in
    let same : v ≡ c.symbol_of-symbol.result = eqb-true v _ (sym (is.shown v below) ∙ shown) in
    let small : ltb c.symbol_of-symbol.result 128 ≡ true = lt-ltb _ _ (omega arith) in
    c.then_some.ensures ∙ ap (λ b. then_some b c.symbol_of-symbol.result) small ∙ ap Some (sym same)
