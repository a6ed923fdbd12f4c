use Rattle.std.proofs.Common.{codes, ◌≡◌, ℕ, List, ◌∷◌, refl, sym, ◌∙◌}
use Rattle.line_grammar.specs.Sections.{nth}
use Rattle.line_grammar.proofs.Fronts.{read_found, is_first, not_first, later, fault_misses}
use Rattle.call_texts.proofs.forms.told_form.Goals as goal

-- two bytes are at the front
two : (bytes rest back : List ℕ) (a b x y : ℕ) → bytes ≡ a ∷ rest → rest ≡ b ∷ back → a ≡ x → b ≡ y → bytes ≡ x ∷ (y ∷ back)
two bytes rest back a b x y e f p q = cc

pub returns-then-is_ok : goal.returns-then-is_ok
returns-then-is_ok g c = is_first _ _ _ _ _ _ (read_found _ _ (nth 0) _ _ c.alert-told.ensures)

pub returns-else-is_ok : goal.returns-else-is_ok
returns-else-is_ok g c =
    let missed = fault_misses _ (nth 0) _ _ _ (sym c.is_ok.ensures.value ∙ c.if-is_ok.false) c.alert-told.ensures in
    not_first _ _ _ _ _ _ missed (later _ 3 (codes "al") _ _ _ _ _ (two _ _ _ _ _ _ _ c.in-Some.ensures.cases.0 c.in-Some-split_first.ensures.cases.0 c.in-97-eq108.is-0 c.in-97-eq108.is-1) refl
    (is_first _ _ _ _ _ _ (read_found _ _ (nth 4) _ _ c.all_ships.ensures)))

pub returns-in-97-eq99 : goal.returns-in-97-eq99
returns-in-97-eq99 g c =
    later _ 1 (codes "ac") _ _ _ _ _ (two _ _ _ _ _ _ _ c.in-Some.ensures.cases.0 c.in-Some-split_first.ensures.cases.0 c.in-97-eq99.is-0 c.in-97-eq99.is-1) refl (is_first _ _ _ _ _ _ (read_found _ _ (nth 1) _ _ c.ack.ensures))

pub returns-in-97-eq114 : goal.returns-in-97-eq114
returns-in-97-eq114 g c =
    later _ 5 (codes "ar") _ _ _ _ _ (two _ _ _ _ _ _ _ c.in-Some.ensures.cases.0 c.in-Some-split_first.ensures.cases.0 c.in-97-eq114.is-0 c.in-97-eq114.is-1) refl (is_first _ _ _ _ _ _ (read_found _ _ (nth 5) _ _ c.area_call.ensures))

pub returns-in-97-eq115 : goal.returns-in-97-eq115
returns-in-97-eq115 g c =
    later _ 9 (codes "as") _ _ _ _ _ (two _ _ _ _ _ _ _ c.in-Some.ensures.cases.0 c.in-Some-split_first.ensures.cases.0 c.in-97-eq115.is-0 c.in-97-eq115.is-1) refl (is_first _ _ _ _ _ _ (read_found _ _ (nth 9) _ _ c.position_request.ensures))

pub returns-then-is_ok-2 : goal.returns-then-is_ok-2
returns-then-is_ok-2 g c =
    later _ 2 (codes "re") _ _ _ _ _ (two _ _ _ _ _ _ _ c.in-Some.ensures.cases.0 c.in-Some-split_first.ensures.cases.0 c.in-114-eq101.is-0 c.in-114-eq101.is-1) refl (is_first _ _ _ _ _ _ (read_found _ _ (nth 2) _ _ c.relay-relayed.ensures))

pub returns-else-is_ok-2 : goal.returns-else-is_ok-2
returns-else-is_ok-2 g c =
    let missed = fault_misses _ (nth 2) _ _ _ (sym c.is_ok-in-114-eq101.ensures.value ∙ c.if-is_ok-2.false) c.relay-relayed.ensures in
    later _ 2 (codes "re") _ _ _ _ _ (two _ _ _ _ _ _ _ c.in-Some.ensures.cases.0 c.in-Some-split_first.ensures.cases.0 c.in-114-eq101.is-0 c.in-114-eq101.is-1) refl
    (not_first _ _ _ _ _ _ missed (is_first _ _ _ _ _ _ (read_found _ _ (nth 3) _ _ c.relay_ack.ensures)))

pub returns-in-103-eq114 : goal.returns-in-103-eq114
returns-in-103-eq114 g c =
    later _ 6 (codes "gr") _ _ _ _ _ (two _ _ _ _ _ _ _ c.in-Some.ensures.cases.0 c.in-Some-split_first.ensures.cases.0 c.in-103-eq114.is-0 c.in-103-eq114.is-1) refl (is_first _ _ _ _ _ _ (read_found _ _ (nth 6) _ _ c.group_call.ensures))

pub returns-in-111-eq110 : goal.returns-in-111-eq110
returns-in-111-eq110 g c =
    later _ 7 (codes "on") _ _ _ _ _ (two _ _ _ _ _ _ _ c.in-Some.ensures.cases.0 c.in-Some-split_first.ensures.cases.0 c.in-111-eq110.is-0 c.in-111-eq110.is-1) refl (is_first _ _ _ _ _ _ (read_found _ _ (nth 7) _ _ c.individual.ensures))

pub returns-in-116-eq101 : goal.returns-in-116-eq101
returns-in-116-eq101 g c =
    later _ 8 (codes "te") _ _ _ _ _ (two _ _ _ _ _ _ _ c.in-Some.ensures.cases.0 c.in-Some-split_first.ensures.cases.0 c.in-116-eq101.is-0 c.in-116-eq101.is-1) refl (is_first _ _ _ _ _ _ (read_found _ _ (nth 8) _ _ c.test.ensures))

pub returns-in-112-eq111 : goal.returns-in-112-eq111
returns-in-112-eq111 g c =
    later _ 10 (codes "po") _ _ _ _ _ (two _ _ _ _ _ _ _ c.in-Some.ensures.cases.0 c.in-Some-split_first.ensures.cases.0 c.in-112-eq111.is-0 c.in-112-eq111.is-1) refl (read_found _ _ _ _ _ c.position_answer.ensures)
