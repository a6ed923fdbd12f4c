use Rattle.std.proofs.Common.{◌≡◌, ◌++◌, ℕ, Bool, List, cond, sym, ap, subst, ◌∙◌, append_assoc}
use Rattle.line_engine.specs.Lines.{Lines}
use Rattle.join_groups.specs.Groups.{is_named, group_facts}
use Rattle.join_groups.specs.Output.{Telling, IsGroupsText}
use Rattle.join_groups.specs.Meanings.{EndsTelling}
use Rattle.join_groups.specs.declared.groups.NamedGroups.{NamedGroups}
use Rattle.join_groups.specs.inside.Kept.{StandsFor}
use Rattle.join_groups.proofs.commands.WriteGroupsCommand.finish.Goals as goal

ends_so : (tells : Telling) (groups : NamedGroups) (lines : Lines) (written out new text : List ℕ) (is_well : Bool) (status : ℕ) → (stands : StandsFor groups lines (written ++ out)) → new ≡ out ++ text
    → IsGroupsText tells stands.said text (cond is_well 0 1) → status ≡ cond is_well 0 1 → EndsTelling tells lines (written ++ new) status
ends_so tells groups lines written out new text is_well status stands is told same =
    let whole : written ++ new ≡ text = ap (λ (l : List ℕ). written ++ l) is ∙ sym (append_assoc written out text) ∙ ap (λ (l : List ℕ). l ++ text) stands.text_is in
    record {
      said = stands.said;
      are_lines = stands.are_lines;
      is_text = subst (λ (l : List ℕ). IsGroupsText tells stands.said l status) (sym whole) (subst (IsGroupsText tells stands.said text) (sym same) told);
    }

pub append_groups-requires : goal.append_groups-requires
append_groups-requires g c =
    let stands = c.requires.stands.1 in
    record {
      named = is_named stands.said;
      facts = group_facts stands.said;
      holds = c.in_ok-close_batch.ensures.holds (is_named stands.said) (group_facts stands.said) stands.keeps;
    }

pub returns-clause-ends : goal.returns-clause-ends
returns-clause-ends g c = λ lines written stands.
    let said = stands.1.said in
    let told = c.in_ok-append_groups.ensures said (c.in_ok-close_batch.ensures.holds (is_named said) (group_facts said) stands.1.keeps) c.in_ok-close_batch.ensures.empty in
    ends_so g.T.GroupWriter.tells c.args.self.now.groups lines written c.args.out.now.items c.append_groups.new.out.items told.0 c.in_ok-append_groups.field-0 c.of.result stands.1 told.1.0 told.1.1
    c.of.ensures
