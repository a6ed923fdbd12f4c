use Rattle.std.proofs.Common.{◌≡◌, ℕ, ◌+◌, [], ◌∷◌, ◌++◌, List, All, length, map, slice_index, refl, arith, ap, sym, ◌∙◌, subst}
use Rattle.std.proofs.lemmas.List.{get_or_read, map-append, take_all, take_more}
use Rattle.std.proofs.lemmas.List.Elements.{All-get_or, All-push}
use Rattle.slot_evidence.specs.declared.places.Seen.{Seen}
use Rattle.slot_evidence.specs.Sheet.{IsEnds}
use Rattle.receiver_pool.specs.declared.group_entries.GroupSheet.{GroupSheet}
use Rattle.receiver_pool.specs.Groups.{AreShown, IsOneOf}
use Rattle.receiver_pool.specs.inside.Numbers.{IsBelow, gathered}
use Rattle.receiver_pool.proofs.Gathered.{next_entry}
use Rattle.receiver_pool.proofs.batch_groups.entries_of.Goals as goal

pub loop-k-preserved : goal.loop-k-preserved
loop-k-preserved c =
    let was = c.loop-k.invariant in
    let k = c.loop-k.k in
    let groups = c.args.groups.now in
    let sheet = get_or_read c.args.sheets.now k c.index-sheets-k.result (omega (arith, c.requires)) c.index-sheets-k.is [] in
    record {
      facts = λ F are.
          subst (λ (s : List GroupSheet). AreShown (gathered groups F (k + 1)) s) (sym c.in_ok-push.ensures.items)
          (next_entry groups F k _ c.loop-k.entries.items refl (subst (λ (s : List Seen). IsEnds (F k) s) (sym sheet) (are.each k (omega arith))) (was.facts F are));
      groups = λ n below.
          subst (λ (s : List GroupSheet). All (IsOneOf n) s) (sym c.in_ok-push.ensures.items)
          (All-push (IsOneOf n) c.loop-k.entries.items _ (was.groups n below) (All-get_or (IsBelow n) groups k 0 (omega arith) below));
      named =
          ap (map (λ (e : GroupSheet). e.group)) c.in_ok-push.ensures.items
          ∙ map-append (λ (e : GroupSheet). e.group) c.loop-k.entries.items _
          ∙ ap (λ (l : List ℕ). l ++ slice_index groups k ∷ []) was.named
          ∙ sym (take_more groups k 0 (omega arith));
    }

pub returns : goal.returns
returns c =
    let was = c.loop-k.invariant in
    let all : c.loop-k.k ≡ length c.args.groups.now = omega arith in
    (λ F are. subst (λ m. AreShown (gathered c.args.groups.now F m) c.loop-k.entries.items) all (was.facts F are), was.groups, was.named ∙ take_all c.loop-k.k c.args.groups.now (omega arith))
