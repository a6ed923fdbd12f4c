-- What a watch keeps after one line more.
use Rattle.std.proofs.Common.{◌≡◌, ℕ, ◌+◌, ◌<◌, Bool, true, false, ◌||◌, ◌==◌, List, [], ◌∷◌, ◌++◌, refl, sym, subst, ◌∙◌, arith, inl, inr}
use Rattle.std.proofs.lemmas.Bool.{cases_eq, ne_eqb, or_cases, or_left, or_right, or_parts}
use Rattle.ten_unit.specs.declared.character.Element.{Element}
use Rattle.slot_evidence.specs.Facts.{Facts}
use Rattle.slot_join.specs.declared.joined.Joined.TheVariants.{Reported}
use Rattle.slot_join.specs.Answer.{IsAnswer}
use Rattle.input_lines.specs.ReceiverLine.{ReceiverLine, nothing, reception, evidence}
use Rattle.join_groups.specs.declared.groups.NamedGroups.{NamedGroups}
use Rattle.join_groups.specs.declared.groups.TheConstants.{MOST_IN_BATCH}
use Rattle.join_groups.specs.Groups.{names, is_named, is_among}
use Rattle.join_groups.specs.inside.Kept.{Keeps}
use Rattle.join_groups.proofs.PublicLaws.{named_push, facts_of_others}
use Rattle.watch_groups.specs.declared.telling.ToldCall.{ToldCall}
use Rattle.watch_groups.specs.Telling.{is_told, TellsReported, EndsBatch}
use Rattle.watch_groups.specs.inside.Kept.{Notes, IsOpen, AreOthersDone, Watches, LooksThrough}
use Rattle.watch_groups.proofs.Calls.{More, are_more}
use Rattle.watch_groups.proofs.Batches.{no_end_nothing, no_end_evidence, no_end_open, open_nothing, open_evidence, open_more, open_anew, each_more}

-- the groups that a line names are noted
abbrev pub LineNotes : List ToldCall → List ℕ → ReceiverLine → List ℕ → Type 0
LineNotes told named line more = Notes told named (λ k. names k line) more

-- those of which a call was told are done
others_more : (said : List ReceiverLine) (line : ReceiverLine) (named more : List ℕ) (told : List ToldCall) → LineNotes told named line more → AreOthersDone said named told → AreOthersDone (said ++ line ∷ []) more told
others_more said line named more told notes done = record {
  named_by = λ k is. elim (or_cases (is_among named k) (names k line) (notes.among k is)) [
    | inl before ↦ named_push said line k ∙ or_left _ _ (done.named_by k before)
    | inr here ↦ named_push said line k ∙ or_right (is_named said k) _ here
  ];
  others = λ k is.
      let parts = notes.others k is in
      λ call extra answer. elim parts.1 [
        | inl apart ↦ done.others k parts.0 call extra (subst (λ (F : Facts). IsAnswer F (Reported call extra)) (facts_of_others said line k apart) answer)
        | inr known ↦ known
      ];
}

pub notes_told : (told : List ToldCall) (named : List ℕ) (group : ℕ) → is_told told group ≡ true → Notes told named (λ k. group == k) named
notes_told told named group known = record {
  among = λ k is. or_left _ _ is;
  others = λ k is. elim (cases_eq group k) [
    | inl same ↦ (is, inr (subst (λ (j : ℕ). is_told told j ≡ true) same known))
    | inr apart ↦ (is, inl (ne_eqb group k apart))
  ];
}

pub notes_more : (told : List ToldCall) (named more : List ℕ) (group : ℕ) → ((k : ℕ) → is_among more k ≡ (is_among named k || group == k)) → Notes told named (λ k. group == k) more
notes_more told named more group same = record {
  among = λ k is. sym (same k) ∙ is;
  others = λ k is. let parts = or_parts (is_among named k) (group == k) (sym (same k) ∙ is) in (parts.0, inl parts.1);
}

stay : (told : List ToldCall) (S : List ReceiverLine) → TellsReported S told → TellsReported S told
stay told S tells = tells

module _ (law : More) (groups new : NamedGroups) (named more : List ℕ) (told : List ToldCall) (heard : ℕ) (said : List ReceiverLine) (was : Watches groups named told heard said) where
  -- no batch ends after the line
  goes_on : (line : ReceiverLine) (now : ℕ) → LineNotes told named line more → Keeps new (said ++ line ∷ []) → IsOpen (said ++ line ∷ []) now → (EndsBatch (said ++ line ∷ []) → ⊥) → Watches new more told now (said ++ line ∷ [])
  goes_on line now notes keeps open_ never = record {
    keeps = keeps;
    open_batch = open_;
    are_told = are_more law said line told was.are_told;
    each_batch = each_more said line told told (stay told) was.each_batch (λ ends. absurd (never ends));
    done = others_more said line named more told notes was.done;
  }

  pub after_nothing : LineNotes told named nothing more → Keeps new (said ++ nothing ∷ []) → Watches new more told heard (said ++ nothing ∷ [])
  after_nothing notes keeps = goes_on nothing heard notes keeps (open_nothing said heard was.open_batch) (no_end_nothing said)

  pub after_evidence : (group : ℕ) (pairs : List (ℕ × ℕ)) → LineNotes told named (evidence group pairs) more → Keeps new (said ++ evidence group pairs ∷ []) → Watches new more told heard (said ++ evidence group pairs ∷ [])
  after_evidence group pairs notes keeps = goes_on (evidence group pairs) heard notes keeps (open_evidence said group pairs heard was.open_batch) (no_end_evidence said group pairs)

  pub after_reception : (group : ℕ) (e : List Element) (now : ℕ) → now ≡ heard + 1 → now < MOST_IN_BATCH → LineNotes told named (reception group e) more → Keeps new (said ++ reception group e ∷ [])
      → Watches new more told now (said ++ reception group e ∷ [])
  after_reception group e now is few notes keeps =
      goes_on (reception group e) now notes keeps (open_more said group e heard now was.open_batch is few) (no_end_open said group e heard was.open_batch (omega arith))

-- after a look at all groups that were named, all are done
pub all_done : (said : List ReceiverLine) (named : List ℕ) (told : List ToldCall) (out : List ℕ) (now : List ToldCall) (after : List ℕ) → AreOthersDone said named told → LooksThrough said named [] told out now after → TellsReported said now
all_done said named told out now after done looks k call extra answer = by_named (is_among named k) refl
  where
    by_named : (b : Bool) → is_among named k ≡ b → is_told now k ≡ true
    by_named true is = looks.done k is refl call extra answer
    by_named false is = looks.tells.stays k (done.others k is call extra answer)

-- a batch ended
module _ (law : More) (groups new : NamedGroups) (named more : List ℕ) (told now : List ToldCall) (heard : ℕ) (said : List ReceiverLine) (out after : List ℕ) (was : Watches groups named told heard said) where
  pub after_batch : (group : ℕ) (e : List Element) → heard + 1 ≡ MOST_IN_BATCH → LineNotes told named (reception group e) more → Keeps new (said ++ reception group e ∷ [])
      → LooksThrough (said ++ reception group e ∷ []) more [] told out now after → Watches new [] now 0 (said ++ reception group e ∷ [])
  after_batch group e full notes keeps looks =
      let line : ReceiverLine = reception group e in
      let others = others_more said line named more told notes was.done in
      let all = all_done (said ++ line ∷ []) more told out now after others looks in
      record {
        keeps = keeps;
        open_batch = open_anew said group e heard was.open_batch full;
        are_told = looks.tells.are_told (are_more law said line told was.are_told);
        each_batch = each_more said line told now (λ S tells k call extra answer. looks.tells.stays k (tells k call extra answer)) was.each_batch (λ ends. all);
        done = record { named_by = λ k is. absurd cc; others = λ k is. all k };
      }

-- and where it ends after no line more
pub after_pause : (groups new : NamedGroups) (named : List ℕ) (told now : List ToldCall) (heard : ℕ) (said : List ReceiverLine) (out after : List ℕ) → Watches groups named told heard said → Keeps new said
    → LooksThrough said named [] told out now after → Watches new [] now heard said
after_pause groups new named told now heard said out after was keeps looks =
    let all = all_done said named told out now after was.done looks in
    record {
      keeps = keeps;
      open_batch = was.open_batch;
      are_told = looks.tells.are_told was.are_told;
      each_batch = λ n le ends k call extra answer. looks.tells.stays k (was.each_batch n le ends k call extra answer);
      done = record { named_by = λ k is. absurd cc; others = λ k is. all k };
    }

-- the same of a line that names so
nothing_more : (told : List ToldCall) (named : List ℕ) → LineNotes told named nothing named
nothing_more told named = record { among = λ k is. or_left _ _ is; others = λ k is. (is, inl refl) }

pub stands_nothing : More → (groups new : NamedGroups) (named : List ℕ) (told : List ToldCall) (heard : ℕ) (said : List ReceiverLine) (line : ReceiverLine) → line ≡ nothing → Watches groups named told heard said
    → Keeps new (said ++ line ∷ []) → Watches new named told heard (said ++ line ∷ [])
stands_nothing law groups new named told heard said line is was =
    subst (λ (l : ReceiverLine). Keeps new (said ++ l ∷ []) → Watches new named told heard (said ++ l ∷ [])) (sym is)
    (after_nothing law groups new named named told heard said was (nothing_more told named))

pub stands_evidence : More → (groups new : NamedGroups) (named more : List ℕ) (told : List ToldCall) (heard : ℕ) (said : List ReceiverLine) (line : ReceiverLine) (group : ℕ) (pairs : List (ℕ × ℕ)) → line ≡ evidence group pairs
    → Notes told named (λ k. group == k) more → Watches groups named told heard said → Keeps new (said ++ line ∷ []) → Watches new more told heard (said ++ line ∷ [])
stands_evidence law groups new named more told heard said line group pairs is notes was =
    subst (λ (l : ReceiverLine). Keeps new (said ++ l ∷ []) → Watches new more told heard (said ++ l ∷ [])) (sym is)
    (after_evidence law groups new named more told heard said was group pairs notes)

pub stands_open : More → (groups new : NamedGroups) (named more : List ℕ) (told : List ToldCall) (heard now : ℕ) (said : List ReceiverLine) (line : ReceiverLine) (group : ℕ) (e : List Element) → line ≡ reception group e
    → now ≡ heard + 1 → now < MOST_IN_BATCH
    → Notes told named (λ k. group == k) more → Watches groups named told heard said → Keeps new (said ++ line ∷ []) → Watches new more told now (said ++ line ∷ [])
stands_open law groups new named more told heard now said line group e is next few notes was =
    subst (λ (l : ReceiverLine). Keeps new (said ++ l ∷ []) → Watches new more told now (said ++ l ∷ [])) (sym is)
    (after_reception law groups new named more told heard said was group e now next few notes)

pub stands_anew : More → (groups new : NamedGroups) (named more : List ℕ) (told now : List ToldCall) (heard : ℕ) (said : List ReceiverLine) (line : ReceiverLine) (group : ℕ) (e : List Element) (out after : List ℕ) → line ≡ reception group e
    → heard + 1 ≡ MOST_IN_BATCH → Notes told named (λ k. group == k) more → Watches groups named told heard said → Keeps new (said ++ line ∷ [])
    → LooksThrough (said ++ line ∷ []) more [] told out now after → Watches new [] now 0 (said ++ line ∷ [])
stands_anew law groups new named more told now heard said line group e out after is full notes was =
    subst (λ (l : ReceiverLine). Keeps new (said ++ l ∷ []) → LooksThrough (said ++ l ∷ []) more [] told out now after → Watches new [] now 0 (said ++ l ∷ [])) (sym is)
    (after_batch law groups new named more told now heard said out after was group e full notes)

-- the groups that were named after one line more
pub named_more : (said : List ReceiverLine) (line : ReceiverLine) (named more : List ℕ) (told : List ToldCall) (group : ℕ) (e : List Element) → line ≡ reception group e → Notes told named (λ k. group == k) more
    → AreOthersDone said named told → (k : ℕ) → is_among more k ≡ true → is_named (said ++ line ∷ []) k ≡ true
named_more said line named more told group e is notes done =
    subst (λ (l : ReceiverLine). (k : ℕ) → is_among more k ≡ true → is_named (said ++ l ∷ []) k ≡ true) (sym is) (others_more said (reception group e) named more told notes done).named_by
