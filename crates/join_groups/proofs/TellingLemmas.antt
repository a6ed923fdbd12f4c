-- Telling of all groups, one after another.
use Rattle.std.proofs.Common.{◌≡◌, ℕ, ◌<◌, Bool, cond, ◌&&◌, List, [], ◌∷◌, ◌++◌, length, slice_index_or, refl, sym, ap, subst, ◌∙◌, append_assoc, append-nil}
use Rattle.std.specs.Prelude.{map}
use Rattle.std.specs.List.{list_all, flat_map, AllByRecursion}
use Rattle.std.specs.List.Sorted.{IsStrictlySortedBy}
use Rattle.std.specs.Map.{keys_of}
use Rattle.std.specs.Ordering.{nat_cmp}
use Rattle.std.proofs.lemmas.Grind.{flat_map-append}
use Rattle.std.proofs.lemmas.List.Folds.{list_all-append}
use Rattle.std.proofs.Math.Bool.{and-true}
use Rattle.slot_evidence.specs.declared.places.Seen.{Seen}
use Rattle.slot_evidence.specs.Facts.{Facts}
use Rattle.slot_evidence.specs.Sheet.{IsEnds}
use Rattle.receiver_pool.specs.declared.group_entries.GroupReception.{GroupReception}
use Rattle.input_lines.specs.ReceiverLine.{ReceiverLine}
use Rattle.join_groups.specs.Groups.{is_named, group_facts, AreGroups}
use Rattle.join_groups.specs.Holds.{HoldsIn}
use Rattle.join_groups.specs.Output.{GroupLine, Telling, IsGroupsText}
use Rattle.join_groups.specs.inside.Progress.{Numbers, AreOf, HasTold, Progress}
use Rattle.join_groups.proofs.Rising.{each_found, found, rising_keys}
use Rattle.join_groups.proofs.Holding.{held_some, held_groups, shown_whole}

module _ (tells : Telling) (sheets : List (List Seen)) where
  of_push : (numbers : Numbers) (all : List GroupLine) (e : ℕ × ℕ) (told : GroupLine) → AreOf tells sheets numbers all → told.group ≡ e.0
      → ((F : Facts) → IsEnds F (slice_index_or sheets e.1 []) → tells F told) → AreOf tells sheets (numbers ++ e ∷ []) (all ++ told ∷ [])
  of_push [] [] e told of same tell = (same, tell, tt)
  of_push [] (t ∷ all) e told of same tell = absurd of
  of_push (d ∷ numbers) [] e told of same tell = absurd of
  of_push (d ∷ numbers) (t ∷ all) e told of same tell = (of.0, of.1, of_push numbers all e told of.2 same tell)

  told_push : (numbers : Numbers) (text : List ℕ) (is_well : Bool) (e : ℕ × ℕ) (told : GroupLine) → HasTold tells sheets numbers text is_well → told.group ≡ e.0
      → ((F : Facts) → IsEnds F (slice_index_or sheets e.1 []) → tells F told) → HasTold tells sheets (numbers ++ e ∷ []) (text ++ told.line) (is_well && told.is_well)
  told_push numbers text is_well e told h same tell = record {
    all = h.all ++ told ∷ [];
    are_of = of_push numbers h.all e told h.are_of same tell;
    text_is = ap (λ (l : List ℕ). l ++ told.line) h.text_is ∙ ap (λ (l : List ℕ). flat_map (λ t. t.line) h.all ++ l) (sym (append-nil told.line))
        ∙ sym (flat_map-append (λ (t : GroupLine). t.line) h.all (told ∷ []));
    well_is = ap (λ (b : Bool). b && told.is_well) h.well_is ∙ ap (λ (b : Bool). list_all (λ t. t.is_well) h.all && b) (sym (and-true told.is_well))
        ∙ sym (list_all-append (λ (t : GroupLine). t.is_well) h.all (told ∷ []));
  }

  -- one group more was told
  pub progress_push : (numbers left : Numbers) (e : ℕ × ℕ) (before after line : List ℕ) (is_well w : Bool) → Progress tells sheets numbers (e ∷ left) before after is_well
      → ((F : Facts) → IsEnds F (slice_index_or sheets e.1 []) → tells F (record { group = e.0; line = line; is_well = w })) → Progress tells sheets numbers left before (after ++ line) (is_well && w)
  progress_push numbers left e before after line is_well w p tell = record {
    done = p.done ++ e ∷ [];
    text = p.text ++ line;
    split = p.split ∙ sym (append_assoc p.done (e ∷ []) left);
    has_told = told_push p.done p.text is_well e (record { group = e.0; line = line; is_well = w }) p.has_told refl tell;
    written = ap (λ (l : List ℕ). l ++ line) p.written ∙ append_assoc before p.text line;
  }

  groups_of : (numbers : Numbers) (all : List GroupLine) → AreOf tells sheets numbers all → map (λ told. told.group) all ≡ keys_of numbers
  groups_of [] [] of = refl
  groups_of [] (t ∷ all) of = absurd of
  groups_of (e ∷ numbers) [] of = absurd of
  groups_of (e ∷ numbers) (t ∷ all) of = ap (λ (k : ℕ). k ∷ map (λ told. told.group) all) of.0 ∙ ap (λ (l : List ℕ). e.0 ∷ l) (groups_of numbers all of.2)

  each_told : (said : List ReceiverLine) (numbers : Numbers) (all : List GroupLine) → AreOf tells sheets numbers all → AllByRecursion (λ e. IsEnds (group_facts said e.0) (slice_index_or sheets e.1 [])) numbers
      → AllByRecursion (λ told. tells (group_facts said told.group) told) all
  each_told said [] [] of ends = tt
  each_told said [] (t ∷ all) of ends = absurd of
  each_told said (e ∷ numbers) [] of ends = absurd of
  each_told said (e ∷ numbers) (t ∷ all) of ends =
      (subst (λ (k : ℕ). tells (group_facts said k) t) (sym of.0) (of.1 (group_facts said e.0) ends.0), each_told said numbers all of.2 ends.1)

  -- all that is told is what is told of the groups that lines named
  pub groups_text : (said : List ReceiverLine) (numbers : Numbers) (batch : List GroupReception) (text : List ℕ) (is_well : Bool) → IsStrictlySortedBy nat_cmp (keys_of numbers) → batch ≡ []
      → HoldsIn (found numbers) sheets batch (is_named said) (group_facts said) → HasTold tells sheets numbers text is_well → IsGroupsText tells said text (cond is_well 0 1)
  groups_text said numbers batch text is_well ordered ended holds h =
      let same : map (λ told. told.group) h.all ≡ keys_of numbers = groups_of numbers h.all h.are_of in
      record {
        all = h.all;
        groups = subst (λ (l : List ℕ). AreGroups said l) (sym same) (record { rising = rising_keys (keys_of numbers) ordered; named = held_groups numbers sheets batch (is_named said) (group_facts said) holds });
        each = each_told said numbers h.all h.are_of
            (each_found (λ k n. IsEnds (group_facts said k) (slice_index_or sheets n [])) numbers (rising_keys (keys_of numbers) ordered) (λ k n is.
            shown_whole (found numbers) sheets batch (is_named said) (group_facts said) k n (slice_index_or sheets n []) ended is holds
            (holds.are_sheets.each n (held_some (found numbers) sheets batch (is_named said) (group_facts said) k n is holds).1)));
        text_is = h.text_is;
        status_is = ap (λ (b : Bool). cond b 0 1) h.well_is;
      }

-- every number is that of a sheet
pub numbers_inside : (numbers : Numbers) (sheets : List (List Seen)) (batch : List GroupReception) (named : ℕ → Bool) (F : ℕ → Facts) → IsStrictlySortedBy nat_cmp (keys_of numbers)
    → HoldsIn (found numbers) sheets batch named F → AllByRecursion (λ e. e.1 < length sheets) numbers
numbers_inside numbers sheets batch named F ordered h =
    each_found (λ k n. n < length sheets) numbers (rising_keys (keys_of numbers) ordered) (λ k n is. (held_some (found numbers) sheets batch named F k n is h).1)

all_at : {X : Type 0} (P : X → Type 0) (before : List X) (x : X) (after : List X) → AllByRecursion P (before ++ x ∷ after) → P x
all_at P [] x after all = all.0
all_at P (b ∷ before) x after all = all_at P before x after all.1

pub number_inside : (numbers : Numbers) (sheets : List (List Seen)) (done : Numbers) (e : ℕ × ℕ) (left : Numbers) → numbers ≡ done ++ e ∷ left → AllByRecursion (λ (x : ℕ × ℕ). x.1 < length sheets) numbers → e.1 < length sheets
number_inside numbers sheets done e left split all =
    all_at (λ (x : ℕ × ℕ). x.1 < length sheets) done e left (subst (λ (es : Numbers). AllByRecursion (λ (x : ℕ × ℕ). x.1 < length sheets) es) split all)
