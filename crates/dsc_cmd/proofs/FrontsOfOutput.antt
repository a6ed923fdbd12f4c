-- a run that was broken off wrote a front of the output
use Rattle.std.proofs.Common.{◌≡◌, ℕ, List, [], ◌++◌, Option, inl, inr, refl, ap, ◌∙◌, append_assoc}
use Rattle.byte_streams.proofs.PublicLaws.{Loses-none, Gains-none}
use Rattle.line_engine.specs.Lines.{lines_of}
use Rattle.line_engine.specs.Meaning.{Meaning}
use Rattle.line_engine.specs.Output.{IsSoFar}
use Rattle.line_engine.specs.Determined.{IsDetermined, BeginsWith}
use Rattle.line_engine.specs.Endings.{IsBrokenOff, TellsSoFar, CutsOff, TellsFront}
use Rattle.line_engine.proofs.PublicLaws.{begins_output, begins_asked}
use Rattle.dsc_cmd.specs.Plans.{WritesFrontOfOutput}

module _ (meaning : Meaning) (is : IsDetermined meaning) where
  -- a front of a front is a front
  front_of_front : (whole text front back : List ℕ) → text ≡ front ++ back → BeginsWith whole text → BeginsWith whole front
  front_of_front whole text front back split b = (back ++ b.0, b.1 ∙ ap (λ (t : List ℕ). t ++ b.0) split ∙ append_assoc front back b.0)

  pub front_so_far : (left_before left_after before after : Option (List ℕ)) → TellsSoFar meaning left_before left_after before after
      → WritesFrontOfOutput meaning left_before left_after before after
  front_so_far left_before left_after before after t = record {
    taken = t.taken;
    lost = t.lost;
    front = t.text;
    appended = t.appended;
    begins = λ rest left whole status output.
        let so_far : IsSoFar meaning (lines_of (t.taken ++ rest)) t.text =
        record { first = t.lines; later = lines_of (t.end ++ rest); list = t.cut.goes_on rest; faultless = t.faultless; gives = t.gives } in
        begins_output meaning is (lines_of (t.taken ++ rest)) t.text whole status so_far output;
  }

  pub front_cut : (left_before left_after before after : Option (List ℕ)) → CutsOff meaning left_before left_after before after
      → WritesFrontOfOutput meaning left_before left_after before after
  front_cut left_before left_after before after t = record {
    taken = t.taken;
    lost = t.lost;
    front = t.writes.front;
    appended = t.writes.appended;
    begins = λ rest left whole status output.
        front_of_front whole t.text t.writes.front t.writes.back t.writes.text_is
        (begins_asked meaning is (lines_of (t.taken ++ rest)) t.text whole status (t.asked rest left) output);
  }

  pub front_told : (left_before left_after before after : Option (List ℕ)) → TellsFront meaning left_before left_after before after
      → WritesFrontOfOutput meaning left_before left_after before after
  front_told left_before left_after before after t = record {
    taken = t.taken;
    lost = t.lost;
    front = t.writes.front;
    appended = t.writes.appended;
    begins = λ rest left whole status output.
        front_of_front whole t.text t.writes.front t.writes.back t.writes.text_is
        (begins_output meaning is (lines_of (t.taken ++ rest)) t.text whole status (t.so_far rest left) output);
  }

  -- whichever way it was broken off
  pub front_broken_off : (left_before left_after before after : Option (List ℕ)) (status : ℕ) → IsBrokenOff status
      → (status ≡ 4 → TellsSoFar meaning left_before left_after before after) → (status ≡ 5 → CutsOff meaning left_before left_after before after)
      → (status ≡ 6 → TellsFront meaning left_before left_after before after) → WritesFrontOfOutput meaning left_before left_after before after
  front_broken_off left_before left_after before after status (inl stopped) a b c = front_so_far left_before left_after before after (a stopped)
  front_broken_off left_before left_after before after status (inr (inl cut)) a b c = front_cut left_before left_after before after (b cut)
  front_broken_off left_before left_after before after status (inr (inr memory)) a b c = front_told left_before left_after before after (c memory)

-- nothing was done
pub front_none : (meaning : Meaning) (left written : Option (List ℕ)) → WritesFrontOfOutput meaning left left written written
front_none meaning left written = record {
  taken = [];
  lost = Loses-none left;
  front = [];
  appended = Gains-none written;
  begins = λ rest is whole status output. (whole, refl);
}
