-- The promise of a run, at the plan that was run.
use Rattle.std.proofs.Common.{◌≡◌, ℕ, sym, subst}
use Rattle.byte_streams.specs.declared.streams.Source
use Rattle.byte_streams.specs.declared.streams.Sink
use Rattle.line_engine.specs.Runs.{IsRun}
use Rattle.command_line.specs.declared.plans.Plan.{Plan}
use Rattle.dsc_cmd.specs.Plans.{meaning_of, source_of}

-- what a run says of the meaning of a plan's command
abbrev pub RunsPlan : {In Out : Type 0} (source : Source.Ghosts In) (sink : Sink.Ghosts Out) (from rest : In) (before after : Out) (status : ℕ) → Plan → Type 0
RunsPlan source sink from rest before after status plan = IsRun (meaning_of plan) (source_of plan source) sink from rest before after status

-- the plan that was matched is the plan
pub at_plan : {In Out : Type 0} (source : Source.Ghosts In) (sink : Sink.Ghosts Out) {from rest : In} {before after : Out} {status : ℕ} {plan matched : Plan} → plan ≡ matched
    → RunsPlan source sink from rest before after status matched → RunsPlan source sink from rest before after status plan
at_plan source sink {from} {rest} {before} {after} {status} same run = subst (RunsPlan source sink from rest before after status) (sym same) run
