-- Each status has its cause.
use Rattle.std.proofs.Common.{◌≡◌, ◌⊎◌, inl, inr, ◌<◌, ℕ, List, Option, Some, None, refl, subst, arith}
use Rattle.lq_top_words.specs.Command.Command.{Request, command_of, judge, sample}
use Rattle.lq_top_words.specs.Inputs.Visits.{Visit}
use Rattle.lq_top_judge.specs.Judgement.Safety.{SmallAreDecided}
use Rattle.lq_top_app.specs.Asked.{Asked, limit_of}
use Rattle.lq_top_app.specs.Causes.{IsDecidedHere, IsFileHere, IsRefusedHere, IsRejectedHere, IsUndecidedHere}
use Rattle.lq_top_app.specs.Ends.{Ends, WritesAll}
use Rattle.lq_top_app.specs.Once.{IsDetermined, IsExact, IsKnown, IsOrFault, MayStop, StopsHere}
use Rattle.lq_top_app.specs.Report.{IsDue, IsDueFor, IsJudged}
use Rattle.lq_top_app.specs.declared.status.Status.{Status}
use Rattle.lq_top_app.specs.declared.status.Status.TheVariants.{Good, Rejected, Undecided, Refused, Usage, File, SinkFault, Memory}
use Rattle.lq_top_app.proofs.Statuses.{file_for, judged_for, refused_as, rejected_as, undecided_as, usage_for}

-- what was written at a status is due at it
pub due_at : (words : List (List ℕ)) (v : Visit) (old new : Option (List ℕ)) (status other : Status) → Ends (IsDue words v) old new status → status ≡ other
    → Ends (IsDue words v) old new other
due_at words v old new status other ends is = subst (Ends (IsDue words v) old new) is ends

module _ (words : List (List ℕ)) (v : Visit) (old new : Option (List ℕ)) where
  pub usage_here : Ends (IsDue words v) old new Usage → command_of words ≡ None
  usage_here ends = usage_for (command_of words) v ends.0 ends.1

  pub file_here : Ends (IsDue words v) old new File → (line : List ℕ) × IsFileHere words v line
  file_here ends = (ends.0, file_for (command_of words) v ends.0 ends.1)

  abbrev asked : (request : Request) → command_of words ≡ Some request → (status : Status) (report : List ℕ) → IsJudged request v status report → Asked words v
  asked request is status report j = record { request = request; is = is; texts = j.texts; are = j.are }

  pub refused_here : Ends (IsDue words v) old new Refused → IsRefusedHere words v
  refused_here ends =
      let j = judged_for (command_of words) v Refused ends.0 (λ e. cc) (λ e. cc) ends.1 in
      let d = j.2.verdict in
      (asked j.0 j.1 Refused ends.0 j.2, refused_as (limit_of j.0) j.2.texts d.judgement d.due d.status_is)

  pub rejected_here : Ends (IsDue words v) old new Rejected → IsRejectedHere words v
  rejected_here ends =
      let j = judged_for (command_of words) v Rejected ends.0 (λ e. cc) (λ e. cc) ends.1 in
      let d = j.2.verdict in
      (asked j.0 j.1 Rejected ends.0 j.2, rejected_as (limit_of j.0) j.2.texts d.judgement d.due d.status_is)

  pub undecided_here : Ends (IsDue words v) old new Undecided → IsUndecidedHere words v
  undecided_here ends =
      let j = judged_for (command_of words) v Undecided ends.0 (λ e. cc) (λ e. cc) ends.1 in
      let d = j.2.verdict in
      (asked j.0 j.1 Undecided ends.0 j.2, undecided_as (limit_of j.0) j.2.texts d.judgement d.due d.status_is)

-- Where all implications are of differences and small, the prover didn't stop.
pub decided_here : SmallAreDecided → (words : List (List ℕ)) (v : Visit) → IsUndecidedHere words v → IsDecidedHere words v
decided_here small words v u =
    (u.0, (u.1.2.0, (u.1.0, u.1.1, (u.1.2.1, λ are of. small (limit_of u.0.request) u.1.0 u.1.2.0 u.1.2.1 are of))))

-- ---- what comes in place of what is due

may_stop : (words : List (List ℕ)) (v : Visit) (s : Status) (r : List ℕ) → StopsHere words v s r → MayStop words v
may_stop words v s r n = (r, record { asked = n.asked; cause = n.cause; stopped = n.stopped; status_is = refl; tells = n.tells })

written : IsDetermined → (words : List (List ℕ)) (v : Visit) (status due : Status) (report : List ℕ) (old new : Option (List ℕ)) → WritesAll (IsDue words v) old new status
    → IsKnown (command_of words) v → IsDue words v due report → (status ≡ due) ⊎ ((status ≡ SinkFault) ⊎ ((status ≡ Memory) ⊎ MayStop words v))
written law words v status due report old new all known is = elim (law words v status due all.0 report known all.1 is) [
  | inl same ↦ inl same.0
  | inr (inl left) ↦ inr (inr (inr (may_stop words v status all.0 left)))
  | inr (inr right) ↦ inr (inr (inr (may_stop words v due report right)))
]

pub exact : IsDetermined → (words : List (List ℕ)) (v : Visit) (old new : Option (List ℕ)) (status : Status) → Ends (IsDue words v) old new status → IsExact words v status
exact law words v old new Memory ends due report known is = inr (inr (inl refl))
exact law words v old new SinkFault ends due report known is = inr (inl refl)
exact law words v old new Good ends due report known is = written law words v Good due report old new ends known is
exact law words v old new Rejected ends due report known is = written law words v Rejected due report old new ends known is
exact law words v old new Undecided ends due report known is = written law words v Undecided due report old new ends known is
exact law words v old new Refused ends due report known is = written law words v Refused due report old new ends known is
exact law words v old new Usage ends due report known is = written law words v Usage due report old new ends known is
exact law words v old new File ends due report known is = written law words v File due report old new ends known is

-- other words than a command are answered by the usage line
no_command : (words : List (List ℕ)) (v : Visit) (status : Status) (report : List ℕ) (old new : Option (List ℕ)) → WritesAll (IsDue words v) old new status
    → command_of words ≡ None → status ≡ Usage
no_command words v status report old new all none =
    (subst (λ (request : Option Request). IsDueFor request v status all.0) none all.1).0

pub only_usage : (words : List (List ℕ)) (v : Visit) (old new : Option (List ℕ)) (status : Status) → Ends (IsDue words v) old new status → command_of words ≡ None
    → IsOrFault Usage status
only_usage words v old new Memory ends none = inr (inr refl)
only_usage words v old new SinkFault ends none = inr (inl refl)
only_usage words v old new Good ends none = inl (no_command words v Good ends.0 old new ends none)
only_usage words v old new Rejected ends none = inl (no_command words v Rejected ends.0 old new ends none)
only_usage words v old new Undecided ends none = inl (no_command words v Undecided ends.0 old new ends none)
only_usage words v old new Refused ends none = inl (no_command words v Refused ends.0 old new ends none)
only_usage words v old new Usage ends none = inl refl
only_usage words v old new File ends none = inl (no_command words v File ends.0 old new ends none)

-- a failure of the folder is answered as a fault of a file
calm_texts : (request : Request) (v : Visit) (status : Status) (report : List ℕ) → IsJudged request v status report → v.failures_now ≡ v.failures
calm_texts (judge mode p m q k) v status report j = j.are.calm
calm_texts (sample count k) v status report j = j.are.0.failures

failing : (request : Option Request) (v : Visit) (status : Status) (report : List ℕ) → IsDueFor request v status report → v.failures < v.failures_now → status ≡ File
failing None v status report due rose = absurd (omega (arith, due.1.failures))
failing (Some request) v status report (inl due) rose = due.0
failing (Some request) v status report (inr due) rose = absurd (let calm = calm_texts request v status report due in omega arith)

pub only_file : (words : List (List ℕ)) (v : Visit) (old new : Option (List ℕ)) (status : Status) → Ends (IsDue words v) old new status → v.failures < v.failures_now
    → IsOrFault File status
only_file words v old new Memory ends rose = inr (inr refl)
only_file words v old new SinkFault ends rose = inr (inl refl)
only_file words v old new Good ends rose = inl (failing (command_of words) v Good ends.0 ends.1 rose)
only_file words v old new Rejected ends rose = inl (failing (command_of words) v Rejected ends.0 ends.1 rose)
only_file words v old new Undecided ends rose = inl (failing (command_of words) v Undecided ends.0 ends.1 rose)
only_file words v old new Refused ends rose = inl (failing (command_of words) v Refused ends.0 ends.1 rose)
only_file words v old new Usage ends rose = inl (failing (command_of words) v Usage ends.0 ends.1 rose)
only_file words v old new File ends rose = inl refl
