-- How a run ends: what the sink took for its status.
use Rattle.std.specs.Prelude.{◌≡◌, ℕ, List, ◌++◌, Option}
use Rattle.lq_base_io.specs.Sink.{with_more}
use Rattle.lq_top_app.specs.declared.status.Status.{Status}
use Rattle.lq_top_app.specs.declared.status.Status.TheVariants.{Good, Rejected, Undecided, Refused, Usage, File, SinkFault, Memory}

abbrev pub WritesAll : (Status → List ℕ → Type 0) → Option (List ℕ) → Option (List ℕ) → Status → Type 0
WritesAll IsDue old new status = (report : List ℕ) × IsDue status report × (new ≡ with_more report old)

-- Without memory nothing was written, at a fault of the sink the front of a report that was due,
-- and at any other status the whole report that is due.
abbrev pub Ends : (Status → List ℕ → Type 0) → Option (List ℕ) → Option (List ℕ) → Status → Type 0
Ends IsDue old new Memory = new ≡ old
Ends IsDue old new SinkFault = (due : Status) × (sent rest : List ℕ) × IsDue due (sent ++ rest) × (new ≡ with_more sent old)
Ends IsDue old new Good = WritesAll IsDue old new Good
Ends IsDue old new Rejected = WritesAll IsDue old new Rejected
Ends IsDue old new Undecided = WritesAll IsDue old new Undecided
Ends IsDue old new Refused = WritesAll IsDue old new Refused
Ends IsDue old new Usage = WritesAll IsDue old new Usage
Ends IsDue old new File = WritesAll IsDue old new File
