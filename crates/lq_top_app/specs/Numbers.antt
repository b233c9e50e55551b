-- The exit status of each way to end.
use Rattle.std.specs.Prelude.{ℕ}
use Rattle.lq_top_app.specs.declared.status.Status.{Status}
use Rattle.lq_top_app.specs.declared.status.Status.TheVariants.{Good, Rejected, Undecided, Refused, Usage, File, SinkFault, Memory}

abbrev pub number_of : Status → ℕ
number_of Good = 0
number_of Rejected = 1
number_of Undecided = 2
number_of Refused = 3
number_of Usage = 4
number_of File = 5
number_of SinkFault = 6
number_of Memory = 7
