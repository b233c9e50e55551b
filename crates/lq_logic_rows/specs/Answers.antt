-- What an engine last answered.
use Rattle.lq_logic_rows.specs.declared.engine.Answer.{Answer}
use Rattle.lq_logic_rows.specs.declared.engine.Answer.TheVariants.{Unasked, Solved, Contradicted, GaveUp}
use Rattle.lq_logic_rows.specs.declared.engine.Verdict.{Verdict}
use Rattle.lq_logic_rows.specs.declared.engine.Verdict.TheVariants.{Holds, Conflict}

pub data Last : Type 0 where
  Nothing : Last
  Held : Last
  Conflicted : Last
  Stopped : Last

abbrev pub verdict_of : Verdict → Last
verdict_of Holds = Held
verdict_of Conflict = Conflicted

-- what an engine keeps of it
abbrev pub last_of : Answer → Last
last_of Unasked = Nothing
last_of Solved = Held
last_of Contradicted = Conflicted
last_of GaveUp = Stopped
