-- What a folder and a sink in memory are made of.
use Rattle.std.specs.Prelude.{ℕ, List}
use Rattle.lq_base_io.specs.declared.memory.MemFolder.{MemFolder}
use Rattle.lq_base_io.specs.declared.memory.MemSink.{MemSink}

-- how many calls have come to a folder
abbrev pub fetches : MemFolder → ℕ
fetches f = f.calls

-- the numbers of those that are to fail
abbrev pub failing_fetches : MemFolder → List ℕ
failing_fetches f = f.failing.items

-- the greatest number of bytes that one call takes
abbrev pub most_of : MemSink → ℕ
most_of s = s.most

-- how many calls have come to a sink
abbrev pub writes : MemSink → ℕ
writes s = s.calls

-- the numbers of those that are to fail
abbrev pub failing_writes : MemSink → List ℕ
failing_writes s = s.failing.items

-- how many calls found no memory
abbrev pub lacking_writes : MemSink → ℕ
lacking_writes s = s.lacking
