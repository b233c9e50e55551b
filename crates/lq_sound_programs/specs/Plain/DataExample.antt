-- A program with a list, a tuple and a match on each is plain.
use Rattle.std.specs.Prelude.{[]}
use Rattle.lq_sound_programs.specs.Safety.DataExample.{objects_by_size, data_basis, data_program}
use Rattle.lq_sound_programs.specs.Safety.Example.{no_instances}
use Rattle.lq_sound_programs.specs.Safety.Programs.{no_symbols}
use Rattle.lq_sound_programs.specs.Plain.Plain.{IsPlainProgram}

abbrev pub DataExampleIsPlain : Type 0
DataExampleIsPlain = IsPlainProgram data_basis no_instances objects_by_size no_symbols [] data_program
