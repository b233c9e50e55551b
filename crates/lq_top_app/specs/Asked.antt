-- The texts that words ask to judge.
use Rattle.std.specs.Prelude.{◌≡◌, ℕ, List, [], Option, Some}
use Rattle.lq_text_front.specs.Bytes.Stages.{Bytes, bytes_of}
use Rattle.lq_top_words.specs.Command.Command.{Request, command_of, judge, sample}
use Rattle.lq_top_words.specs.Command.View.{request_view}
use Rattle.lq_top_words.specs.declared.command.command.Command.TheVariants as command
use Rattle.lq_top_words.specs.declared.command.command.Judge.{Judge}
use Rattle.lq_top_words.specs.Inputs.Visits.{Visit, IsUntouched}
use Rattle.lq_top_words.specs.Inputs.Wanted.{Wanted, AreHanded, WasFault, names_in}
use Rattle.lq_top_words.specs.Sample.Sample.{sample_program_text, sample_qualifiers_text}

-- the request for files in memory
abbrev pub request_by : Judge → Request
request_by files = request_view (command.Judge files)

-- how many pivots a check of a tableau may take
abbrev pub limit_of : Request → ℕ
limit_of (judge mode program measures quals pivots) = pivots
limit_of (sample count pivots) = pivots

abbrev pub wanted : List ℕ → Option (List ℕ) → Option (List ℕ) → Wanted
wanted program measures quals = record { program = program; measures = measures; quals = quals }

-- a sample program and its qualifiers, without measures
abbrev pub sample_texts : ℕ → Bytes
sample_texts count = bytes_of (sample_program_text count) [] sample_qualifiers_text

-- These are the texts to judge: those that the folder handed over, and in a sample its own, for which no file is fetched.
abbrev pub AreTexts : Request → Visit → Bytes → Type 0
AreTexts (judge mode program measures quals pivots) v b = AreHanded v (wanted program measures quals) b.program b.measures b.qualifiers
AreTexts (sample count pivots) v b = IsUntouched v × (b ≡ sample_texts count)

-- a file that is named didn't come, as the line says
abbrev pub WasFileFault : Request → Visit → List ℕ → Type 0
WasFileFault (judge mode program measures quals pivots) v line = WasFault v (names_in (wanted program measures quals)) line
WasFileFault (sample count pivots) v line = ⊥

-- The words ask to judge these texts.
pub record Asked (words : List (List ℕ)) (v : Visit) : Type 0 where
  pub request : Request
  pub is : command_of words ≡ Some request
  pub texts : Bytes
  pub are : AreTexts request v texts
