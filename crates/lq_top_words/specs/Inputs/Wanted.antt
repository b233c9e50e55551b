-- The files that are wanted, and what became of them.
use Rattle.std.specs.Prelude.{◌≡◌, ◌≤◌, ℕ, List, [], ◌∷◌, ◌++◌, All, length, Option, Some, None, option_map, option_to_list}
use Rattle.lq_top_words.specs.declared.command.command.Judge.{Judge}
use Rattle.lq_base_io.specs.Folder.{Files}
use Rattle.lq_top_words.specs.Inputs.Visits.{Visit, IsFileFault, IsHanded}
use Rattle.lq_top_words.specs.declared.inputs.fault.NotFetched.{NotFetched}
use Rattle.lq_top_words.specs.declared.inputs.fault.NotFetched.TheVariants.{File, Memory}
use Rattle.lq_top_words.specs.declared.inputs.inputs.TheConstants.{FILE_LIMIT}

-- the names of the files of a program, its measures and its qualifiers
pub record Wanted : Type 0 where
  pub program : List ℕ
  pub measures : Option (List ℕ)
  pub quals : Option (List ℕ)

abbrev pub wanted_by : Judge → Wanted
wanted_by j = record {
  program = j.program.now;
  measures = option_map (λ text. text.now) j.measures;
  quals = option_map (λ text. text.now) j.quals;
}

-- in the order in which they are fetched
abbrev pub names_in : Wanted → List (List ℕ)
names_in w = w.program ∷ (option_to_list w.measures ++ option_to_list w.quals)

-- the file isn't too long, where the folder tells
abbrev pub Came : Visit → List ℕ → Type 0
Came v name = (held : Files) → v.files ≡ Some held → (text : List ℕ) × (held name ≡ Some text) × (length text ≤ FILE_LIMIT)

-- a file didn't come, as the line says, and those wanted before it did
pub record WasFault (v : Visit) (names : List (List ℕ)) (line : List ℕ) : Type 0 where
  pub front : List (List ℕ)
  pub name : List ℕ
  pub back : List (List ℕ)
  pub order : names ≡ front ++ name ∷ back
  pub came : All (Came v) front
  pub fault : IsFileFault v name line

-- of a line that is told
abbrev pub IfTold : (List ℕ → Type 0) → NotFetched → Type 0
IfTold P (File line) = P line
IfTold P Memory = Unit {0}

-- where a file is named
abbrev pub IsFaultIfNamed : Visit → Option (List ℕ) → List ℕ → Type 0
IsFaultIfNamed v None line = ⊥
IsFaultIfNamed v (Some name) line = IsFileFault v name line

abbrev pub IsHandedIfNamed : Visit → Option (List ℕ) → List ℕ → Type 0
IsHandedIfNamed v None text = text ≡ []
IsHandedIfNamed v (Some name) text = IsHanded v name text

-- the folder didn't fail, and handed over these texts
pub record AreHanded (v : Visit) (w : Wanted) (program measures quals : List ℕ) : Type 0 where
  pub calm : v.failures_now ≡ v.failures
  pub program_is : IsHanded v w.program program
  pub measures_are : IsHandedIfNamed v w.measures measures
  pub quals_are : IsHandedIfNamed v w.quals quals
