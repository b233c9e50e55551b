-- A folder before and after calls, and what became of a file in them.
use Rattle.std.specs.Prelude.{◌≡◌, ◌⊎◌, ◌<◌, ◌≤◌, ℕ, List, ◌++◌, length, Option, Some, None, codes}
use Rattle.lq_base_io.specs.Causes.{Rose}
use Rattle.lq_base_io.specs.Folder.{Files}
use Rattle.lq_top_words.specs.declared.inputs.inputs.TheConstants.{FILE_LIMIT}

-- a folder before and after calls
pub record Visit : Type 0 where
  pub files : Option Files
  pub absents : ℕ
  pub absents_now : ℕ
  pub failures : ℕ
  pub failures_now : ℕ

abbrev pub visit : {F : Type 0} → (F → Option Files) → (F → ℕ) → (F → ℕ) → F → F → Visit
visit files absents failures old new = record { files = files old; absents = absents old; absents_now = absents new; failures = failures old; failures_now = failures new }

-- no call has come to the folder
pub record IsUntouched (v : Visit) : Type 0 where
  pub absents : v.absents_now ≡ v.absents
  pub failures : v.failures_now ≡ v.failures

-- the folder didn't fail, and has nothing under the name where it tells
pub record IsAbsent (v : Visit) (name : List ℕ) : Type 0 where
  pub rose : Rose v.absents v.absents_now
  pub calm : v.failures_now ≡ v.failures
  pub lacks : (held : Files) → v.files ≡ Some held → held name ≡ None

-- the folder didn't fail, and has a longer file where it tells
pub record IsTooLong (v : Visit) (name : List ℕ) : Type 0 where
  pub calm : v.failures_now ≡ v.failures
  pub longer : (held : Files) → v.files ≡ Some held → (bytes : List ℕ) × (held name ≡ Some bytes) × (FILE_LIMIT < length bytes)

-- the text is what the folder has under the name where it tells
pub record IsHanded (v : Visit) (name text : List ℕ) : Type 0 where
  pub bound : length text ≤ FILE_LIMIT
  pub holds : (held : Files) → v.files ≡ Some held → held name ≡ Some text

abbrev pub file_line : List ℕ → List ℕ → List ℕ
file_line what name = what ++ name ++ codes "\n"

-- the file didn't come, as the line says
abbrev pub IsFileFault : Visit → List ℕ → List ℕ → Type 0
IsFileFault v name line =
    (IsAbsent v name × (line ≡ file_line (codes "absent ") name))
    ⊎ ((Rose v.failures v.failures_now × (line ≡ file_line (codes "failed ") name))
    ⊎ (IsTooLong v name × (line ≡ file_line (codes "too long ") name)))
