-- That one line or the texts are due.
use Rattle.std.specs.Prelude.{◌≡◌, ◌<◌, ◌-◌, ◌^◌, ℕ, List, Some}
use Rattle.lq_base_io.specs.Folder.{Files}
use Rattle.lq_top_words.specs.Inputs.Visits.{Visit}
use Rattle.lq_top_words.specs.Inputs.Wanted.{Wanted, names_in, AreHanded, WasFault}

-- The folder tells what it holds and didn't fail, and its count of failures is not at the end. A folder that failed leaves open at which file.
pub record Tells (v : Visit) : Type 0 where
  pub held : Files
  pub told : v.files ≡ Some held
  pub calm : v.failures_now ≡ v.failures
  pub low : v.failures_now < 2 ^ 64 - 1

-- two lines that are due are one
abbrev pub FaultsAreOne : Type 0
FaultsAreOne = (v : Visit) (names : List (List ℕ)) (line other : List ℕ) → Tells v → WasFault v names line → WasFault v names other → line ≡ other

-- no line is due where the texts are
abbrev pub IsFaultOrHanded : Type 0
IsFaultOrHanded =
    (v : Visit) (w : Wanted) (line program measures quals : List ℕ) → Tells v → WasFault v (names_in w) line → AreHanded v w program measures quals → ⊥

-- texts that are handed over are one
abbrev pub HandedAreOne : Type 0
HandedAreOne =
    (v : Visit) (w : Wanted) (p m q r n s : List ℕ) → Tells v → AreHanded v w p m q → AreHanded v w r n s → (p ≡ r) × (m ≡ n) × (q ≡ s)
