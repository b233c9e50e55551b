-- What a reading adds to a path, as literals and choices of the code.
use Rattle.std.specs.Prelude.{◌≡◌, false, List, [], ◌∷◌, ◌++◌, All, map}
use Rattle.lq_prover_proof_tree.specs.Trees.Path.{Fact, never, Path}
use Rattle.lq_prover_case.specs.Equations.Literals.{literal_fact}
use Rattle.lq_logic_rows.specs.Row.{Row}
use Rattle.lq_prover_search.specs.Path.SearchPath.{choices_of}
use Rattle.lq_prover_search.specs.declared.path.choice.Choice.{Choice}
use Rattle.lq_logic_predicates.specs.NnfView.{nnfs_view}
use Rattle.lq_logic_predicates.specs.Reading.{Readings}
use Rattle.lq_prover_search.specs.declared.search.parts.Part.{Part}
use Rattle.lq_prover_search.specs.declared.search.parts.Part.TheVariants.{Never, Known}

abbrev pub part_fact : Part → Fact
part_fact Never = never
part_fact (Known literal) = literal_fact literal

abbrev pub facts_of : List Part → List Fact
facts_of = map part_fact

abbrev pub path_by : List Part → List Choice → Path
path_by parts choices = record { facts = facts_of parts; choices = choices_of choices }

-- more choices, of which no member was taken
pub record AddsOpen (old new : List Choice) : Type 0 where
  pub more : List Choice
  pub is : new ≡ old ++ more
  pub open_still : All (λ c. c.is_done ≡ false) more

-- one choice more, of which no member was taken
pub record AddsChoice (old : List Choice) (members : Readings Row) (new : List Choice) : Type 0 where
  pub choice : Choice
  pub is : new ≡ old ++ choice ∷ []
  pub open_still : choice.is_done ≡ false
  pub members_are : nnfs_view choice.members.now ≡ members

abbrev pub path_with : List Fact → List (Readings Row) → Path
path_with facts choices = record { facts = facts; choices = choices }
