-- What is asked of a program's datatypes: that all constructors are listed, and that measures are known, by equations of v and of fields at
-- their sorts.
use Rattle.std.specs.Prelude.{◌≡◌, ℕ, suc, false, Some}
use Rattle.lq_refined_rules.specs.Checks.Basis.{Basis}
use Rattle.lq_sound_forms.specs.Fields.Fields.{KnowsMeasures}
use Rattle.lq_sound_values.specs.Inclusion.Symbols.{Symbols, with_symbol}
use Rattle.lq_sound_values.specs.Inhabitants.Truth.{Objects}
use Rattle.lq_logic_predicates.specs.declared.symbol.Symbol.{Symbol}
use Rattle.lq_logic_predicates.specs.declared.symbol.Symbol.TheVariants.{Position}
use Rattle.lq_sound_values.specs.Runs.Closed.{EachSorted, with_value}
use Rattle.lq_sound_programs.specs.Safety.Scoped.{ListsConstructors}
use Rattle.lq_text_qualifiers.specs.Faults.Shapes.{Shape, int, bool, array, data_of, other, shape_of}
use Rattle.lq_text_tree.specs.MlType.{MlTypes, no_types, more_types}
use Rattle.lq_text_tree.specs.Types.{Constructor}

-- these and one more, where a value of the shape is a number or an object
abbrev pub with_measured : Shape → Symbols → Symbol → Symbols
with_measured int N x = with_symbol N x
with_measured bool N x = N
with_measured array N x = with_symbol N x
with_measured (data_of d) N x = with_symbol N x
with_measured other N x = N

-- `#k` for each of the fields from the one behind the first j on that is a number or an object whatever the parameters
abbrev pub measured_from : ℕ → MlTypes → Symbols
measured_from j no_types = λ y. false
measured_from j (more_types f fs) = with_measured (shape_of f) (measured_from (suc j) fs) (Position (suc j))

-- each equation of a constructor speaks of v and of such fields
abbrev pub AreEquationsSorted : Basis → Type 0
AreEquationsSorted P =
    (c : ℕ) (k : Constructor) → P.setting.constructors c ≡ Some k
    → EachSorted (with_value (measured_from 0 k.fields)) (λ y. false) (P.equations c)

pub record HasDatatypes (P : Basis) (O : Objects) : Type 0 where
  pub listed : ListsConstructors P
  pub equations : AreEquationsSorted P
  pub measures : KnowsMeasures P O
