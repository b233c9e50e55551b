-- Values for symbols, and what they make of a predicate.
use Rattle.std.specs.Prelude.{ℕ, ℤ, pos, Bool, false, cond, List, [], ◌∷◌, Option, Some, None}
use Rattle.lq_base_names.specs.declared.name.Name.{Name}
use Rattle.lq_logic_predicates.specs.declared.symbol.Symbol.{Symbol}
use Rattle.lq_logic_predicates.specs.Sum.{same_symbol}
use Rattle.lq_logic_predicates.specs.Truth.{Meaning}
use Rattle.lq_logic_predicates.specs.ClosedImplication.{EachTrueIn}
use Rattle.lq_meaning_steps.specs.Model.Core.{Value, v_whole, v_flag, v_array, v_build}
use Rattle.lq_refined_types.specs.Parts.Assignment.{Assignment, parts_under}
use Rattle.lq_refined_types.specs.Parts.Part.{Parts}
use Rattle.lq_refined_types.specs.Subtyping.Subtype.{Setting}

-- a value for a symbol; the first one for a symbol counts
pub record Given : Type 0 where
  pub symbol : Symbol
  pub value : Value

abbrev pub Givens : Type 0
Givens = List Given

abbrev pub given : Symbol → Value → Given
given x v = record { symbol = x; value = v }

abbrev pub value_at : Givens → Symbol → Option Value
value_at [] x = None
value_at (g ∷ σ) x = cond (same_symbol g.symbol x) (Some g.value) (value_at σ x)

-- A number for each array and each value of a datatype, and of each number a length and the value of each measure.
pub record Objects : Type 0 where
  pub number_of : Value → ℕ
  pub length : ℕ → ℤ
  pub measured : Name → ℕ → ℤ

-- what the relation reads: scopes and constructors, an assignment of instances, and the numbers of objects
pub record Scene : Type 0 where
  pub setting : Setting
  pub assignment : Assignment
  pub objects : Objects

-- a value of another sort is read as 0, false or the object 0
abbrev pub as_number : Option Value → ℤ
as_number (Some (v_whole n)) = n
as_number _ = pos 0

abbrev pub as_flag : Option Value → Bool
as_flag (Some (v_flag b)) = b
as_flag _ = false

abbrev pub as_object : Objects → Option Value → ℕ
as_object O (Some (v_array r n)) = O.number_of (v_array r n)
as_object O (Some (v_build c vs)) = O.number_of (v_build c vs)
as_object O _ = 0

-- what predicates are read by where symbols have these values
abbrev pub meaning_of : Objects → Givens → Meaning
meaning_of O σ =
    record { number = λ x. as_number (value_at σ x); holds = λ x. as_flag (value_at σ x); object = λ x. as_object O (value_at σ x); length = O.length; measured = O.measured }

-- parts are true of the values under the assignment
abbrev pub AreTrue : Scene → Givens → Parts → Type 0
AreTrue S σ ps = EachTrueIn (meaning_of S.objects σ) (parts_under S.assignment ps)
