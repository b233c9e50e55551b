-- Operands, with what stands for them in predicates, and calls.
use Rattle.std.specs.Prelude.{◌≡◌, ℕ, suc, true, Some, None}
use Rattle.lq_logic_predicates.specs.Truth.{object_of, term_value}
use Rattle.lq_meaning_steps.specs.Model.Core as core
use Rattle.lq_meaning_steps.specs.Model.Core.{Core, Value, close}
use Rattle.lq_meaning_steps.specs.Model.Operations.{World}
use Rattle.lq_refined_types.specs.Parts.Assignment.{Assignment}
use Rattle.lq_refined_types.specs.Parts.Substitution.{Atom, of_sum, of_formula}
use Rattle.lq_text_tree.specs.MlType as ml
use Rattle.lq_text_tree.specs.MlType.{MlType}
use Rattle.lq_refined_types.specs.Types.Context.{Context, type_in}
use Rattle.lq_refined_types.specs.Types.Operations.{symbol_of}
use Rattle.lq_refined_types.specs.Types.Refined.{Refined, Refineds, int_with, bool_with, unit_type, function, tuple_of, array_with, data_with, map_with, type_variable, none, more, kind, argument_of}
use Rattle.lq_refined_types.specs.Subtyping.Subtype.{IsSubtype}
use Rattle.lq_refined_rules.specs.Checks.Basis.{Basis}
use Rattle.lq_refined_rules.specs.Checks.Fitting.{Fits}
use Rattle.lq_refined_rules.specs.Checks.Operation.{called_type}
use Rattle.lq_refined_rules.specs.Checks.Pure.{type_of_use, pure_type, pure_atom}
use Rattle.lq_refined_rules.specs.Checks.Tree.{Pure, whole, flag, unit, use_of, negated, add, subtract, multiply, length_of, compare, not_of, and_of, or_of}
use Rattle.lq_refined_rules.specs.Checks.Typing.{Points, AreTemplates, Types, HasPure}
use Rattle.lq_sound_values.specs.Inhabitants.Truth.{Givens, as_number, as_object, Objects, meaning_of, Scene}
use Rattle.lq_sound_values.specs.Inhabitants.Shut.{shut}
use Rattle.lq_sound_values.specs.Inhabitants.Inhabits.{Table, Inhabits}
use Rattle.lq_sound_values.specs.Inhabitants.Runs.{RunsWell}
use Rattle.lq_sound_values.specs.Inclusion.Apart.{Apart}
use Rattle.lq_sound_values.specs.Inclusion.Laws.{IsScene}
use Rattle.lq_sound_values.specs.Inclusion.Putting.{StandsFor}
use Rattle.lq_sound_values.specs.Inclusion.Symbols.{Symbols, TypeOn}
use Rattle.lq_sound_values.specs.Twins.Names.{IsNoVariable, NamesApart, TwinsOutside}
use Rattle.lq_sound_values.specs.Runs.Closed.{names_in, IsClosed}
use Rattle.lq_sound_values.specs.Runs.Meets.{pairs, Variables, Meets}
use Rattle.lq_sound_values.specs.Runs.Runs.{Exactly, RunsTo}
use Rattle.lq_sound_forms.specs.Pures.Cores.{pure_core}
use Rattle.lq_sound_forms.specs.Pures.Pures.{KnowsLengths, scene_of, PureIn}

-- as a term the atom has the number and the object of the value
abbrev pub HasTerm : Objects → Givens → Atom → Value → Type 0
HasTerm O σ (of_sum t) v = (term_value (meaning_of O σ) t ≡ as_number (Some v)) × (object_of (meaning_of O σ) t ≡ as_object O (Some v))
HasTerm O σ (of_formula p) v = Unit {0}

-- The atom stands for the value of the type in predicates; where that is a variable, as a term alone, since a truth value may be put for it.
abbrev pub HasAtom : Objects → Givens → Refined → Atom → Value → Type 0
HasAtom O σ t a v = (IsNoVariable t → StandsFor O σ a v) × HasTerm O σ a v

-- an operand runs to one value that inhabits its type, and the atom stands for the value
abbrev pub RunsToOperand : Scene → Variables → Context → Core → Refined → Atom → Type 0
RunsToOperand S by Γ c t a =
    (n : ℕ) (W : Table) (σ : Givens) → Meets S by (suc n) W Γ σ
    → (v : Value) × Inhabits S (suc n) W (shut σ by.types t) v × HasAtom S.objects σ t a v × ((k : ℕ) (w : World) → RunsWell k (close (pairs σ) c) w (Exactly v w))

-- where a function in the type names its argument by a name of the environment, that name's type is of the argument's kind, if that is no
-- variable
abbrev mutual
  pub KindsAgree : Context → Refined → Type 0
  KindsAgree Γ (int_with p) = Unit {0}
  KindsAgree Γ (bool_with p) = Unit {0}
  KindsAgree Γ unit_type = Unit {0}
  KindsAgree Γ (function None a b) = KindsAgree Γ a × KindsAgree Γ b
  KindsAgree Γ (function (Some x) a b) =
      (names_in Γ (symbol_of x) ≡ true → IsNoVariable a → (kind (type_in Γ (symbol_of x)) ≡ kind a) × IsNoVariable (type_in Γ (symbol_of x)))
      × KindsAgree Γ a × KindsAgree Γ b
  KindsAgree Γ (tuple_of ts) = AllKindsAgree Γ ts
  KindsAgree Γ (array_with e p) = KindsAgree Γ e
  KindsAgree Γ (data_with d ts m p) = AllKindsAgree Γ ts
  KindsAgree Γ (map_with e p) = Unit {0}
  KindsAgree Γ (type_variable i) = Unit {0}

  pub AllKindsAgree : Context → Refineds → Type 0
  AllKindsAgree Γ none = Unit {0}
  AllKindsAgree Γ (more t ts) = KindsAgree Γ t × AllKindsAgree Γ ts

-- The names of arguments in a variable's type are apart from the names of which it speaks, have kinds that agree with the environment's, and
-- twins that stand nowhere in it.
pub record IsTwinReady (S : Scene) (Γ : Context) (t : Refined) : Type 0 where
  pub over : Symbols
  pub on : TypeOn S.assignment t over
  pub apart : NamesApart S.assignment over t
  pub kinds : KindsAgree Γ t
  pub outside : TwinsOutside (names_in Γ) t

-- a variable may be used where its type is one of these; functions and tuples get twins
abbrev pub IsUsable : Scene → Context → Refined → Type 0
IsUsable S Γ (int_with p) = Unit {0}
IsUsable S Γ (bool_with p) = Unit {0}
IsUsable S Γ unit_type = Unit {0}
IsUsable S Γ (function x a b) = IsTwinReady S Γ (function x a b)
IsUsable S Γ (tuple_of ts) = IsTwinReady S Γ (tuple_of ts)
IsUsable S Γ (array_with e p) = Unit {0}
IsUsable S Γ (data_with d ts m p) = Unit {0}
IsUsable S Γ (map_with e p) = Unit {0}
IsUsable S Γ (type_variable i) = Unit {0}

abbrev pub IsUsablePure : Basis → Scene → Context → Pure → Type 0
IsUsablePure P S Γ (use_of u) = IsUsable S Γ (type_of_use P Γ u)
IsUsablePure P S Γ (whole n) = Unit {0}
IsUsablePure P S Γ (flag b) = Unit {0}
IsUsablePure P S Γ unit = Unit {0}
IsUsablePure P S Γ (negated a) = Unit {0}
IsUsablePure P S Γ (add a b) = Unit {0}
IsUsablePure P S Γ (subtract a b) = Unit {0}
IsUsablePure P S Γ (multiply a b) = Unit {0}
IsUsablePure P S Γ (length_of a) = Unit {0}
IsUsablePure P S Γ (compare o a b) = Unit {0}
IsUsablePure P S Γ (not_of a) = Unit {0}
IsUsablePure P S Γ (and_of a b) = Unit {0}
IsUsablePure P S Γ (or_of a b) = Unit {0}

-- a usable expression is an operand of its type, and its atom stands for it
abbrev pub OperandsRun : Type 0
OperandsRun =
    (P : Basis) (A : Assignment) (O : Objects) → IsScene (scene_of P A O) → KnowsLengths O → (by : Variables) (Q : Points) → AreTemplates P Q
    → (Δ : Types) (Γ : Context)
    → Fits Δ Γ → IsClosed (scene_of P A O) Γ → (e : Pure) (a : MlType) → HasPure Q Δ e a → PureIn P A by Γ e
    → IsUsablePure P (scene_of P A O) Γ e → RunsToOperand (scene_of P A O) by Γ (pure_core e) (pure_type P Γ e) (pure_atom P Γ e)

-- a call whose operand's type is a subtype of the argument's runs to the result's type, with the operand for the argument's name
abbrev pub CallsRun : Type 0
CallsRun =
    (P : Basis) (A : Assignment) (O : Objects) → IsScene (scene_of P A O) → KnowsLengths O → (by : Variables) (Q : Points) → AreTemplates P Q
    → (Δ : Types) (Γ : Context)
    → Fits Δ Γ → IsClosed (scene_of P A O) Γ → (g e : Pure) (a b : MlType) → HasPure Q Δ g (ml.arrow a b) → HasPure Q Δ e a
    → PureIn P A by Γ g → PureIn P A by Γ e → IsUsablePure P (scene_of P A O) Γ g → IsUsablePure P (scene_of P A O) Γ e
    → (d : IsSubtype P.setting A Γ (pure_type P Γ e) (argument_of (pure_type P Γ g))) → Apart (scene_of P A O) d
    → RunsTo (scene_of P A O) by Γ (core.call (pure_core g) (pure_core e)) (called_type P Γ (pure_type P Γ g) e)
