-- One atom for one name.
use Rattle.std.proofs.Common.{◌≡◌, ℕ, pos, Bool, true, false, cond, [], ◌∷◌, Some, refl, sym, ap, ◌∙◌, subst}
use Rattle.lq_logic_predicates.specs.declared.symbol.Symbol.{Symbol}
use Rattle.lq_logic_predicates.specs.Formula.{Formula, flag}
use Rattle.lq_logic_predicates.specs.Sum.{Sum, var, same_symbol}
use Rattle.lq_logic_predicates.specs.Truth.{object_of, term_value, truth_of}
use Rattle.lq_meaning_steps.specs.Model.Core.{Value}
use Rattle.lq_refined_types.specs.Parts.Substitution.{Atom, of_sum, of_formula, swap}
use Rattle.lq_refined_types.specs.Types.Operations.{symbol_of}
use Rattle.lq_sound_values.specs.Inhabitants.Truth.{Givens, given, value_at, as_number, as_flag, as_object, Objects, meaning_of}
use Rattle.lq_sound_values.specs.Inclusion.Symbols.{other_than, SumOn, FormulaOn}
use Rattle.lq_sound_values.specs.Inclusion.Putting.{StandsFor, Stands, LeavesAlone}
use Rattle.lq_sound_values.proofs.InclusionLemmas.Truths.{at_self, at_but, decide, same_symbol-is, false_not}
use Rattle.lq_sound_values.specs.Twins.Names.{AtomOn}
use Rattle.lq_sound_values.specs.Twins.Laws.{IsNeutralFor}

-- ---- what is left alone

chosen : (A : Type 0) (b : Bool) (x y : A) → b ≡ true → cond b x y ≡ x
chosen A true x y e = refl
chosen A false x y e = absurd (cc)

left : (A : Type 0) (b : Bool) (x y : A) → b ≡ false → cond b x y ≡ y
left A true x y e = absurd (cc)
left A false x y e = refl

cond_sum : (x z : Symbol) (b : Bool) (t : Sum) (y : Symbol) → SumOn (other_than z) t → same_symbol z y ≡ false → SumOn (other_than z) (cond b t (var y))
cond_sum x z true t y o h = o
cond_sum x z false t y o h = false_not (same_symbol z y) h

cond_formula : (z : Symbol) (b : Bool) (p : Formula) (y : Symbol) → FormulaOn (other_than z) p → same_symbol z y ≡ false → FormulaOn (other_than z) (cond b p (flag y))
cond_formula z true p y o h = o
cond_formula z false p y o h = false_not (same_symbol z y) h

pub leaves_alone : (x z : Symbol) (a : Atom) → same_symbol x z ≡ false → AtomOn (other_than z) a → LeavesAlone (swap x a ∷ []) z
leaves_alone x z (of_sum t) e o =
    record { own_sum = left Sum (same_symbol x z) t (var z) e; own_flag = refl; sums = λ y h. cond_sum x z (same_symbol x y) t y o h; flags = λ y h. false_not (same_symbol z y) h }
leaves_alone x z (of_formula p) e o =
    record { own_sum = refl; own_flag = left Formula (same_symbol x z) p (flag z) e; sums = λ y h. false_not (same_symbol z y) h; flags = λ y h. cond_formula z (same_symbol x y) p y o h }

-- ---- what it stands for

module _ (O : Objects) (ρ : Givens) (x : ℕ) (v : Value) where
  at_other : (y : Symbol) → same_symbol (symbol_of x) y ≡ false → value_at ρ y ≡ value_at (given (symbol_of x) v ∷ ρ) y
  at_other y e = sym (at_but ρ (symbol_of x) y v e)

  at_name : value_at (given (symbol_of x) v ∷ ρ) (symbol_of x) ≡ Some v
  at_name = at_self ρ (symbol_of x) v

  sum_stands : (t : Sum) → StandsFor O ρ (of_sum t) v → as_flag (value_at ρ (symbol_of x)) ≡ false → Stands O (swap (symbol_of x) (of_sum t) ∷ []) ρ (given (symbol_of x) v ∷ ρ)
  sum_stands t s n =
      record { number = λ y. decide _ (same_symbol (symbol_of x) y) (λ e. number_here y e) (λ e. number_there y e); holds = λ y. decide _ (same_symbol (symbol_of x) y) (λ e. holds_here y e) (λ e. ap as_flag (at_other y e)); object = λ y. decide _ (same_symbol (symbol_of x) y) (λ e. object_here y e) (λ e. object_there y e) }
    where
      number_here : (y : Symbol) → same_symbol (symbol_of x) y ≡ true → term_value (meaning_of O ρ) (cond (same_symbol (symbol_of x) y) t (var y)) ≡ as_number (value_at (given (symbol_of x) v ∷ ρ) y)
      number_here y e =
          ap (term_value (meaning_of O ρ)) (chosen Sum (same_symbol (symbol_of x) y) t (var y) e) ∙ s.0 ∙ ap as_number (sym at_name) ∙ ap (λ z. as_number (value_at (given (symbol_of x) v ∷ ρ) z)) (same_symbol-is (symbol_of x) y e)

      number_there : (y : Symbol) → same_symbol (symbol_of x) y ≡ false → term_value (meaning_of O ρ) (cond (same_symbol (symbol_of x) y) t (var y)) ≡ as_number (value_at (given (symbol_of x) v ∷ ρ) y)
      number_there y e = ap (term_value (meaning_of O ρ)) (left Sum (same_symbol (symbol_of x) y) t (var y) e) ∙ ap as_number (at_other y e)

      holds_here : (y : Symbol) → same_symbol (symbol_of x) y ≡ true → as_flag (value_at ρ y) ≡ as_flag (value_at (given (symbol_of x) v ∷ ρ) y)
      holds_here y e =
          subst (λ z. as_flag (value_at ρ z) ≡ as_flag (value_at (given (symbol_of x) v ∷ ρ) z)) (same_symbol-is (symbol_of x) y e) (n ∙ sym s.1 ∙ ap as_flag (sym at_name))

      object_here : (y : Symbol) → same_symbol (symbol_of x) y ≡ true → object_of (meaning_of O ρ) (cond (same_symbol (symbol_of x) y) t (var y)) ≡ as_object O (value_at (given (symbol_of x) v ∷ ρ) y)
      object_here y e =
          ap (object_of (meaning_of O ρ)) (chosen Sum (same_symbol (symbol_of x) y) t (var y) e) ∙ s.2 ∙ ap (as_object O) (sym at_name) ∙ ap (λ z. as_object O (value_at (given (symbol_of x) v ∷ ρ) z)) (same_symbol-is (symbol_of x) y e)

      object_there : (y : Symbol) → same_symbol (symbol_of x) y ≡ false → object_of (meaning_of O ρ) (cond (same_symbol (symbol_of x) y) t (var y)) ≡ as_object O (value_at (given (symbol_of x) v ∷ ρ) y)
      object_there y e = ap (object_of (meaning_of O ρ)) (left Sum (same_symbol (symbol_of x) y) t (var y) e) ∙ ap (as_object O) (at_other y e)

  formula_stands : (p : Formula) → StandsFor O ρ (of_formula p) v → as_number (value_at ρ (symbol_of x)) ≡ pos 0 → as_object O (value_at ρ (symbol_of x)) ≡ 0 → Stands O (swap (symbol_of x) (of_formula p) ∷ []) ρ (given (symbol_of x) v ∷ ρ)
  formula_stands p s n k =
      record { number = λ y. decide _ (same_symbol (symbol_of x) y) (λ e. number_here y e) (λ e. ap as_number (at_other y e)); holds = λ y. decide _ (same_symbol (symbol_of x) y) (λ e. holds_here y e) (λ e. holds_there y e); object = λ y. decide _ (same_symbol (symbol_of x) y) (λ e. object_here y e) (λ e. ap (as_object O) (at_other y e)) }
    where
      number_here : (y : Symbol) → same_symbol (symbol_of x) y ≡ true → as_number (value_at ρ y) ≡ as_number (value_at (given (symbol_of x) v ∷ ρ) y)
      number_here y e =
          subst (λ z. as_number (value_at ρ z) ≡ as_number (value_at (given (symbol_of x) v ∷ ρ) z)) (same_symbol-is (symbol_of x) y e) (n ∙ sym s.0 ∙ ap as_number (sym at_name))

      object_here : (y : Symbol) → same_symbol (symbol_of x) y ≡ true → as_object O (value_at ρ y) ≡ as_object O (value_at (given (symbol_of x) v ∷ ρ) y)
      object_here y e =
          subst (λ z. as_object O (value_at ρ z) ≡ as_object O (value_at (given (symbol_of x) v ∷ ρ) z)) (same_symbol-is (symbol_of x) y e) (k ∙ sym s.2 ∙ ap (as_object O) (sym at_name))

      holds_here : (y : Symbol) → same_symbol (symbol_of x) y ≡ true → truth_of (meaning_of O ρ) (cond (same_symbol (symbol_of x) y) p (flag y)) ≡ as_flag (value_at (given (symbol_of x) v ∷ ρ) y)
      holds_here y e =
          ap (truth_of (meaning_of O ρ)) (chosen Formula (same_symbol (symbol_of x) y) p (flag y) e) ∙ s.1 ∙ ap as_flag (sym at_name) ∙ ap (λ z. as_flag (value_at (given (symbol_of x) v ∷ ρ) z)) (same_symbol-is (symbol_of x) y e)

      holds_there : (y : Symbol) → same_symbol (symbol_of x) y ≡ false → truth_of (meaning_of O ρ) (cond (same_symbol (symbol_of x) y) p (flag y)) ≡ as_flag (value_at (given (symbol_of x) v ∷ ρ) y)
      holds_there y e = ap (truth_of (meaning_of O ρ)) (left Formula (same_symbol (symbol_of x) y) p (flag y) e) ∙ ap as_flag (at_other y e)

  pub one_stands : (a : Atom) → StandsFor O ρ a v → IsNeutralFor O ρ a x → Stands O (swap (symbol_of x) a ∷ []) ρ (given (symbol_of x) v ∷ ρ)
  one_stands (of_sum t) s n = sum_stands t s n
  one_stands (of_formula p) s n = formula_stands p s n.0 n.1
