-- What actions make of predicates and terms.
use Rattle.std.specs.Prelude.{ℕ, pos, neg_ℤ, nat_lt, true, false, List, ◌∷◌, Option, Some, None, if◌then◌else◌}
use Rattle.lq_base_names.specs.declared.limits.TheConstants.{LITERAL_LIMIT}
use Rattle.lq_base_names.specs.declared.place.Place.{Place}
use Rattle.lq_text_tree.specs.PredTree.{PredTree, pred_tree, PredForm, flag, whole, use_of, placeholder, applied, qualified, arithmetic, negated, compare, not_of, and_of, or_of, iff}
use Rattle.lq_text_grammar.specs.declared.symbol.PredAction.{PredAction}
use Rattle.lq_text_grammar.specs.declared.symbol.PredAction.TheVariants.{PredLiteral, PredNegative, PredTruth, PredUntruth, PredUse, PredPlaceholder, PredApply, PredQualified, PredNegate, PredNot, PredAnd, PredOr, IffOf, PredInside, PredArith, PredCompare}
use Rattle.lq_text_actions.specs.Value.{Lexeme, by_number, Value, mark, named, predicate}

abbrev pub with_predicate : Place → PredForm → List Value → Option (List Value)
with_predicate place form vs = Some (predicate (pred_tree place form) place ∷ vs)

-- A number as a literal: below the limit, or at most the limit behind a minus.
abbrev pub pred_literal : ℕ → Place → List Value → Option (List Value)
pred_literal v place vs = if nat_lt v LITERAL_LIMIT then with_predicate place (whole (pos v)) vs else None

abbrev pub pred_negative : ℕ → List Value → Option (List Value)
pred_negative v (mark p ∷ vs) = if nat_lt LITERAL_LIMIT v then None else with_predicate p (whole (neg_ℤ (pos v))) vs
pred_negative v vs = None

abbrev pub pred_of_name : (ℕ → PredForm) → List Value → Option (List Value)
pred_of_name form (named x p ∷ vs) = with_predicate p (form x) vs
pred_of_name form vs = None

-- a measure and its argument
abbrev pub pred_apply : List Value → Option (List Value)
pred_apply (predicate e q ∷ named f p ∷ vs) = with_predicate p (applied f e) vs
pred_apply vs = None

abbrev pub pred_qualified : List Value → Option (List Value)
pred_qualified (predicate e q ∷ named f o ∷ named m p ∷ vs) = with_predicate p (qualified m f e) vs
pred_qualified vs = None

abbrev pub pred_of_one : (PredTree → PredForm) → List Value → Option (List Value)
pred_of_one form (predicate e q ∷ mark p ∷ vs) = with_predicate p (form e) vs
pred_of_one form vs = None

abbrev pub pred_of_two : (PredTree → PredTree → PredForm) → List Value → Option (List Value)
pred_of_two form (predicate b q ∷ predicate a p ∷ vs) = with_predicate p (form a b) vs
pred_of_two form vs = None

-- parentheses
abbrev pub pred_inside : List Value → Option (List Value)
pred_inside (predicate e q ∷ mark p ∷ vs) = Some (predicate e p ∷ vs)
pred_inside vs = None

abbrev pub pred_made : PredAction → Lexeme → List Value → Option (List Value)
pred_made PredLiteral l vs = by_number l.content (λ v. pred_literal v l.place vs)
pred_made PredNegative l vs = by_number l.content (λ v. pred_negative v vs)
pred_made PredTruth l vs = with_predicate l.place (flag true) vs
pred_made PredUntruth l vs = with_predicate l.place (flag false) vs
pred_made PredUse l vs = pred_of_name use_of vs
pred_made PredPlaceholder l vs = pred_of_name placeholder vs
pred_made PredApply l vs = pred_apply vs
pred_made PredQualified l vs = pred_qualified vs
pred_made PredNegate l vs = pred_of_one negated vs
pred_made PredNot l vs = pred_of_one not_of vs
pred_made PredAnd l vs = pred_of_two and_of vs
pred_made PredOr l vs = pred_of_two or_of vs
pred_made IffOf l vs = pred_of_two iff vs
pred_made PredInside l vs = pred_inside vs
pred_made (PredArith o) l vs = pred_of_two (arithmetic o) vs
pred_made (PredCompare o) l vs = pred_of_two (compare o) vs
