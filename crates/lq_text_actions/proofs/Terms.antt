-- The actions on predicates, qualifiers and measures find what they need.
use Rattle.std.specs.Prelude.{max, nat_lt, pos, neg_ℤ}
use Rattle.std.proofs.Common.{◌≡◌, ℕ, ◌+◌, refl, true, false, [], ◌∷◌, arith}
use Rattle.std.proofs.Math.Nat.{max-le}
use Rattle.std.proofs.lemmas.Bool.{lt-ltb, le-ltb}
use Rattle.lq_base_names.specs.declared.limits.TheConstants.{LITERAL_LIMIT}
use Rattle.lq_base_names.specs.declared.place.Place.{Place}
use Rattle.lq_text_tree.specs.Levels.{pred_nesting, pred_nesting_in}
use Rattle.lq_text_tree.specs.PredTree as pred
use Rattle.lq_text_tree.specs.PredTree.{PredTree, pred_tree, PredForm}
use Rattle.lq_text_grammar.specs.declared.symbol.PredAction.{PredAction}
use Rattle.lq_text_grammar.specs.declared.symbol.PredAction.TheVariants.{PredLiteral, PredNegative, PredTruth, PredUntruth, PredUse, PredPlaceholder, PredApply, PredQualified, PredNegate, PredNot, PredAnd, PredOr, IffOf, PredInside, PredArith, PredCompare}
use Rattle.lq_text_grammar.specs.declared.symbol.EntryAction.{EntryAction}
use Rattle.lq_text_grammar.specs.declared.symbol.EntryAction.TheVariants.{NoQualifiers, AddQualifier, NoMeasures, AddMeasure, NoEquations, AppendEquation}
use Rattle.lq_text_grammar.specs.declared.symbol.Action.TheVariants.{Pred, Entry}
use Rattle.lq_text_actions.specs.Value.{Lexeme, by_number, mark, named, pattern_read, predicate, qualifiers, equations, measures}
use Rattle.lq_text_actions.specs.Items.{add_qualifier, append_equation, add_measure, entry_made}
use Rattle.lq_text_actions.specs.Predicates.{pred_literal, pred_negative, pred_of_name, pred_apply, pred_qualified, pred_of_one, pred_of_two, pred_inside, pred_made}
use Rattle.lq_text_actions.proofs.Sorts.{a_mark, a_name, a_pattern, a_predicate, some_qualifiers, some_equations, some_measures}
use Rattle.lq_text_actions.proofs.Signatures.{action_signature, keeps, sinks}
use Rattle.lq_text_actions.proofs.Nesting.{Gives, qualifiers-append, equations-append, measures-append}
use Rattle.lq_text_actions.proofs.Contents.{FitsAfter, on_below, on_up_to}
use Rattle.lq_text_actions.proofs.Rows.{leaf_gives}

-- predicates and terms
literal_gives : (v : ℕ) (place : Place) → nat_lt v LITERAL_LIMIT ≡ true → Gives [] a_predicate (pred_literal v place)
literal_gives v place small bound vs h = (predicate (pred_tree place (pred.whole (pos v))) place, rw small refl, refl, omega arith)

negative_gives : (v : ℕ) → nat_lt LITERAL_LIMIT v ≡ false → Gives (keeps a_mark ∷ []) a_predicate (pred_negative v)
negative_gives v small bound (mark p ∷ vs) h = (predicate (pred_tree p (pred.whole (neg_ℤ (pos v)))) p, rw small refl, refl, omega arith)
negative_gives v small bound vs h = absurd cc

of_name_gives : (form : ℕ → PredForm) → ((x : ℕ) → pred_nesting_in (form x) ≡ 0) → Gives (keeps a_name ∷ []) a_predicate (pred_of_name form)
of_name_gives form flat bound (named x p ∷ vs) h = (_, refl, refl, omega (arith, flat x))
of_name_gives form flat bound vs h = absurd cc

apply_gives : Gives (sinks a_predicate ∷ keeps a_name ∷ []) a_predicate pred_apply
apply_gives bound (predicate e q ∷ named f p ∷ vs) h = (_, refl, refl, h.1)
apply_gives bound vs h = absurd cc

qualified_gives : Gives (sinks a_predicate ∷ keeps a_name ∷ keeps a_name ∷ []) a_predicate pred_qualified
qualified_gives bound (predicate e q ∷ named f o ∷ named m p ∷ vs) h = (_, refl, refl, h.1)
qualified_gives bound vs h = absurd cc

of_one_gives : (form : PredTree → PredForm) → ((e : PredTree) → pred_nesting_in (form e) ≡ pred_nesting e + 1) → Gives (sinks a_predicate ∷ keeps a_mark ∷ []) a_predicate (pred_of_one form)
of_one_gives form deep bound (predicate e q ∷ mark p ∷ vs) h = (_, refl, refl, rw (deep e) h.1)
of_one_gives form deep bound vs h = absurd cc

of_two_gives : (form : PredTree → PredTree → PredForm) → ((a b : PredTree) → pred_nesting_in (form a b) ≡ max (pred_nesting a) (pred_nesting b + 1)) → Gives (sinks a_predicate ∷ keeps a_predicate ∷ []) a_predicate (pred_of_two form)
of_two_gives form deep bound (predicate b q ∷ predicate a p ∷ vs) h = (_, refl, refl, rw (deep a b) (max-le h.2.1 h.1))
of_two_gives form deep bound vs h = absurd cc

inside_gives : Gives (keeps a_predicate ∷ keeps a_mark ∷ []) a_predicate pred_inside
inside_gives bound (predicate e q ∷ mark p ∷ vs) h = (_, refl, refl, h.1)
inside_gives bound vs h = absurd cc

pub pred_gives : (a : PredAction) (l : Lexeme) → FitsAfter (action_signature (Pred a)).after l → Gives (action_signature (Pred a)).needs (action_signature (Pred a)).gives (pred_made a l)
pred_gives PredLiteral l f = on_below (λ c. Gives [] a_predicate (λ vs. by_number c (λ v. pred_literal v l.place vs))) l.content f (λ v small. literal_gives v l.place (lt-ltb v LITERAL_LIMIT small))
pred_gives PredNegative l f = on_up_to (λ c. Gives (keeps a_mark ∷ []) a_predicate (λ vs. by_number c (λ v. pred_negative v vs))) l.content f (λ v small. negative_gives v (le-ltb LITERAL_LIMIT v small))
pred_gives PredTruth l f = leaf_gives (predicate (pred_tree l.place (pred.flag true)) l.place) refl
pred_gives PredUntruth l f = leaf_gives (predicate (pred_tree l.place (pred.flag false)) l.place) refl
pred_gives PredUse l f = of_name_gives pred.use_of (λ x. refl)
pred_gives PredPlaceholder l f = of_name_gives pred.placeholder (λ x. refl)
pred_gives PredApply l f = apply_gives
pred_gives PredQualified l f = qualified_gives
pred_gives PredNegate l f = of_one_gives pred.negated (λ e. refl)
pred_gives PredNot l f = of_one_gives pred.not_of (λ e. refl)
pred_gives PredAnd l f = of_two_gives pred.and_of (λ a b. refl)
pred_gives PredOr l f = of_two_gives pred.or_of (λ a b. refl)
pred_gives IffOf l f = of_two_gives pred.iff (λ a b. refl)
pred_gives PredInside l f = inside_gives
pred_gives (PredArith o) l f = of_two_gives (pred.arithmetic o) (λ a b. refl)
pred_gives (PredCompare o) l f = of_two_gives (pred.compare o) (λ a b. refl)

-- qualifiers and measures
qualifier_gives : Gives (keeps a_predicate ∷ keeps a_name ∷ keeps a_name ∷ keeps a_name ∷ keeps a_mark ∷ keeps some_qualifiers ∷ []) some_qualifiers add_qualifier
qualifier_gives bound (predicate e q ∷ named s t ∷ named v u ∷ named x p ∷ mark m ∷ qualifiers qs ∷ vs) h =
    (_, refl, refl, qualifiers-append qs (record { place = m; name = x; value = v; shape = s; shape_place = t; predicate = e }) bound h.2.2.2.2.2.1 h.1)
qualifier_gives bound vs h = absurd cc

equation_gives : Gives (keeps a_predicate ∷ keeps a_pattern ∷ keeps some_equations ∷ []) some_equations append_equation
equation_gives bound (predicate e q ∷ pattern_read p ∷ equations es ∷ vs) h =
    (_, refl, refl, equations-append es (record { pattern = p; term = e }) bound h.2.2.1 h.1)
equation_gives bound vs h = absurd cc

measure_gives : Gives (keeps some_equations ∷ keeps a_name ∷ keeps a_name ∷ keeps some_measures ∷ []) some_measures add_measure
measure_gives bound (equations es ∷ named d q ∷ named m p ∷ measures ms ∷ vs) h =
    (_, refl, refl, measures-append ms (record { name = m; place = p; datatype = d; datatype_place = q; equations = es }) bound h.2.2.2.1 h.1)
measure_gives bound vs h = absurd cc

pub entry_gives : (a : EntryAction) (l : Lexeme) → Gives (action_signature (Entry a)).needs (action_signature (Entry a)).gives (entry_made a l)
entry_gives NoQualifiers l = leaf_gives (qualifiers []) refl
entry_gives AddQualifier l = qualifier_gives
entry_gives NoMeasures l = leaf_gives (measures []) refl
entry_gives AddMeasure l = measure_gives
entry_gives NoEquations l = leaf_gives (equations []) refl
entry_gives AppendEquation l = equation_gives
