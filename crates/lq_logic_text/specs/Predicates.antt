-- How predicates are written.
use Rattle.std.specs.Prelude.{ℕ, List, ◌++◌, codes}
use Rattle.lq_base_names.specs.declared.operation.CompareOp.{CompareOp}
use Rattle.lq_base_names.specs.declared.operation.CompareOp.TheVariants.{Eq, Ne, Lt, Le, Gt, Ge}
use Rattle.lq_logic_predicates.specs.Formula.{Formula, truth, falsity, flag, compare, objects, negation, conjunction, disjunction, equivalence}
use Rattle.lq_logic_text.specs.Calling.{Calling, symbol_text}
use Rattle.lq_logic_text.specs.Terms.{placed, term_level, term_text}

abbrev pub compare_text : CompareOp → List ℕ
compare_text Eq = codes " = "
compare_text Ne = codes " <> "
compare_text Lt = codes " < "
compare_text Le = codes " <= "
compare_text Gt = codes " > "
compare_text Ge = codes " >= "

abbrev pub formula_level : Formula → ℕ
formula_level truth = 8
formula_level falsity = 8
formula_level (flag x) = 8
formula_level (compare o a b) = 4
formula_level (objects a b) = 4
formula_level (negation p) = 3
formula_level (conjunction p q) = 2
formula_level (disjunction p q) = 1
formula_level (equivalence p q) = 0

abbrev pub formula_text : Calling → Formula → List ℕ
formula_text c truth = codes "true"
formula_text c falsity = codes "false"
formula_text c (flag x) = symbol_text c x
formula_text c (compare o a b) = placed 5 (term_level a) (term_text c a) ++ compare_text o ++ placed 5 (term_level b) (term_text c b)
formula_text c (objects a b) = placed 5 (term_level a) (term_text c a) ++ codes " = " ++ placed 5 (term_level b) (term_text c b)
formula_text c (negation p) = codes "not " ++ placed 3 (formula_level p) (formula_text c p)
formula_text c (conjunction p q) = placed 2 (formula_level p) (formula_text c p) ++ codes " && " ++ placed 2 (formula_level q) (formula_text c q)
formula_text c (disjunction p q) = placed 1 (formula_level p) (formula_text c p) ++ codes " || " ++ placed 1 (formula_level q) (formula_text c q)
formula_text c (equivalence p q) = placed 1 (formula_level p) (formula_text c p) ++ codes " <=> " ++ placed 1 (formula_level q) (formula_text c q)
