-- What is said of operators follows from their alternatives.
use Rattle.std.proofs.Common.{ℕ, suc, List, [], ◌∷◌, inl, inr, refl}
use Rattle.lq_base_names.specs.NameTable.{cons_name}
use Rattle.lq_base_names.specs.declared.operation.CompareOp.TheVariants as order
use Rattle.lq_text_grammar.specs.declared.rule.Rule.TheVariants.{InExpression}
use Rattle.lq_text_grammar.specs.declared.rule.ExpressionPart.TheVariants.{CallRest, OperandRest, TupleTail, TupleMore, Disjunction, OrMore, Conjunction, AndMore, Comparison, CompareMore, ConsChain, ConsMore, Sum, AddMore, Product, MulMore}
use Rattle.lq_text_tree.specs.declared.expr.Arguments.TheVariants.{Apart}
use Rattle.lq_text_tree.specs.Tree.{tree, tuple, build, compare, and_of, or_of}
use Rattle.lq_text_tree.specs.TreeView.{trees_of}
use Rattle.lq_text_actions.specs.Value.{Lexeme, bare, absent, Value, expression, expressions}
use Rattle.lq_text_parser.specs.Syntax.Expressions.{first, later, an_or, an_and, a_comparison, a_cons, a_sum, a_factor, ors, ands, equals, differs, less, at_most, greater, at_least, conses, adds, subtracts, multiplies, divides, leaves_rest, expression_one, expression_tuple, members_end, members_more, binary_one, binary_two, chain_of, chain_end, chain_more, negation_application, application_call}
use Rattle.lq_text_parser.specs.Syntax.Tokens.{Token}
use Rattle.lq_text_parser.proofs.SyntaxLemmas.Doing.{State, state, Unfolded}
use Rattle.lq_text_parser.proofs.SyntaxLemmas.Meanings.{M}

pub call_rest : (ts : List Token) (l : Lexeme) (n : ℕ) (vs : List Value) (K : State → Type 0) → Unfolded M (InExpression CallRest) (state ts l n vs) K → M (InExpression CallRest) (state ts l n vs) K
call_rest ts l n (expression a p c ∷ vs) K (inl (g, (e, o, m, us, k, r, (b, d, m2, ws, y, f, h)))) = (b, d, m2, ws, y, (λ j os q z s. f j os q (negation_application (application_call z s (rw (← q) at r)))), h)
call_rest ts l n (expression a p c ∷ vs) K (inr w) = absurd w
call_rest ts l n _ K h = tt

pub operand_rest : (ts : List Token) (l : Lexeme) (n : ℕ) (vs : List Value) (K : State → Type 0) → Unfolded M (InExpression OperandRest) (state ts l n vs) K → M (InExpression OperandRest) (state ts l n vs) K
operand_rest ts l n (expression a p c ∷ vs) K (inl (g, (a1, c1, m1, u1, k1, f1, (a2, c2, m2, u2, k2, f2, (a3, c3, m3, u3, k3, f3, (a4, c4, m4, u4, k4, f4, (a5, c5, m5, u5, k5, f5, (a6, c6, m6, u6, k6, f6, (a7, c7, m7, u7, k7, f7, h))))))))) = (a7, c7, m7, u7, k7, (λ j os q d. f7 j os q (f6 first j os q (f5 first j os q (f4 first j os q (f3 first j os q (chain_of a_sum (chain_of a_factor d (rw (← q) at f1)) (rw (← q) at f2))))))), h)
operand_rest ts l n (expression a p c ∷ vs) K (inr w) = absurd w
operand_rest ts l n _ K h = tt

pub tuple_tail : (ts : List Token) (l : Lexeme) (n : ℕ) (vs : List Value) (K : State → Type 0) → Unfolded M (InExpression TupleTail) (state ts l n vs) K → M (InExpression TupleTail) (state ts l n vs) K
tuple_tail (t ∷ ts) l n (expression a p c ∷ vs) K (inl (g, (i, (b, d, m, us, k, r, (es, m2, ws, y, e, h))))) = (tree m2 p (tuple (trees_of es)), bare, suc m2, ws, y, (λ j os q s. rw (← q) (expression_tuple s i r e)), h)
tuple_tail [] l n (expression a p c ∷ vs) K (inl (g, h)) = absurd h
tuple_tail ts l n (expression a p c ∷ vs) K (inr (inl (g, h))) = (a, c, n, ts, l, (λ j os q s. expression_one s g), h)
tuple_tail ts l n (expression a p c ∷ vs) K (inr (inr w)) = absurd w
tuple_tail ts l n _ K h = tt

pub tuple_more : (ts : List Token) (l : Lexeme) (n : ℕ) (vs : List Value) (K : State → Type 0) → Unfolded M (InExpression TupleMore) (state ts l n vs) K → M (InExpression TupleMore) (state ts l n vs) K
tuple_more (t ∷ ts) l n (expressions es p ∷ vs) K (inl (g, (i, (b, d, m, us, k, r, (fs, m2, ws, y, e, h))))) = (fs, m2, ws, y, members_more i r e, h)
tuple_more [] l n (expressions es p ∷ vs) K (inl (g, h)) = absurd h
tuple_more ts l n (expressions es p ∷ vs) K (inr (inl (g, h))) = (es, n, ts, l, members_end g, h)
tuple_more ts l n (expressions es p ∷ vs) K (inr (inr w)) = absurd w
tuple_more ts l n _ K h = tt

pub disjunction_of : (ts : List Token) (l : Lexeme) (n : ℕ) (vs : List Value) (K : State → Type 0) → Unfolded M (InExpression Disjunction) (state ts l n vs) K → M (InExpression Disjunction) (state ts l n vs) K
disjunction_of ts l n vs K (inl (g, (a, c, m, us, k, r, (b, d, m2, ws, y, f, h)))) = (b, d, m2, ws, y, f later n ts refl r, h)
disjunction_of ts l n vs K (inr w) = absurd w

pub conjunction_of : (ts : List Token) (l : Lexeme) (n : ℕ) (vs : List Value) (K : State → Type 0) → Unfolded M (InExpression Conjunction) (state ts l n vs) K → M (InExpression Conjunction) (state ts l n vs) K
conjunction_of ts l n vs K (inl (g, (a, c, m, us, k, r, (b, d, m2, ws, y, f, h)))) = (b, d, m2, ws, y, f later n ts refl r, h)
conjunction_of ts l n vs K (inr w) = absurd w

pub comparison_of : (ts : List Token) (l : Lexeme) (n : ℕ) (vs : List Value) (K : State → Type 0) → Unfolded M (InExpression Comparison) (state ts l n vs) K → M (InExpression Comparison) (state ts l n vs) K
comparison_of ts l n vs K (inl (g, (a, c, m, us, k, r, (b, d, m2, ws, y, f, h)))) = (b, d, m2, ws, y, f later n ts refl r, h)
comparison_of ts l n vs K (inr w) = absurd w

pub cons_of : (ts : List Token) (l : Lexeme) (n : ℕ) (vs : List Value) (K : State → Type 0) → Unfolded M (InExpression ConsChain) (state ts l n vs) K → M (InExpression ConsChain) (state ts l n vs) K
cons_of ts l n vs K (inl (g, (a, c, m, us, k, r, (b, d, m2, ws, y, f, h)))) = (b, d, m2, ws, y, f later n ts refl r, h)
cons_of ts l n vs K (inr w) = absurd w

pub sum_of : (ts : List Token) (l : Lexeme) (n : ℕ) (vs : List Value) (K : State → Type 0) → Unfolded M (InExpression Sum) (state ts l n vs) K → M (InExpression Sum) (state ts l n vs) K
sum_of ts l n vs K (inl (g, (a, c, m, us, k, r, (b, d, m2, ws, y, e, h)))) = (b, d, m2, ws, y, chain_of a_sum r e, h)
sum_of ts l n vs K (inr w) = absurd w

pub product_of : (ts : List Token) (l : Lexeme) (n : ℕ) (vs : List Value) (K : State → Type 0) → Unfolded M (InExpression Product) (state ts l n vs) K → M (InExpression Product) (state ts l n vs) K
product_of ts l n vs K (inl (g, (a, c, m, us, k, r, (b, d, m2, ws, y, e, h)))) = (b, d, m2, ws, y, chain_of a_factor r e, h)
product_of ts l n vs K (inr w) = absurd w

pub or_more : (ts : List Token) (l : Lexeme) (n : ℕ) (vs : List Value) (K : State → Type 0) → Unfolded M (InExpression OrMore) (state ts l n vs) K → M (InExpression OrMore) (state ts l n vs) K
or_more (t ∷ ts) l n (expression a p c ∷ vs) K (inl (g, (i, (b, d, m, us, k, r, h)))) = (tree m p (or_of a b), absent, suc m, us, k, (λ w j os q s. rw (← q) (binary_two an_or s (ors i) r)), h)
or_more [] l n (expression a p c ∷ vs) K (inl (g, h)) = absurd h
or_more ts l n (expression a p c ∷ vs) K (inr (inl (g, h))) = (a, c, n, ts, l, (λ w j os q s. binary_one an_or s g), h)
or_more ts l n (expression a p c ∷ vs) K (inr (inr w)) = absurd w
or_more ts l n _ K h = tt

pub and_more : (ts : List Token) (l : Lexeme) (n : ℕ) (vs : List Value) (K : State → Type 0) → Unfolded M (InExpression AndMore) (state ts l n vs) K → M (InExpression AndMore) (state ts l n vs) K
and_more (t ∷ ts) l n (expression a p c ∷ vs) K (inl (g, (i, (b, d, m, us, k, r, h)))) = (tree m p (and_of a b), absent, suc m, us, k, (λ w j os q s. rw (← q) (binary_two an_and s (ands i) r)), h)
and_more [] l n (expression a p c ∷ vs) K (inl (g, h)) = absurd h
and_more ts l n (expression a p c ∷ vs) K (inr (inl (g, h))) = (a, c, n, ts, l, (λ w j os q s. binary_one an_and s g), h)
and_more ts l n (expression a p c ∷ vs) K (inr (inr w)) = absurd w
and_more ts l n _ K h = tt

pub compare_more : (ts : List Token) (l : Lexeme) (n : ℕ) (vs : List Value) (K : State → Type 0) → Unfolded M (InExpression CompareMore) (state ts l n vs) K → M (InExpression CompareMore) (state ts l n vs) K
compare_more (t ∷ ts) l n (expression a p c ∷ vs) K (inl (g, (i, (b, d, m, us, k, r, h)))) = (tree m p (compare order.Eq a b), absent, suc m, us, k, (λ w j os q s. rw (← q) (binary_two a_comparison s (equals i) r)), h)
compare_more [] l n (expression a p c ∷ vs) K (inl (g, h)) = absurd h
compare_more (t ∷ ts) l n (expression a p c ∷ vs) K (inr (inl (g, (i, (b, d, m, us, k, r, h))))) = (tree m p (compare order.Ne a b), absent, suc m, us, k, (λ w j os q s. rw (← q) (binary_two a_comparison s (differs i) r)), h)
compare_more [] l n (expression a p c ∷ vs) K (inr (inl (g, h))) = absurd h
compare_more (t ∷ ts) l n (expression a p c ∷ vs) K (inr (inr (inl (g, (i, (b, d, m, us, k, r, h)))))) = (tree m p (compare order.Lt a b), absent, suc m, us, k, (λ w j os q s. rw (← q) (binary_two a_comparison s (less i) r)), h)
compare_more [] l n (expression a p c ∷ vs) K (inr (inr (inl (g, h)))) = absurd h
compare_more (t ∷ ts) l n (expression a p c ∷ vs) K (inr (inr (inr (inl (g, (i, (b, d, m, us, k, r, h))))))) = (tree m p (compare order.Le a b), absent, suc m, us, k, (λ w j os q s. rw (← q) (binary_two a_comparison s (at_most i) r)), h)
compare_more [] l n (expression a p c ∷ vs) K (inr (inr (inr (inl (g, h))))) = absurd h
compare_more (t ∷ ts) l n (expression a p c ∷ vs) K (inr (inr (inr (inr (inl (g, (i, (b, d, m, us, k, r, h)))))))) = (tree m p (compare order.Gt a b), absent, suc m, us, k, (λ w j os q s. rw (← q) (binary_two a_comparison s (greater i) r)), h)
compare_more [] l n (expression a p c ∷ vs) K (inr (inr (inr (inr (inl (g, h)))))) = absurd h
compare_more (t ∷ ts) l n (expression a p c ∷ vs) K (inr (inr (inr (inr (inr (inl (g, (i, (b, d, m, us, k, r, h))))))))) = (tree m p (compare order.Ge a b), absent, suc m, us, k, (λ w j os q s. rw (← q) (binary_two a_comparison s (at_least i) r)), h)
compare_more [] l n (expression a p c ∷ vs) K (inr (inr (inr (inr (inr (inl (g, h))))))) = absurd h
compare_more ts l n (expression a p c ∷ vs) K (inr (inr (inr (inr (inr (inr (inl (g, h)))))))) = (a, c, n, ts, l, (λ w j os q s. binary_one a_comparison s g), h)
compare_more ts l n (expression a p c ∷ vs) K (inr (inr (inr (inr (inr (inr (inr w))))))) = absurd w
compare_more ts l n _ K h = tt

pub cons_more : (ts : List Token) (l : Lexeme) (n : ℕ) (vs : List Value) (K : State → Type 0) → Unfolded M (InExpression ConsMore) (state ts l n vs) K → M (InExpression ConsMore) (state ts l n vs) K
cons_more (t ∷ ts) l n (expression a p c ∷ vs) K (inl (g, (i, (b, d, m, us, k, r, h)))) = (tree m p (build cons_name Apart (trees_of (a ∷ b ∷ []))), absent, suc m, us, k, (λ w j os q s. rw (← q) (binary_two a_cons s (conses i) r)), h)
cons_more [] l n (expression a p c ∷ vs) K (inl (g, h)) = absurd h
cons_more ts l n (expression a p c ∷ vs) K (inr (inl (g, h))) = (a, c, n, ts, l, (λ w j os q s. binary_one a_cons s g), h)
cons_more ts l n (expression a p c ∷ vs) K (inr (inr w)) = absurd w
cons_more ts l n _ K h = tt

pub add_more : (ts : List Token) (l : Lexeme) (n : ℕ) (vs : List Value) (K : State → Type 0) → Unfolded M (InExpression AddMore) (state ts l n vs) K → M (InExpression AddMore) (state ts l n vs) K
add_more (t ∷ ts) l n (expression a p c ∷ vs) K (inl (g, (i, (b, d, m, us, k, r, (e, f, m2, ws, y, q, h))))) = (e, f, m2, ws, y, chain_more a_sum (adds i) r q, h)
add_more [] l n (expression a p c ∷ vs) K (inl (g, h)) = absurd h
add_more (t ∷ ts) l n (expression a p c ∷ vs) K (inr (inl (g, (i, (b, d, m, us, k, r, (e, f, m2, ws, y, q, h)))))) = (e, f, m2, ws, y, chain_more a_sum (subtracts i) r q, h)
add_more [] l n (expression a p c ∷ vs) K (inr (inl (g, h))) = absurd h
add_more ts l n (expression a p c ∷ vs) K (inr (inr (inl (g, h)))) = (a, c, n, ts, l, chain_end a_sum g, h)
add_more ts l n (expression a p c ∷ vs) K (inr (inr (inr w))) = absurd w
add_more ts l n _ K h = tt

pub mul_more : (ts : List Token) (l : Lexeme) (n : ℕ) (vs : List Value) (K : State → Type 0) → Unfolded M (InExpression MulMore) (state ts l n vs) K → M (InExpression MulMore) (state ts l n vs) K
mul_more (t ∷ ts) l n (expression a p c ∷ vs) K (inl (g, (i, (b, d, m, us, k, r, (e, f, m2, ws, y, q, h))))) = (e, f, m2, ws, y, chain_more a_factor (multiplies i) r q, h)
mul_more [] l n (expression a p c ∷ vs) K (inl (g, h)) = absurd h
mul_more (t ∷ ts) l n (expression a p c ∷ vs) K (inr (inl (g, (i, (b, d, m, us, k, r, (e, f, m2, ws, y, q, h)))))) = (e, f, m2, ws, y, chain_more a_factor (divides i) r q, h)
mul_more [] l n (expression a p c ∷ vs) K (inr (inl (g, h))) = absurd h
mul_more (t ∷ ts) l n (expression a p c ∷ vs) K (inr (inr (inl (g, (i, (b, d, m, us, k, r, (e, f, m2, ws, y, q, h))))))) = (e, f, m2, ws, y, chain_more a_factor (leaves_rest i) r q, h)
mul_more [] l n (expression a p c ∷ vs) K (inr (inr (inl (g, h)))) = absurd h
mul_more ts l n (expression a p c ∷ vs) K (inr (inr (inr (inl (g, h))))) = (a, c, n, ts, l, chain_end a_factor g, h)
mul_more ts l n (expression a p c ∷ vs) K (inr (inr (inr (inr w)))) = absurd w
mul_more ts l n _ K h = tt
