-- Lines of operators: the parts that read them.
use Rattle.std.proofs.Common.{ℕ, suc, List, [], ◌∷◌, inl, inr}
use Rattle.lq_base_names.specs.declared.place.Place.{Place}
use Rattle.lq_text_grammar.specs.declared.kind.Kind.{Kind}
use Rattle.lq_text_grammar.specs.declared.rule.Rule.{Rule}
use Rattle.lq_text_grammar.specs.declared.rule.Rule.TheVariants.{InExpression}
use Rattle.lq_text_grammar.specs.declared.rule.ExpressionPart.TheVariants.{TupleTail, Disjunction, OrMore, Conjunction, AndMore, Comparison, CompareMore, ConsChain, ConsMore, Sum, AddMore, Product, MulMore, Negation}
use Rattle.lq_text_grammar.specs.declared.symbol.Symbol.{Symbol}
use Rattle.lq_text_grammar.specs.declared.symbol.Symbol.TheVariants.{Part}
use Rattle.lq_text_tree.specs.Tree.{Tree, tree, Form}
use Rattle.lq_text_actions.specs.Value.{Lexeme, Commas, absent, Value, expression}
use Rattle.lq_text_parser.specs.Syntax.Expressions.{Level, disjunction, conjunction, comparison, cons, sum, factor, negation, Binary, an_or, an_and, a_comparison, a_cons, Chain, a_sum, a_factor, Joins, ors, ands, equals, differs, less, at_most, greater, at_least, conses, adds, subtracts, multiplies, divides, leaves_rest}
use Rattle.lq_text_parser.specs.Syntax.Tokens.{Token, lexeme_of, Stops}
use Rattle.lq_text_parser.proofs.SyntaxLemmas.Doing.{State, state, Body, Can, can}

-- the part that reads a line of operators, and the one behind its first part
abbrev pub rule_of : Level → Rule
rule_of disjunction = InExpression Disjunction
rule_of conjunction = InExpression Conjunction
rule_of comparison = InExpression Comparison
rule_of cons = InExpression ConsChain
rule_of sum = InExpression Sum
rule_of factor = InExpression Product
rule_of negation = InExpression Negation

abbrev pub more_of : Level → Rule
more_of disjunction = InExpression OrMore
more_of conjunction = InExpression AndMore
more_of comparison = InExpression CompareMore
more_of cons = InExpression ConsMore
more_of sum = InExpression AddMore
more_of factor = InExpression MulMore
more_of negation = InExpression Negation

-- what is still to be read of an expression behind such a line
abbrev pub rest_of : Level → List Symbol
rest_of disjunction = Part (InExpression TupleTail) ∷ []
rest_of conjunction = Part (InExpression OrMore) ∷ Part (InExpression TupleTail) ∷ []
rest_of comparison = Part (InExpression AndMore) ∷ Part (InExpression OrMore) ∷ Part (InExpression TupleTail) ∷ []
rest_of cons = Part (InExpression CompareMore) ∷ Part (InExpression AndMore) ∷ Part (InExpression OrMore) ∷ Part (InExpression TupleTail) ∷ []
rest_of sum = Part (InExpression ConsMore) ∷ Part (InExpression CompareMore) ∷ Part (InExpression AndMore) ∷ Part (InExpression OrMore) ∷ Part (InExpression TupleTail) ∷ []
rest_of factor = Part (InExpression AddMore) ∷ Part (InExpression ConsMore) ∷ Part (InExpression CompareMore) ∷ Part (InExpression AndMore) ∷ Part (InExpression OrMore) ∷ Part (InExpression TupleTail) ∷ []
rest_of negation = Part (InExpression MulMore) ∷ Part (InExpression AddMore) ∷ Part (InExpression ConsMore) ∷ Part (InExpression CompareMore) ∷ Part (InExpression AndMore) ∷ Part (InExpression OrMore) ∷ Part (InExpression TupleTail) ∷ []

pub two-parts : {l m r : Level} {ks : List Kind} {s : State} {K : State → Type 0} → Binary l m r ks → Can (rule_of m) s (λ z. Can (more_of l) z K) → Can (rule_of l) s K
two-parts an_or d = can _ _ _ (inl (tt, d))
two-parts an_and d = can _ _ _ (inl (tt, d))
two-parts a_comparison d = can _ _ _ (inl (tt, d))
two-parts a_cons d = can _ _ _ (inl (tt, d))

pub rest-two : {l m r : Level} {ks : List Kind} {s : State} (K : State → Type 0) → Binary l m r ks → Can (more_of l) s (λ z. Body Can (rest_of l) z K) → Body Can (rest_of m) s K
rest-two K an_or d = d
rest-two K an_and d = d
rest-two K a_comparison d = d
rest-two K a_cons d = d

pub op-end : {l m r : Level} {ks : List Kind} {s : State} {K : State → Type 0} → Binary l m r ks → Stops ks s.tokens → K s → Can (more_of l) s K
op-end an_or g k = can _ _ _ (inr (inl (g, k)))
op-end an_and g k = can _ _ _ (inr (inl (g, k)))
op-end a_comparison g k = can _ _ _ (inr (inr (inr (inr (inr (inr (inl (g, k))))))))
op-end a_cons g k = can _ _ _ (inr (inl (g, k)))

pub op-two : {l m r : Level} {ks : List Kind} {f : Tree → Tree → Form} {t : Token} {a b : Tree} {c d : Commas} {p q : Place} {i : ℕ} {us ws : List Token} {K : State → Type 0} → Binary l m r ks → Joins l t.kind f → (h : Lexeme) (n : ℕ) (vs : List Value) → ((J : State → Type 0) → ((o : Lexeme) → J (state ws o i (expression b q d ∷ expression a p c ∷ vs))) → Can (rule_of r) (state us (lexeme_of t) n (expression a p c ∷ vs)) J) → ((o : Lexeme) → K (state ws o (suc i) (expression (tree i p (f a b)) p absent ∷ vs))) → Can (more_of l) (state (t ∷ us) h n (expression a p c ∷ vs)) K
op-two an_or (ors j) h n vs d k = can _ _ _ (inl (tt, (j, d _ (λ o. k o))))
op-two an_and (ands j) h n vs d k = can _ _ _ (inl (tt, (j, d _ (λ o. k o))))
op-two a_comparison (equals j) h n vs d k = can _ _ _ (inl (tt, (j, d _ (λ o. k o))))
op-two a_comparison (differs j) h n vs d k = can _ _ _ (inr (inl (tt, (j, d _ (λ o. k o)))))
op-two a_comparison (less j) h n vs d k = can _ _ _ (inr (inr (inl (tt, (j, d _ (λ o. k o))))))
op-two a_comparison (at_most j) h n vs d k = can _ _ _ (inr (inr (inr (inl (tt, (j, d _ (λ o. k o)))))))
op-two a_comparison (greater j) h n vs d k = can _ _ _ (inr (inr (inr (inr (inl (tt, (j, d _ (λ o. k o))))))))
op-two a_comparison (at_least j) h n vs d k = can _ _ _ (inr (inr (inr (inr (inr (inl (tt, (j, d _ (λ o. k o)))))))))
op-two a_cons (conses j) h n vs d k = can _ _ _ (inl (tt, (j, d _ (λ o. k o))))

pub chain-parts : {l m : Level} {ks : List Kind} {s : State} {K : State → Type 0} → Chain l m ks → Can (rule_of m) s (λ z. Can (more_of l) z K) → Can (rule_of l) s K
chain-parts a_sum d = can _ _ _ (inl (tt, d))
chain-parts a_factor d = can _ _ _ (inl (tt, d))

pub rest-chain : {l m : Level} {ks : List Kind} {s : State} (K : State → Type 0) → Chain l m ks → Can (more_of l) s (λ z. Body Can (rest_of l) z K) → Body Can (rest_of m) s K
rest-chain K a_sum d = d
rest-chain K a_factor d = d

pub stop-chain : {l m : Level} {ks : List Kind} {s : State} {K : State → Type 0} → Chain l m ks → Stops ks s.tokens → K s → Can (more_of l) s K
stop-chain a_sum g k = can _ _ _ (inr (inr (inl (g, k))))
stop-chain a_factor g k = can _ _ _ (inr (inr (inr (inl (g, k)))))

pub op-chain : {l m : Level} {ks : List Kind} {f : Tree → Tree → Form} {t : Token} {a b : Tree} {c d : Commas} {p q : Place} {i : ℕ} {us ws : List Token} {K : State → Type 0} → Chain l m ks → Joins l t.kind f → (h : Lexeme) (n : ℕ) (vs : List Value) → ((J : State → Type 0) → ((o : Lexeme) → J (state ws o i (expression b q d ∷ expression a p c ∷ vs))) → Can (rule_of m) (state us (lexeme_of t) n (expression a p c ∷ vs)) J) → ((o : Lexeme) → Can (more_of l) (state ws o (suc i) (expression (tree i p (f a b)) p absent ∷ vs)) K) → Can (more_of l) (state (t ∷ us) h n (expression a p c ∷ vs)) K
op-chain a_sum (adds j) h n vs d k = can _ _ _ (inl (tt, (j, d _ (λ o. k o))))
op-chain a_sum (subtracts j) h n vs d k = can _ _ _ (inr (inl (tt, (j, d _ (λ o. k o)))))
op-chain a_factor (multiplies j) h n vs d k = can _ _ _ (inl (tt, (j, d _ (λ o. k o))))
op-chain a_factor (divides j) h n vs d k = can _ _ _ (inr (inl (tt, (j, d _ (λ o. k o)))))
op-chain a_factor (leaves_rest j) h n vs d k = can _ _ _ (inr (inr (inl (tt, (j, d _ (λ o. k o))))))
