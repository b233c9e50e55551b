-- Expressions that the lines of the grammar read can be read.
use Rattle.std.proofs.Common.{◌≡◌, ℕ, suc, List, [], ◌∷◌, ◌++◌, inl, inr, refl, ◌∙◌}
use Rattle.lq_base_names.specs.declared.place.Place.{Place}
use Rattle.lq_text_grammar.specs.declared.kind.Kind.{Kind}
use Rattle.lq_text_grammar.specs.declared.kind.Kind.TheVariants as kind
use Rattle.lq_text_grammar.specs.declared.rule.Rule.{Rule}
use Rattle.lq_text_grammar.specs.declared.rule.Rule.TheVariants.{InProgram, InBinding, InExpression}
use Rattle.lq_text_grammar.specs.declared.rule.ProgramPart.TheVariants.{LetItem}
use Rattle.lq_text_grammar.specs.declared.rule.BindingPart.TheVariants.{RecBind, LetTail, FunTail}
use Rattle.lq_text_grammar.specs.declared.rule.ExpressionPart.TheVariants.{Seq, SeqMore, Expression, LetHead, ArmsMore, Arm, HeadMore, IndexTail, CallRest, OperandRest, TupleMore, AfterMinus, Application, ArgumentsMore, Postfix, PostfixMore, ListInside}
use Rattle.lq_text_grammar.specs.declared.symbol.Symbol.TheVariants.{Word, Part, Make}
use Rattle.lq_text_grammar.specs.declared.symbol.Action.TheVariants.{Block}
use Rattle.lq_text_grammar.specs.declared.symbol.BlockAction.TheVariants.{LetIn}
use Rattle.lq_text_tree.specs.Items.{ItemTree, let_of}
use Rattle.lq_text_tree.specs.Pattern.{Pattern}
use Rattle.lq_text_tree.specs.Tree.{Tree, tree, fetch}
use Rattle.lq_text_actions.specs.Value.{Lexeme, Commas, absent, Value, mark, expression, expressions, element, arms as arms_read, recursive, pattern_read, items as items_read}
use Rattle.lq_text_parser.specs.Syntax.Expressions.{Reads, Where, first, later, Level, negation, Binary, Chain, an_or, an_and, a_comparison, a_cons, a_sum, a_factor, IsCallee, plain, semicolon, Phrase, a_seq, row, an_expression, a_tail, a_definition, a_binding, a_recursive, arms, more_arms, members, line, chain_at, behind_minus, an_application, arguments_of, an_operand, behind_atom, indexes, an_atom, items, seq_one, seq_more, row_end, row_more, expression_let, expression_rec, expression_fun, expression_match, expression_if, expression_when, expression_store, expression_one, expression_tuple, members_end, members_more, tail_end, tail_more, definition_name, definition_any, definition_unit, binding_plain, binding_tuple, binding_inside, recursive_name, recursive_fun, arms_one, arms_end, arms_more, binary_one, binary_two, chain_of, chain_end, chain_more, negation_application, negation_minus, minus_of, minus_number, minus_limit, application_assert, application_not, application_build, application_constant, application_call, arguments_end, arguments_more, operand_of, atom_alone, atom_indexed, indexes_end, indexes_more, atom_number, atom_true, atom_false, atom_name, atom_qualified, atom_constant, atom_unit, atom_inside, atom_block, atom_list, items_end, items_last, items_more}
use Rattle.lq_text_parser.specs.Syntax.Tokens.{Token, place_at, Stops, there, missing}
use Rattle.lq_text_parser.proofs.SyntaxLemmas.Doing.{State, state, Body, Unfolded, Can, can}
use Rattle.lq_text_grammar.specs.declared.symbol.Action.TheVariants.{Operand}
use Rattle.lq_text_grammar.specs.declared.symbol.OperandAction.TheVariants.{NegateOf}
use Rattle.lq_text_parser.specs.Syntax.Patterns.{simple_name, simple_any}
use Rattle.lq_text_parser.proofs.SyntaxLemmas.CanAtoms.{Std, OnTop, Minus, AtomGoal, plain-atom, other-atom, clash, upper-more, upper-head, callee-of, not-above, is-below}
use Rattle.lq_text_parser.proofs.SyntaxLemmas.CanLevels.{rule_of, more_of, rest_of, two-parts, rest-two, op-end, op-two, chain-parts, rest-chain, stop-chain, op-chain}
use Rattle.lq_text_parser.proofs.SyntaxLemmas.CanPatterns.{can-simple, can-inside, let-members, can-parameter, let-parameter, fun-parameter, can-pattern}

-- further requests of a line: that a minus may stand before a negation
abbrev pub Extra : Level → Tree → ℕ → List Token → ℕ → List Token → Type 1
Extra negation a n ts m us = Stops (kind.Number ∷ kind.LimitNumber ∷ []) ts → Minus a n ts m us
Extra _ a n ts m us = Unit {1}

extra-two : {l m r : Level} {ks : List Kind} (a : Tree) (n i : ℕ) (ts us : List Token) → Binary l m r ks → Extra l a n ts i us
extra-two a n i ts us an_or = tt
extra-two a n i ts us an_and = tt
extra-two a n i ts us a_comparison = tt
extra-two a n i ts us a_cons = tt

extra-chain : {l m : Level} {ks : List Kind} (a : Tree) (n i : ℕ) (ts us : List Token) → Chain l m ks → Extra l a n ts i us
extra-chain a n i ts us a_sum = tt
extra-chain a n i ts us a_factor = tt

abbrev pub LineGoal : Where → Level → Tree → Commas → ℕ → List Token → ℕ → List Token → Type 1
LineGoal later h a c n ts m us = Std (rule_of h) a c n ts m us × Extra h a n ts m us
LineGoal first h a c n ts m us = (l : Lexeme) (vs : List Value) (K : State → Type 0) → ((o : Lexeme) → Body Can (rest_of h) (state us o m (expression a (place_at ts) c ∷ vs)) K) → Can (InExpression Expression) (state ts l n vs) K

abbrev pub ApplicationGoal : Where → Tree → Commas → ℕ → List Token → ℕ → List Token → Type 1
ApplicationGoal later a c n ts m us = Std (InExpression Application) a c n ts m us × (Stops (kind.Number ∷ kind.LimitNumber ∷ []) ts → Minus a n ts m us)
ApplicationGoal first a c n ts m us = (l : Lexeme) (vs : List Value) (K : State → Type 0) → ((o : Lexeme) → Can (InExpression OperandRest) (state us o m (expression a (place_at ts) c ∷ vs)) K) → Can (InExpression Expression) (state ts l n vs) K

abbrev pub OperandGoal : Where → Tree → Commas → ℕ → List Token → ℕ → List Token → Type 1
OperandGoal later a c n ts m us =
    Std (InExpression Postfix) a c n ts m us
    × (IsCallee ts → (l : Lexeme) (vs : List Value) (K : State → Type 0) → ((o : Lexeme) → Can (InExpression ArgumentsMore) (state us o m (expression a (place_at ts) c ∷ vs)) K) → Can (InExpression Application) (state ts l n vs) K)
    × (IsCallee ts → Stops (kind.Number ∷ kind.LimitNumber ∷ []) ts → (l : Lexeme) (vs : List Value) (p : Place) (K : State → Type 0) → ((o : Lexeme) → Can (InExpression ArgumentsMore) (state us o m (expression a (place_at ts) c ∷ mark p ∷ vs)) (λ z. Body Can (Make (Operand NegateOf) ∷ []) z K)) → Can (InExpression AfterMinus) (state ts l n (mark p ∷ vs)) K)
OperandGoal first a c n ts m us = IsCallee ts → (l : Lexeme) (vs : List Value) (K : State → Type 0) → ((o : Lexeme) → Can (InExpression CallRest) (state us o m (expression a (place_at ts) c ∷ vs)) K) → Can (InExpression Expression) (state ts l n vs) K

abbrev pub BehindGoal : Where → Place → Tree → Commas → Tree → Commas → ℕ → List Token → ℕ → List Token → Type 1
BehindGoal later p a c b d n ts m us = (l : Lexeme) (vs : List Value) (K : State → Type 0) → ((o : Lexeme) → K (state us o m (expression b p d ∷ vs))) → Unfolded Can (InExpression PostfixMore) (state ts l n (expression a p c ∷ vs)) K
BehindGoal first p a c b d n ts m us = (l : Lexeme) (vs : List Value) (K : State → Type 0) → ((o : Lexeme) → Can (InExpression CallRest) (state us o m (expression b p d ∷ vs)) K) → Unfolded Can (InExpression HeadMore) (state ts l n (expression a p c ∷ vs)) K

abbrev pub TailGoal : Rule → Tree → ℕ → List Token → ℕ → List Token → Type 1
TailGoal x b n ts m us = (l : Lexeme) (vs : List Value) (K : State → Type 0) → ((o : Lexeme) (p : Place) (c : Commas) → K (state us o m (expression b p c ∷ vs))) → Can x (state ts l n vs) K

abbrev pub BindingGoal : Pattern → Tree → ℕ → List Token → ℕ → List Token → Type 1
BindingGoal a b n ts m us = (l : Lexeme) (vs : List Value) (q : Place) (K : State → Type 0) → ((o : Lexeme) (p : Place) (c : Commas) → Body Can (Word kind.In ∷ Part (InExpression Seq) ∷ Make (Block LetIn) ∷ []) (state us o m (expression b p c ∷ pattern_read a ∷ mark q ∷ vs)) K) → Can (InExpression LetHead) (state ts l n (mark q ∷ vs)) K

abbrev pub RowGoal : Rule → List Tree → List Tree → ℕ → List Token → ℕ → List Token → Type 1
RowGoal x es fs n ts m us = (l : Lexeme) (vs : List Value) (p : Place) (K : State → Type 0) → ((o : Lexeme) → K (state us o m (expressions fs p ∷ vs))) → Can x (state ts l n (expressions es p ∷ vs)) K

abbrev pub Goal : Phrase → ℕ → List Token → ℕ → List Token → Type 1
Goal (a_seq a c) n ts m us = Std (InExpression Seq) a c n ts m us
Goal (row es fs) n ts m us = RowGoal (InExpression SeqMore) es fs n ts m us
Goal (an_expression a c) n ts m us = Std (InExpression Expression) a c n ts m us
Goal (a_tail k b) n ts m us = (k ≡ kind.Equal → TailGoal (InBinding LetTail) b n ts m us) × (k ≡ kind.Arrow → TailGoal (InBinding FunTail) b n ts m us)
Goal (a_definition a b) n ts m us = ((l : Lexeme) (vs : List Value) (q : Place) (is : List ItemTree) (K : State → Type 0) → ((o : Lexeme) → K (state us o m (items_read (is ++ (record { place = q; form = let_of a b }) ∷ []) ∷ vs))) → Can (InProgram LetItem) (state ts l n (mark q ∷ items_read is ∷ vs)) K) × BindingGoal a b n ts m us
Goal (a_binding a b) n ts m us = BindingGoal a b n ts m us
Goal (a_recursive f r) n ts m us = (l : Lexeme) (vs : List Value) (K : State → Type 0) → ((o : Lexeme) → K (state us o m (recursive f r ∷ vs))) → Can (InBinding RecBind) (state ts l n vs) K
Goal (arms rs bs) n ts m us = (l : Lexeme) (vs : List Value) (K : State → Type 0) → ((o : Lexeme) → K (state us o m (arms_read bs ∷ vs))) → Can (InExpression Arm) (state ts l n (arms_read rs ∷ vs)) (λ s. Can (InExpression ArmsMore) s K)
Goal (more_arms rs bs) n ts m us = (l : Lexeme) (vs : List Value) (K : State → Type 0) → ((o : Lexeme) → K (state us o m (arms_read bs ∷ vs))) → Can (InExpression ArmsMore) (state ts l n (arms_read rs ∷ vs)) K
Goal (members es fs) n ts m us = RowGoal (InExpression TupleMore) es fs n ts m us
Goal (line h w a c) n ts m us = LineGoal w h a c n ts m us
Goal (chain_at h p a c b d) n ts m us = OnTop (more_of h) p a c b d n ts m us
Goal (behind_minus p a c) n ts m us = (l : Lexeme) (vs : List Value) (K : State → Type 0) → ((o : Lexeme) → K (state us o m (expression a p c ∷ vs))) → Can (InExpression AfterMinus) (state ts l n (mark p ∷ vs)) K
Goal (an_application w a c) n ts m us = ApplicationGoal w a c n ts m us
Goal (arguments_of p a c b d) n ts m us = OnTop (InExpression ArgumentsMore) p a c b d n ts m us
Goal (an_operand w a c) n ts m us = OperandGoal w a c n ts m us
Goal (behind_atom w p a c b d) n ts m us = BehindGoal w p a c b d n ts m us
Goal (indexes p a x b y) n ts m us = ((l : Lexeme) (vs : List Value) (K : State → Type 0) → ((o : Lexeme) → K (state us o m (element b y p ∷ vs))) → Can (InExpression IndexTail) (state ts l n (element a x p ∷ vs)) K) × ((l : Lexeme) (vs : List Value) (K : State → Type 0) → ((o : Lexeme) → K (state us o (suc m) (expression (tree m p (fetch b y)) p absent ∷ vs))) → Can (InExpression PostfixMore) (state ts l (suc n) (expression (tree n p (fetch a x)) p absent ∷ vs)) K)
Goal (an_atom a c) n ts m us = AtomGoal a c n ts m us
Goal (items es fs) n ts m us = RowGoal (InExpression ListInside) es fs n ts m us

pub can-reads : {x : Phrase} {n m : ℕ} {ts us : List Token} → Reads x n ts m us → Goal x n ts m us
can-reads (seq_one d (plain g)) = λ l vs K k. can _ _ _ (inl (tt, can-reads d _ _ _ (λ o. can _ _ _ (inr (inl (g, k o))))))
can-reads (seq_one d (semicolon i g)) = λ l vs K k. can _ _ _ (inl (tt, can-reads d _ _ _ (λ o. can _ _ _ (inl (tt, (i, can _ _ _ (inr (inl (g, k _)))))))))
can-reads (seq_more d i e r) = λ l vs K k. can _ _ _ (inl (tt, can-reads d _ _ _ (λ o. can _ _ _ (inl (tt, (i, can _ _ _ (inl (tt, can-reads e _ _ _ (λ q. can-reads r _ _ _ _ (λ h. k h))))))))))
can-reads (row_end (plain g)) = λ l vs p K k. can _ _ _ (inr (inl (g, k l)))
can-reads (row_end (semicolon i g)) = λ l vs p K k. can _ _ _ (inl (tt, (i, can _ _ _ (inr (inl (g, k _))))))
can-reads (row_more i d r) = λ l vs p K k. can _ _ _ (inl (tt, (i, can _ _ _ (inl (tt, can-reads d _ _ _ (λ o. can-reads r _ _ _ _ (k)))))))
can-reads (expression_let i b j s) = λ l vs K k. can _ _ _ (inl (tt, (i, can-reads b _ _ _ _ (λ r p c. (j, can-reads s _ _ _ (λ o. k o))))))
can-reads (expression_rec i j d v s) = λ l vs K k. can _ _ _ (inl (tt, (i, can _ _ _ (inr (inr (inr (inl (tt, (j, can-reads d _ _ _ (λ r. (v, can-reads s _ _ _ (λ o. k o))))))))))))
can-reads (expression_fun i p d) = λ l vs K k. can _ _ _ (inr (inl (tt, (i, can-parameter p _ _ _ _ (λ o. can _ _ _ (inl (tt, (can-reads d).1 refl _ _ _ (λ r q c. k r))))))))
can-reads (expression_match i d j (there x) e) = λ l vs K k. can _ _ _ (inr (inr (inl (tt, (i, can-reads d _ _ _ (λ o. (j, can _ _ _ (inl (tt, (x, can-reads e _ _ _ (λ r. k r)))))))))))
can-reads (expression_match i d j missing e) = λ l vs K k. can _ _ _ (inr (inr (inl (tt, (i, can-reads d _ _ _ (λ o. (j, can _ _ _ (inr (inl (tt, can-reads e _ _ _ (λ r. k r)))))))))))
can-reads (expression_if i d j e x f) = λ l vs K k. can _ _ _ (inr (inr (inr (inl (tt, (i, can-reads d _ _ _ (λ o. (j, can-reads e _ _ _ (λ q. can _ _ _ (inl (tt, (x, can-reads f _ _ _ (λ r. k r)))))))))))))
can-reads (expression_when i d j e g) = λ l vs K k. can _ _ _ (inr (inr (inr (inl (tt, (i, can-reads d _ _ _ (λ o. (j, can-reads e _ _ _ (λ q. can _ _ _ (inr (inl (g, k q))))))))))))
can-reads (expression_store s i d j e v f) = λ l vs K k. (can-reads s).3 (callee-of s i) _ _ _ (λ o. inl (tt, (i, can-reads d _ _ _ (λ q. (j, (can-reads e).0 _ _ _ (λ r. can _ _ _ (inl (tt, (v, can-reads f _ _ _ (λ h. k h))))))))))
can-reads (expression_one d g) = λ l vs K k. can-reads d _ _ _ (λ o. can _ _ _ (inr (inl (g, k o))))
can-reads (expression_tuple d i e r) = λ l vs K k. can-reads d _ _ _ (λ o. can _ _ _ (inl (tt, (i, (can-reads e).0 _ _ _ (λ q. can-reads r _ _ _ _ (λ h. k h))))))
can-reads (members_end g) = λ l vs p K k. can _ _ _ (inr (inl (g, k l)))
can-reads (members_more i d r) = λ l vs p K k. can _ _ _ (inl (tt, (i, (can-reads d).0 _ _ _ (λ o. can-reads r _ _ _ _ (k)))))
can-reads (tail_end i d) = ((λ e l vs K k. can _ _ _ (inl (tt, (i ∙ e, can-reads d _ _ _ (λ o. k o _ _))))), (λ e l vs K k. can _ _ _ (inl (tt, (i ∙ e, can-reads d _ _ _ (λ o. k o _ _))))))
can-reads (tail_more p d) = ((λ e l vs K k. let-parameter p _ _ _ _ (λ o. can _ _ _ (inl (tt, (can-reads d).0 e _ _ _ (λ r q c. k r _ _))))), (λ e l vs K k. fun-parameter p _ _ _ _ (λ o. can _ _ _ (inl (tt, (can-reads d).1 e _ _ _ (λ r q c. k r _ _))))))
can-reads (definition_name i d) = ((λ l vs o is K k. can _ _ _ (inl (tt, (i.0, rw i.1 ((can-reads d).0 refl _ _ _ (λ r q c. k r)))))), (λ l vs o K k. can _ _ _ (inl (tt, (i.0, rw i.1 (can _ _ _ (inr (inl (tt, (can-reads d).0 refl _ _ _ (λ r q c. k r q c))))))))))
can-reads (definition_any i j d) = ((λ l vs o is K k. can _ _ _ (inr (inl (tt, (i, (j, can-reads d _ _ _ (λ r. k r))))))), (λ l vs o K k. can _ _ _ (inr (inl (tt, (i, can _ _ _ (inr (inl (tt, (j, can-reads d _ _ _ (λ r. k r _ _)))))))))))
can-reads (definition_unit i j v d) = ((λ l vs o is K k. can _ _ _ (inr (inr (inl (tt, (i, (j, (v, can-reads d _ _ _ (λ r. k r))))))))), (λ l vs o K k. can _ _ _ (inr (inr (inl (tt, (i, can _ _ _ (inl (tt, (j, (v, can-reads d _ _ _ (λ r. k r _ _))))))))))))
can-reads (binding_plain d) = (can-reads d).1
can-reads (binding_tuple (simple_name i) j q e u d) = λ l vs o K k. can _ _ _ (inl (tt, (i.0, rw i.1 (can _ _ _ (inl (tt, (j, can-simple q _ _ _ _ (λ m. let-members e refl u _ _ _ _ _ (λ h. can-reads d _ _ _ (λ r. k r _ _))))))))))
can-reads (binding_tuple (simple_any i) j q e u d) = λ l vs o K k. can _ _ _ (inr (inl (tt, (i, can _ _ _ (inl (tt, (j, can-simple q _ _ _ _ (λ m. let-members e refl u _ _ _ _ _ (λ h. can-reads d _ _ _ (λ r. k r _ _))))))))))
can-reads (binding_inside i p j q e v d) = λ l vs o K k. can _ _ _ (inr (inr (inl (tt, (i, can _ _ _ (inr (inl (tt, can-simple p _ _ _ _ (λ m. (j, can-simple q _ _ _ _ (λ h. can-inside e _ _ _ _ _ (λ r. (v, can-reads d _ _ _ (λ w. k w _ _))))))))))))))
can-reads (recursive_name i p d) = λ l vs K k. can _ _ _ (inl (tt, (i.0, rw i.1 (can _ _ _ (inr (inl (tt, can-parameter p _ _ _ _ (λ m. can _ _ _ (inl (tt, (can-reads d).0 refl _ _ _ (λ r q c. k r)))))))))))
can-reads (recursive_fun i j v p d) = λ l vs K k. can _ _ _ (inl (tt, (i.0, rw i.1 (can _ _ _ (inl (tt, (j, can _ _ _ (inl (tt, (v, can-parameter p _ _ _ _ (λ m. can _ _ _ (inl (tt, (can-reads d).1 refl _ _ _ (λ r q c. k r))))))))))))))
can-reads (arms_one p i d e) = λ l vs K k. can _ _ _ (inl (tt, can-pattern p _ _ _ _ (λ m. (i, can-reads d _ _ _ (λ o. can-reads e _ _ _ (k))))))
can-reads (arms_end g) = λ l vs K k. can _ _ _ (inr (inl (g, k l)))
can-reads (arms_more i d) = λ l vs K k. can _ _ _ (inl (tt, (i, can-reads d _ _ _ (k))))
can-reads (binary_one {w = later} b d g) = ((λ l vs K k. two-parts b ((can-reads d).0 _ _ _ (λ o. op-end b g (k o)))), extra-two _ _ _ _ _ b)
can-reads (binary_one {w = first} b d g) = λ l vs K k. can-reads d _ _ _ (λ o. rest-two K b (op-end b g (k o)))
can-reads (binary_two {w = later} b d j e) = ((λ l vs K k. two-parts b ((can-reads d).0 _ _ _ (λ o. op-two b j _ _ _ (λ J h. (can-reads e).0 _ _ _ h) k))), extra-two _ _ _ _ _ b)
can-reads (binary_two {w = first} b d j e) = λ l vs K k. can-reads d _ _ _ (λ o. rest-two K b (op-two b j _ _ _ (λ J h. (can-reads e).0 _ _ _ h) k))
can-reads (chain_of {w = later} b d e) = ((λ l vs K k. chain-parts b ((can-reads d).0 _ _ _ (λ o. can-reads e _ _ _ (k)))), extra-chain _ _ _ _ _ b)
can-reads (chain_of {w = first} b d e) = λ l vs K k. can-reads d _ _ _ (λ o. rest-chain K b (can-reads e _ _ _ (k)))
can-reads (chain_end b g) = λ l vs K k. stop-chain b g (k l)
can-reads (chain_more b j d e) = λ l vs K k. op-chain b j _ _ _ (λ J h. (can-reads d).0 _ _ _ h) (λ o. can-reads e _ _ _ (k))
can-reads (negation_application {w = later} d) = ((λ l vs K k. can _ _ _ (inr (inl (tt, (can-reads d).0 _ _ _ k)))), (can-reads d).1)
can-reads (negation_application {w = first} d) = λ l vs K k. can-reads d _ _ _ (λ o. can _ _ _ (inl (tt, k o)))
can-reads (negation_minus {w = later} i d) = ((λ l vs K k. can _ _ _ (inl (tt, (i, can-reads d _ _ _ (k))))), (λ s l vs p K k. can _ _ _ (inr (inr (inl (tt, (i, can-reads d _ _ _ (λ o. k o))))))))
can-reads (negation_minus {w = first} i d) = λ l vs K k. can _ _ _ (inr (inr (inr (inr (inl (tt, (i, can-reads d _ _ _ (λ o. can _ _ _ (inl (tt, k o))))))))))
can-reads (minus_of g d) = λ l vs K k. (can-reads d).1 g _ _ _ _ k
can-reads (minus_number i s d e) = λ l vs K k. can _ _ _ (inl (tt, (i.0, rw (i.1, not-above s) (can _ _ _ (can-reads d _ _ _ (λ o. can-reads e _ _ _ (k)))))))
can-reads (minus_limit i s d e) = λ l vs K k. can _ _ _ (inr (inl (tt, (i.0, rw (i.1, not-above s) (can _ _ _ (can-reads d _ _ _ (λ o. can-reads e _ _ _ (k))))))))
can-reads (application_assert {w = later} i d) = ((λ l vs K k. can _ _ _ (inl (tt, (i, (can-reads d).0 _ _ _ (λ o. k o))))), (λ s l vs p K k. can _ _ _ (inr (inr (inr (inl (tt, (i, (can-reads d).0 _ _ _ (λ o. k o)))))))))
can-reads (application_assert {w = first} i d) = λ l vs K k. can _ _ _ (inr (inr (inr (inr (inr (inl (tt, (i, (can-reads d).0 _ _ _ (λ o. k o)))))))))
can-reads (application_not {w = later} i d) = ((λ l vs K k. can _ _ _ (inr (inl (tt, (i, (can-reads d).0 _ _ _ (λ o. k o)))))), (λ s l vs p K k. can _ _ _ (inr (inr (inr (inr (inl (tt, (i, (can-reads d).0 _ _ _ (λ o. k o))))))))))
can-reads (application_not {w = first} i d) = λ l vs K k. can _ _ _ (inr (inr (inr (inr (inr (inr (inl (tt, (i, (can-reads d).0 _ _ _ (λ o. k o))))))))))
can-reads (application_build {w = later} i d) = ((λ l vs K k. can _ _ _ (inr (inr (inl (tt, (i.0, rw i.1 (can _ _ _ (inr (inr (inl (tt, (can-reads d).0 _ _ _ (λ o. k o)))))))))))), (λ s l vs p K k. can _ _ _ (inr (inr (inr (inr (inr (inl (tt, (i.0, rw i.1 (can _ _ _ (inr (inr (inl (tt, (can-reads d).0 _ _ _ (λ o. k o))))))))))))))))
can-reads (application_build {w = first} i d) = λ l vs K k. can _ _ _ (inr (inr (inr (inr (inr (inr (inr (inl (tt, (i.0, rw i.1 (can _ _ _ (inr (inr (inl (tt, (can-reads d).0 _ _ _ (λ o. k o))))))))))))))))
can-reads (application_constant {w = later} i g) = ((λ l vs K k. can _ _ _ (inr (inr (inl (tt, (i.0, rw i.1 (can _ _ _ (inr (inr (inr (inl (g, k _)))))))))))), (λ s l vs p K k. can _ _ _ (inr (inr (inr (inr (inr (inl (tt, (i.0, rw i.1 (can _ _ _ (inr (inr (inr (inl (g, k _))))))))))))))))
can-reads (application_constant {w = first} i g) = λ l vs K k. can _ _ _ (inr (inr (inr (inr (inr (inr (inr (inl (tt, (i.0, rw i.1 (can _ _ _ (inr (inr (inr (inl (g, k _))))))))))))))))
can-reads (application_call {w = later} z d e) = ((λ l vs K k. (can-reads d).1 z _ _ _ (λ o. can-reads e _ _ _ (k))), (λ s l vs p K k. (can-reads d).2 z s _ _ _ _ (λ o. can-reads e _ _ _ (λ r. k r))))
can-reads (application_call {w = first} z d e) = λ l vs K k. can-reads d z _ _ _ (λ o. can _ _ _ (inl (tt, can-reads e _ _ _ (λ r. k r))))
can-reads (arguments_end g) = λ l vs K k. can _ _ _ (inr (inl (g, k l)))
can-reads (arguments_more d e) = λ l vs K k. can _ _ _ (inl (tt, (can-reads d).0 _ _ _ (λ o. can-reads e _ _ _ (k))))
can-reads (operand_of {w = later} s d) = ((λ l vs K k. can _ _ _ (inl (tt, (can-reads s).0 _ _ _ (λ o. can _ _ _ (can-reads d _ _ _ (k)))))), (λ z l vs K k. (can-reads s).1 z _ _ _ (λ o. can-reads d _ _ _ (k))), (λ z g l vs p K k. (can-reads s).2 z g _ _ _ _ (λ o. can-reads d _ _ _ (k))))
can-reads (operand_of {w = first} s d) = λ z l vs K k. (can-reads s).3 z _ _ _ (λ o. can-reads d _ _ _ (k))
can-reads (atom_alone {w = later} g) = λ l vs K k. inr (inl (g, k l))
can-reads (atom_alone {w = first} g) = λ l vs K k. inr (inl (g, k l))
can-reads (atom_indexed {w = later} i d j e g) = λ l vs K k. inl (tt, (i, can-reads d _ _ _ (λ o. (j, (can-reads e).1 _ _ _ k))))
can-reads (atom_indexed {w = first} i d j e g) = λ l vs K k. inl (tt, (i, can-reads d _ _ _ (λ o. (j, (can-reads e).0 _ _ _ (λ r. can _ _ _ (inr (inl (g.1, k r))))))))
can-reads (indexes_end g) = ((λ l vs K k. can _ _ _ (inr (inl (g, k l)))), (λ l vs K k. can _ _ _ (inr (inl (g, k l)))))
can-reads (indexes_more i d j e) = ((λ l vs K k. can _ _ _ (inl (tt, (i, can-reads d _ _ _ (λ o. (j, (can-reads e).0 _ _ _ k)))))), (λ l vs K k. can _ _ _ (inl (tt, (i, can-reads d _ _ _ (λ o. (j, (can-reads e).1 _ _ _ k)))))))
can-reads (atom_number i s) = plain-atom (rw i.0 refl, tt) (λ l vs K k. can _ _ _ (inl (tt, (i.0, rw (i.1, is-below s) (k _))))) (λ z. absurd (clash i.0 z.0))
can-reads (atom_true i) = other-atom (rw i refl, (rw i refl, (rw i refl, tt))) (λ l vs K k. can _ _ _ (inl (tt, (i, k _))))
can-reads (atom_false i) = other-atom (rw i refl, (rw i refl, (rw i refl, tt))) (λ l vs K k. can _ _ _ (inr (inl (tt, (i, k _)))))
can-reads (atom_name i) = other-atom (rw i.0 refl, (rw i.0 refl, (rw i.0 refl, tt))) (λ l vs K k. can _ _ _ (inr (inr (inl (tt, (i.0, rw i.1 (k _)))))))
can-reads (atom_qualified i j e) = ((λ l vs K k. can _ _ _ (inl (tt, (i.0, rw i.1 (can _ _ _ (inl (tt, (j, (e.0, rw e.1 (k _)))))))))), (λ z l vs K k. can _ _ _ (inr (inr (inl (tt, (i.0, rw i.1 (can _ _ _ (inl (tt, (j, (e.0, rw e.1 (can _ _ _ (k _))))))))))))), (λ z g l vs p K k. can _ _ _ (inr (inr (inr (inr (inr (inl (tt, (i.0, rw i.1 (can _ _ _ (inl (tt, (j, (e.0, rw e.1 (can _ _ _ (k _)))))))))))))))), (λ z l vs K k. can _ _ _ (inr (inr (inr (inr (inr (inr (inr (inl (tt, (i.0, rw i.1 (can _ _ _ (inl (tt, (j, (e.0, rw e.1 (can _ _ _ (k _)))))))))))))))))))
can-reads (atom_constant i g) = ((λ l vs K k. can _ _ _ (inl (tt, (i.0, rw i.1 (can _ _ _ (inr (inl (g, k _)))))))), (λ z l vs K k. can _ _ _ (inr (inr (inl (tt, (i.0, rw i.1 (upper-more {o = l} i z g (k l)))))))), (λ z s l vs p K k. can _ _ _ (inr (inr (inr (inr (inr (inl (tt, (i.0, rw i.1 (upper-more {o = l} i z g (k l))))))))))), (λ z l vs K k. can _ _ _ (inr (inr (inr (inr (inr (inr (inr (inl (tt, (i.0, rw i.1 (upper-head {o = l} i z g (k l))))))))))))))
can-reads (atom_unit i j) = other-atom (rw i refl, (rw i refl, (rw i refl, tt))) (λ l vs K k. can _ _ _ (inr (inr (inr (inl (tt, (i, can _ _ _ (inl (tt, (j, k _))))))))))
can-reads (atom_inside i d j) = other-atom (rw i refl, (rw i refl, (rw i refl, tt))) (λ l vs K k. can _ _ _ (inr (inr (inr (inl (tt, (i, can _ _ _ (inr (inl (tt, can-reads d _ _ _ (λ o. (j, k _))))))))))))
can-reads (atom_block i d j) = other-atom (rw i refl, (rw i refl, (rw i refl, tt))) (λ l vs K k. can _ _ _ (inr (inr (inr (inr (inr (inl (tt, (i, can-reads d _ _ _ (λ o. (j, k _)))))))))))
can-reads (atom_list i d) = other-atom (rw i refl, (rw i refl, (rw i refl, tt))) (λ l vs K k. can _ _ _ (inr (inr (inr (inr (inl (tt, (i, can-reads d _ _ _ _ (λ o. k o)))))))))
can-reads (items_end i) = λ l vs p K k. can _ _ _ (inl (tt, (i, k _)))
can-reads (items_last d i) = λ l vs p K k. can _ _ _ (inr (inl (tt, can-reads d _ _ _ (λ o. can _ _ _ (inl (tt, (i, k _)))))))
can-reads (items_more d i e) = λ l vs p K k. can _ _ _ (inr (inl (tt, can-reads d _ _ _ (λ o. can _ _ _ (inr (inl (tt, (i, can-reads e _ _ _ _ (k)))))))))
