-- Predicates that the lines of the grammar read can be read.
use Rattle.std.proofs.Common.{ℕ, List, [], ◌∷◌, inl, inr}
use Rattle.lq_base_names.specs.declared.place.Place.{Place}
use Rattle.lq_text_grammar.specs.declared.kind.Kind.{Kind}
use Rattle.lq_text_grammar.specs.declared.kind.Kind.TheVariants as kind
use Rattle.lq_text_grammar.specs.declared.rule.Rule.{Rule}
use Rattle.lq_text_grammar.specs.declared.rule.Rule.TheVariants.{InPred}
use Rattle.lq_text_grammar.specs.declared.rule.PredPart.TheVariants.{Predicate, IffMore, PredDisjunction, PredOrMore, PredConjunction, PredAndMore, PredNegation, PredCompareMore, Term, TermAddMore, TermProduct, TermMulMore, TermNegation, AfterTermMinus, TermAtom, OtherTermAtom}
use Rattle.lq_text_tree.specs.PredTree.{PredTree, PredForm, pred_tree}
use Rattle.lq_text_actions.specs.Value.{Lexeme, Value, mark, predicate}
use Rattle.lq_text_tree.specs.PredTree as pred_form
use Rattle.lq_text_parser.specs.Syntax.Predicates.{Level, equivalence, disjunction, conjunction, comparison, term, factor, Binary, an_iff, a_comparison, Member, a_line, a_negation, an_opposite, Chain, an_or, an_and, a_sum, a_product, Joins, iffs, ors, ands, equals, differs, less, at_most, greater, at_least, adds, subtracts, multiplies, divides, leaves_rest, PredPhrase, line, member, chain_at, behind_minus, an_atom, ReadsPred, binary_one, binary_two, chain_of, chain_end, chain_more, member_line, negation_plain, negation_not, opposite_atom, opposite_minus, minus_of, minus_number, minus_limit, atom_number, atom_true, atom_false, atom_name, atom_applied, atom_placeholder, atom_qualified, atom_inside}
use Rattle.lq_text_parser.specs.Syntax.Tokens.{Token, lexeme_of, place_at, Stops}
use Rattle.lq_text_parser.proofs.SyntaxLemmas.Doing.{State, state, Can, can}
use Rattle.lq_text_parser.proofs.SyntaxLemmas.CanAtoms.{clash, not-above, is-below}

-- the part that reads a line of operators or a member, and the one behind a line's first part
abbrev pub rule_of : Level → Rule
rule_of equivalence = InPred Predicate
rule_of disjunction = InPred PredDisjunction
rule_of conjunction = InPred PredConjunction
rule_of comparison = InPred PredNegation
rule_of term = InPred Term
rule_of factor = InPred TermProduct

abbrev pub member_rule : Member → Rule
member_rule (a_line h) = rule_of h
member_rule a_negation = InPred PredNegation
member_rule an_opposite = InPred TermNegation

abbrev pub more_of : Level → Rule
more_of equivalence = InPred IffMore
more_of disjunction = InPred PredOrMore
more_of conjunction = InPred PredAndMore
more_of comparison = InPred PredCompareMore
more_of term = InPred TermAddMore
more_of factor = InPred TermMulMore

two-parts : {l m : Level} {ks : List Kind} {s : State} {K : State → Type 0} → Binary l m ks → Can (rule_of m) s (λ z. Can (more_of l) z K) → Can (rule_of l) s K
two-parts an_iff d = can _ _ _ (inl (tt, d))
two-parts a_comparison d = can _ _ _ (inr (inl (tt, d)))

op-end : {l m : Level} {ks : List Kind} {s : State} {K : State → Type 0} → Binary l m ks → Stops ks s.tokens → K s → Can (more_of l) s K
op-end an_iff g k = can _ _ _ (inr (inl (g, k)))
op-end a_comparison g k = can _ _ _ (inr (inr (inr (inr (inr (inr (inl (g, k))))))))

op-two : {l m : Level} {ks : List Kind} {f : PredTree → PredTree → PredForm} {t : Token} {a b : PredTree} {p q : Place} {us ws : List Token} {K : State → Type 0} → Binary l m ks → Joins l t.kind f → (h : Lexeme) (n : ℕ) (vs : List Value) → ((J : State → Type 0) → ((o : Lexeme) → J (state ws o n (predicate b q ∷ predicate a p ∷ vs))) → Can (rule_of m) (state us (lexeme_of t) n (predicate a p ∷ vs)) J) → ((o : Lexeme) → K (state ws o n (predicate (pred_tree p (f a b)) p ∷ vs))) → Can (more_of l) (state (t ∷ us) h n (predicate a p ∷ vs)) K
op-two an_iff (iffs j) h n vs d k = can _ _ _ (inl (tt, (j, d _ (λ o. k o))))
op-two a_comparison (equals j) h n vs d k = can _ _ _ (inl (tt, (j, d _ (λ o. k o))))
op-two a_comparison (differs j) h n vs d k = can _ _ _ (inr (inl (tt, (j, d _ (λ o. k o)))))
op-two a_comparison (less j) h n vs d k = can _ _ _ (inr (inr (inl (tt, (j, d _ (λ o. k o))))))
op-two a_comparison (at_most j) h n vs d k = can _ _ _ (inr (inr (inr (inl (tt, (j, d _ (λ o. k o)))))))
op-two a_comparison (greater j) h n vs d k = can _ _ _ (inr (inr (inr (inr (inl (tt, (j, d _ (λ o. k o))))))))
op-two a_comparison (at_least j) h n vs d k = can _ _ _ (inr (inr (inr (inr (inr (inl (tt, (j, d _ (λ o. k o)))))))))

chain-parts : {l : Level} {m : Member} {ks : List Kind} {s : State} {K : State → Type 0} → Chain l m ks → Can (member_rule m) s (λ z. Can (more_of l) z K) → Can (rule_of l) s K
chain-parts an_or d = can _ _ _ (inl (tt, d))
chain-parts an_and d = can _ _ _ (inl (tt, d))
chain-parts a_sum d = can _ _ _ (inl (tt, d))
chain-parts a_product d = can _ _ _ (inl (tt, d))

stop-chain : {l : Level} {m : Member} {ks : List Kind} {s : State} {K : State → Type 0} → Chain l m ks → Stops ks s.tokens → K s → Can (more_of l) s K
stop-chain an_or g k = can _ _ _ (inr (inl (g, k)))
stop-chain an_and g k = can _ _ _ (inr (inl (g, k)))
stop-chain a_sum g k = can _ _ _ (inr (inr (inl (g, k))))
stop-chain a_product g k = can _ _ _ (inr (inr (inr (inl (g, k)))))

op-chain : {l : Level} {m : Member} {ks : List Kind} {f : PredTree → PredTree → PredForm} {t : Token} {a b : PredTree} {p q : Place} {us ws : List Token} {K : State → Type 0} → Chain l m ks → Joins l t.kind f → (h : Lexeme) (n : ℕ) (vs : List Value) → ((J : State → Type 0) → ((o : Lexeme) → J (state ws o n (predicate b q ∷ predicate a p ∷ vs))) → Can (member_rule m) (state us (lexeme_of t) n (predicate a p ∷ vs)) J) → ((o : Lexeme) → Can (more_of l) (state ws o n (predicate (pred_tree p (f a b)) p ∷ vs)) K) → Can (more_of l) (state (t ∷ us) h n (predicate a p ∷ vs)) K
op-chain an_or (ors j) h n vs d k = can _ _ _ (inl (tt, (j, d _ (λ o. k o))))
op-chain an_and (ands j) h n vs d k = can _ _ _ (inl (tt, (j, d _ (λ o. k o))))
op-chain a_sum (adds j) h n vs d k = can _ _ _ (inl (tt, (j, d _ (λ o. k o))))
op-chain a_sum (subtracts j) h n vs d k = can _ _ _ (inr (inl (tt, (j, d _ (λ o. k o)))))
op-chain a_product (multiplies j) h n vs d k = can _ _ _ (inl (tt, (j, d _ (λ o. k o))))
op-chain a_product (divides j) h n vs d k = can _ _ _ (inr (inl (tt, (j, d _ (λ o. k o)))))
op-chain a_product (leaves_rest j) h n vs d k = can _ _ _ (inr (inr (inl (tt, (j, d _ (λ o. k o))))))

abbrev pub Std : Rule → PredTree → List Token → List Token → Type 1
Std x a ts us = (l : Lexeme) (n : ℕ) (vs : List Value) (K : State → Type 0) → ((o : Lexeme) → K (state us o n (predicate a (place_at ts) ∷ vs))) → Can x (state ts l n vs) K

-- further requests of a member: that a minus may stand before it
abbrev pub Extra : Member → PredTree → List Token → List Token → Type 1
Extra (a_line h) a ts us = Unit {1}
Extra a_negation a ts us = Unit {1}
Extra an_opposite a ts us = Stops (kind.Number ∷ kind.LimitNumber ∷ []) ts → (l : Lexeme) (n : ℕ) (vs : List Value) (p : Place) (K : State → Type 0) → ((o : Lexeme) → K (state us o n (predicate (pred_tree p (pred_form.negated a)) p ∷ vs))) → Can (InPred AfterTermMinus) (state ts l n (mark p ∷ vs)) K

abbrev pub AtomGoal : PredTree → List Token → List Token → Type 1
AtomGoal a ts us = Std (InPred TermAtom) a ts us × (Stops (kind.Number ∷ kind.LimitNumber ∷ []) ts → Std (InPred OtherTermAtom) a ts us)

other-atom : {a : PredTree} {ts us : List Token} → Std (InPred OtherTermAtom) a ts us → AtomGoal a ts us
other-atom d = ((λ l n vs K k. can _ _ _ (inr (inl (tt, d _ _ _ _ k)))), (λ z. d))

abbrev pub Goal : PredPhrase → List Token → List Token → Type 1
Goal (line h a) ts us = Std (rule_of h) a ts us
Goal (member m a) ts us = Std (member_rule m) a ts us × Extra m a ts us
Goal (chain_at h p a b) ts us = (l : Lexeme) (n : ℕ) (vs : List Value) (K : State → Type 0) → ((o : Lexeme) → K (state us o n (predicate b p ∷ vs))) → Can (more_of h) (state ts l n (predicate a p ∷ vs)) K
Goal (behind_minus p a) ts us = (l : Lexeme) (n : ℕ) (vs : List Value) (K : State → Type 0) → ((o : Lexeme) → K (state us o n (predicate a p ∷ vs))) → Can (InPred AfterTermMinus) (state ts l n (mark p ∷ vs)) K
Goal (an_atom a) ts us = AtomGoal a ts us

pub can-pred : {x : PredPhrase} {ts us : List Token} → ReadsPred x ts us → Goal x ts us
can-pred (binary_one b d g) = λ l n vs K k. two-parts b (can-pred d _ _ _ _ (λ o. op-end b g (k o)))
can-pred (binary_two b d j e) = λ l n vs K k. two-parts b (can-pred d _ _ _ _ (λ o. op-two b j _ _ _ (λ J h. can-pred e _ _ _ _ h) k))
can-pred (chain_of b d e) = λ l n vs K k. chain-parts b ((can-pred d).0 _ _ _ _ (λ o. can-pred e _ _ _ _ (k)))
can-pred (chain_end b g) = λ l n vs K k. stop-chain b g (k l)
can-pred (chain_more b j d e) = λ l n vs K k. op-chain b j _ _ _ (λ J h. (can-pred d).0 _ _ _ _ h) (λ o. can-pred e _ _ _ _ (k))
can-pred (member_line d) = (can-pred d, tt)
can-pred (negation_plain d) = (can-pred d, tt)
can-pred (negation_not i d) = ((λ l n vs K k. can _ _ _ (inl (tt, (i, (can-pred d).0 _ _ _ _ (λ o. k o))))), tt)
can-pred (opposite_atom d) = ((λ l n vs K k. can _ _ _ (inr (inl (tt, (can-pred d).0 _ _ _ _ (k))))), (λ s l n vs p K k. can _ _ _ (inr (inr (inr (inl (tt, (can-pred d).1 s _ _ _ _ (λ o. k o))))))))
can-pred (opposite_minus i d) = ((λ l n vs K k. can _ _ _ (inl (tt, (i, can-pred d _ _ _ _ (k))))), (λ s l n vs p K k. can _ _ _ (inr (inr (inl (tt, (i, can-pred d _ _ _ _ (λ o. k o))))))))
can-pred (minus_of g d) = λ l n vs K k. (can-pred d).1 g _ _ _ _ _ k
can-pred (minus_number i s) = λ l n vs K k. can _ _ _ (inl (tt, (i.0, rw (i.1, not-above s) (k _))))
can-pred (minus_limit i s) = λ l n vs K k. can _ _ _ (inr (inl (tt, (i.0, rw (i.1, not-above s) (k _)))))
can-pred (atom_number i s) = ((λ l n vs K k. can _ _ _ (inl (tt, (i.0, rw (i.1, is-below s) (k _))))), (λ z. absurd (clash i.0 z.0)))
can-pred (atom_true i) = other-atom (λ l n vs K k. can _ _ _ (inl (tt, (i, k _))))
can-pred (atom_false i) = other-atom (λ l n vs K k. can _ _ _ (inr (inl (tt, (i, k _)))))
can-pred (atom_name i g) = other-atom (λ l n vs K k. can _ _ _ (inr (inr (inl (tt, (i.0, rw i.1 (can _ _ _ (inr (inl (g, k _))))))))))
can-pred (atom_applied i d) = other-atom (λ l n vs K k. can _ _ _ (inr (inr (inl (tt, (i.0, rw i.1 (can _ _ _ (inl (tt, (can-pred d).0 _ _ _ _ (λ o. k o))))))))))
can-pred (atom_placeholder i g) = other-atom (λ l n vs K k. can _ _ _ (inr (inr (inr (inl (tt, (i.0, rw i.1 (can _ _ _ (inr (inl (g, k _)))))))))))
can-pred (atom_qualified i j e d) = other-atom (λ l n vs K k. can _ _ _ (inr (inr (inr (inl (tt, (i.0, rw i.1 (can _ _ _ (inl (tt, (j, (e.0, rw e.1 (can _ _ _ (inl (tt, (can-pred d).0 _ _ _ _ (λ o. k o))))))))))))))))
can-pred (atom_inside i d j) = other-atom (λ l n vs K k. can _ _ _ (inr (inr (inr (inr (inl (tt, (i, can-pred d _ _ _ _ (λ o. (j, k _))))))))))
