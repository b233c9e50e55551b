-- Qualifiers and measures that the lines of the grammar read can be read.
use Rattle.std.proofs.Common.{ℕ, List, ◌∷◌, inl, inr}
use Rattle.lq_text_grammar.specs.declared.rule.Rule.TheVariants.{InEntry}
use Rattle.lq_text_grammar.specs.declared.rule.EntryPart.TheVariants.{QualsMore, MeasuresMore, EquationsMore, Equation}
use Rattle.lq_text_tree.specs.MeasureTrees.{MeasureTree}
use Rattle.lq_text_tree.specs.Qualifiers.{QualifierTree}
use Rattle.lq_text_actions.specs.Value.{Lexeme, Value, qualifiers as qualifiers_read, equations as equations_read, measures as measures_read}
use Rattle.lq_text_parser.specs.Syntax.Predicates.{ReadsQualifiers, a_lower, an_upper, qualifiers_end, qualifiers_more, EquationPhrase, equations, more_equations, ReadsEquations, equation, equations_end, equations_more, ReadsMeasures, measures_end, measures_more}
use Rattle.lq_text_parser.specs.Syntax.Tokens.{Token, there, missing}
use Rattle.lq_text_parser.proofs.SyntaxLemmas.Doing.{State, state, Can, can}
use Rattle.lq_text_parser.proofs.SyntaxLemmas.CanPatterns.{can-pattern}
use Rattle.lq_text_parser.proofs.SyntaxLemmas.CanPredicates.{can-pred}

pub can-qualifiers : {qs rs : List QualifierTree} {ts us : List Token} → ReadsQualifiers qs rs ts us → (l : Lexeme) (n : ℕ) (vs : List Value) (K : State → Type 0) → ((o : Lexeme) → K (state us o n (qualifiers_read rs ∷ vs))) → Can (InEntry QualsMore) (state ts l n (qualifiers_read qs ∷ vs)) K
can-qualifiers (qualifiers_end g) l n vs K k = can _ _ _ (inr (inl (g, k l)))
can-qualifiers (qualifiers_more a (a_lower b) c d e f g h p r) l n vs K k = can _ _ _ (inl (tt, (a, can _ _ _ (inl (tt, (b.0, rw b.1 (can _ _ _ (inl (tt, (c, (d.0, rw d.1 (e, (f.0, rw f.1 (g, (h, can-pred p _ _ _ _ (λ o. can-qualifiers r _ _ _ _ k))))))))))))))))
can-qualifiers (qualifiers_more a (an_upper b) c d e f g h p r) l n vs K k = can _ _ _ (inl (tt, (a, can _ _ _ (inr (inl (tt, (b.0, rw b.1 (can _ _ _ (inl (tt, (c, (d.0, rw d.1 (e, (f.0, rw f.1 (g, (h, can-pred p _ _ _ _ (λ o. can-qualifiers r _ _ _ _ k)))))))))))))))))

abbrev pub Goal : EquationPhrase → List Token → List Token → Type 1
Goal (equations es fs) ts us = (l : Lexeme) (n : ℕ) (vs : List Value) (K : State → Type 0) → ((o : Lexeme) → K (state us o n (equations_read fs ∷ vs))) → Can (InEntry Equation) (state ts l n (equations_read es ∷ vs)) (λ s. Can (InEntry EquationsMore) s K)
Goal (more_equations es fs) ts us = (l : Lexeme) (n : ℕ) (vs : List Value) (K : State → Type 0) → ((o : Lexeme) → K (state us o n (equations_read fs ∷ vs))) → Can (InEntry EquationsMore) (state ts l n (equations_read es ∷ vs)) K

can-equations : {x : EquationPhrase} {ts us : List Token} → ReadsEquations x ts us → Goal x ts us
can-equations (equation p i d e) = λ l n vs K k. can _ _ _ (inl (tt, can-pattern p _ _ _ _ (λ m. (i, can-pred d _ _ _ _ (λ o. can-equations e _ _ _ _ k)))))
can-equations (equations_end g) = λ l n vs K k. can _ _ _ (inr (inl (g, k l)))
can-equations (equations_more i d) = λ l n vs K k. can _ _ _ (inl (tt, (i, can-equations d _ _ _ _ k)))

pub can-measures : {ms ns : List MeasureTree} {ts us : List Token} → ReadsMeasures ms ns ts us → (l : Lexeme) (n : ℕ) (vs : List Value) (K : State → Type 0) → ((o : Lexeme) → K (state us o n (measures_read ns ∷ vs))) → Can (InEntry MeasuresMore) (state ts l n (measures_read ms ∷ vs)) K
can-measures (measures_end g) l n vs K k = can _ _ _ (inr (inl (g, k l)))
can-measures (measures_more a b c d e (there x) q r) l n vs K k = can _ _ _ (inl (tt, (a, (b.0, rw b.1 (c, (d.0, rw d.1 (e, can _ _ _ (inl (tt, (x, can-equations q _ _ _ _ (λ o. can-measures r _ _ _ _ k)))))))))))
can-measures (measures_more a b c d e missing q r) l n vs K k = can _ _ _ (inl (tt, (a, (b.0, rw b.1 (c, (d.0, rw d.1 (e, can _ _ _ (inr (inl (tt, can-equations q _ _ _ _ (λ o. can-measures r _ _ _ _ k)))))))))))
