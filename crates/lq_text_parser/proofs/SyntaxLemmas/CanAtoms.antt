-- Atoms: the parts that read them, by what stands around.
use Rattle.std.specs.Prelude.{nat_lt}
use Rattle.std.proofs.Common.{◌≡◌, ◌<◌, ◌≤◌, ℕ, suc, Bool, true, false, List, [], ◌∷◌, inl, inr, refl, arith}
use Rattle.std.proofs.lemmas.Bool.{eq-eqb}
use Rattle.std.proofs.lemmas.Bool.Decides.{nat_tests}
use Rattle.lq_base_names.specs.declared.limits.TheConstants.{LITERAL_LIMIT}
use Rattle.lq_base_names.specs.declared.place.Place.{Place}
use Rattle.lq_text_grammar.specs.Kinds.{code, same_kind}
use Rattle.lq_text_grammar.specs.declared.kind.Kind.{Kind}
use Rattle.lq_text_grammar.specs.declared.kind.Kind.TheVariants as kind
use Rattle.lq_text_grammar.specs.declared.rule.Rule.{Rule}
use Rattle.lq_text_grammar.specs.declared.rule.Rule.TheVariants.{InExpression}
use Rattle.lq_text_grammar.specs.declared.rule.ExpressionPart.TheVariants.{Expression, UpperHead, HeadMore, AfterMinus, Application, UpperMore, ArgumentsMore, PostfixMore, Atom, PlainAtom, OtherAtom}
use Rattle.lq_text_grammar.specs.declared.symbol.Symbol.TheVariants.{Make}
use Rattle.lq_text_tree.specs.Tree.{Tree, tree, build, negated}
use Rattle.lq_text_tree.specs.TreeView.{trees_of}
use Rattle.lq_text_tree.specs.declared.expr.Arguments.TheVariants.{Apart}
use Rattle.lq_text_actions.specs.Value.{Lexeme, Commas, absent, Value, mark, named, expression}
use Rattle.lq_text_parser.specs.Syntax.Expressions.{Reads, IsCallee, other, qualified_name, indexed, an_atom, atom_number, atom_true, atom_false, atom_name, atom_qualified, atom_constant, atom_unit, atom_inside, atom_block, atom_list}
use Rattle.lq_text_parser.specs.Syntax.Tokens.{Token, place_at, Is, IsName, Stops}
use Rattle.lq_text_parser.proofs.SyntaxLemmas.Doing.{State, state, Body, Unfolded, Can, can}
use Rattle.lq_text_grammar.specs.declared.symbol.Action.TheVariants.{Operand}
use Rattle.lq_text_grammar.specs.declared.symbol.OperandAction.TheVariants.{NegateOf}

-- a tree behind which K holds
abbrev pub Std : Rule → Tree → Commas → ℕ → List Token → ℕ → List Token → Type 1
Std x a c n ts m us = (l : Lexeme) (vs : List Value) (K : State → Type 0) → ((o : Lexeme) → K (state us o m (expression a (place_at ts) c ∷ vs))) → Can x (state ts l n vs) K

-- a tree in place of the one on top
abbrev pub OnTop : Rule → Place → Tree → Commas → Tree → Commas → ℕ → List Token → ℕ → List Token → Type 1
OnTop x p a c b d n ts m us = (l : Lexeme) (vs : List Value) (K : State → Type 0) → ((o : Lexeme) → K (state us o m (expression b p d ∷ vs))) → Can x (state ts l n (expression a p c ∷ vs)) K

-- a negation behind a minus
abbrev pub Minus : Tree → ℕ → List Token → ℕ → List Token → Type 1
Minus a n ts m us = (l : Lexeme) (vs : List Value) (p : Place) (K : State → Type 0) → ((o : Lexeme) → K (state us o (suc m) (expression (tree m p (negated a)) p absent ∷ vs))) → Can (InExpression AfterMinus) (state ts l n (mark p ∷ vs)) K

-- an atom: alone, as what is called, as that behind a minus, and at the beginning of an expression
abbrev pub AtomGoal : Tree → Commas → ℕ → List Token → ℕ → List Token → Type 1
AtomGoal a c n ts m us =
    Std (InExpression Atom) a c n ts m us
    × (IsCallee ts → (l : Lexeme) (vs : List Value) (K : State → Type 0) → ((o : Lexeme) → Unfolded Can (InExpression PostfixMore) (state us o m (expression a (place_at ts) c ∷ vs)) (λ s. Can (InExpression ArgumentsMore) s K)) → Can (InExpression Application) (state ts l n vs) K)
    × (IsCallee ts → Stops (kind.Number ∷ kind.LimitNumber ∷ []) ts → (l : Lexeme) (vs : List Value) (p : Place) (K : State → Type 0) → ((o : Lexeme) → Unfolded Can (InExpression PostfixMore) (state us o m (expression a (place_at ts) c ∷ mark p ∷ vs)) (λ s. Can (InExpression ArgumentsMore) s (λ z. Body Can (Make (Operand NegateOf) ∷ []) z K))) → Can (InExpression AfterMinus) (state ts l n (mark p ∷ vs)) K)
    × (IsCallee ts → (l : Lexeme) (vs : List Value) (K : State → Type 0) → ((o : Lexeme) → Unfolded Can (InExpression HeadMore) (state us o m (expression a (place_at ts) c ∷ vs)) K) → Can (InExpression Expression) (state ts l n vs) K)

pub plain-atom : {a : Tree} {c : Commas} {n m : ℕ} {ts us : List Token} → Stops (kind.UpperName ∷ []) ts → Std (InExpression PlainAtom) a c n ts m us → (Stops (kind.Number ∷ kind.LimitNumber ∷ []) ts → Std (InExpression OtherAtom) a c n ts m us) → AtomGoal a c n ts m us
plain-atom s d e = (
  (λ l vs K k. can _ _ _ (inr (inl (tt, d _ _ _ k)))),
  (λ z l vs K k. can _ _ _ (inr (inr (inr (inl (tt, d _ _ _ (λ o. can _ _ _ (k o)))))))),
  (λ z g l vs p K k. can _ _ _ (inr (inr (inr (inr (inr (inr (inl (tt, e g _ _ _ (λ o. can _ _ _ (k o))))))))))),
  (λ z l vs K k. can _ _ _ (inr (inr (inr (inr (inr (inr (inr (inr (inl (tt, d _ _ _ (λ o. can _ _ _ (k o))))))))))))),
)

pub other-atom : {a : Tree} {c : Commas} {n m : ℕ} {ts us : List Token} → Stops (kind.UpperName ∷ kind.Number ∷ kind.LimitNumber ∷ []) ts → Std (InExpression OtherAtom) a c n ts m us → AtomGoal a c n ts m us
other-atom s d = plain-atom (s.0, tt) (λ l vs K k. can _ _ _ (inr (inl (tt, d _ _ _ k)))) (λ z. d)

pub clash : {j k : Kind} → j ≡ k → same_kind k j ≡ false → ⊥
clash {j} {k} e f = let same : same_kind k k ≡ true = eq-eqb (code k) (code k) refl in let differ : same_kind k k ≡ false = rw e at f in absurd cc

alone : {t : Token} {us : List Token} {x : ℕ} → IsName kind.UpperName x t → IsCallee (t ∷ us) → Stops (kind.Dot ∷ []) us → Stops (kind.OpenIndex ∷ []) us → ⊥
alone i (other s) g h = clash i.0 s.0
alone i (qualified_name j) g h = clash j g.0
alone i (indexed j) g h = clash j h.0

pub upper-more : {t : Token} {us : List Token} {x n : ℕ} {l o : Lexeme} {vs : List Value} {K : State → Type 0} → IsName kind.UpperName x t → IsCallee (t ∷ us) → Stops (kind.Dot ∷ []) us → Unfolded Can (InExpression PostfixMore) (state us o (suc n) (expression (tree n t.place (build x Apart (trees_of []))) t.place absent ∷ vs)) (λ s. Can (InExpression ArgumentsMore) s K) → Can (InExpression UpperMore) (state us l n (named x t.place ∷ vs)) K
upper-more {us = u ∷ us} i z g (inl (s, h)) = can _ _ _ (inr (inl (tt, h)))
upper-more {us = []} i z g (inl (s, h)) = absurd h
upper-more i z g (inr (inl (s, h))) = absurd (alone i z g s)
upper-more i z g (inr (inr h)) = absurd h

pub upper-head : {t : Token} {us : List Token} {x n : ℕ} {l o : Lexeme} {vs : List Value} {K : State → Type 0} → IsName kind.UpperName x t → IsCallee (t ∷ us) → Stops (kind.Dot ∷ []) us → Unfolded Can (InExpression HeadMore) (state us o (suc n) (expression (tree n t.place (build x Apart (trees_of []))) t.place absent ∷ vs)) K → Can (InExpression UpperHead) (state us l n (named x t.place ∷ vs)) K
upper-head {us = u ∷ us} i z g (inl (s, h)) = can _ _ _ (inr (inl (tt, h)))
upper-head {us = []} i z g (inl (s, h)) = absurd h
upper-head i z g (inr (inl (s, h))) = absurd (alone i z g s)
upper-head i z g (inr (inr h)) = absurd h

-- an operand with an index behind its atom may be called
pub callee-of : {a : Tree} {c : Commas} {n m : ℕ} {ts us : List Token} {t : Token} → Reads (an_atom a c) n ts m (t ∷ us) → Is kind.OpenIndex t → IsCallee ts
callee-of (atom_number i s) e = other (rw i.0 refl, tt)
callee-of (atom_true i) e = other (rw i refl, tt)
callee-of (atom_false i) e = other (rw i refl, tt)
callee-of (atom_name i) e = other (rw i.0 refl, tt)
callee-of (atom_qualified i j k) e = qualified_name j
callee-of (atom_constant i g) e = indexed e
callee-of (atom_unit i j) e = other (rw i refl, tt)
callee-of (atom_inside i d j) e = other (rw i refl, tt)
callee-of (atom_block i d j) e = other (rw i refl, tt)
callee-of (atom_list i d) e = other (rw i refl, tt)

pub not-above : {v : ℕ} → v ≤ LITERAL_LIMIT → nat_lt LITERAL_LIMIT v ≡ false
not-above {v} s = decided (nat_lt LITERAL_LIMIT v) refl
  where
    decided : (b : Bool) → nat_lt LITERAL_LIMIT v ≡ b → nat_lt LITERAL_LIMIT v ≡ false
    decided true e = absurd (grind (arith, nat_tests))
    decided false e = e

pub is-below : {v : ℕ} → v < LITERAL_LIMIT → nat_lt v LITERAL_LIMIT ≡ true
is-below {v} s = decided (nat_lt v LITERAL_LIMIT) refl
  where
    decided : (b : Bool) → nat_lt v LITERAL_LIMIT ≡ b → nat_lt v LITERAL_LIMIT ≡ true
    decided true e = e
    decided false e = absurd (grind (arith, nat_tests))
