-- What is said of operands follows from their alternatives.
use Rattle.std.specs.Prelude.{pos}
use Rattle.std.proofs.Common.{◌≡◌, ℕ, suc, true, false, List, [], ◌∷◌, ◌++◌, inl, inr, refl}
use Rattle.lq_base_names.specs.declared.place.Place.{Place}
use Rattle.lq_text_grammar.specs.declared.kind.Kind.TheVariants as kind
use Rattle.lq_text_grammar.specs.declared.rule.Rule.TheVariants.{InExpression}
use Rattle.lq_text_grammar.specs.declared.rule.ExpressionPart.TheVariants.{UpperHead, HeadMore, IndexTail, AfterIndexed, Negation, AfterMinus, Application, UpperMore, ArgumentsMore, Postfix, PostfixMore, Atom, UpperAtom, PlainAtom, OtherAtom, ListInside}
use Rattle.lq_text_tree.specs.declared.expr.Arguments.TheVariants.{Apart}
use Rattle.lq_text_tree.specs.Tree.{Tree, tree, whole, flag, unit, use_of, qualified, build, list_of, negated, not_of, fetch, store}
use Rattle.lq_text_tree.specs.TreeView.{trees_of}
use Rattle.lq_text_actions.specs.Expressions.{arguments, in_parentheses, assert_form}
use Rattle.lq_text_actions.specs.Value.{Lexeme, Commas, absent, Value, mark, named, expression, expressions, element}
use Rattle.lq_text_parser.specs.Syntax.Expressions.{Reads, Where, first, later, IsCallee, other, qualified_name, indexed, a_seq, an_expression, an_application, arguments_of, an_operand, behind_atom, indexes, an_atom, expression_store, negation_application, negation_minus, minus_of, minus_number, minus_limit, application_assert, application_not, application_build, application_constant, application_call, arguments_end, arguments_more, operand_of, atom_alone, atom_indexed, indexes_end, indexes_more, atom_number, atom_true, atom_false, atom_name, atom_qualified, atom_constant, atom_unit, atom_inside, atom_block, atom_list, items_end, items_last, items_more}
use Rattle.lq_text_parser.specs.Syntax.Tokens.{Token, lexeme_of, place_at, Is, IsName, Stops}
use Rattle.lq_text_parser.proofs.SyntaxLemmas.Doing.{State, state, Unfolded}
use Rattle.lq_text_parser.proofs.SyntaxLemmas.Contents.{name-is, node-name-is, node-number-is, below, up-to}
use Rattle.lq_text_parser.proofs.SyntaxLemmas.Meanings.{Indexed, is_indexed, M}

call-at : {p : Place} {w : Where} {a b e : Tree} {c d f : Commas} {k n m i : ℕ} {os ts us ws : List Token} → place_at os ≡ p → IsCallee os → Reads (an_atom a c) k os n ts → Reads (behind_atom w p a c b d) n ts m us → Reads (arguments_of p b d e f) m us i ws → Reads (an_application w e f) k os i ws
call-at q z s r d = application_call z (operand_of s (rw (← q) at r)) (rw (← q) at d)

qualified-at : {p : Place} {m x n : ℕ} {t u v : Token} {us : List Token} → t.place ≡ p → IsName kind.UpperName m t → Is kind.Dot u → IsName kind.LowerName x v → Reads (an_atom (tree n p (qualified m x)) absent) n (t ∷ u ∷ v ∷ us) (suc n) us
qualified-at q i j e = rw (← q) (atom_qualified i j e)

constant-at : {p : Place} {x n : ℕ} {t : Token} {us : List Token} → t.place ≡ p → IsName kind.UpperName x t → Stops (kind.Dot ∷ []) us → Reads (an_atom (tree n p (build x Apart (trees_of []))) absent) n (t ∷ us) (suc n) us
constant-at q i s = rw (← q) (atom_constant i s)

indexed-on : {p : Place} {a y b : Tree} {c d g : Commas} {t u : Token} {n m k : ℕ} {ts us ws : List Token} → Is kind.OpenIndex t → Reads (a_seq y d) n ts m (u ∷ us) → Is kind.Close u → Reads (behind_atom later p (tree m p (fetch a y)) absent b g) (suc m) us k ws → Reads (behind_atom later p a c b g) n (t ∷ ts) k ws
indexed-on i s j (atom_alone e) = atom_indexed i s j (indexes_end e) e
indexed-on i s j (atom_indexed k d h e z) = atom_indexed i s j (indexes_more k d h e) z

store-at : {p : Place} {a x e : Tree} {c : Commas} {t : Token} {k n m : ℕ} {os ts us : List Token} → place_at os ≡ p → Indexed k os a x n (t ∷ ts) → Is kind.LeftArrow t → Reads (an_expression e c) n ts m us → Reads (an_expression (tree m p (store a x e)) absent) k os (suc m) us
store-at q (is_indexed s i d j e) z r = rw (← q) (expression_store s i d j e z r)

operand-at : {p : Place} {a x : Tree} {k n : ℕ} {os ts : List Token} → place_at os ≡ p → Indexed k os a x n ts → Stops (kind.OpenIndex ∷ kind.LeftArrow ∷ []) ts → Reads (an_operand first (tree n p (fetch a x)) absent) k os (suc n) ts
operand-at q (is_indexed s i d j e) z = rw (← q) (operand_of s (atom_indexed i d j e z))

indexed-at : {p : Place} {a x b y : Tree} {c d : Commas} {t u : Token} {n i j k : ℕ} {os us vs ws : List Token} → place_at os ≡ p → Reads (an_atom a c) n os i (t ∷ us) → Is kind.OpenIndex t → Reads (a_seq x d) i us j (u ∷ vs) → Is kind.Close u → Reads (indexes p a x b y) j vs k ws → Indexed n os b y k ws
indexed-at q s i d j e = is_indexed s i d j (rw (← q) at e)

pub upper_head : (ts : List Token) (l : Lexeme) (n : ℕ) (vs : List Value) (K : State → Type 0) → Unfolded M (InExpression UpperHead) (state ts l n vs) K → M (InExpression UpperHead) (state ts l n vs) K
upper_head (t ∷ v ∷ ts) l n (named x p ∷ vs) K (inl (g, (i, (j, h)))) = let y = node-name-is v.content _ _ h in let r = y.2 in (r.0, r.1, r.2, r.3, r.4, (λ u e q. r.5 n (u ∷ t ∷ v ∷ ts) q (qualified_name i) (qualified-at q e i (j, y.1))), r.6)
upper_head (t ∷ []) l n (named x p ∷ vs) K (inl (g, (i, h))) = absurd h
upper_head [] l n (named x p ∷ vs) K (inl (g, h)) = absurd h
upper_head (t ∷ ts) l n (named x p ∷ vs) K (inr (inl (g, (i, (y, d, m, u ∷ us, k, s, (j, (b, z, m2, ws, k2, e, o, (bb, dd, m3, xs, k3, f, h)))))))) = (bb, dd, m3, xs, k3, (λ v w q. f n (v ∷ t ∷ ts) q (indexed i) o (indexed-at q (constant-at q w (rw i refl, tt)) i s j e)), h)
upper_head (t ∷ ts) l n (named x p ∷ vs) K (inr (inl (g, (i, (y, d, m, [], k, s, h))))) = absurd h
upper_head [] l n (named x p ∷ vs) K (inr (inl (g, h))) = absurd h
upper_head ts l n (named x p ∷ vs) K (inr (inr (inl (g, (a, c, m, us, k, r, (b, d, m2, ws, y, f, h)))))) = (b, d, m2, ws, y, (λ t e q. f n (t ∷ ts) q (negation_application (rw (← q) (application_build e r)))), h)
upper_head ts l n (named x p ∷ vs) K (inr (inr (inr (inl (g, (b, d, m2, ws, y, f, h)))))) = (b, d, m2, ws, y, (λ t e q. f n (t ∷ ts) q (negation_application (rw (← q) (application_constant e g)))), h)
upper_head ts l n (named x p ∷ vs) K (inr (inr (inr (inr w)))) = absurd w
upper_head ts l n _ K h = tt

pub head_more : (ts : List Token) (l : Lexeme) (n : ℕ) (vs : List Value) (K : State → Type 0) → Unfolded M (InExpression HeadMore) (state ts l n vs) K → M (InExpression HeadMore) (state ts l n vs) K
head_more (t ∷ ts) l n (expression a p c ∷ vs) K (inl (g, (i, (y, d, m, u ∷ us, k, s, (j, (b, z, m2, ws, k2, e, o, (bb, dd, m3, xs, k3, f, h))))))) = (bb, dd, m3, xs, k3, (λ k4 os q w r. f k4 os q w o (indexed-at q r i s j e)), h)
head_more (t ∷ ts) l n (expression a p c ∷ vs) K (inl (g, (i, (y, d, m, [], k, s, h)))) = absurd h
head_more [] l n (expression a p c ∷ vs) K (inl (g, h)) = absurd h
head_more ts l n (expression a p c ∷ vs) K (inr (inl (g, (b, d, m, us, k, f, h)))) = (b, d, m, us, k, (λ j os q w r. f j os q w (operand_of r (atom_alone g))), h)
head_more ts l n (expression a p c ∷ vs) K (inr (inr w)) = absurd w
head_more ts l n _ K h = tt

pub index_tail : (ts : List Token) (l : Lexeme) (n : ℕ) (vs : List Value) (K : State → Type 0) → Unfolded M (InExpression IndexTail) (state ts l n vs) K → M (InExpression IndexTail) (state ts l n vs) K
index_tail (t ∷ ts) l n (element a x p ∷ vs) K (inl (g, (i, (y, d, m, u ∷ us, k, s, (j, (b, z, m2, ws, k2, e, o, h)))))) = (b, z, m2, ws, k2, indexes_more i s j e, o, h)
index_tail (t ∷ ts) l n (element a x p ∷ vs) K (inl (g, (i, (y, d, m, [], k, s, h)))) = absurd h
index_tail [] l n (element a x p ∷ vs) K (inl (g, h)) = absurd h
index_tail ts l n (element a x p ∷ vs) K (inr (inl (g, h))) = (a, x, n, ts, l, indexes_end g, g, h)
index_tail ts l n (element a x p ∷ vs) K (inr (inr w)) = absurd w
index_tail ts l n _ K h = tt

pub after_indexed : (ts : List Token) (l : Lexeme) (n : ℕ) (vs : List Value) (K : State → Type 0) → Unfolded M (InExpression AfterIndexed) (state ts l n vs) K → M (InExpression AfterIndexed) (state ts l n vs) K
after_indexed (t ∷ ts) l n (element a x p ∷ vs) K (inl (g, (i, (e, c, m, us, k, s, h)))) = (tree m p (store a x e), absent, suc m, us, k, (λ j os q w o z. store-at q z i s), h)
after_indexed [] l n (element a x p ∷ vs) K (inl (g, h)) = absurd h
after_indexed ts l n (element a x p ∷ vs) K (inr (inl (g, (b, d, m, us, k, f, h)))) = (b, d, m, us, k, (λ j os q w o z. f j os q w (operand-at q z (o.0, g))), h)
after_indexed ts l n (element a x p ∷ vs) K (inr (inr w)) = absurd w
after_indexed ts l n _ K h = tt

pub negation_of : (ts : List Token) (l : Lexeme) (n : ℕ) (vs : List Value) (K : State → Type 0) → Unfolded M (InExpression Negation) (state ts l n vs) K → M (InExpression Negation) (state ts l n vs) K
negation_of (t ∷ ts) l n vs K (inl (g, (i, (a, c, m, us, k, r, h)))) = (a, c, m, us, k, negation_minus i r, h)
negation_of [] l n vs K (inl (g, h)) = absurd h
negation_of ts l n vs K (inr (inl (g, (a, c, m, us, k, r, h)))) = (a, c, m, us, k, negation_application r, h)
negation_of ts l n vs K (inr (inr w)) = absurd w

pub after_minus : (ts : List Token) (l : Lexeme) (n : ℕ) (vs : List Value) (K : State → Type 0) → Unfolded M (InExpression AfterMinus) (state ts l n vs) K → M (InExpression AfterMinus) (state ts l n vs) K
after_minus (t ∷ ts) l n (mark p ∷ vs) K (inl (g, (i, h))) = let y = node-number-is t.content _ _ h in let z = up-to y.0 _ _ y.2 in let r = z.1 in let q = r.6 in (q.0, q.1, q.2, q.3, q.4, minus_number (i, y.1) z.0 r.5 q.5, q.6)
after_minus [] l n (mark p ∷ vs) K (inl (g, h)) = absurd h
after_minus (t ∷ ts) l n (mark p ∷ vs) K (inr (inl (g, (i, h)))) = let y = node-number-is t.content _ _ h in let z = up-to y.0 _ _ y.2 in let r = z.1 in let q = r.6 in (q.0, q.1, q.2, q.3, q.4, minus_limit (i, y.1) z.0 r.5 q.5, q.6)
after_minus [] l n (mark p ∷ vs) K (inr (inl (g, h))) = absurd h
after_minus (t ∷ ts) l n (mark p ∷ vs) K (inr (inr (inl (g, (i, (a, c, m, us, k, r, h)))))) = (tree m p (negated a), absent, suc m, us, k, minus_of (rw i refl, (rw i refl, tt)) (negation_minus i r), h)
after_minus [] l n (mark p ∷ vs) K (inr (inr (inl (g, h)))) = absurd h
after_minus (t ∷ ts) l n (mark p ∷ vs) K (inr (inr (inr (inl (g, (i, (a, c, m, us, k, r, h))))))) = (tree (suc m) p (negated (tree m t.place (assert_form a))), absent, suc (suc m), us, k, minus_of (rw i refl, (rw i refl, tt)) (negation_application (application_assert i r)), h)
after_minus [] l n (mark p ∷ vs) K (inr (inr (inr (inl (g, h))))) = absurd h
after_minus (t ∷ ts) l n (mark p ∷ vs) K (inr (inr (inr (inr (inl (g, (i, (a, c, m, us, k, r, h)))))))) = (tree (suc m) p (negated (tree m t.place (not_of a))), absent, suc (suc m), us, k, minus_of (rw i refl, (rw i refl, tt)) (negation_application (application_not i r)), h)
after_minus [] l n (mark p ∷ vs) K (inr (inr (inr (inr (inl (g, h)))))) = absurd h
after_minus (t ∷ ts) l n (mark p ∷ vs) K (inr (inr (inr (inr (inr (inl (g, (i, h)))))))) = let x = name-is t.content _ n _ h in let r = x.2 in (tree r.2 p (negated r.0), absent, suc r.2, r.3, r.4, minus_of (rw i refl, (rw i refl, tt)) (negation_application (r.5 t (i, x.1) refl)), r.6)
after_minus [] l n (mark p ∷ vs) K (inr (inr (inr (inr (inr (inl (g, h))))))) = absurd h
after_minus ts l n (mark p ∷ vs) K (inr (inr (inr (inr (inr (inr (inl (g, (a, c, m, us, k, (s, r), (b, d, m2, ws, y, e, (bb, dd, m3, xs, k3, q, h))))))))))) = (tree m3 p (negated bb), absent, suc m3, xs, k3, minus_of s.1 (negation_application (application_call (other (s.0, tt)) (operand_of r e) q)), h)
after_minus ts l n (mark p ∷ vs) K (inr (inr (inr (inr (inr (inr (inr w))))))) = absurd w
after_minus ts l n _ K h = tt

pub application_of : (ts : List Token) (l : Lexeme) (n : ℕ) (vs : List Value) (K : State → Type 0) → Unfolded M (InExpression Application) (state ts l n vs) K → M (InExpression Application) (state ts l n vs) K
application_of (t ∷ ts) l n vs K (inl (g, (i, (a, c, m, us, k, r, h)))) = (tree m t.place (assert_form a), absent, suc m, us, k, application_assert i r, h)
application_of [] l n vs K (inl (g, h)) = absurd h
application_of (t ∷ ts) l n vs K (inr (inl (g, (i, (a, c, m, us, k, r, h))))) = (tree m t.place (not_of a), absent, suc m, us, k, application_not i r, h)
application_of [] l n vs K (inr (inl (g, h))) = absurd h
application_of (t ∷ ts) l n vs K (inr (inr (inl (g, (i, h))))) = let x = name-is t.content _ n _ h in let r = x.2 in (r.0, r.1, r.2, r.3, r.4, r.5 t (i, x.1) refl, r.6)
application_of [] l n vs K (inr (inr (inl (g, h)))) = absurd h
application_of ts l n vs K (inr (inr (inr (inl (g, (a, c, m, us, k, (s, r), (b, d, m2, ws, y, e, (bb, dd, m3, xs, k3, q, h)))))))) = (bb, dd, m3, xs, k3, application_call (other s) (operand_of r e) q, h)
application_of ts l n vs K (inr (inr (inr (inr w)))) = absurd w

pub upper_more : (ts : List Token) (l : Lexeme) (n : ℕ) (vs : List Value) (K : State → Type 0) → Unfolded M (InExpression UpperMore) (state ts l n vs) K → M (InExpression UpperMore) (state ts l n vs) K
upper_more (t ∷ v ∷ ts) l n (named x p ∷ vs) K (inl (g, (i, (j, h)))) = let y = node-name-is v.content _ _ h in let r = y.2 in let q = r.6 in (q.0, q.1, q.2, q.3, q.4, (λ u e z. call-at z (qualified_name i) (qualified-at z e i (j, y.1)) r.5 q.5), q.6)
upper_more (t ∷ []) l n (named x p ∷ vs) K (inl (g, (i, h))) = absurd h
upper_more [] l n (named x p ∷ vs) K (inl (g, h)) = absurd h
upper_more (t ∷ ts) l n (named x p ∷ vs) K (inr (inl (g, (i, (y, d, m, u ∷ us, k, s, (j, (b, c, m2, ws, k2, e, (bb, dd, m3, xs, k3, q, h)))))))) = (bb, dd, m3, xs, k3, (λ v w z. call-at z (indexed i) (constant-at z w (rw i refl, tt)) (indexed-on i s j e) q), h)
upper_more (t ∷ ts) l n (named x p ∷ vs) K (inr (inl (g, (i, (y, d, m, [], k, s, h))))) = absurd h
upper_more [] l n (named x p ∷ vs) K (inr (inl (g, h))) = absurd h
upper_more ts l n (named x p ∷ vs) K (inr (inr (inl (g, (a, c, m, us, k, r, h))))) = (tree m p (build x (arguments c) (trees_of (a ∷ []))), absent, suc m, us, k, (λ t e z. rw (← z) (application_build e r)), h)
upper_more ts l n (named x p ∷ vs) K (inr (inr (inr (inl (g, h))))) = (tree n p (build x Apart (trees_of [])), absent, suc n, ts, l, (λ t e z. rw (← z) (application_constant e g)), h)
upper_more ts l n (named x p ∷ vs) K (inr (inr (inr (inr w)))) = absurd w
upper_more ts l n _ K h = tt

pub arguments_more_of : (ts : List Token) (l : Lexeme) (n : ℕ) (vs : List Value) (K : State → Type 0) → Unfolded M (InExpression ArgumentsMore) (state ts l n vs) K → M (InExpression ArgumentsMore) (state ts l n vs) K
arguments_more_of ts l n (expression a p c ∷ vs) K (inl (g, (b, d, m, us, k, r, (e, f, m2, ws, y, q, h)))) = (e, f, m2, ws, y, arguments_more r q, h)
arguments_more_of ts l n (expression a p c ∷ vs) K (inr (inl (g, h))) = (a, c, n, ts, l, arguments_end g, h)
arguments_more_of ts l n (expression a p c ∷ vs) K (inr (inr w)) = absurd w
arguments_more_of ts l n _ K h = tt

pub postfix : (ts : List Token) (l : Lexeme) (n : ℕ) (vs : List Value) (K : State → Type 0) → Unfolded M (InExpression Postfix) (state ts l n vs) K → M (InExpression Postfix) (state ts l n vs) K
postfix ts l n vs K (inl (g, (a, c, m, us, k, r, (b, d, m2, ws, y, q, h)))) = (b, d, m2, ws, y, operand_of r q, h)
postfix ts l n vs K (inr w) = absurd w

pub postfix_more : (ts : List Token) (l : Lexeme) (n : ℕ) (vs : List Value) (K : State → Type 0) → Unfolded M (InExpression PostfixMore) (state ts l n vs) K → M (InExpression PostfixMore) (state ts l n vs) K
postfix_more (t ∷ ts) l n (expression a p c ∷ vs) K (inl (g, (i, (y, d, m, u ∷ us, k, s, (j, (b, f, m2, ws, k2, e, h)))))) = (b, f, m2, ws, k2, indexed-on i s j e, h)
postfix_more (t ∷ ts) l n (expression a p c ∷ vs) K (inl (g, (i, (y, d, m, [], k, s, h)))) = absurd h
postfix_more [] l n (expression a p c ∷ vs) K (inl (g, h)) = absurd h
postfix_more ts l n (expression a p c ∷ vs) K (inr (inl (g, h))) = (a, c, n, ts, l, atom_alone g, h)
postfix_more ts l n (expression a p c ∷ vs) K (inr (inr w)) = absurd w
postfix_more ts l n _ K h = tt

pub atom : (ts : List Token) (l : Lexeme) (n : ℕ) (vs : List Value) (K : State → Type 0) → Unfolded M (InExpression Atom) (state ts l n vs) K → M (InExpression Atom) (state ts l n vs) K
atom (t ∷ ts) l n vs K (inl (g, (i, h))) = let x = name-is t.content _ n _ h in let r = x.2 in (r.0, r.1, r.2, r.3, r.4, r.5 t (i, x.1) refl, r.6)
atom [] l n vs K (inl (g, h)) = absurd h
atom ts l n vs K (inr (inl (g, (a, c, m, us, k, (s, r), h)))) = (a, c, m, us, k, r, h)
atom ts l n vs K (inr (inr w)) = absurd w

pub upper_atom : (ts : List Token) (l : Lexeme) (n : ℕ) (vs : List Value) (K : State → Type 0) → Unfolded M (InExpression UpperAtom) (state ts l n vs) K → M (InExpression UpperAtom) (state ts l n vs) K
upper_atom (t ∷ v ∷ ts) l n (named x p ∷ vs) K (inl (g, (i, (j, h)))) = let y = node-name-is v.content _ _ h in (tree n p (qualified x y.0), absent, suc n, ts, lexeme_of v, (λ u e z. qualified-at z e i (j, y.1)), y.2)
upper_atom (t ∷ []) l n (named x p ∷ vs) K (inl (g, (i, h))) = absurd h
upper_atom [] l n (named x p ∷ vs) K (inl (g, h)) = absurd h
upper_atom ts l n (named x p ∷ vs) K (inr (inl (g, h))) = (tree n p (build x Apart (trees_of [])), absent, suc n, ts, l, (λ t e z. constant-at z e g), h)
upper_atom ts l n (named x p ∷ vs) K (inr (inr w)) = absurd w
upper_atom ts l n _ K h = tt

pub plain_atom : (ts : List Token) (l : Lexeme) (n : ℕ) (vs : List Value) (K : State → Type 0) → Unfolded M (InExpression PlainAtom) (state ts l n vs) K → M (InExpression PlainAtom) (state ts l n vs) K
plain_atom (t ∷ ts) l n vs K (inl (g, (i, h))) = let y = node-number-is t.content _ _ h in let z = below y.0 _ _ y.2 in (tree n t.place (whole (pos y.0)), absent, suc n, ts, lexeme_of t, ((rw i refl, tt), atom_number (i, y.1) z.0), z.1)
plain_atom [] l n vs K (inl (g, h)) = absurd h
plain_atom ts l n vs K (inr (inl (g, (a, c, m, us, k, (s, r), h)))) = (a, c, m, us, k, ((s.0, tt), r), h)
plain_atom ts l n vs K (inr (inr w)) = absurd w

pub other_atom : (ts : List Token) (l : Lexeme) (n : ℕ) (vs : List Value) (K : State → Type 0) → Unfolded M (InExpression OtherAtom) (state ts l n vs) K → M (InExpression OtherAtom) (state ts l n vs) K
other_atom (t ∷ ts) l n vs K (inl (g, (i, h))) = (tree n t.place (flag true), absent, suc n, ts, lexeme_of t, ((rw i refl, (rw i refl, (rw i refl, tt))), atom_true i), h)
other_atom [] l n vs K (inl (g, h)) = absurd h
other_atom (t ∷ ts) l n vs K (inr (inl (g, (i, h)))) = (tree n t.place (flag false), absent, suc n, ts, lexeme_of t, ((rw i refl, (rw i refl, (rw i refl, tt))), atom_false i), h)
other_atom [] l n vs K (inr (inl (g, h))) = absurd h
other_atom (t ∷ ts) l n vs K (inr (inr (inl (g, (i, h))))) = let x = node-name-is t.content _ _ h in (tree n t.place (use_of x.0), absent, suc n, ts, lexeme_of t, ((rw i refl, (rw i refl, (rw i refl, tt))), atom_name (i, x.1)), x.2)
other_atom [] l n vs K (inr (inr (inl (g, h)))) = absurd h
other_atom (t ∷ u ∷ us) l n vs K (inr (inr (inr (inl (g, (i, inl (s, (j, h)))))))) = (tree n t.place unit, absent, suc n, us, lexeme_of u, ((rw i refl, (rw i refl, (rw i refl, tt))), atom_unit i j), h)
other_atom (t ∷ []) l n vs K (inr (inr (inr (inl (g, (i, inl (s, h))))))) = absurd h
other_atom (t ∷ ts) l n vs K (inr (inr (inr (inl (g, (i, inr (inl (s, (a, c, m, u ∷ us, k, r, (j, h)))))))))) = (a, in_parentheses c, m, us, lexeme_of u, ((rw i refl, (rw i refl, (rw i refl, tt))), atom_inside i r j), h)
other_atom (t ∷ ts) l n vs K (inr (inr (inr (inl (g, (i, inr (inl (s, (a, c, m, [], k, r, h))))))))) = absurd h
other_atom (t ∷ ts) l n vs K (inr (inr (inr (inl (g, (i, inr (inr h))))))) = absurd h
other_atom [] l n vs K (inr (inr (inr (inl (g, h))))) = absurd h
other_atom (t ∷ ts) l n vs K (inr (inr (inr (inr (inl (g, (i, (es, m, us, k, e, h)))))))) = (tree m t.place (list_of (trees_of es)), absent, suc m, us, k, ((rw i refl, (rw i refl, (rw i refl, tt))), atom_list i e), h)
other_atom [] l n vs K (inr (inr (inr (inr (inl (g, h)))))) = absurd h
other_atom (t ∷ ts) l n vs K (inr (inr (inr (inr (inr (inl (g, (i, (a, c, m, u ∷ us, k, r, (j, h)))))))))) = (a, absent, m, us, lexeme_of u, ((rw i refl, (rw i refl, (rw i refl, tt))), atom_block i r j), h)
other_atom (t ∷ ts) l n vs K (inr (inr (inr (inr (inr (inl (g, (i, (a, c, m, [], k, r, h))))))))) = absurd h
other_atom [] l n vs K (inr (inr (inr (inr (inr (inl (g, h))))))) = absurd h
other_atom ts l n vs K (inr (inr (inr (inr (inr (inr w)))))) = absurd w

pub list_inside : (ts : List Token) (l : Lexeme) (n : ℕ) (vs : List Value) (K : State → Type 0) → Unfolded M (InExpression ListInside) (state ts l n vs) K → M (InExpression ListInside) (state ts l n vs) K
list_inside (t ∷ ts) l n (expressions es p ∷ vs) K (inl (g, (i, h))) = (es, n, ts, lexeme_of t, items_end i, h)
list_inside [] l n (expressions es p ∷ vs) K (inl (g, h)) = absurd h
list_inside ts l n (expressions es p ∷ vs) K (inr (inl (g, (a, c, m, u ∷ us, k, r, inl (s, (i, h)))))) = (es ++ a ∷ [], m, us, lexeme_of u, items_last r i, h)
list_inside ts l n (expressions es p ∷ vs) K (inr (inl (g, (a, c, m, u ∷ us, k, r, inr (inl (s, (i, (fs, m2, ws, y, e, h)))))))) = (fs, m2, ws, y, items_more r i e, h)
list_inside ts l n (expressions es p ∷ vs) K (inr (inl (g, (a, c, m, [], k, r, inl (s, h))))) = absurd h
list_inside ts l n (expressions es p ∷ vs) K (inr (inl (g, (a, c, m, [], k, r, inr (inl (s, h)))))) = absurd h
list_inside ts l n (expressions es p ∷ vs) K (inr (inl (g, (a, c, m, us, k, r, inr (inr h))))) = absurd h
list_inside ts l n (expressions es p ∷ vs) K (inr (inr w)) = absurd w
list_inside ts l n _ K h = tt
