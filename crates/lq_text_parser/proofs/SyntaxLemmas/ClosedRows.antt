-- What is said of rows, arms and whole expressions follows from their alternatives.
use Rattle.std.proofs.Common.{ℕ, suc, List, [], ◌∷◌, inl, inr, refl}
use Rattle.lq_text_grammar.specs.declared.rule.Rule.TheVariants.{InExpression}
use Rattle.lq_text_grammar.specs.declared.rule.ExpressionPart.TheVariants.{Seq, SeqMore, Expression, FirstArm, ArmsMore, Arm}
use Rattle.lq_text_tree.specs.Tree.{tree, unit, fun, if_else, match_on, chain}
use Rattle.lq_text_tree.specs.TreeView.{trees_of, cases_of}
use Rattle.lq_text_actions.specs.Value.{Lexeme, absent, Value, expressions, arms}
use Rattle.lq_text_parser.specs.Syntax.Expressions.{other, plain, semicolon, seq_one, seq_more, row_end, row_more, expression_fun, expression_match, expression_if, expression_when, arms_one, arms_end, arms_more, negation_application, negation_minus, application_assert, application_not}
use Rattle.lq_text_parser.specs.Syntax.Tokens.{Token, lexeme_of, place_at, there, missing}
use Rattle.lq_text_parser.proofs.SyntaxLemmas.Doing.{State, state, Unfolded}
use Rattle.lq_text_parser.proofs.SyntaxLemmas.Contents.{name-is}
use Rattle.lq_text_parser.proofs.SyntaxLemmas.Meanings.{M}

pub seq : (ts : List Token) (l : Lexeme) (n : ℕ) (vs : List Value) (K : State → Type 0) → Unfolded M (InExpression Seq) (state ts l n vs) K → M (InExpression Seq) (state ts l n vs) K
seq ts l n vs K (inl (g, (a, c, m, u ∷ us, k, r, inl (s, (i, inl (z, (b, d, m2, ws, y, q, (es, m3, xs, o, e, h)))))))) = (tree m3 (place_at ts) (chain (trees_of es)), absent, suc m3, xs, o, seq_more r i q e, h)
seq ts l n vs K (inl (g, (a, c, m, u ∷ us, k, r, inl (s, (i, inr (inl (z, h))))))) = (a, c, m, us, lexeme_of u, seq_one r (semicolon i z), h)
seq ts l n vs K (inl (g, (a, c, m, u ∷ us, k, r, inl (s, (i, inr (inr h)))))) = absurd h
seq ts l n vs K (inl (g, (a, c, m, [], k, r, inl (s, h)))) = absurd h
seq ts l n vs K (inl (g, (a, c, m, us, k, r, inr (inl (s, h))))) = (a, c, m, us, k, seq_one r (plain s), h)
seq ts l n vs K (inl (g, (a, c, m, us, k, r, inr (inr h)))) = absurd h
seq ts l n vs K (inr w) = absurd w

pub row_of : (ts : List Token) (l : Lexeme) (n : ℕ) (vs : List Value) (K : State → Type 0) → Unfolded M (InExpression SeqMore) (state ts l n vs) K → M (InExpression SeqMore) (state ts l n vs) K
row_of (t ∷ ts) l n (expressions es p ∷ vs) K (inl (g, (i, inl (z, (b, d, m, ws, y, q, (fs, m2, xs, o, e, h)))))) = (fs, m2, xs, o, row_more i q e, h)
row_of (t ∷ ts) l n (expressions es p ∷ vs) K (inl (g, (i, inr (inl (z, h))))) = (es, n, ts, lexeme_of t, row_end (semicolon i z), h)
row_of (t ∷ ts) l n (expressions es p ∷ vs) K (inl (g, (i, inr (inr h)))) = absurd h
row_of [] l n (expressions es p ∷ vs) K (inl (g, h)) = absurd h
row_of ts l n (expressions es p ∷ vs) K (inr (inl (g, h))) = (es, n, ts, l, row_end (plain g), h)
row_of ts l n (expressions es p ∷ vs) K (inr (inr w)) = absurd w
row_of ts l n _ K h = tt

pub arm : (ts : List Token) (l : Lexeme) (n : ℕ) (vs : List Value) (K : State → Type 0) → Unfolded M (InExpression Arm) (state ts l n vs) K → M (InExpression Arm) (state ts l n vs) K
arm ts l n (arms rs ∷ vs) K (inl (g, (a, u ∷ us, k, r, (i, (b, c, m, ws, y, s, h))))) = (record { pattern = a; body = b }, m, ws, y, (λ ps qs j xs d. arms_one r i s d), h)
arm ts l n (arms rs ∷ vs) K (inl (g, (a, [], k, r, h))) = absurd h
arm ts l n (arms rs ∷ vs) K (inr w) = absurd w
arm ts l n _ K h = tt

pub first_arm : (ts : List Token) (l : Lexeme) (n : ℕ) (vs : List Value) (K : State → Type 0) → Unfolded M (InExpression FirstArm) (state ts l n vs) K → M (InExpression FirstArm) (state ts l n vs) K
first_arm (t ∷ ts) l n (arms rs ∷ vs) K (inl (g, (i, (a, m, us, k, f, (bs, m2, ws, y, q, h))))) = (bs, m2, ts, ws, y, there i, f rs bs m2 ws q, h)
first_arm [] l n (arms rs ∷ vs) K (inl (g, h)) = absurd h
first_arm ts l n (arms rs ∷ vs) K (inr (inl (g, (a, m, us, k, f, (bs, m2, ws, y, q, h))))) = (bs, m2, ts, ws, y, missing, f rs bs m2 ws q, h)
first_arm ts l n (arms rs ∷ vs) K (inr (inr w)) = absurd w
first_arm ts l n _ K h = tt

pub arms_of : (ts : List Token) (l : Lexeme) (n : ℕ) (vs : List Value) (K : State → Type 0) → Unfolded M (InExpression ArmsMore) (state ts l n vs) K → M (InExpression ArmsMore) (state ts l n vs) K
arms_of (t ∷ ts) l n (arms rs ∷ vs) K (inl (g, (i, (a, m, us, k, f, (bs, m2, ws, y, q, h))))) = (bs, m2, ws, y, arms_more i (f rs bs m2 ws q), h)
arms_of [] l n (arms rs ∷ vs) K (inl (g, h)) = absurd h
arms_of ts l n (arms rs ∷ vs) K (inr (inl (g, h))) = (rs, n, ts, l, arms_end g, h)
arms_of ts l n (arms rs ∷ vs) K (inr (inr w)) = absurd w
arms_of ts l n _ K h = tt

pub expression_of : (ts : List Token) (l : Lexeme) (n : ℕ) (vs : List Value) (K : State → Type 0) → Unfolded M (InExpression Expression) (state ts l n vs) K → M (InExpression Expression) (state ts l n vs) K
expression_of (t ∷ ts) l n vs K (inl (g, (i, (a, c, m, us, k, f, h)))) = (a, c, m, us, k, f t i refl, h)
expression_of [] l n vs K (inl (g, h)) = absurd h
expression_of (t ∷ ts) l n vs K (inr (inl (g, (i, (a, us, k, r, inl (s, (b, c, m, ws, y, o, q, h))))))) = (tree m t.place (fun a b), absent, suc m, ws, y, expression_fun i r q, h)
expression_of (t ∷ ts) l n vs K (inr (inl (g, (i, (a, us, k, r, inr h))))) = absurd h
expression_of [] l n vs K (inr (inl (g, h))) = absurd h
expression_of (t ∷ ts) l n vs K (inr (inr (inl (g, (i, (e, c, m, u ∷ us, k, r, (j, (bs, m2, ws, xs, y, z, q, h)))))))) = (tree m2 t.place (match_on e (cases_of bs)), absent, suc m2, xs, y, expression_match i r j z q, h)
expression_of (t ∷ ts) l n vs K (inr (inr (inl (g, (i, (e, c, m, [], k, r, h)))))) = absurd h
expression_of [] l n vs K (inr (inr (inl (g, h)))) = absurd h
expression_of (t ∷ ts) l n vs K (inr (inr (inr (inl (g, (i, (e, c, m, u ∷ us, k, r, (j, (a, d, m2, v ∷ ws, y, q, inl (s, (z, (b, o, m3, xs, y2, z2, h)))))))))))) = (tree m3 t.place (if_else e a b), absent, suc m3, xs, y2, expression_if i r j q z z2, h)
expression_of (t ∷ ts) l n vs K (inr (inr (inr (inl (g, (i, (e, c, m, u ∷ us, k, r, (j, (a, d, m2, [], y, q, inl (s, h)))))))))) = absurd h
expression_of (t ∷ ts) l n vs K (inr (inr (inr (inl (g, (i, (e, c, m, u ∷ us, k, r, (j, (a, d, m2, ws, y, q, inr (inl (s, h))))))))))) = (tree (suc m2) t.place (if_else e a (tree m2 t.place unit)), absent, suc (suc m2), ws, y, expression_when i r j q s, h)
expression_of (t ∷ ts) l n vs K (inr (inr (inr (inl (g, (i, (e, c, m, u ∷ us, k, r, (j, (a, d, m2, ws, y, q, inr (inr h)))))))))) = absurd h
expression_of (t ∷ ts) l n vs K (inr (inr (inr (inl (g, (i, (e, c, m, [], k, r, h))))))) = absurd h
expression_of [] l n vs K (inr (inr (inr (inl (g, h))))) = absurd h
expression_of (t ∷ ts) l n vs K (inr (inr (inr (inr (inl (g, (i, (a, c, m, us, k, r, (b, d, m2, ws, y, f, h))))))))) = (b, d, m2, ws, y, f n (t ∷ ts) refl (negation_minus i r), h)
expression_of [] l n vs K (inr (inr (inr (inr (inl (g, h)))))) = absurd h
expression_of (t ∷ ts) l n vs K (inr (inr (inr (inr (inr (inl (g, (i, (a, c, m, us, k, r, (b, d, m2, ws, y, f, h)))))))))) = (b, d, m2, ws, y, f n (t ∷ ts) refl (negation_application (application_assert i r)), h)
expression_of [] l n vs K (inr (inr (inr (inr (inr (inl (g, h))))))) = absurd h
expression_of (t ∷ ts) l n vs K (inr (inr (inr (inr (inr (inr (inl (g, (i, (a, c, m, us, k, r, (b, d, m2, ws, y, f, h))))))))))) = (b, d, m2, ws, y, f n (t ∷ ts) refl (negation_application (application_not i r)), h)
expression_of [] l n vs K (inr (inr (inr (inr (inr (inr (inl (g, h)))))))) = absurd h
expression_of (t ∷ ts) l n vs K (inr (inr (inr (inr (inr (inr (inr (inl (g, (i, h)))))))))) = let x = name-is t.content _ n _ h in let r = x.2 in (r.0, r.1, r.2, r.3, r.4, r.5 t (i, x.1) refl, r.6)
expression_of [] l n vs K (inr (inr (inr (inr (inr (inr (inr (inl (g, h))))))))) = absurd h
expression_of ts l n vs K (inr (inr (inr (inr (inr (inr (inr (inr (inl (g, (a, c, m, us, k, (s, r), (b, d, m2, ws, y, f, h)))))))))))) = (b, d, m2, ws, y, f n ts refl (other s) r, h)
expression_of ts l n vs K (inr (inr (inr (inr (inr (inr (inr (inr (inr w))))))))) = absurd w
