-- What is said of the parts of bindings follows from their alternatives.
use Rattle.std.proofs.Common.{◌≡◌, ℕ, suc, List, [], ◌∷◌, inl, inr, refl}
use Rattle.lq_base_names.specs.declared.place.Place.{Place}
use Rattle.lq_text_grammar.specs.declared.kind.Kind.{Kind}
use Rattle.lq_text_grammar.specs.declared.kind.Kind.TheVariants as kind
use Rattle.lq_text_grammar.specs.declared.rule.Rule.TheVariants.{InBinding, InExpression}
use Rattle.lq_text_grammar.specs.declared.rule.BindingPart.TheVariants.{RecBind, RecFirst, LetTail, LetRest, FunTail, FunRest}
use Rattle.lq_text_grammar.specs.declared.rule.ExpressionPart.TheVariants.{LetHead, AfterLetName, AfterLetAny, LetTuple, LetInside}
use Rattle.lq_text_tree.specs.Pattern.{Pattern, pattern as pattern_at, nothing, tuple_of}
use Rattle.lq_text_tree.specs.PatternView.{patterns_of}
use Rattle.lq_text_tree.specs.Tree.{Tree, tree, fun, let_rec}
use Rattle.lq_text_actions.specs.Expressions.{let_form}
use Rattle.lq_text_actions.specs.Patterns.{place_of_pattern}
use Rattle.lq_text_actions.specs.Value.{Lexeme, Commas, absent, Value, mark, named, pattern_read, patterns}
use Rattle.lq_text_parser.specs.Syntax.Expressions.{Reads, a_seq, an_expression, a_binding, expression_let, expression_rec, tail_end, tail_more, definition_name, definition_any, definition_unit, binding_plain, binding_tuple, binding_inside, recursive_name, recursive_fun}
use Rattle.lq_text_parser.specs.Syntax.Patterns as pattern
use Rattle.lq_text_parser.specs.Syntax.Patterns.{ReadsPattern, a_simple, simple_name, simple_any, parameter_simple}
use Rattle.lq_text_parser.specs.Syntax.Tokens.{Token, lexeme_of, place_at, Is}
use Rattle.lq_text_parser.proofs.SyntaxLemmas.Doing.{State, state, Take, Unfolded}
use Rattle.lq_text_parser.proofs.SyntaxLemmas.Contents.{name-is}
use Rattle.lq_text_parser.proofs.SyntaxLemmas.Meanings.{M}

pub let_rest : (ts : List Token) (l : Lexeme) (n : ℕ) (vs : List Value) (K : State → Type 0) → Unfolded M (InBinding LetRest) (state ts l n vs) K → M (InBinding LetRest) (state ts l n vs) K
let_rest ts l n (pattern_read p ∷ vs) K (inl (g, (b, c, m, us, k, o, s, h))) = (tree m (place_of_pattern p) (fun p b), absent, suc m, us, k, place_of_pattern p, (λ os d. tail_more d s), h)
let_rest ts l n (pattern_read p ∷ vs) K (inr w) = absurd w
let_rest ts l n _ K h = tt

pub fun_rest : (ts : List Token) (l : Lexeme) (n : ℕ) (vs : List Value) (K : State → Type 0) → Unfolded M (InBinding FunRest) (state ts l n vs) K → M (InBinding FunRest) (state ts l n vs) K
fun_rest ts l n (pattern_read p ∷ vs) K (inl (g, (b, c, m, us, k, o, s, h))) = (tree m (place_of_pattern p) (fun p b), absent, suc m, us, k, place_of_pattern p, (λ os d. tail_more d s), h)
fun_rest ts l n (pattern_read p ∷ vs) K (inr w) = absurd w
fun_rest ts l n _ K h = tt

pub let_tail : (ts : List Token) (l : Lexeme) (n : ℕ) (vs : List Value) (K : State → Type 0) → Unfolded M (InBinding LetTail) (state ts l n vs) K → M (InBinding LetTail) (state ts l n vs) K
let_tail (t ∷ ts) l n vs K (inl (g, (i, (b, c, m, us, k, s, h)))) = (b, c, m, us, k, place_at ts, tail_end i s, h)
let_tail [] l n vs K (inl (g, h)) = absurd h
let_tail (t ∷ ts) l n vs K (inr (inl (g, (i, h)))) = let x = name-is t.content _ n _ h in let r = x.2 in (r.0, r.1, r.2, r.3, r.4, r.5, r.6 (t ∷ ts) (parameter_simple (simple_name (i, x.1))), r.7)
let_tail [] l n vs K (inr (inl (g, h))) = absurd h
let_tail (t ∷ ts) l n vs K (inr (inr (inl (g, (i, (b, c, m, us, k, o, f, h)))))) = (b, c, m, us, k, o, f (t ∷ ts) (parameter_simple (simple_any i)), h)
let_tail [] l n vs K (inr (inr (inl (g, h)))) = absurd h
let_tail (t ∷ ts) l n vs K (inr (inr (inr (inl (g, (i, (a, us, k, f, (b, c, m, ws, q, o, z, h)))))))) = (b, c, m, ws, q, o, z (t ∷ ts) (f t i refl), h)
let_tail [] l n vs K (inr (inr (inr (inl (g, h))))) = absurd h
let_tail ts l n vs K (inr (inr (inr (inr w)))) = absurd w

pub fun_tail : (ts : List Token) (l : Lexeme) (n : ℕ) (vs : List Value) (K : State → Type 0) → Unfolded M (InBinding FunTail) (state ts l n vs) K → M (InBinding FunTail) (state ts l n vs) K
fun_tail (t ∷ ts) l n vs K (inl (g, (i, (b, c, m, us, k, s, h)))) = (b, c, m, us, k, place_at ts, tail_end i s, h)
fun_tail [] l n vs K (inl (g, h)) = absurd h
fun_tail (t ∷ ts) l n vs K (inr (inl (g, (i, h)))) = let x = name-is t.content _ n _ h in let r = x.2 in (r.0, r.1, r.2, r.3, r.4, r.5, r.6 (t ∷ ts) (parameter_simple (simple_name (i, x.1))), r.7)
fun_tail [] l n vs K (inr (inl (g, h))) = absurd h
fun_tail (t ∷ ts) l n vs K (inr (inr (inl (g, (i, (b, c, m, us, k, o, f, h)))))) = (b, c, m, us, k, o, f (t ∷ ts) (parameter_simple (simple_any i)), h)
fun_tail [] l n vs K (inr (inr (inl (g, h)))) = absurd h
fun_tail (t ∷ ts) l n vs K (inr (inr (inr (inl (g, (i, (a, us, k, f, (b, c, m, ws, q, o, z, h)))))))) = (b, c, m, ws, q, o, z (t ∷ ts) (f t i refl), h)
fun_tail [] l n vs K (inr (inr (inr (inl (g, h))))) = absurd h
fun_tail ts l n vs K (inr (inr (inr (inr w)))) = absurd w

pub rec_first : (ts : List Token) (l : Lexeme) (n : ℕ) (vs : List Value) (K : State → Type 0) → Unfolded M (InBinding RecFirst) (state ts l n vs) K → M (InBinding RecFirst) (state ts l n vs) K
rec_first (t ∷ v ∷ ts) l n (named f p ∷ vs) K (inl (g, (i, inl (s, (j, (a, us, k, r, inl (z, (b, c, m, ws, y, o, q, h)))))))) = (record { id = m; place = v.place; parameter = a; body = b }, suc m, ws, y, (λ u e. recursive_fun e i j r q), h)
rec_first (t ∷ v ∷ ts) l n (named f p ∷ vs) K (inl (g, (i, inl (s, (j, (a, us, k, r, inr h)))))) = absurd h
rec_first (t ∷ []) l n (named f p ∷ vs) K (inl (g, (i, inl (s, h)))) = absurd h
rec_first (t ∷ ts) l n (named f p ∷ vs) K (inl (g, (i, inr h))) = absurd h
rec_first [] l n (named f p ∷ vs) K (inl (g, h)) = absurd h
rec_first ts l n (named f p ∷ vs) K (inr (inl (g, (a, us, k, r, inl (z, (b, c, m, ws, y, o, q, h)))))) = (record { id = m; place = place_of_pattern a; parameter = a; body = b }, suc m, ws, y, (λ u e. recursive_name e r q), h)
rec_first ts l n (named f p ∷ vs) K (inr (inl (g, (a, us, k, r, inr h)))) = absurd h
rec_first ts l n (named f p ∷ vs) K (inr (inr w)) = absurd w
rec_first ts l n _ K h = tt

pub recursive_of : (ts : List Token) (l : Lexeme) (n : ℕ) (vs : List Value) (K : State → Type 0) → Unfolded M (InBinding RecBind) (state ts l n vs) K → M (InBinding RecBind) (state ts l n vs) K
recursive_of (t ∷ ts) l n vs K (inl (g, (i, h))) = let x = name-is t.content _ n _ h in let r = x.2 in (x.0, r.0, r.1, r.2, r.3, r.4 t (i, x.1), r.5)
recursive_of [] l n vs K (inl (g, h)) = absurd h
recursive_of ts l n vs K (inr w) = absurd w

pub let_tuple : (ts : List Token) (l : Lexeme) (n : ℕ) (vs : List Value) (K : State → Type 0) → Unfolded M (InExpression LetTuple) (state ts l n vs) K → M (InExpression LetTuple) (state ts l n vs) K
let_tuple (t ∷ ts) l n (patterns ps p ∷ vs) K (inl (g, (i, (b, us, k, r, (qs, (e, c, m, ws, y, o, (u, os, d, z, s), h)))))) = (qs, (e, c, m, ws, y, o, (u, os, pattern.members_more i r d, z, s), h))
let_tuple [] l n (patterns ps p ∷ vs) K (inl (g, h)) = absurd h
let_tuple (t ∷ ts) l n (patterns ps p ∷ vs) K (inr (inl (g, (i, (e, c, m, us, k, s, h))))) = (ps, (e, c, m, us, k, place_at ts, (t, ts, pattern.members_end (rw i refl, tt), i, s), h))
let_tuple [] l n (patterns ps p ∷ vs) K (inr (inl (g, h))) = absurd h
let_tuple ts l n (patterns ps p ∷ vs) K (inr (inr w)) = absurd w
let_tuple ts l n _ K h = tt

pub after_name : (ts : List Token) (l : Lexeme) (n : ℕ) (vs : List Value) (K : State → Type 0) → Unfolded M (InExpression AfterLetName) (state ts l n vs) K → M (InExpression AfterLetName) (state ts l n vs) K
after_name (t ∷ ts) l n (pattern_read a ∷ vs) K (inl (g, (i, (b, us, k, r, (qs, (e, c, m, ws, y, o, (u, os, d, w, s), h)))))) = (pattern_at (place_of_pattern a) (tuple_of (patterns_of qs)), (e, c, m, ws, y, o, (λ v x j z. let q : ReadsPattern (a_simple a) (v ∷ t ∷ ts) (t ∷ ts) = rw z (simple_name j) in binding_tuple q i r d w s), h))
after_name [] l n (pattern_read a ∷ vs) K (inl (g, h)) = absurd h
after_name ts l n (pattern_read a ∷ vs) K (inr (inl (g, (e, c, m, us, k, o, s, h)))) = (a, (e, c, m, us, k, o, (λ v x j z. rw z (binding_plain (definition_name j s))), h))
after_name ts l n (pattern_read a ∷ vs) K (inr (inr w)) = absurd w
after_name ts l n _ K h = tt

pub after_any : (ts : List Token) (l : Lexeme) (n : ℕ) (vs : List Value) (K : State → Type 0) → Unfolded M (InExpression AfterLetAny) (state ts l n vs) K → M (InExpression AfterLetAny) (state ts l n vs) K
after_any (t ∷ ts) l n (pattern_read a ∷ vs) K (inl (g, (i, (b, us, k, r, (qs, (e, c, m, ws, y, o, (u, os, d, w, s), h)))))) = (pattern_at (place_of_pattern a) (tuple_of (patterns_of qs)), (e, c, m, ws, y, o, (λ v j z. let q : ReadsPattern (a_simple a) (v ∷ t ∷ ts) (t ∷ ts) = rw z (simple_any j) in binding_tuple q i r d w s), h))
after_any [] l n (pattern_read a ∷ vs) K (inl (g, h)) = absurd h
after_any (t ∷ ts) l n (pattern_read a ∷ vs) K (inr (inl (g, (i, (e, c, m, us, k, s, h))))) = (a, (e, c, m, us, k, place_at ts, (λ v j z. rw z (binding_plain (definition_any j i s))), h))
after_any [] l n (pattern_read a ∷ vs) K (inr (inl (g, h))) = absurd h
after_any ts l n (pattern_read a ∷ vs) K (inr (inr w)) = absurd w
after_any ts l n _ K h = tt

pub let_inside : (ts : List Token) (l : Lexeme) (n : ℕ) (vs : List Value) (K : State → Type 0) → Unfolded M (InExpression LetInside) (state ts l n vs) K → M (InExpression LetInside) (state ts l n vs) K
let_inside (u ∷ us) l n (mark p ∷ vs) K (inl (g, (i, h))) = (pattern_at p nothing, us, lexeme_of u, (λ t j q k v os b c m ws e y s. rw (← q, e) (binding_plain (definition_unit j i y s))), h)
let_inside [] l n (mark p ∷ vs) K (inl (g, h)) = absurd h
let_inside ts l n (mark p ∷ vs) K (inr (inl (g, (a, u ∷ us, k, r, (i, (b, ws, m, q, (cs, xs, o, d, h))))))) = (pattern_at (place_of_pattern a) (tuple_of (patterns_of cs)), xs, o, (λ t j z n2 v os e c m2 ys y w s. binding_inside j r i q (rw y at d) w s), h)
let_inside ts l n (mark p ∷ vs) K (inr (inl (g, (a, [], k, r, h)))) = absurd h
let_inside ts l n (mark p ∷ vs) K (inr (inr w)) = absurd w
let_inside ts l n _ K h = tt

pub let-in : {k : Kind} (ts : List Token) (F : Token → List Token → Type 0) → Take k ts F → (t : Token) × (us : List Token) × (ts ≡ t ∷ us) × Is k t × F t us
let-in [] F h = absurd h
let-in (t ∷ us) F h = (t, us, refl, h.0, h.1)

let-at : {p : Place} {a : Pattern} {e b : Tree} {c : Commas} {t u : Token} {n i j : ℕ} {ts us vs ws : List Token} → Is kind.Let t → t.place ≡ p → us ≡ u ∷ vs → Reads (a_binding a e) n ts i us → Is kind.In u → Reads (a_seq b c) i vs j ws → Reads (an_expression (tree j p (let_form a e b)) absent) n (t ∷ ts) (suc j) ws
let-at j q is d y s = rw (← q) (expression_let j (rw is at d) y s)

pub let_head : (ts : List Token) (l : Lexeme) (n : ℕ) (vs : List Value) (K : State → Type 0) → Unfolded M (InExpression LetHead) (state ts l n vs) K → M (InExpression LetHead) (state ts l n vs) K
let_head (t ∷ ts) l n (mark p ∷ vs) K (inl (g, (i, h))) = let x = name-is t.content _ n _ h in let r = x.2 in let b = r.1 in let w = let-in b.3 _ b.7 in let s = w.4 in (tree s.2 p (let_form r.0 b.0 s.0), absent, suc s.2, s.3, s.4, (λ v z q. let-at z q w.2 (b.6 t x.0 (i, x.1) refl) w.3 s.5), s.6)
let_head [] l n (mark p ∷ vs) K (inl (g, h)) = absurd h
let_head (t ∷ ts) l n (mark p ∷ vs) K (inr (inl (g, (i, (a, (e, c, m, u ∷ us, k, o, f, (j, (b, d, m2, ws, y, s, h)))))))) = (tree m2 p (let_form a e b), absent, suc m2, ws, y, (λ v z q. let-at z q refl (f t i refl) j s), h)
let_head (t ∷ ts) l n (mark p ∷ vs) K (inr (inl (g, (i, (a, (e, c, m, [], k, o, f, h)))))) = absurd h
let_head [] l n (mark p ∷ vs) K (inr (inl (g, h))) = absurd h
let_head (t ∷ ts) l n (mark p ∷ vs) K (inr (inr (inl (g, (i, (a, v ∷ us, k, f, (j, (e, c, m, u ∷ xs, y, s, (w, (b, d, m2, ws, y2, z, h)))))))))) = (tree m2 p (let_form a e b), absent, suc m2, ws, y2, (λ v2 z2 q. let-at z2 q refl (f t i refl n v us e c m (u ∷ xs) refl j s) w z), h)
let_head (t ∷ ts) l n (mark p ∷ vs) K (inr (inr (inl (g, (i, (a, v ∷ us, k, f, (j, (e, c, m, [], y, s, h)))))))) = absurd h
let_head (t ∷ ts) l n (mark p ∷ vs) K (inr (inr (inl (g, (i, (a, [], k, f, h)))))) = absurd h
let_head [] l n (mark p ∷ vs) K (inr (inr (inl (g, h)))) = absurd h
let_head (t ∷ ts) l n (mark p ∷ vs) K (inr (inr (inr (inl (g, (i, (f, r, m, u ∷ us, k, s, (j, (b, d, m2, ws, y, q, h))))))))) = (tree m2 p (let_rec f r.id r.place r.parameter r.body b), absent, suc m2, ws, y, (λ v z e. rw (← e) (expression_rec z i s j q)), h)
let_head (t ∷ ts) l n (mark p ∷ vs) K (inr (inr (inr (inl (g, (i, (f, r, m, [], k, s, h))))))) = absurd h
let_head [] l n (mark p ∷ vs) K (inr (inr (inr (inl (g, h))))) = absurd h
let_head ts l n (mark p ∷ vs) K (inr (inr (inr (inr w)))) = absurd w
let_head ts l n _ K h = tt
