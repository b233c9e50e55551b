-- What is said of the parts of patterns follows from their alternatives.
use Rattle.std.proofs.Common.{◌≡◌, ℕ, List, [], ◌∷◌, ◌++◌, inl, inr, refl}
use Rattle.lq_base_names.specs.NameTable.{nil_name, cons_name}
use Rattle.lq_text_grammar.specs.declared.kind.Kind.TheVariants as kind
use Rattle.lq_text_grammar.specs.declared.rule.Rule.TheVariants.{InBinding, InPattern}
use Rattle.lq_text_grammar.specs.declared.rule.BindingPart.TheVariants.{Parameter, ParameterInside, SimplesInside, Simple}
use Rattle.lq_text_grammar.specs.declared.rule.PatternPart.TheVariants.{Pattern as PatternPart, PatternRest, PatternTuple, PatternArguments, ArgumentsInside}
use Rattle.lq_text_tree.specs.Pattern.{Pattern, pattern, any, bind, nothing, tuple_of, build_of}
use Rattle.lq_text_tree.specs.PatternView.{patterns_of}
use Rattle.lq_text_actions.specs.Patterns.{place_of_pattern}
use Rattle.lq_text_actions.specs.Value.{Lexeme, Value, mark, pattern_read, patterns}
use Rattle.lq_text_parser.specs.Syntax.Patterns.{ReadsPattern, a_simple, a_pattern, simple_name, simple_any, parameter_simple, parameter_unit, parameter_tuple, inside_end, inside_more, pattern_simple, pattern_unit, pattern_nil, pattern_cons, pattern_tuple, pattern_inside, pattern_alone, pattern_one, pattern_many, members_end, members_more}
use Rattle.lq_text_parser.specs.Syntax.Tokens.{Token, lexeme_of, IsName}
use Rattle.lq_text_parser.proofs.SyntaxLemmas.Doing.{State, state, Unfolded}
use Rattle.lq_text_parser.proofs.SyntaxLemmas.Contents.{name-is}
use Rattle.lq_text_parser.proofs.SyntaxLemmas.Meanings.{M}

one-at : {c : ℕ} {a : Pattern} {ps : List Pattern} {t : Token} {us vs : List Token} → ps ≡ [] → IsName kind.UpperName c t → ReadsPattern (a_simple a) us vs → ReadsPattern (a_pattern (pattern t.place (build_of c t.place (patterns_of (ps ++ a ∷ []))))) (t ∷ us) vs
one-at e j d = rw e (pattern_one j d)

pub simple : (ts : List Token) (l : Lexeme) (n : ℕ) (vs : List Value) (K : State → Type 0) → Unfolded M (InBinding Simple) (state ts l n vs) K → M (InBinding Simple) (state ts l n vs) K
simple (t ∷ ts) l n vs K (inl (g, (i, h))) = let x = name-is t.content _ n _ h in (pattern t.place (bind x.0), ts, lexeme_of t, simple_name (i, x.1), x.2)
simple [] l n vs K (inl (g, h)) = absurd h
simple (t ∷ ts) l n vs K (inr (inl (g, (i, h)))) = (pattern t.place any, ts, lexeme_of t, simple_any i, h)
simple [] l n vs K (inr (inl (g, h))) = absurd h
simple ts l n vs K (inr (inr w)) = absurd w

pub parameter : (ts : List Token) (l : Lexeme) (n : ℕ) (vs : List Value) (K : State → Type 0) → Unfolded M (InBinding Parameter) (state ts l n vs) K → M (InBinding Parameter) (state ts l n vs) K
parameter (t ∷ ts) l n vs K (inl (g, (i, h))) = let x = name-is t.content _ n _ h in (pattern t.place (bind x.0), ts, lexeme_of t, parameter_simple (simple_name (i, x.1)), x.2)
parameter [] l n vs K (inl (g, h)) = absurd h
parameter (t ∷ ts) l n vs K (inr (inl (g, (i, h)))) = (pattern t.place any, ts, lexeme_of t, parameter_simple (simple_any i), h)
parameter [] l n vs K (inr (inl (g, h))) = absurd h
parameter (t ∷ ts) l n vs K (inr (inr (inl (g, (i, (a, us, k, f, h)))))) = (a, us, k, f t i refl, h)
parameter [] l n vs K (inr (inr (inl (g, h)))) = absurd h
parameter ts l n vs K (inr (inr (inr w))) = absurd w

pub parameter_inside : (ts : List Token) (l : Lexeme) (n : ℕ) (vs : List Value) (K : State → Type 0) → Unfolded M (InBinding ParameterInside) (state ts l n vs) K → M (InBinding ParameterInside) (state ts l n vs) K
parameter_inside (u ∷ us) l n (mark p ∷ vs) K (inl (g, (i, h))) = (pattern p nothing, us, lexeme_of u, (λ t j q. rw (← q) (parameter_unit j i)), h)
parameter_inside [] l n (mark p ∷ vs) K (inl (g, h)) = absurd h
parameter_inside ts l n (mark p ∷ vs) K (inr (inl (g, (a, u ∷ us, k, r, (i, (b, ws, m, q, (cs, xs, o, d, h))))))) = (pattern p (tuple_of (patterns_of cs)), xs, o, (λ t j e. rw (← e) (parameter_tuple j r i q d)), h)
parameter_inside ts l n (mark p ∷ vs) K (inr (inl (g, (a, [], k, r, h)))) = absurd h
parameter_inside ts l n (mark p ∷ vs) K (inr (inr w)) = absurd w
parameter_inside ts l n _ K h = tt

pub simples : (ts : List Token) (l : Lexeme) (n : ℕ) (vs : List Value) (K : State → Type 0) → Unfolded M (InBinding SimplesInside) (state ts l n vs) K → M (InBinding SimplesInside) (state ts l n vs) K
simples (t ∷ ts) l n (patterns ps p ∷ vs) K (inl (g, (i, h))) = (ps, ts, lexeme_of t, inside_end i, h)
simples [] l n (patterns ps p ∷ vs) K (inl (g, h)) = absurd h
simples (t ∷ ts) l n (patterns ps p ∷ vs) K (inr (inl (g, (i, (b, ws, m, q, (cs, xs, o, d, h)))))) = (cs, xs, o, inside_more i q d, h)
simples [] l n (patterns ps p ∷ vs) K (inr (inl (g, h))) = absurd h
simples ts l n (patterns ps p ∷ vs) K (inr (inr w)) = absurd w
simples ts l n _ K h = tt

pub arguments : (ts : List Token) (l : Lexeme) (n : ℕ) (vs : List Value) (K : State → Type 0) → Unfolded M (InPattern ArgumentsInside) (state ts l n vs) K → M (InPattern ArgumentsInside) (state ts l n vs) K
arguments (t ∷ ts) l n (patterns ps p ∷ vs) K (inl (g, (i, h))) = (ps, ts, lexeme_of t, inside_end i, h)
arguments [] l n (patterns ps p ∷ vs) K (inl (g, h)) = absurd h
arguments (t ∷ ts) l n (patterns ps p ∷ vs) K (inr (inl (g, (i, (b, ws, m, q, (cs, xs, o, d, h)))))) = (cs, xs, o, inside_more i q d, h)
arguments [] l n (patterns ps p ∷ vs) K (inr (inl (g, h))) = absurd h
arguments ts l n (patterns ps p ∷ vs) K (inr (inr w)) = absurd w
arguments ts l n _ K h = tt

pub tuple : (ts : List Token) (l : Lexeme) (n : ℕ) (vs : List Value) (K : State → Type 0) → Unfolded M (InPattern PatternTuple) (state ts l n vs) K → M (InPattern PatternTuple) (state ts l n vs) K
tuple (t ∷ ts) l n (patterns ps p ∷ vs) K (inl (g, (i, (b, ws, m, q, (a, xs, o, (cs, e, d), h))))) = (a, xs, o, (cs, e, members_more i q d), h)
tuple [] l n (patterns ps p ∷ vs) K (inl (g, h)) = absurd h
tuple ts l n (patterns ps p ∷ vs) K (inr (inl (g, h))) = (pattern p (tuple_of (patterns_of ps)), ts, l, (ps, refl, members_end g), h)
tuple ts l n (patterns ps p ∷ vs) K (inr (inr w)) = absurd w
tuple ts l n _ K h = tt

pub rest : (ts : List Token) (l : Lexeme) (n : ℕ) (vs : List Value) (K : State → Type 0) → Unfolded M (InPattern PatternRest) (state ts l n vs) K → M (InPattern PatternRest) (state ts l n vs) K
rest (t ∷ ts) l n (pattern_read a ∷ vs) K (inl (g, (i, (b, ws, m, q, h)))) = (pattern (place_of_pattern a) (build_of cons_name t.place (patterns_of (a ∷ b ∷ []))), ws, m, (λ os d. pattern_cons d i q), h)
rest [] l n (pattern_read a ∷ vs) K (inl (g, h)) = absurd h
rest (t ∷ ts) l n (pattern_read a ∷ vs) K (inr (inl (g, (i, (b, ws, m, q, (c, xs, o, (cs, e, d), h)))))) = (c, xs, o, (λ os z. rw e (pattern_tuple z i q d)), h)
rest [] l n (pattern_read a ∷ vs) K (inr (inl (g, h))) = absurd h
rest ts l n (pattern_read a ∷ vs) K (inr (inr (inl (g, h)))) = (a, ts, l, (λ os d. pattern_simple d g), h)
rest ts l n (pattern_read a ∷ vs) K (inr (inr (inr w))) = absurd w
rest ts l n _ K h = tt

pub builds : (ts : List Token) (l : Lexeme) (n : ℕ) (vs : List Value) (K : State → Type 0) → Unfolded M (InPattern PatternArguments) (state ts l n vs) K → M (InPattern PatternArguments) (state ts l n vs) K
builds (t ∷ ts) l n (patterns ps p ∷ vs) K (inl (g, (i, h))) = let x = name-is t.content _ n _ h in (ps ++ pattern t.place (bind x.0) ∷ [], ts, lexeme_of t, (λ e u c j. one-at e j (simple_name (i, x.1))), x.2)
builds [] l n (patterns ps p ∷ vs) K (inl (g, h)) = absurd h
builds (t ∷ ts) l n (patterns ps p ∷ vs) K (inr (inl (g, (i, h)))) = (ps ++ pattern t.place any ∷ [], ts, lexeme_of t, (λ e u c j. one-at e j (simple_any i)), h)
builds [] l n (patterns ps p ∷ vs) K (inr (inl (g, h))) = absurd h
builds (t ∷ ts) l n (patterns ps p ∷ vs) K (inr (inr (inl (g, (i, (a, us, k, r, (qs, ws, m, q, h))))))) = (qs, ws, m, (λ e u c j. pattern_many j i r (rw e at q)), h)
builds [] l n (patterns ps p ∷ vs) K (inr (inr (inl (g, h)))) = absurd h
builds ts l n (patterns ps p ∷ vs) K (inr (inr (inr (inl (g, h))))) = (ps, ts, l, (λ e u c j. rw e (pattern_alone j g)), h)
builds ts l n (patterns ps p ∷ vs) K (inr (inr (inr (inr w)))) = absurd w
builds ts l n _ K h = tt

pub whole : (ts : List Token) (l : Lexeme) (n : ℕ) (vs : List Value) (K : State → Type 0) → Unfolded M (InPattern PatternPart) (state ts l n vs) K → M (InPattern PatternPart) (state ts l n vs) K
whole (t ∷ ts) l n vs K (inl (g, (i, h))) = let x = name-is t.content _ n _ h in let r = x.2 in (r.0, r.1, r.2, r.3 (t ∷ ts) (simple_name (i, x.1)), r.4)
whole [] l n vs K (inl (g, h)) = absurd h
whole (t ∷ ts) l n vs K (inr (inl (g, (i, (b, us, k, f, h))))) = (b, us, k, f (t ∷ ts) (simple_any i), h)
whole [] l n vs K (inr (inl (g, h))) = absurd h
whole (t ∷ u ∷ us) l n vs K (inr (inr (inl (g, (i, inl (s, (j, h))))))) = (pattern t.place nothing, us, lexeme_of u, pattern_unit i j, h)
whole (t ∷ []) l n vs K (inr (inr (inl (g, (i, inl (s, h)))))) = absurd h
whole (t ∷ ts) l n vs K (inr (inr (inl (g, (i, inr (inl (s, (a, u ∷ us, k, r, (j, h))))))))) = (a, us, lexeme_of u, pattern_inside i r j, h)
whole (t ∷ ts) l n vs K (inr (inr (inl (g, (i, inr (inl (s, (a, [], k, r, h)))))))) = absurd h
whole (t ∷ ts) l n vs K (inr (inr (inl (g, (i, inr (inr h)))))) = absurd h
whole [] l n vs K (inr (inr (inl (g, h)))) = absurd h
whole (t ∷ u ∷ us) l n vs K (inr (inr (inr (inl (g, (i, (j, h))))))) = (pattern t.place (build_of nil_name t.place (patterns_of [])), us, lexeme_of u, pattern_nil i j, h)
whole (t ∷ []) l n vs K (inr (inr (inr (inl (g, (i, h)))))) = absurd h
whole [] l n vs K (inr (inr (inr (inl (g, h))))) = absurd h
whole (t ∷ ts) l n vs K (inr (inr (inr (inr (inl (g, (i, h))))))) = let x = name-is t.content _ n _ h in let r = x.2 in (pattern t.place (build_of x.0 t.place (patterns_of r.0)), r.1, r.2, r.3 refl t x.0 (i, x.1), r.4)
whole [] l n vs K (inr (inr (inr (inr (inl (g, h)))))) = absurd h
whole ts l n vs K (inr (inr (inr (inr (inr w))))) = absurd w
