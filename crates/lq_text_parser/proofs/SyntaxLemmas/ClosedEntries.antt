-- What is said of qualifiers and measures follows from their alternatives.
use Rattle.std.proofs.Common.{◌≡◌, ℕ, List, [], ◌∷◌, ◌++◌, inl, inr, refl}
use Rattle.lq_base_names.specs.declared.place.Place.{Place}
use Rattle.lq_text_grammar.specs.declared.kind.Kind.TheVariants as kind
use Rattle.lq_text_grammar.specs.declared.rule.Rule.TheVariants.{InEntry}
use Rattle.lq_text_grammar.specs.declared.rule.EntryPart.TheVariants.{QualsMore, QualifierName, QualifierRest, MeasuresMore, FirstEquation, EquationsMore, Equation}
use Rattle.lq_text_tree.specs.PredTree.{PredTree}
use Rattle.lq_text_tree.specs.Qualifiers.{QualifierTree}
use Rattle.lq_text_actions.specs.Value.{Lexeme, Value, mark, named, qualifiers as qualifiers_read, equations as equations_read, measures as measures_read}
use Rattle.lq_text_parser.specs.Syntax.Predicates.{equivalence, line, IsAnyName, ReadsQualifiers, ReadsPred, a_lower, an_upper, qualifiers_end, qualifiers_more, equation, equations_end, equations_more, measures_end, measures_more}
use Rattle.lq_text_parser.specs.Syntax.Tokens.{Token, lexeme_of, Is, IsName, there, missing}
use Rattle.lq_text_parser.proofs.SyntaxLemmas.Doing.{State, state, Unfolded}
use Rattle.lq_text_parser.proofs.SyntaxLemmas.Contents.{name-is}
use Rattle.lq_text_parser.proofs.SyntaxLemmas.Meanings.{M}

rest-at : {q : Place} {x v s : ℕ} {e : PredTree} {qs rs : List QualifierTree} {t1 t2 t3 t4 t5 t6 t7 t8 : Token} {us vs ws : List Token}
    → Is kind.Qualif t1 → IsAnyName x t2 → Is kind.Open t3 → IsName kind.LowerName v t4 → Is kind.Colon t5 → IsName kind.LowerName s t6 → Is kind.Close t7 → Is kind.Colon t8
    → ReadsPred (line equivalence e) us vs → t1.place ≡ q
    → ReadsQualifiers (qs ++ (record { place = q; name = x; value = v; shape = s; shape_place = t6.place; predicate = e }) ∷ []) rs vs ws
    → ReadsQualifiers qs rs (t1 ∷ t2 ∷ t3 ∷ t4 ∷ t5 ∷ t6 ∷ t7 ∷ t8 ∷ us) ws
rest-at a b c d e f g h i z k = qualifiers_more a b c d e f g h i (rw (← z) at k)

pub equation_of : (ts : List Token) (l : Lexeme) (n : ℕ) (vs : List Value) (K : State → Type 0) → Unfolded M (InEntry Equation) (state ts l n vs) K → M (InEntry Equation) (state ts l n vs) K
equation_of ts l n (equations_read es ∷ vs) K (inl (g, (a, u ∷ us, k, r, (i, (b, ws, y, s, h))))) = (record { pattern = a; term = b }, ws, y, (λ fs gs xs d. equation r i s d), h)
equation_of ts l n (equations_read es ∷ vs) K (inl (g, (a, [], k, r, h))) = absurd h
equation_of ts l n (equations_read es ∷ vs) K (inr w) = absurd w
equation_of ts l n _ K h = tt

pub first_equation : (ts : List Token) (l : Lexeme) (n : ℕ) (vs : List Value) (K : State → Type 0) → Unfolded M (InEntry FirstEquation) (state ts l n vs) K → M (InEntry FirstEquation) (state ts l n vs) K
first_equation (t ∷ ts) l n (equations_read es ∷ vs) K (inl (g, (i, (a, us, k, f, (fs, ws, y, q, h))))) = (fs, ts, ws, y, there i, f es fs ws q, h)
first_equation [] l n (equations_read es ∷ vs) K (inl (g, h)) = absurd h
first_equation ts l n (equations_read es ∷ vs) K (inr (inl (g, (a, us, k, f, (fs, ws, y, q, h))))) = (fs, ts, ws, y, missing, f es fs ws q, h)
first_equation ts l n (equations_read es ∷ vs) K (inr (inr w)) = absurd w
first_equation ts l n _ K h = tt

pub equations_of : (ts : List Token) (l : Lexeme) (n : ℕ) (vs : List Value) (K : State → Type 0) → Unfolded M (InEntry EquationsMore) (state ts l n vs) K → M (InEntry EquationsMore) (state ts l n vs) K
equations_of (t ∷ ts) l n (equations_read es ∷ vs) K (inl (g, (i, (a, us, k, f, (fs, ws, y, q, h))))) = (fs, ws, y, equations_more i (f es fs ws q), h)
equations_of [] l n (equations_read es ∷ vs) K (inl (g, h)) = absurd h
equations_of ts l n (equations_read es ∷ vs) K (inr (inl (g, h))) = (es, ts, l, equations_end g, h)
equations_of ts l n (equations_read es ∷ vs) K (inr (inr w)) = absurd w
equations_of ts l n _ K h = tt

pub measures_of : (ts : List Token) (l : Lexeme) (n : ℕ) (vs : List Value) (K : State → Type 0) → Unfolded M (InEntry MeasuresMore) (state ts l n vs) K → M (InEntry MeasuresMore) (state ts l n vs) K
measures_of (t ∷ u ∷ v ∷ w ∷ a ∷ ts) l n (measures_read ms ∷ vs) K (inl (g, (i, (j, h)))) = let x = name-is u.content _ n _ h in let y = name-is w.content _ n _ x.2.1.1 in let e = y.2.1 in let r = e.6 in (r.0, r.1, r.2, measures_more i (j, x.1) x.2.0 (x.2.1.0, y.1) y.2.0 e.4 e.5 r.3, r.4)
measures_of (t ∷ u ∷ v ∷ w ∷ []) l n (measures_read ms ∷ vs) K (inl (g, (i, (j, h)))) = let x = name-is u.content _ n _ h in let y = name-is w.content _ n _ x.2.1.1 in absurd y.2
measures_of (t ∷ u ∷ v ∷ []) l n (measures_read ms ∷ vs) K (inl (g, (i, (j, h)))) = let x = name-is u.content _ n _ h in absurd x.2.1
measures_of (t ∷ u ∷ []) l n (measures_read ms ∷ vs) K (inl (g, (i, (j, h)))) = let x = name-is u.content _ n _ h in absurd x.2
measures_of (t ∷ []) l n (measures_read ms ∷ vs) K (inl (g, (i, h))) = absurd h
measures_of [] l n (measures_read ms ∷ vs) K (inl (g, h)) = absurd h
measures_of ts l n (measures_read ms ∷ vs) K (inr (inl (g, h))) = (ms, ts, l, measures_end g, h)
measures_of ts l n (measures_read ms ∷ vs) K (inr (inr w)) = absurd w
measures_of ts l n _ K h = tt

pub qualifier_name : (ts : List Token) (l : Lexeme) (n : ℕ) (vs : List Value) (K : State → Type 0) → Unfolded M (InEntry QualifierName) (state ts l n vs) K → M (InEntry QualifierName) (state ts l n vs) K
qualifier_name (t ∷ ts) l n vs K (inl (g, (i, h))) = let x = name-is t.content _ n _ h in (x.0, t, ts, lexeme_of t, refl, a_lower (i, x.1), x.2)
qualifier_name [] l n vs K (inl (g, h)) = absurd h
qualifier_name (t ∷ ts) l n vs K (inr (inl (g, (i, h)))) = let x = name-is t.content _ n _ h in (x.0, t, ts, lexeme_of t, refl, an_upper (i, x.1), x.2)
qualifier_name [] l n vs K (inr (inl (g, h))) = absurd h
qualifier_name ts l n vs K (inr (inr w)) = absurd w

pub qualifier_rest : (ts : List Token) (l : Lexeme) (n : ℕ) (vs : List Value) (K : State → Type 0) → Unfolded M (InEntry QualifierRest) (state ts l n vs) K → M (InEntry QualifierRest) (state ts l n vs) K
qualifier_rest (t3 ∷ t4 ∷ t5 ∷ t6 ∷ t7 ∷ t8 ∷ us) l n (named a p ∷ mark q ∷ qualifiers_read qs ∷ vs) K (inl (g, (i, (j, h)))) = let x = name-is t4.content _ n _ h in let y = name-is t6.content _ n _ x.2.1.1 in let r = y.2.1.1 in (record { place = q; name = a; value = x.0; shape = y.0; shape_place = t6.place; predicate = r.0 }, r.1, r.2, (λ t u e d z gs hs ws k. rest-at e d i (j, x.1) x.2.0 (x.2.1.0, y.1) y.2.0 y.2.1.0 r.3 z k), r.4)
qualifier_rest (t3 ∷ t4 ∷ t5 ∷ t6 ∷ t7 ∷ []) l n (named a p ∷ mark q ∷ qualifiers_read qs ∷ vs) K (inl (g, (i, (j, h)))) = let x = name-is t4.content _ n _ h in let y = name-is t6.content _ n _ x.2.1.1 in absurd y.2.1
qualifier_rest (t3 ∷ t4 ∷ t5 ∷ t6 ∷ []) l n (named a p ∷ mark q ∷ qualifiers_read qs ∷ vs) K (inl (g, (i, (j, h)))) = let x = name-is t4.content _ n _ h in let y = name-is t6.content _ n _ x.2.1.1 in absurd y.2
qualifier_rest (t3 ∷ t4 ∷ t5 ∷ []) l n (named a p ∷ mark q ∷ qualifiers_read qs ∷ vs) K (inl (g, (i, (j, h)))) = let x = name-is t4.content _ n _ h in absurd x.2.1
qualifier_rest (t3 ∷ t4 ∷ []) l n (named a p ∷ mark q ∷ qualifiers_read qs ∷ vs) K (inl (g, (i, (j, h)))) = let x = name-is t4.content _ n _ h in absurd x.2
qualifier_rest (t3 ∷ []) l n (named a p ∷ mark q ∷ qualifiers_read qs ∷ vs) K (inl (g, (i, h))) = absurd h
qualifier_rest [] l n (named a p ∷ mark q ∷ qualifiers_read qs ∷ vs) K (inl (g, h)) = absurd h
qualifier_rest ts l n (named a p ∷ mark q ∷ qualifiers_read qs ∷ vs) K (inr w) = absurd w
qualifier_rest ts l n _ K h = tt

pub qualifiers_of : (ts : List Token) (l : Lexeme) (n : ℕ) (vs : List Value) (K : State → Type 0) → Unfolded M (InEntry QualsMore) (state ts l n vs) K → M (InEntry QualsMore) (state ts l n vs) K
qualifiers_of (t ∷ ts) l n (qualifiers_read qs ∷ vs) K (inl (g, (i, (x, u, us, k, e, d, (a, ws, y, f, (bs, xs, o, z, h)))))) = (bs, xs, o, rw e (f t u i d refl qs bs xs z), h)
qualifiers_of [] l n (qualifiers_read qs ∷ vs) K (inl (g, h)) = absurd h
qualifiers_of ts l n (qualifiers_read qs ∷ vs) K (inr (inl (g, h))) = (qs, ts, l, qualifiers_end g, h)
qualifiers_of ts l n (qualifiers_read qs ∷ vs) K (inr (inr w)) = absurd w
qualifiers_of ts l n _ K h = tt
