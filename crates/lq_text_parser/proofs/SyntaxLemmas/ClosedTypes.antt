-- What is said of the parts of types follows from their alternatives.
use Rattle.std.proofs.Common.{ℕ, List, [], ◌∷◌, inl, inr}
use Rattle.lq_base_names.specs.declared.place.Place.{Place}
use Rattle.lq_text_grammar.specs.declared.rule.Rule.TheVariants.{InType}
use Rattle.lq_text_grammar.specs.declared.rule.TypePart.TheVariants.{WholeType, TypeProduct, ProductMore, TypeApplied, TypeNames, TypesMore}
use Rattle.lq_text_tree.specs.TypeTree as type
use Rattle.lq_text_tree.specs.TypeTree.{TypeTree, type_tree, arrow}
use Rattle.lq_text_tree.specs.TypeView.{type_trees_of}
use Rattle.lq_text_actions.specs.Value.{Lexeme, Value, mark, type_read, types}
use Rattle.lq_text_parser.specs.Syntax.Tokens.{Token, place_at}
use Rattle.lq_text_parser.specs.Syntax.Types.{ReadsType, names, type_product, type_arrow, product_one, product_more, members_end, members_more, applied_variable, applied_name, applied_inside, applied_row, inside_end, inside_more, names_end, names_more}
use Rattle.lq_text_parser.proofs.SyntaxLemmas.Doing.{State, state, Unfolded}
use Rattle.lq_text_parser.proofs.SyntaxLemmas.Contents.{name-is}
use Rattle.lq_text_parser.proofs.SyntaxLemmas.Meanings.{M}

pub whole : (ts : List Token) (l : Lexeme) (n : ℕ) (vs : List Value) (K : State → Type 0) → Unfolded M (InType WholeType) (state ts l n vs) K → M (InType WholeType) (state ts l n vs) K
whole ts l n vs K (inl (g, (a, u ∷ us, k, r, inl (s, (i, (b, ws, m, q, h)))))) = (type_tree (place_at ts) (arrow a b), ws, m, type_arrow r i q, h)
whole ts l n vs K (inl (g, (a, [], k, r, inl (s, h)))) = absurd h
whole ts l n vs K (inl (g, (a, us, k, r, inr (inl (s, h))))) = (a, us, k, type_product r s, h)
whole ts l n vs K (inl (g, (a, us, k, r, inr (inr h)))) = absurd h
whole ts l n vs K (inr w) = absurd w

pub product : (ts : List Token) (l : Lexeme) (n : ℕ) (vs : List Value) (K : State → Type 0) → Unfolded M (InType TypeProduct) (state ts l n vs) K → M (InType TypeProduct) (state ts l n vs) K
product ts l n vs K (inl (g, (a, u ∷ us, k, r, inl (s, (i, (b, ws, m, q, (cs, xs, o, d, h))))))) = (type_tree (place_at ts) (type.product (type_trees_of cs)), xs, o, product_more r i q d, h)
product ts l n vs K (inl (g, (a, [], k, r, inl (s, h)))) = absurd h
product ts l n vs K (inl (g, (a, us, k, r, inr (inl (s, h))))) = (a, us, k, product_one r s, h)
product ts l n vs K (inl (g, (a, us, k, r, inr (inr h)))) = absurd h
product ts l n vs K (inr w) = absurd w

pub members : (ts : List Token) (l : Lexeme) (n : ℕ) (vs : List Value) (K : State → Type 0) → Unfolded M (InType ProductMore) (state ts l n vs) K → M (InType ProductMore) (state ts l n vs) K
members (t ∷ ts) l n (types bs p ∷ vs) K (inl (g, (i, (b, ws, m, q, (cs, xs, o, d, h))))) = (cs, xs, o, members_more i q d, h)
members [] l n (types bs p ∷ vs) K (inl (g, h)) = absurd h
members ts l n (types bs p ∷ vs) K (inr (inl (g, h))) = (bs, ts, l, members_end g, h)
members ts l n (types bs p ∷ vs) K (inr (inr w)) = absurd w
members ts l n _ K h = tt

pub names_of : (ts : List Token) (l : Lexeme) (n : ℕ) (vs : List Value) (K : State → Type 0) → Unfolded M (InType TypeNames) (state ts l n vs) K → M (InType TypeNames) (state ts l n vs) K
names_of (t ∷ ts) l n (type_read a p ∷ vs) K (inl (g, (i, h))) = let x = name-is t.content _ n _ h in let r = x.2 in (r.0, r.1, r.2, names_more (i, x.1) r.3, r.4)
names_of [] l n (type_read a p ∷ vs) K (inl (g, h)) = absurd h
names_of ts l n (type_read a p ∷ vs) K (inr (inl (g, h))) = (a, ts, l, names_end g, h)
names_of ts l n (type_read a p ∷ vs) K (inr (inr w)) = absurd w
names_of ts l n _ K h = tt

names-on : {p : Place} {a b c : TypeTree} {ts us vs : List Token} → ReadsType (names p a b) ts us → ReadsType (names p b c) us vs → ReadsType (names p a c) ts vs
names-on (names_end s) d = d
names-on (names_more i e) d = names_more i (names-on e d)

pub applied : (ts : List Token) (l : Lexeme) (n : ℕ) (vs : List Value) (K : State → Type 0) → Unfolded M (InType TypeApplied) (state ts l n vs) K → M (InType TypeApplied) (state ts l n vs) K
applied (t ∷ ts) l n vs K (inl (g, (i, h))) = let x = name-is t.content _ n _ h in let r = x.2 in (r.0, r.1, r.2, applied_variable (i, x.1) r.3, r.4)
applied [] l n vs K (inl (g, h)) = absurd h
applied (t ∷ ts) l n vs K (inr (inl (g, (i, h)))) = let x = name-is t.content _ n _ h in let r = x.2 in (r.0, r.1, r.2, applied_name (i, x.1) r.3, r.4)
applied [] l n vs K (inr (inl (g, h))) = absurd h
applied (t ∷ ts) l n vs K (inr (inr (inl (g, (i, (a, u ∷ us, k, r, inl (s, (j, (b, ws, m, q, h))))))))) = (b, ws, m, applied_inside i r j q, h)
applied (t ∷ ts) l n vs K (inr (inr (inl (g, (i, (a, u ∷ us, k, r, inr (inl (s, (j, (b, ws, m, q, (d, xs, o, (cs, x, v, ys, e, c, f), (z, zs, z1, z2, h)))))))))))) = (z, zs, z1, applied_row i r j q e c (names-on f z2), h)
applied (t ∷ ts) l n vs K (inr (inr (inl (g, (i, (a, [], k, r, inl (s, h))))))) = absurd h
applied (t ∷ ts) l n vs K (inr (inr (inl (g, (i, (a, [], k, r, inr (inl (s, h)))))))) = absurd h
applied (t ∷ ts) l n vs K (inr (inr (inl (g, (i, (a, us, k, r, inr (inr h))))))) = absurd h
applied [] l n vs K (inr (inr (inl (g, h)))) = absurd h
applied ts l n vs K (inr (inr (inr w))) = absurd w

pub row : (ts : List Token) (l : Lexeme) (n : ℕ) (vs : List Value) (K : State → Type 0) → Unfolded M (InType TypesMore) (state ts l n vs) K → M (InType TypesMore) (state ts l n vs) K
row (t ∷ v ∷ xs) l n (types bs o ∷ mark p ∷ vs) K (inl (g, (i, (j, h)))) = let x = name-is v.content _ n _ h in let r = x.2 in (r.0, r.1, r.2, (bs, x.0, v, xs, inside_end i, (j, x.1), r.3), r.4)
row (t ∷ []) l n (types bs o ∷ mark p ∷ vs) K (inl (g, (i, h))) = absurd h
row [] l n (types bs o ∷ mark p ∷ vs) K (inl (g, h)) = absurd h
row (t ∷ ts) l n (types bs o ∷ mark p ∷ vs) K (inr (inl (g, (i, (b, ws, m, q, (d, us, k, (cs, x, v, xs, r, c, e), h)))))) = (d, us, k, (cs, x, v, xs, inside_more i q r, c, e), h)
row [] l n (types bs o ∷ mark p ∷ vs) K (inr (inl (g, h))) = absurd h
row ts l n (types bs o ∷ mark p ∷ vs) K (inr (inr w)) = absurd w
row ts l n _ K h = tt
