-- What is said of the parts of predicates follows from their alternatives.
use Rattle.std.specs.Prelude.{pos, neg_ℤ}
use Rattle.std.proofs.Common.{◌≡◌, ℕ, true, false, List, [], ◌∷◌, inl, inr, refl}
use Rattle.lq_base_names.specs.declared.operation.CompareOp.TheVariants as order
use Rattle.lq_base_names.specs.declared.place.Place.{Place}
use Rattle.lq_text_grammar.specs.declared.kind.Kind.TheVariants as kind
use Rattle.lq_text_grammar.specs.declared.rule.Rule.TheVariants.{InPred}
use Rattle.lq_text_grammar.specs.declared.rule.PredPart.TheVariants.{Predicate, IffMore, PredDisjunction, PredOrMore, PredConjunction, PredAndMore, PredNegation, PredCompareMore, Term, TermAddMore, TermProduct, TermMulMore, TermNegation, AfterTermMinus, TermAtom, OtherTermAtom, TermArgument, UpperTerm, QualifiedArgument}
use Rattle.lq_text_tree.specs.PredTree.{PredTree, pred_tree, flag, whole, use_of, placeholder, applied, qualified, negated, compare, not_of, iff}
use Rattle.lq_text_actions.specs.Value.{Lexeme, Value, mark, named, predicate}
use Rattle.lq_text_parser.specs.Syntax.Predicates.{an_iff, a_comparison, an_or, an_and, a_sum, a_product, iffs, ors, ands, equals, differs, less, at_most, greater, at_least, adds, subtracts, multiplies, divides, leaves_rest, ReadsPred, an_atom, binary_one, binary_two, chain_of, chain_end, chain_more, member_line, negation_plain, negation_not, opposite_atom, opposite_minus, minus_of, minus_number, minus_limit, atom_number, atom_true, atom_false, atom_name, atom_applied, atom_placeholder, atom_qualified, atom_inside}
use Rattle.lq_text_parser.specs.Syntax.Tokens.{Token, lexeme_of, Is, IsName}
use Rattle.lq_text_parser.proofs.SyntaxLemmas.Doing.{State, state, Unfolded}
use Rattle.lq_text_parser.proofs.SyntaxLemmas.Contents.{name-is, number-is, below-value, up-to-value}
use Rattle.lq_text_parser.proofs.SyntaxLemmas.Meanings.{M}

qualified-at : {p : Place} {m x : ℕ} {a b : PredTree} {t u v : Token} {us vs : List Token} → t.place ≡ p → a ≡ pred_tree p (qualified m x b) → IsName kind.UpperName m t → Is kind.Dot u → IsName kind.LowerName x v → ReadsPred (an_atom b) us vs → ReadsPred (an_atom a) (t ∷ u ∷ v ∷ us) vs
qualified-at q e i j k d = rw (e, ← q) (atom_qualified i j k d)

pub predicate_of : (ts : List Token) (l : Lexeme) (n : ℕ) (vs : List Value) (K : State → Type 0) → Unfolded M (InPred Predicate) (state ts l n vs) K → M (InPred Predicate) (state ts l n vs) K
predicate_of ts l n vs K (inl (g, (a, us, k, r, (b, ws, y, f, h)))) = (b, ws, y, f ts refl r, h)
predicate_of ts l n vs K (inr w) = absurd w

pub disjunction_of : (ts : List Token) (l : Lexeme) (n : ℕ) (vs : List Value) (K : State → Type 0) → Unfolded M (InPred PredDisjunction) (state ts l n vs) K → M (InPred PredDisjunction) (state ts l n vs) K
disjunction_of ts l n vs K (inl (g, (a, us, k, r, (b, ws, y, q, h)))) = (b, ws, y, chain_of an_or (member_line r) q, h)
disjunction_of ts l n vs K (inr w) = absurd w

pub conjunction_of : (ts : List Token) (l : Lexeme) (n : ℕ) (vs : List Value) (K : State → Type 0) → Unfolded M (InPred PredConjunction) (state ts l n vs) K → M (InPred PredConjunction) (state ts l n vs) K
conjunction_of ts l n vs K (inl (g, (a, us, k, r, (b, ws, y, q, h)))) = (b, ws, y, chain_of an_and r q, h)
conjunction_of ts l n vs K (inr w) = absurd w

pub term_of : (ts : List Token) (l : Lexeme) (n : ℕ) (vs : List Value) (K : State → Type 0) → Unfolded M (InPred Term) (state ts l n vs) K → M (InPred Term) (state ts l n vs) K
term_of ts l n vs K (inl (g, (a, us, k, r, (b, ws, y, q, h)))) = (b, ws, y, chain_of a_sum (member_line r) q, h)
term_of ts l n vs K (inr w) = absurd w

pub factor_of : (ts : List Token) (l : Lexeme) (n : ℕ) (vs : List Value) (K : State → Type 0) → Unfolded M (InPred TermProduct) (state ts l n vs) K → M (InPred TermProduct) (state ts l n vs) K
factor_of ts l n vs K (inl (g, (a, us, k, r, (b, ws, y, q, h)))) = (b, ws, y, chain_of a_product r q, h)
factor_of ts l n vs K (inr w) = absurd w

pub negation_of : (ts : List Token) (l : Lexeme) (n : ℕ) (vs : List Value) (K : State → Type 0) → Unfolded M (InPred PredNegation) (state ts l n vs) K → M (InPred PredNegation) (state ts l n vs) K
negation_of (t ∷ ts) l n vs K (inl (g, (i, (a, us, k, r, h)))) = (pred_tree t.place (not_of a), us, k, negation_not i r, h)
negation_of [] l n vs K (inl (g, h)) = absurd h
negation_of ts l n vs K (inr (inl (g, (a, us, k, r, (b, ws, y, f, h))))) = (b, ws, y, negation_plain (f ts refl r), h)
negation_of ts l n vs K (inr (inr w)) = absurd w

pub opposite_of : (ts : List Token) (l : Lexeme) (n : ℕ) (vs : List Value) (K : State → Type 0) → Unfolded M (InPred TermNegation) (state ts l n vs) K → M (InPred TermNegation) (state ts l n vs) K
opposite_of (t ∷ ts) l n vs K (inl (g, (i, (a, us, k, r, h)))) = (a, us, k, opposite_minus i r, h)
opposite_of [] l n vs K (inl (g, h)) = absurd h
opposite_of ts l n vs K (inr (inl (g, (a, us, k, r, h)))) = (a, us, k, opposite_atom r, h)
opposite_of ts l n vs K (inr (inr w)) = absurd w

pub iff_more : (ts : List Token) (l : Lexeme) (n : ℕ) (vs : List Value) (K : State → Type 0) → Unfolded M (InPred IffMore) (state ts l n vs) K → M (InPred IffMore) (state ts l n vs) K
iff_more (t ∷ ts) l n (predicate a p ∷ vs) K (inl (g, (i, (b, us, k, r, h)))) = (pred_tree p (iff a b), us, k, (λ os q s. rw (← q) (binary_two an_iff s (iffs i) r)), h)
iff_more [] l n (predicate a p ∷ vs) K (inl (g, h)) = absurd h
iff_more ts l n (predicate a p ∷ vs) K (inr (inl (g, h))) = (a, ts, l, (λ os q s. binary_one an_iff s g), h)
iff_more ts l n (predicate a p ∷ vs) K (inr (inr w)) = absurd w
iff_more ts l n _ K h = tt

pub compare_more : (ts : List Token) (l : Lexeme) (n : ℕ) (vs : List Value) (K : State → Type 0) → Unfolded M (InPred PredCompareMore) (state ts l n vs) K → M (InPred PredCompareMore) (state ts l n vs) K
compare_more (t ∷ ts) l n (predicate a p ∷ vs) K (inl (g, (i, (b, us, k, r, h)))) = (pred_tree p (compare order.Eq a b), us, k, (λ os q s. rw (← q) (binary_two a_comparison s (equals i) r)), h)
compare_more [] l n (predicate a p ∷ vs) K (inl (g, h)) = absurd h
compare_more (t ∷ ts) l n (predicate a p ∷ vs) K (inr (inl (g, (i, (b, us, k, r, h))))) = (pred_tree p (compare order.Ne a b), us, k, (λ os q s. rw (← q) (binary_two a_comparison s (differs i) r)), h)
compare_more [] l n (predicate a p ∷ vs) K (inr (inl (g, h))) = absurd h
compare_more (t ∷ ts) l n (predicate a p ∷ vs) K (inr (inr (inl (g, (i, (b, us, k, r, h)))))) = (pred_tree p (compare order.Lt a b), us, k, (λ os q s. rw (← q) (binary_two a_comparison s (less i) r)), h)
compare_more [] l n (predicate a p ∷ vs) K (inr (inr (inl (g, h)))) = absurd h
compare_more (t ∷ ts) l n (predicate a p ∷ vs) K (inr (inr (inr (inl (g, (i, (b, us, k, r, h))))))) = (pred_tree p (compare order.Le a b), us, k, (λ os q s. rw (← q) (binary_two a_comparison s (at_most i) r)), h)
compare_more [] l n (predicate a p ∷ vs) K (inr (inr (inr (inl (g, h))))) = absurd h
compare_more (t ∷ ts) l n (predicate a p ∷ vs) K (inr (inr (inr (inr (inl (g, (i, (b, us, k, r, h)))))))) = (pred_tree p (compare order.Gt a b), us, k, (λ os q s. rw (← q) (binary_two a_comparison s (greater i) r)), h)
compare_more [] l n (predicate a p ∷ vs) K (inr (inr (inr (inr (inl (g, h)))))) = absurd h
compare_more (t ∷ ts) l n (predicate a p ∷ vs) K (inr (inr (inr (inr (inr (inl (g, (i, (b, us, k, r, h))))))))) = (pred_tree p (compare order.Ge a b), us, k, (λ os q s. rw (← q) (binary_two a_comparison s (at_least i) r)), h)
compare_more [] l n (predicate a p ∷ vs) K (inr (inr (inr (inr (inr (inl (g, h))))))) = absurd h
compare_more ts l n (predicate a p ∷ vs) K (inr (inr (inr (inr (inr (inr (inl (g, h)))))))) = (a, ts, l, (λ os q s. binary_one a_comparison s g), h)
compare_more ts l n (predicate a p ∷ vs) K (inr (inr (inr (inr (inr (inr (inr w))))))) = absurd w
compare_more ts l n _ K h = tt

pub or_more : (ts : List Token) (l : Lexeme) (n : ℕ) (vs : List Value) (K : State → Type 0) → Unfolded M (InPred PredOrMore) (state ts l n vs) K → M (InPred PredOrMore) (state ts l n vs) K
or_more (t ∷ ts) l n (predicate a p ∷ vs) K (inl (g, (i, (b, us, k, r, (c, ws, y, q, h))))) = (c, ws, y, chain_more an_or (ors i) (member_line r) q, h)
or_more [] l n (predicate a p ∷ vs) K (inl (g, h)) = absurd h
or_more ts l n (predicate a p ∷ vs) K (inr (inl (g, h))) = (a, ts, l, chain_end an_or g, h)
or_more ts l n (predicate a p ∷ vs) K (inr (inr w)) = absurd w
or_more ts l n _ K h = tt

pub and_more : (ts : List Token) (l : Lexeme) (n : ℕ) (vs : List Value) (K : State → Type 0) → Unfolded M (InPred PredAndMore) (state ts l n vs) K → M (InPred PredAndMore) (state ts l n vs) K
and_more (t ∷ ts) l n (predicate a p ∷ vs) K (inl (g, (i, (b, us, k, r, (c, ws, y, q, h))))) = (c, ws, y, chain_more an_and (ands i) r q, h)
and_more [] l n (predicate a p ∷ vs) K (inl (g, h)) = absurd h
and_more ts l n (predicate a p ∷ vs) K (inr (inl (g, h))) = (a, ts, l, chain_end an_and g, h)
and_more ts l n (predicate a p ∷ vs) K (inr (inr w)) = absurd w
and_more ts l n _ K h = tt

pub add_more : (ts : List Token) (l : Lexeme) (n : ℕ) (vs : List Value) (K : State → Type 0) → Unfolded M (InPred TermAddMore) (state ts l n vs) K → M (InPred TermAddMore) (state ts l n vs) K
add_more (t ∷ ts) l n (predicate a p ∷ vs) K (inl (g, (i, (b, us, k, r, (c, ws, y, q, h))))) = (c, ws, y, chain_more a_sum (adds i) (member_line r) q, h)
add_more [] l n (predicate a p ∷ vs) K (inl (g, h)) = absurd h
add_more (t ∷ ts) l n (predicate a p ∷ vs) K (inr (inl (g, (i, (b, us, k, r, (c, ws, y, q, h)))))) = (c, ws, y, chain_more a_sum (subtracts i) (member_line r) q, h)
add_more [] l n (predicate a p ∷ vs) K (inr (inl (g, h))) = absurd h
add_more ts l n (predicate a p ∷ vs) K (inr (inr (inl (g, h)))) = (a, ts, l, chain_end a_sum g, h)
add_more ts l n (predicate a p ∷ vs) K (inr (inr (inr w))) = absurd w
add_more ts l n _ K h = tt

pub mul_more : (ts : List Token) (l : Lexeme) (n : ℕ) (vs : List Value) (K : State → Type 0) → Unfolded M (InPred TermMulMore) (state ts l n vs) K → M (InPred TermMulMore) (state ts l n vs) K
mul_more (t ∷ ts) l n (predicate a p ∷ vs) K (inl (g, (i, (b, us, k, r, (c, ws, y, q, h))))) = (c, ws, y, chain_more a_product (multiplies i) r q, h)
mul_more [] l n (predicate a p ∷ vs) K (inl (g, h)) = absurd h
mul_more (t ∷ ts) l n (predicate a p ∷ vs) K (inr (inl (g, (i, (b, us, k, r, (c, ws, y, q, h)))))) = (c, ws, y, chain_more a_product (divides i) r q, h)
mul_more [] l n (predicate a p ∷ vs) K (inr (inl (g, h))) = absurd h
mul_more (t ∷ ts) l n (predicate a p ∷ vs) K (inr (inr (inl (g, (i, (b, us, k, r, (c, ws, y, q, h))))))) = (c, ws, y, chain_more a_product (leaves_rest i) r q, h)
mul_more [] l n (predicate a p ∷ vs) K (inr (inr (inl (g, h)))) = absurd h
mul_more ts l n (predicate a p ∷ vs) K (inr (inr (inr (inl (g, h))))) = (a, ts, l, chain_end a_product g, h)
mul_more ts l n (predicate a p ∷ vs) K (inr (inr (inr (inr w)))) = absurd w
mul_more ts l n _ K h = tt

pub after_minus : (ts : List Token) (l : Lexeme) (n : ℕ) (vs : List Value) (K : State → Type 0) → Unfolded M (InPred AfterTermMinus) (state ts l n vs) K → M (InPred AfterTermMinus) (state ts l n vs) K
after_minus (t ∷ ts) l n (mark p ∷ vs) K (inl (g, (i, h))) = let y = number-is t.content _ n _ h in let z = up-to-value y.0 _ n _ y.2 in (pred_tree p (whole (neg_ℤ (pos y.0))), ts, lexeme_of t, minus_number (i, y.1) z.0, z.1)
after_minus [] l n (mark p ∷ vs) K (inl (g, h)) = absurd h
after_minus (t ∷ ts) l n (mark p ∷ vs) K (inr (inl (g, (i, h)))) = let y = number-is t.content _ n _ h in let z = up-to-value y.0 _ n _ y.2 in (pred_tree p (whole (neg_ℤ (pos y.0))), ts, lexeme_of t, minus_limit (i, y.1) z.0, z.1)
after_minus [] l n (mark p ∷ vs) K (inr (inl (g, h))) = absurd h
after_minus (t ∷ ts) l n (mark p ∷ vs) K (inr (inr (inl (g, (i, (a, us, k, r, h)))))) = (pred_tree p (negated a), us, k, minus_of (rw i refl, (rw i refl, tt)) (opposite_minus i r), h)
after_minus [] l n (mark p ∷ vs) K (inr (inr (inl (g, h)))) = absurd h
after_minus ts l n (mark p ∷ vs) K (inr (inr (inr (inl (g, (a, us, k, (s, r), h)))))) = (pred_tree p (negated a), us, k, minus_of s (opposite_atom r), h)
after_minus ts l n (mark p ∷ vs) K (inr (inr (inr (inr w)))) = absurd w
after_minus ts l n _ K h = tt

pub atom : (ts : List Token) (l : Lexeme) (n : ℕ) (vs : List Value) (K : State → Type 0) → Unfolded M (InPred TermAtom) (state ts l n vs) K → M (InPred TermAtom) (state ts l n vs) K
atom (t ∷ ts) l n vs K (inl (g, (i, h))) = let y = number-is t.content _ n _ h in let z = below-value y.0 _ n _ y.2 in (pred_tree t.place (whole (pos y.0)), ts, lexeme_of t, atom_number (i, y.1) z.0, z.1)
atom [] l n vs K (inl (g, h)) = absurd h
atom ts l n vs K (inr (inl (g, (a, us, k, (s, r), h)))) = (a, us, k, r, h)
atom ts l n vs K (inr (inr w)) = absurd w

pub other_atom : (ts : List Token) (l : Lexeme) (n : ℕ) (vs : List Value) (K : State → Type 0) → Unfolded M (InPred OtherTermAtom) (state ts l n vs) K → M (InPred OtherTermAtom) (state ts l n vs) K
other_atom (t ∷ ts) l n vs K (inl (g, (i, h))) = (pred_tree t.place (flag true), ts, lexeme_of t, ((rw i refl, (rw i refl, tt)), atom_true i), h)
other_atom [] l n vs K (inl (g, h)) = absurd h
other_atom (t ∷ ts) l n vs K (inr (inl (g, (i, h)))) = (pred_tree t.place (flag false), ts, lexeme_of t, ((rw i refl, (rw i refl, tt)), atom_false i), h)
other_atom [] l n vs K (inr (inl (g, h))) = absurd h
other_atom (t ∷ ts) l n vs K (inr (inr (inl (g, (i, h))))) = let x = name-is t.content _ n _ h in let r = x.2 in (r.0, r.1, r.2, ((rw i refl, (rw i refl, tt)), r.3 t (i, x.1) refl), r.4)
other_atom [] l n vs K (inr (inr (inl (g, h)))) = absurd h
other_atom (t ∷ ts) l n vs K (inr (inr (inr (inl (g, (i, h)))))) = let x = name-is t.content _ n _ h in let r = x.2 in (r.0, r.1, r.2, ((rw i refl, (rw i refl, tt)), r.3 t (i, x.1) refl), r.4)
other_atom [] l n vs K (inr (inr (inr (inl (g, h))))) = absurd h
other_atom (t ∷ ts) l n vs K (inr (inr (inr (inr (inl (g, (i, (a, u ∷ us, k, r, (j, h))))))))) = (a, us, lexeme_of u, ((rw i refl, (rw i refl, tt)), atom_inside i r j), h)
other_atom (t ∷ ts) l n vs K (inr (inr (inr (inr (inl (g, (i, (a, [], k, r, h)))))))) = absurd h
other_atom [] l n vs K (inr (inr (inr (inr (inl (g, h)))))) = absurd h
other_atom ts l n vs K (inr (inr (inr (inr (inr w))))) = absurd w

pub argument : (ts : List Token) (l : Lexeme) (n : ℕ) (vs : List Value) (K : State → Type 0) → Unfolded M (InPred TermArgument) (state ts l n vs) K → M (InPred TermArgument) (state ts l n vs) K
argument ts l n (named x p ∷ vs) K (inl (g, (a, us, k, r, h))) = (pred_tree p (applied x a), us, k, (λ t e q. rw (← q) (atom_applied e r)), h)
argument ts l n (named x p ∷ vs) K (inr (inl (g, h))) = (pred_tree p (use_of x), ts, l, (λ t e q. rw (← q) (atom_name e g)), h)
argument ts l n (named x p ∷ vs) K (inr (inr w)) = absurd w
argument ts l n _ K h = tt

pub qualified_argument : (ts : List Token) (l : Lexeme) (n : ℕ) (vs : List Value) (K : State → Type 0) → Unfolded M (InPred QualifiedArgument) (state ts l n vs) K → M (InPred QualifiedArgument) (state ts l n vs) K
qualified_argument ts l n (named f o ∷ named m p ∷ vs) K (inl (g, (a, us, k, r, h))) = (pred_tree p (qualified m f a), us, k, (a, refl, r), h)
qualified_argument ts l n (named f o ∷ named m p ∷ vs) K (inr w) = absurd w
qualified_argument ts l n _ K h = tt

pub upper_term : (ts : List Token) (l : Lexeme) (n : ℕ) (vs : List Value) (K : State → Type 0) → Unfolded M (InPred UpperTerm) (state ts l n vs) K → M (InPred UpperTerm) (state ts l n vs) K
upper_term (t ∷ v ∷ ts) l n (named x p ∷ vs) K (inl (g, (i, (j, h)))) = let y = name-is v.content _ n _ h in let r = y.2 in let d = r.3 in (r.0, r.1, r.2, (λ u e q. qualified-at q d.1 e i (j, y.1) d.2), r.4)
upper_term (t ∷ []) l n (named x p ∷ vs) K (inl (g, (i, h))) = absurd h
upper_term [] l n (named x p ∷ vs) K (inl (g, h)) = absurd h
upper_term ts l n (named x p ∷ vs) K (inr (inl (g, h))) = (pred_tree p (placeholder x), ts, l, (λ t e q. rw (← q) (atom_placeholder e g)), h)
upper_term ts l n (named x p ∷ vs) K (inr (inr w)) = absurd w
upper_term ts l n _ K h = tt
