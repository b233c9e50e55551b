-- Types that the lines of the grammar read can be read.
use Rattle.std.proofs.Common.{ℕ, List, [], ◌∷◌, inl, inr}
use Rattle.lq_base_names.specs.declared.place.Place.{Place}
use Rattle.lq_text_grammar.specs.declared.kind.Kind.TheVariants as kind
use Rattle.lq_text_grammar.specs.declared.rule.Rule.TheVariants.{InType}
use Rattle.lq_text_grammar.specs.declared.rule.TypePart.TheVariants.{WholeType, TypeProduct, ProductMore, TypeApplied, TypeNames, TypesMore}
use Rattle.lq_text_grammar.specs.declared.symbol.Symbol.TheVariants.{Word, Part, Make}
use Rattle.lq_text_tree.specs.TypeTree.{TypeTree}
use Rattle.lq_text_actions.specs.Value.{Lexeme, Value, mark, type_read, types}
use Rattle.lq_text_parser.specs.Syntax.Types.{TypePhrase, a_type, a_product, an_applied, members, inside, names, ReadsType, type_product, type_arrow, product_one, product_more, members_end, members_more, applied_variable, applied_name, applied_inside, applied_row, inside_end, inside_more, names_end, names_more}
use Rattle.lq_text_parser.specs.Syntax.Tokens.{Token, place_at, Stops}
use Rattle.lq_text_parser.proofs.SyntaxLemmas.Doing.{State, state, Body, Can, can}
use Rattle.lq_text_grammar.specs.declared.symbol.Action.TheVariants.{Typing}
use Rattle.lq_text_grammar.specs.declared.symbol.TypingAction.TheVariants.{ApplyTypes}

names-stop : {p : Place} {a b : TypeTree} {ts us : List Token} → ReadsType (names p a b) ts us → Stops (kind.LowerName ∷ []) us
names-stop (names_end s) = s
names-stop (names_more i d) = names-stop d

abbrev pub Goal : TypePhrase → List Token → List Token → Type 1
Goal (a_type a) ts us = (l : Lexeme) (n : ℕ) (vs : List Value) (K : State → Type 0) → ((m : Lexeme) → K (state us m n (type_read a (place_at ts) ∷ vs))) → Can (InType WholeType) (state ts l n vs) K
Goal (a_product a) ts us = (l : Lexeme) (n : ℕ) (vs : List Value) (K : State → Type 0) → ((m : Lexeme) → K (state us m n (type_read a (place_at ts) ∷ vs))) → Can (InType TypeProduct) (state ts l n vs) K
Goal (an_applied a) ts us = (l : Lexeme) (n : ℕ) (vs : List Value) (K : State → Type 0) → ((m : Lexeme) → K (state us m n (type_read a (place_at ts) ∷ vs))) → Can (InType TypeApplied) (state ts l n vs) K
Goal (members bs cs) ts us = (l : Lexeme) (n : ℕ) (vs : List Value) (p : Place) (K : State → Type 0) → ((m : Lexeme) → K (state us m n (types cs p ∷ vs))) → Can (InType ProductMore) (state ts l n (types bs p ∷ vs)) K
Goal (inside bs cs) ts us = (l : Lexeme) (n : ℕ) (vs : List Value) (p o : Place) (K : State → Type 0) → ((m : Lexeme) → Body Can (Word kind.LowerName ∷ Make (Typing ApplyTypes) ∷ Part (InType TypeNames) ∷ []) (state us m n (types cs o ∷ mark p ∷ vs)) K) → Can (InType TypesMore) (state ts l n (types bs o ∷ mark p ∷ vs)) K
Goal (names p a b) ts us = (l : Lexeme) (n : ℕ) (vs : List Value) (K : State → Type 0) → ((m : Lexeme) → K (state us m n (type_read b p ∷ vs))) → Can (InType TypeNames) (state ts l n (type_read a p ∷ vs)) K

pub can-type : {x : TypePhrase} {ts us : List Token} → ReadsType x ts us → Goal x ts us
can-type (type_product d g) = λ l n vs K k. can _ _ _ (inl (tt, can-type d _ _ _ _ (λ m. can _ _ _ (inr (inl (g, k m))))))
can-type (type_arrow d i e) = λ l n vs K k. can _ _ _ (inl (tt, can-type d _ _ _ _ (λ m. can _ _ _ (inl (tt, (i, can-type e _ _ _ _ (k)))))))
can-type (product_one d g) = λ l n vs K k. can _ _ _ (inl (tt, can-type d _ _ _ _ (λ m. can _ _ _ (inr (inl (g, k m))))))
can-type (product_more d i e f) = λ l n vs K k. can _ _ _ (inl (tt, can-type d _ _ _ _ (λ m. can _ _ _ (inl (tt, (i, can-type e _ _ _ _ (λ o. can-type f _ _ _ _ _ (λ q. k q))))))))
can-type (members_end g) = λ l n vs p K k. can _ _ _ (inr (inl (g, k l)))
can-type (members_more i d e) = λ l n vs p K k. can _ _ _ (inl (tt, (i, can-type d _ _ _ _ (λ m. can-type e _ _ _ _ _ k))))
can-type (applied_variable i d) = λ l n vs K k. can _ _ _ (inl (tt, (i.0, rw i.1 (can-type d _ _ _ _ (k)))))
can-type (applied_name i d) = λ l n vs K k. can _ _ _ (inr (inl (tt, (i.0, rw i.1 (can-type d _ _ _ _ (k))))))
can-type (applied_inside i d j e) = λ l n vs K k. can _ _ _ (inr (inr (inl (tt, (i, can-type d _ _ _ _ (λ m. can _ _ _ (inl (tt, (j, can-type e _ _ _ _ (k))))))))))
can-type (applied_row i d j e f c g) = λ l n vs K k. can _ _ _ (inr (inr (inl (tt, (i, can-type d _ _ _ _ (λ m. can _ _ _ (inr (inl (tt, (j, can-type e _ _ _ _ (λ o. can-type f _ _ _ _ _ _ (λ q. (c.0, rw c.1 (can-type g _ _ _ _ (λ r. can _ _ _ (inr (inl (names-stop g, k r))))))))))))))))))
can-type (inside_end i) = λ l n vs p o K k. can _ _ _ (inl (tt, (i, k l)))
can-type (inside_more i d e) = λ l n vs p o K k. can _ _ _ (inr (inl (tt, (i, can-type d _ _ _ _ (λ m. can-type e _ _ _ _ _ _ k)))))
can-type (names_end g) = λ l n vs K k. can _ _ _ (inr (inl (g, k l)))
can-type (names_more i d) = λ l n vs K k. can _ _ _ (inl (tt, (i.0, rw i.1 (can-type d _ _ _ _ (k)))))
