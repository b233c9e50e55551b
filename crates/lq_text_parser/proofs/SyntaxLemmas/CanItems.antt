-- Items that the lines of the grammar read can be read.
use Rattle.std.proofs.Common.{ℕ, List, [], ◌∷◌, ◌++◌, inl, inr}
use Rattle.lq_base_names.specs.declared.place.Place.{Place}
use Rattle.lq_text_grammar.specs.declared.kind.Kind.TheVariants as kind
use Rattle.lq_text_grammar.specs.declared.rule.Rule.TheVariants.{InProgram}
use Rattle.lq_text_grammar.specs.declared.rule.ProgramPart.TheVariants.{Items, Item, TypeHead, TypeParameters, TypeBody, ConstructorsMore, Constructor, ConstructorFields, FieldsMore}
use Rattle.lq_text_grammar.specs.declared.symbol.Symbol.TheVariants.{Word, Part, Make}
use Rattle.lq_text_tree.specs.Items.{ItemTree}
use Rattle.lq_text_actions.specs.Value.{Lexeme, Value, mark, types, parameters as parameters_read, constructors as constructors_read, items as items_read}
use Rattle.lq_text_parser.specs.Syntax.Items.{DefinitionPhrase, parameters, more_parameters, constructors, more_constructors, fields, more_fields, ReadsDefinition, parameters_none, parameters_one, parameters_many, parameters_end, parameters_more, constructor, constructors_end, constructors_more, fields_none, fields_some, fields_end, fields_more, ReadsItem, item_type, item_let, item_rec, ReadsItems, items_end, items_more}
use Rattle.lq_text_parser.specs.Syntax.Tokens.{Token, there, missing, taken, lacking}
use Rattle.lq_text_parser.proofs.SyntaxLemmas.Doing.{State, state, Body, Can, can}
use Rattle.lq_text_grammar.specs.declared.symbol.Action.TheVariants as action
use Rattle.lq_text_parser.proofs.SyntaxLemmas.CanExpressions.{can-reads}
use Rattle.lq_text_parser.proofs.SyntaxLemmas.CanTypes.{can-type}

abbrev pub Goal : DefinitionPhrase → List Token → List Token → Type 1
Goal (parameters ps) ts us = (l : Lexeme) (n : ℕ) (vs : List Value) (p : Place) (is : List ItemTree) (K : State → Type 0) → ((o : Lexeme) → Body Can (Word kind.LowerName ∷ Make action.Named ∷ Part (InProgram TypeBody) ∷ []) (state us o n (parameters_read ps ∷ mark p ∷ items_read is ∷ vs)) K) → Can (InProgram TypeHead) (state ts l n (mark p ∷ items_read is ∷ vs)) K
Goal (more_parameters ps qs) ts us = (l : Lexeme) (n : ℕ) (vs : List Value) (K : State → Type 0) → ((o : Lexeme) → K (state us o n (parameters_read qs ∷ vs))) → Can (InProgram TypeParameters) (state ts l n (parameters_read ps ∷ vs)) K
Goal (constructors cs ds) ts us = (l : Lexeme) (n : ℕ) (vs : List Value) (K : State → Type 0) → ((o : Lexeme) → K (state us o n (constructors_read ds ∷ vs))) → Can (InProgram Constructor) (state ts l n (constructors_read cs ∷ vs)) (λ s. Can (InProgram ConstructorsMore) s K)
Goal (more_constructors cs ds) ts us = (l : Lexeme) (n : ℕ) (vs : List Value) (K : State → Type 0) → ((o : Lexeme) → K (state us o n (constructors_read ds ∷ vs))) → Can (InProgram ConstructorsMore) (state ts l n (constructors_read cs ∷ vs)) K
Goal (fields bs) ts us = (l : Lexeme) (n : ℕ) (vs : List Value) (p : Place) (K : State → Type 0) → ((o : Lexeme) → K (state us o n (types bs p ∷ vs))) → Can (InProgram ConstructorFields) (state ts l n (types [] p ∷ vs)) K
Goal (more_fields bs cs) ts us = (l : Lexeme) (n : ℕ) (vs : List Value) (p : Place) (K : State → Type 0) → ((o : Lexeme) → K (state us o n (types cs p ∷ vs))) → Can (InProgram FieldsMore) (state ts l n (types bs p ∷ vs)) K

can-definition : {x : DefinitionPhrase} {ts us : List Token} → ReadsDefinition x ts us → Goal x ts us
can-definition (parameters_none) = λ l n vs p is K k. can _ _ _ (inr (inr (inl (tt, k l))))
can-definition (parameters_one i) = λ l n vs p is K k. can _ _ _ (inl (tt, (i.0, rw i.1 (k l))))
can-definition (parameters_many i j d) = λ l n vs p is K k. can _ _ _ (inr (inl (tt, (i, (j.0, rw j.1 (can-definition d _ _ _ _ (k)))))))
can-definition (parameters_end i) = λ l n vs K k. can _ _ _ (inr (inl (tt, (i, k _))))
can-definition (parameters_more i j d) = λ l n vs K k. can _ _ _ (inl (tt, (i, (j.0, rw j.1 (can-definition d _ _ _ _ (k))))))
can-definition (constructor i f d) = λ l n vs K k. can _ _ _ (inl (tt, (i.0, rw i.1 (can-definition f _ _ _ _ _ (λ o. can-definition d _ _ _ _ (k))))))
can-definition (constructors_end g) = λ l n vs K k. can _ _ _ (inr (inl (g, k l)))
can-definition (constructors_more i d) = λ l n vs K k. can _ _ _ (inl (tt, (i, can-definition d _ _ _ _ (k))))
can-definition (fields_none g) = λ l n vs p K k. can _ _ _ (inr (inl (g, k l)))
can-definition (fields_some i a d) = λ l n vs p K k. can _ _ _ (inl (tt, (i, can-type a _ _ _ _ (λ o. can-definition d _ _ _ _ _ k))))
can-definition (fields_end g) = λ l n vs p K k. can _ _ _ (inr (inl (g, k l)))
can-definition (fields_more i a d) = λ l n vs p K k. can _ _ _ (inl (tt, (i, can-type a _ _ _ _ (λ o. can-definition d _ _ _ _ _ k))))

can-item : {i : ItemTree} {n m : ℕ} {ts us : List Token} → ReadsItem i n ts m us → (l : Lexeme) (vs : List Value) (is : List ItemTree) (K : State → Type 0) → ((o : Lexeme) → K (state us o m (items_read (is ++ i ∷ []) ∷ vs))) → Can (InProgram Item) (state ts l n (items_read is ∷ vs)) K
can-item (item_type i ps c e (there x) cs) l vs is K k = can _ _ _ (inl (tt, (i, can-definition ps _ _ _ _ _ _ (λ o. (c.0, rw c.1 (can _ _ _ (inl (tt, (e, can _ _ _ (inl (tt, (x, can-definition cs _ _ _ _ (λ q. k q)))))))))))))
can-item (item_type i ps c e missing cs) l vs is K k = can _ _ _ (inl (tt, (i, can-definition ps _ _ _ _ _ _ (λ o. (c.0, rw c.1 (can _ _ _ (inl (tt, (e, can _ _ _ (inr (inl (tt, can-definition cs _ _ _ _ (λ q. k q)))))))))))))
can-item (item_let i d) l vs is K k = can _ _ _ (inr (inl (tt, (i, (can-reads d).0 _ _ _ _ _ k))))
can-item (item_rec i j d) l vs is K k = can _ _ _ (inr (inl (tt, (i, can _ _ _ (inr (inr (inr (inl (tt, (j, can-reads d _ _ _ (λ o. k o)))))))))))

pub can-items : {is js : List ItemTree} {n m : ℕ} {ts us : List Token} → ReadsItems is js n ts m us → (l : Lexeme) (vs : List Value) (K : State → Type 0) → ((o : Lexeme) → K (state us o m (items_read js ∷ vs))) → Can (InProgram Items) (state ts l n (items_read is ∷ vs)) K
can-items (items_end g) l vs K k = can _ _ _ (inr (inl (g, k l)))
can-items (items_more i (taken j) d) l vs K k = can _ _ _ (inl (tt, can-item i _ _ _ _ (λ o. can _ _ _ (inl (tt, (j, can-items d _ _ _ k))))))
can-items (items_more i (lacking g) d) l vs K k = can _ _ _ (inl (tt, can-item i _ _ _ _ (λ o. can _ _ _ (inr (inl (g, can-items d _ _ _ k))))))
