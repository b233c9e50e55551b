-- What is said of the parts of items follows from their alternatives.
use Rattle.std.proofs.Common.{◌≡◌, ℕ, List, [], ◌∷◌, inl, inr, refl}
use Rattle.lq_base_names.specs.declared.place.Place.{Place}
use Rattle.lq_text_grammar.specs.declared.kind.Kind.TheVariants as kind
use Rattle.lq_text_grammar.specs.declared.rule.Rule.TheVariants.{InProgram}
use Rattle.lq_text_grammar.specs.declared.rule.ProgramPart.TheVariants.{Items, Item, LetItem, TypeHead, TypeParameters, TypeBody, FirstConstructor, ConstructorsMore, Constructor, ConstructorFields, FieldsMore}
use Rattle.lq_text_tree.specs.Items.{Named, type_of, let_of, let_rec_of}
use Rattle.lq_text_tree.specs.Pattern.{Pattern, pattern, any, bind, nothing}
use Rattle.lq_text_tree.specs.Tree.{Tree}
use Rattle.lq_text_tree.specs.TypeView.{type_trees_of}
use Rattle.lq_text_actions.specs.Value.{Lexeme, Value, mark, named, types, parameters as parameters_read, constructors as constructors_read, items}
use Rattle.lq_text_parser.specs.Syntax.Expressions.{Reads, a_definition, definition_name, definition_any, definition_unit}
use Rattle.lq_text_parser.specs.Syntax.Items.{ReadsDefinition, parameters, more_parameters, parameters_none, parameters_one, parameters_many, parameters_end, parameters_more, constructor, constructors_end, constructors_more, fields_none, fields_some, fields_end, fields_more, ReadsItem, item_type, item_let, item_rec, items_end, items_more}
use Rattle.lq_text_parser.specs.Syntax.Tokens.{Token, lexeme_of, Is, IsName, there, missing, taken, lacking}
use Rattle.lq_text_parser.proofs.SyntaxLemmas.Doing.{State, state, Unfolded}
use Rattle.lq_text_parser.proofs.SyntaxLemmas.Contents.{name-is}
use Rattle.lq_text_parser.proofs.SyntaxLemmas.ClosedBindings.{let-in}
use Rattle.lq_text_parser.proofs.SyntaxLemmas.Meanings.{M}

let-item-at : {p : Place} {a : Pattern} {b : Tree} {t : Token} {n i : ℕ} {ts us : List Token} → Is kind.Let t → t.place ≡ p → Reads (a_definition a b) n ts i us → ReadsItem (record { place = p; form = let_of a b }) n (t ∷ ts) i us
let-item-at z q d = rw (← q) (item_let z d)

many-at : {x : ℕ} {ps : List Named} {t u w : Token} {ts us vs : List Token} → us ≡ w ∷ vs → Is kind.Open t → IsName kind.TypeVariable x u → ReadsDefinition (more_parameters ((record { name = x; place = u.place }) ∷ []) ps) ts us → ReadsDefinition (parameters ps) (t ∷ u ∷ ts) (w ∷ vs)
many-at e i j d = parameters_many i j (rw e at d)

pub items_of : (ts : List Token) (l : Lexeme) (n : ℕ) (vs : List Value) (K : State → Type 0) → Unfolded M (InProgram Items) (state ts l n vs) K → M (InProgram Items) (state ts l n vs) K
items_of ts l n (items is ∷ vs) K (inl (g, (a, m, t ∷ us, k, r, inl (s, (j, (js, m2, ws, y, q, h)))))) = (js, m2, ws, y, items_more r (taken j) q, h)
items_of ts l n (items is ∷ vs) K (inl (g, (a, m, [], k, r, inl (s, h)))) = absurd h
items_of ts l n (items is ∷ vs) K (inl (g, (a, m, us, k, r, inr (inl (s, (js, m2, ws, y, q, h)))))) = (js, m2, ws, y, items_more r (lacking s) q, h)
items_of ts l n (items is ∷ vs) K (inl (g, (a, m, us, k, r, inr (inr h)))) = absurd h
items_of ts l n (items is ∷ vs) K (inr (inl (g, h))) = (is, n, ts, l, items_end g, h)
items_of ts l n (items is ∷ vs) K (inr (inr w)) = absurd w
items_of ts l n _ K h = tt

pub item_of : (ts : List Token) (l : Lexeme) (n : ℕ) (vs : List Value) (K : State → Type 0) → Unfolded M (InProgram Item) (state ts l n vs) K → M (InProgram Item) (state ts l n vs) K
item_of (t ∷ ts) l n (items is ∷ vs) K (inl (g, (i, (a, us, k, f, h)))) = (a, n, us, k, f t i refl, h)
item_of [] l n (items is ∷ vs) K (inl (g, h)) = absurd h
item_of (t ∷ ts) l n (items is ∷ vs) K (inr (inl (g, (i, (a, m, us, k, f, h))))) = (a, m, us, k, f t i refl, h)
item_of [] l n (items is ∷ vs) K (inr (inl (g, h))) = absurd h
item_of ts l n (items is ∷ vs) K (inr (inr w)) = absurd w
item_of ts l n _ K h = tt

pub let_item : (ts : List Token) (l : Lexeme) (n : ℕ) (vs : List Value) (K : State → Type 0) → Unfolded M (InProgram LetItem) (state ts l n vs) K → M (InProgram LetItem) (state ts l n vs) K
let_item (t ∷ ts) l n (mark p ∷ items is ∷ vs) K (inl (g, (i, h))) = let x = name-is t.content _ n _ h in let r = x.2 in (record { place = p; form = let_of (pattern t.place (bind x.0)) r.0 }, r.2, r.3, r.4, (λ v z q. let-item-at z q (definition_name (i, x.1) r.6)), r.7)
let_item [] l n (mark p ∷ items is ∷ vs) K (inl (g, h)) = absurd h
let_item (t ∷ u ∷ ts) l n (mark p ∷ items is ∷ vs) K (inr (inl (g, (i, (j, (b, c, m, us, k, s, h)))))) = (record { place = p; form = let_of (pattern t.place any) b }, m, us, k, (λ v z q. let-item-at z q (definition_any i j s)), h)
let_item (t ∷ []) l n (mark p ∷ items is ∷ vs) K (inr (inl (g, (i, h)))) = absurd h
let_item [] l n (mark p ∷ items is ∷ vs) K (inr (inl (g, h))) = absurd h
let_item (t ∷ u ∷ v ∷ ts) l n (mark p ∷ items is ∷ vs) K (inr (inr (inl (g, (i, (j, (w, (b, c, m, us, k, s, h)))))))) = (record { place = p; form = let_of (pattern t.place nothing) b }, m, us, k, (λ y z q. let-item-at z q (definition_unit i j w s)), h)
let_item (t ∷ u ∷ []) l n (mark p ∷ items is ∷ vs) K (inr (inr (inl (g, (i, (j, h)))))) = absurd h
let_item (t ∷ []) l n (mark p ∷ items is ∷ vs) K (inr (inr (inl (g, (i, h))))) = absurd h
let_item [] l n (mark p ∷ items is ∷ vs) K (inr (inr (inl (g, h)))) = absurd h
let_item (t ∷ ts) l n (mark p ∷ items is ∷ vs) K (inr (inr (inr (inl (g, (i, (f, r, m, us, k, s, h))))))) = (record { place = p; form = let_rec_of f r }, m, us, k, (λ v z q. rw (← q) (item_rec z i s)), h)
let_item [] l n (mark p ∷ items is ∷ vs) K (inr (inr (inr (inl (g, h))))) = absurd h
let_item ts l n (mark p ∷ items is ∷ vs) K (inr (inr (inr (inr w)))) = absurd w
let_item ts l n _ K h = tt

pub type_head : (ts : List Token) (l : Lexeme) (n : ℕ) (vs : List Value) (K : State → Type 0) → Unfolded M (InProgram TypeHead) (state ts l n vs) K → M (InProgram TypeHead) (state ts l n vs) K
type_head (t ∷ u ∷ ts) l n (mark p ∷ items is ∷ vs) K (inl (g, (i, h))) = let x = name-is t.content _ n _ h in let y = name-is u.content _ n _ x.2.1 in let r = y.2 in (record { place = p; form = type_of (record { name = y.0; place = u.place; parameters = (record { name = x.0; place = t.place }) ∷ []; constructors = r.0 }) }, r.1, r.2, (λ v z q. r.3 v u (t ∷ u ∷ ts) z q (parameters_one (i, x.1)) (x.2.0, y.1) refl), r.4)
type_head (t ∷ []) l n (mark p ∷ items is ∷ vs) K (inl (g, (i, h))) = let x = name-is t.content _ n _ h in absurd x.2
type_head [] l n (mark p ∷ items is ∷ vs) K (inl (g, h)) = absurd h
type_head (t ∷ u ∷ ts) l n (mark p ∷ items is ∷ vs) K (inr (inl (g, (i, (j, h))))) = let x = name-is u.content _ n _ h in let d = x.2 in let w = let-in d.1 _ d.4 in let y = name-is (w.0).content _ n _ w.4 in let r = y.2 in (record { place = p; form = type_of (record { name = y.0; place = (w.0).place; parameters = d.0; constructors = r.0 }) }, r.1, r.2, (λ v z q. r.3 v w.0 (t ∷ u ∷ ts) z q (many-at w.2 i (j, x.1) d.3) (w.3, y.1) refl), r.4)
type_head (t ∷ []) l n (mark p ∷ items is ∷ vs) K (inr (inl (g, (i, h)))) = absurd h
type_head [] l n (mark p ∷ items is ∷ vs) K (inr (inl (g, h))) = absurd h
type_head (t ∷ ts) l n (mark p ∷ items is ∷ vs) K (inr (inr (inl (g, (i, h))))) = let y = name-is t.content _ n _ h in let r = y.2 in (record { place = p; form = type_of (record { name = y.0; place = t.place; parameters = []; constructors = r.0 }) }, r.1, r.2, (λ v z q. r.3 v t (t ∷ ts) z q parameters_none (i, y.1) refl), r.4)
type_head [] l n (mark p ∷ items is ∷ vs) K (inr (inr (inl (g, h)))) = absurd h
type_head ts l n (mark p ∷ items is ∷ vs) K (inr (inr (inr w))) = absurd w
type_head ts l n _ K h = tt

pub type_body : (ts : List Token) (l : Lexeme) (n : ℕ) (vs : List Value) (K : State → Type 0) → Unfolded M (InProgram TypeBody) (state ts l n vs) K → M (InProgram TypeBody) (state ts l n vs) K
type_body (t ∷ ts) l n (named x o ∷ parameters_read ps ∷ mark p ∷ items is ∷ vs) K (inl (g, (i, (cs, us, ws, k, y, d, h)))) = (cs, ws, k, (λ v u xs z q e f w. rw (← q, ← w) (item_type z e f i y d)), h)
type_body [] l n (named x o ∷ parameters_read ps ∷ mark p ∷ items is ∷ vs) K (inl (g, h)) = absurd h
type_body ts l n (named x o ∷ parameters_read ps ∷ mark p ∷ items is ∷ vs) K (inr w) = absurd w
type_body ts l n _ K h = tt

pub type_parameters : (ts : List Token) (l : Lexeme) (n : ℕ) (vs : List Value) (K : State → Type 0) → Unfolded M (InProgram TypeParameters) (state ts l n vs) K → M (InProgram TypeParameters) (state ts l n vs) K
type_parameters (t ∷ u ∷ ts) l n (parameters_read ps ∷ vs) K (inl (g, (i, (j, h)))) = let x = name-is u.content _ n _ h in let r = x.2 in (r.0, r.1, r.2, parameters_more i (j, x.1) r.3, r.4)
type_parameters (t ∷ []) l n (parameters_read ps ∷ vs) K (inl (g, (i, h))) = absurd h
type_parameters [] l n (parameters_read ps ∷ vs) K (inl (g, h)) = absurd h
type_parameters (t ∷ ts) l n (parameters_read ps ∷ vs) K (inr (inl (g, (i, h)))) = (ps, ts, lexeme_of t, parameters_end i, h)
type_parameters [] l n (parameters_read ps ∷ vs) K (inr (inl (g, h))) = absurd h
type_parameters ts l n (parameters_read ps ∷ vs) K (inr (inr w)) = absurd w
type_parameters ts l n _ K h = tt

pub first_constructor : (ts : List Token) (l : Lexeme) (n : ℕ) (vs : List Value) (K : State → Type 0) → Unfolded M (InProgram FirstConstructor) (state ts l n vs) K → M (InProgram FirstConstructor) (state ts l n vs) K
first_constructor (t ∷ ts) l n (constructors_read cs ∷ vs) K (inl (g, (i, (c, us, k, f, (ds, ws, y, d, h))))) = (ds, ts, ws, y, there i, f cs ds ws d, h)
first_constructor [] l n (constructors_read cs ∷ vs) K (inl (g, h)) = absurd h
first_constructor ts l n (constructors_read cs ∷ vs) K (inr (inl (g, (c, us, k, f, (ds, ws, y, d, h))))) = (ds, ts, ws, y, missing, f cs ds ws d, h)
first_constructor ts l n (constructors_read cs ∷ vs) K (inr (inr w)) = absurd w
first_constructor ts l n _ K h = tt

pub constructor_of : (ts : List Token) (l : Lexeme) (n : ℕ) (vs : List Value) (K : State → Type 0) → Unfolded M (InProgram Constructor) (state ts l n vs) K → M (InProgram Constructor) (state ts l n vs) K
constructor_of (t ∷ ts) l n (constructors_read cs ∷ vs) K (inl (g, (i, h))) = let x = name-is t.content _ n _ h in let r = x.2 in (record { name = x.0; place = t.place; fields = type_trees_of r.0 }, r.1, r.2, (λ ds bs ws d. constructor (i, x.1) (r.3 refl) d), r.4)
constructor_of [] l n (constructors_read cs ∷ vs) K (inl (g, h)) = absurd h
constructor_of ts l n (constructors_read cs ∷ vs) K (inr w) = absurd w
constructor_of ts l n _ K h = tt

pub constructor_fields : (ts : List Token) (l : Lexeme) (n : ℕ) (vs : List Value) (K : State → Type 0) → Unfolded M (InProgram ConstructorFields) (state ts l n vs) K → M (InProgram ConstructorFields) (state ts l n vs) K
constructor_fields (t ∷ ts) l n (types bs p ∷ vs) K (inl (g, (i, (a, us, k, r, (cs, ws, y, d, h))))) = (cs, ws, y, (λ e. fields_some i r (rw e at d)), h)
constructor_fields [] l n (types bs p ∷ vs) K (inl (g, h)) = absurd h
constructor_fields ts l n (types bs p ∷ vs) K (inr (inl (g, h))) = (bs, ts, l, (λ e. rw e (fields_none g)), h)
constructor_fields ts l n (types bs p ∷ vs) K (inr (inr w)) = absurd w
constructor_fields ts l n _ K h = tt

pub constructors_of : (ts : List Token) (l : Lexeme) (n : ℕ) (vs : List Value) (K : State → Type 0) → Unfolded M (InProgram ConstructorsMore) (state ts l n vs) K → M (InProgram ConstructorsMore) (state ts l n vs) K
constructors_of (t ∷ ts) l n (constructors_read cs ∷ vs) K (inl (g, (i, (c, us, k, f, (ds, ws, y, d, h))))) = (ds, ws, y, constructors_more i (f cs ds ws d), h)
constructors_of [] l n (constructors_read cs ∷ vs) K (inl (g, h)) = absurd h
constructors_of ts l n (constructors_read cs ∷ vs) K (inr (inl (g, h))) = (cs, ts, l, constructors_end g, h)
constructors_of ts l n (constructors_read cs ∷ vs) K (inr (inr w)) = absurd w
constructors_of ts l n _ K h = tt

pub fields_of : (ts : List Token) (l : Lexeme) (n : ℕ) (vs : List Value) (K : State → Type 0) → Unfolded M (InProgram FieldsMore) (state ts l n vs) K → M (InProgram FieldsMore) (state ts l n vs) K
fields_of (t ∷ ts) l n (types bs p ∷ vs) K (inl (g, (i, (a, us, k, r, (cs, ws, y, d, h))))) = (cs, ws, y, fields_more i r d, h)
fields_of [] l n (types bs p ∷ vs) K (inl (g, h)) = absurd h
fields_of ts l n (types bs p ∷ vs) K (inr (inl (g, h))) = (bs, ts, l, fields_end g, h)
fields_of ts l n (types bs p ∷ vs) K (inr (inr w)) = absurd w
fields_of ts l n _ K h = tt
