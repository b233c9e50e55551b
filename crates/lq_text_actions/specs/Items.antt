-- What actions make of the items of a program, and of the entries of the other two texts.
use Rattle.std.specs.Prelude.{ℕ, List, [], ◌∷◌, ◌++◌, Option, Some, None}
use Rattle.lq_base_names.specs.declared.place.Place.{Place}
use Rattle.lq_text_tree.specs.Items.{Named, type_of, let_of, let_rec_of}
use Rattle.lq_text_tree.specs.TypeView.{type_trees_of}
use Rattle.lq_text_grammar.specs.declared.symbol.ItemAction.{ItemAction}
use Rattle.lq_text_grammar.specs.declared.symbol.ItemAction.TheVariants.{NoItems, AddLet, AddRec, AddType, NoParameters, FirstParameter, AddParameter, NoConstructors, AddConstructor}
use Rattle.lq_text_grammar.specs.declared.symbol.EntryAction.{EntryAction}
use Rattle.lq_text_grammar.specs.declared.symbol.EntryAction.TheVariants.{NoQualifiers, AddQualifier, NoMeasures, AddMeasure, NoEquations, AppendEquation}
use Rattle.lq_text_actions.specs.Value.{Lexeme, by_name, Value, mark, named, expression, recursive, pattern_read, types, parameters, constructors, items, predicate, qualifiers, equations, measures}

abbrev pub add_let : List Value → Option (List Value)
add_let (expression e q c ∷ pattern_read p ∷ mark m ∷ items is ∷ vs) = Some (items (is ++ (record { place = m; form = let_of p e }) ∷ []) ∷ vs)
add_let vs = None

abbrev pub add_rec : List Value → Option (List Value)
add_rec (recursive f r ∷ mark m ∷ items is ∷ vs) = Some (items (is ++ (record { place = m; form = let_rec_of f r }) ∷ []) ∷ vs)
add_rec vs = None

abbrev pub add_type : List Value → Option (List Value)
add_type (constructors cs ∷ named x p ∷ parameters ps ∷ mark m ∷ items is ∷ vs) =
    Some (items (is ++ (record { place = m; form = type_of (record { name = x; place = p; parameters = ps; constructors = cs }) }) ∷ []) ∷ vs)
add_type vs = None

abbrev pub parameter_at : Place → ℕ → Named
parameter_at place x = record { name = x; place = place }

abbrev pub add_parameter : Named → List Value → Option (List Value)
add_parameter p (parameters ps ∷ vs) = Some (parameters (ps ++ p ∷ []) ∷ vs)
add_parameter p vs = None

abbrev pub add_constructor : List Value → Option (List Value)
add_constructor (types ts q ∷ named c p ∷ constructors cs ∷ vs) =
    Some (constructors (cs ++ (record { name = c; place = p; fields = type_trees_of ts }) ∷ []) ∷ vs)
add_constructor vs = None

abbrev pub item_made : ItemAction → Lexeme → List Value → Option (List Value)
item_made NoItems l vs = Some (items [] ∷ vs)
item_made AddLet l vs = add_let vs
item_made AddRec l vs = add_rec vs
item_made AddType l vs = add_type vs
item_made NoParameters l vs = Some (parameters [] ∷ vs)
item_made FirstParameter l vs = by_name l.content (λ x. Some (parameters (parameter_at l.place x ∷ []) ∷ vs))
item_made AddParameter l vs = by_name l.content (λ x. add_parameter (parameter_at l.place x) vs)
item_made NoConstructors l vs = Some (constructors [] ∷ vs)
item_made AddConstructor l vs = add_constructor vs

-- the name, the value's name and the shape stand one after the other
abbrev pub add_qualifier : List Value → Option (List Value)
add_qualifier (predicate e q ∷ named s t ∷ named v u ∷ named x p ∷ mark m ∷ qualifiers qs ∷ vs) =
    Some (qualifiers (qs ++ (record { place = m; name = x; value = v; shape = s; shape_place = t; predicate = e }) ∷ []) ∷ vs)
add_qualifier vs = None

abbrev pub append_equation : List Value → Option (List Value)
append_equation (predicate e q ∷ pattern_read p ∷ equations es ∷ vs) = Some (equations (es ++ (record { pattern = p; term = e }) ∷ []) ∷ vs)
append_equation vs = None

abbrev pub add_measure : List Value → Option (List Value)
add_measure (equations es ∷ named d q ∷ named m p ∷ measures ms ∷ vs) =
    Some (measures (ms ++ (record { name = m; place = p; datatype = d; datatype_place = q; equations = es }) ∷ []) ∷ vs)
add_measure vs = None

abbrev pub entry_made : EntryAction → Lexeme → List Value → Option (List Value)
entry_made NoQualifiers l vs = Some (qualifiers [] ∷ vs)
entry_made AddQualifier l vs = add_qualifier vs
entry_made NoMeasures l vs = Some (measures [] ∷ vs)
entry_made AddMeasure l vs = add_measure vs
entry_made NoEquations l vs = Some (equations [] ∷ vs)
entry_made AppendEquation l vs = append_equation vs
