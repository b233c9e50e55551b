-- The constructors of a program of which nothing is complained have covariant fields.
use Rattle.std.specs.Prelude.{All, ◌==◌, if◌then◌else◌}
use Rattle.std.proofs.Common.{◌≡◌, ℕ, Bool, true, false, List, [], ◌∷◌, ◌++◌, map, Option, Some, None, subst}
use Rattle.std.proofs.lemmas.List.Elements.{All-append, All-cons, All-head, All-nil, All-tail}
use Rattle.lq_text_datatypes.specs.Datatypes.{datatype_in, datatypes_in}
use Rattle.lq_sound_values.specs.Inhabitants.Datatypes.{AllCovariantIn, AnyVariable, AreCovariant}
use Rattle.lq_text_scope.specs.Datatypes.{Frame, arity_of, frame_of, name_of, named_of, of_constructors, of_types}
use Rattle.lq_text_scope.specs.Known.{Arity, Known, predeclared_known}
use Rattle.lq_text_scope.specs.Patterns.{again, repeated}
use Rattle.lq_text_scope.specs.Uses.{behind, of_item, of_items, of_program}
use Rattle.lq_text_walk.specs.Scoped.Signature.{constructor_tree, constructors_in, data_tree, signature_in, signed}
use Rattle.lq_text_tree.specs.Items.{Construct, Datatype, ItemForm, ItemTree, let_of, let_rec_of, type_of}
use Rattle.lq_text_tree.specs.Signatures.{constructor_in, predeclared}
use Rattle.lq_text_tree.specs.MlType as ml
use Rattle.lq_text_tree.specs.Types.{Constructor, list_type}
use Rattle.lq_sound_texts.proofs.VarianceLemmas.Written.{nil_left, nil_right, types_are}

abbrev IsCovariant : ℕ × Constructor → Type 0
IsCovariant k = AllCovariantIn AnyVariable k.1.fields

fields_are : (r : Frame) (d : Datatype) (known : List Arity) (cs : List Construct) → of_constructors r known cs ≡ []
    → All IsCovariant (map (signed (data_tree d)) (map (constructor_tree d) cs))
fields_are r d known [] e = All-nil IsCovariant
fields_are r d known (c ∷ cs) e =
    let here = again (map name_of known) (named_of c) in
    let rest = nil_right here (of_types r false c.fields ++ of_constructors r (arity_of c ∷ known) cs) e in
    let fields = nil_left (of_types r false c.fields) (of_constructors r (arity_of c ∷ known) cs) rest in
    let others = nil_right (of_types r false c.fields) (of_constructors r (arity_of c ∷ known) cs) rest in
    All-cons IsCovariant (signed (data_tree d) (constructor_tree d c)) (map (signed (data_tree d)) (map (constructor_tree d) cs))
    (types_are r d.parameters false c.fields fields) (fields_are r d (arity_of c ∷ known) cs others)

datatype_is : (k : Known) (d : Datatype) → of_item [] k (type_of d) ≡ [] → All IsCovariant (map (signed (data_tree d)) (data_tree d).constructors)
datatype_is k d e =
    let named = again (map name_of k.types) (record { name = d.name; place = d.place }) in
    let parts = of_constructors (frame_of k d) k.constructors d.constructors in
    fields_are (frame_of k d) d k.constructors d.constructors
    (nil_right (repeated [] d.parameters) parts (nil_right named (repeated [] d.parameters ++ parts) e))

module _ (names : List (List ℕ)) where
  item_is : (k : Known) (f : ItemForm) (is : List ItemTree) → of_item names k f ≡ [] → All IsCovariant (constructors_in (datatypes_in is))
      → All IsCovariant (constructors_in (datatype_in f ++ datatypes_in is))
  item_is k (type_of d) is e rest =
      All-append IsCovariant (map (signed (data_tree d)) (data_tree d).constructors) (constructors_in (datatypes_in is)) (datatype_is k d e) rest
  item_is k (let_of p t) is e rest = rest
  item_is k (let_rec_of f t) is e rest = rest

  items_are : (k : Known) (is : List ItemTree) → of_items names k is ≡ [] → All IsCovariant (constructors_in (datatypes_in is))
  items_are k [] e = All-nil IsCovariant
  items_are k (i ∷ is) e =
      item_is k i.form is (nil_left (of_item names k i.form) (of_items names (behind k i.form) is) e)
      (items_are (behind k i.form) is (nil_right (of_item names k i.form) (of_items names (behind k i.form) is) e))

-- ---- looked up

some_same : {X : Type 0} {x y : X} → Some x ≡ Some y → x ≡ y
some_same e = cc

-- the first of a name, or what is found behind it
by_test : (b : Bool) (x : ℕ × Constructor) (later : Option Constructor) (k : Constructor) → IsCovariant x
    → (later ≡ Some k → AllCovariantIn AnyVariable k.fields) → (if b then Some x.1 else later) ≡ Some k → AllCovariantIn AnyVariable k.fields
by_test true x later k here behind e = subst (λ (y : Constructor). AllCovariantIn AnyVariable y.fields) (some_same e) here
by_test false x later k here behind e = behind e

found : (ks : List (ℕ × Constructor)) (c : ℕ) (k : Constructor) → All IsCovariant ks → constructor_in ks c ≡ Some k → AllCovariantIn AnyVariable k.fields
found [] c k all e = absurd (let h : None ≡ Some k = e in cc)
found (x ∷ xs) c k all e =
    by_test (x.0 == c) x (constructor_in xs c) k (All-head IsCovariant x xs all) (found xs c k (All-tail IsCovariant x xs all)) e

abbrev constant : ℕ → ℕ → ℕ × Constructor
constant d c = (c, record { datatype = d; parameters = 1; fields = ml.no_types })

abbrev cons : ℕ × Constructor
cons = (8, record { datatype = 4; parameters = 1; fields = ml.more_types (ml.var 0) (ml.more_types (list_type (ml.var 0)) ml.no_types) })

abbrev some : ℕ × Constructor
some = (10, record { datatype = 5; parameters = 1; fields = ml.more_types (ml.var 0) ml.no_types })

cons_is : IsCovariant cons
cons_is = (tt, ((tt, tt), tt))

some_is : IsCovariant some
some_is = (tt, tt)

predeclared_are : All IsCovariant predeclared
predeclared_are =
    All-cons IsCovariant (constant 4 7) (cons ∷ constant 5 9 ∷ some ∷ []) tt
    (All-cons IsCovariant cons (constant 5 9 ∷ some ∷ []) cons_is
    (All-cons IsCovariant (constant 5 9) (some ∷ []) tt (All-cons IsCovariant some [] some_is (All-nil IsCovariant))))

pub covariant : (names : List (List ℕ)) (is : List ItemTree) → of_program names is ≡ [] → AreCovariant (signature_in (datatypes_in is))
covariant names is e c k found_so =
    found (predeclared ++ constructors_in (datatypes_in is)) c k
    (All-append IsCovariant predeclared (constructors_in (datatypes_in is)) predeclared_are (items_are names predeclared_known is e)) found_so
