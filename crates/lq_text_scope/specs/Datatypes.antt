-- What is wrong with the names of a definition of a datatype.
use Rattle.std.specs.Prelude.{ℕ, suc, Bool, true, false, ◌&&◌, ◌||◌, ◌==◌, List, [], ◌∷◌, ◌++◌, map, reverse, length, if◌then◌else◌}
use Rattle.lq_base_names.specs.declared.place.Place.{Place}
use Rattle.lq_text_tree.specs.Items.{Named, Construct, Datatype}
use Rattle.lq_text_tree.specs.TypeTree.{TypeTree, type_tree, TypeForm, variable, apply, product, arrow, TypeTrees, no_type_trees, more_type_trees}
use Rattle.lq_text_scope.specs.Complaints.{Complaint, at, unknown, not_positive}
use Rattle.lq_text_scope.specs.Known.{Arity, Known, arity_in, array_name, counted, defined, has}
use Rattle.lq_text_scope.specs.Patterns.{again, repeated}

-- what the types of fields may name: the types, the parameters, each the last first, and the datatype itself
pub record Frame : Type 0 where
  pub types : List Arity
  pub parameters : List ℕ
  pub itself : ℕ

-- how many types stand in a row
abbrev pub count_of : TypeTrees → ℕ
count_of no_type_trees = 0
count_of (more_type_trees t ts) = suc (count_of ts)

abbrev pub misplaced : Bool → Place → List Complaint
misplaced w p = if w then at p not_positive ∷ [] else []

-- a type variable, where it stands left of an arrow or under `array` and where it doesn't
abbrev pub of_variable : Frame → Bool → Place → ℕ → List Complaint
of_variable r w p a = if has r.parameters a then misplaced w p else at p (unknown a) ∷ []

-- the name of a type behind so many arguments
abbrev pub of_name : Frame → Bool → Place → ℕ → ℕ → List Complaint
of_name r w q x found = counted q (arity_in r.types x) (unknown x) found ++ misplaced (w && (x == r.itself)) q

-- a type; the truth value says whether it stands left of an arrow or under `array`
abbrev mutual
  pub of_type : Frame → Bool → TypeTree → List Complaint
  of_type r w (type_tree p f) = of_form r w p f

  pub of_form : Frame → Bool → Place → TypeForm → List Complaint
  of_form r w p (variable a) = of_variable r w p a
  of_form r w p (apply ts x q) = of_name r w q x (count_of ts) ++ of_types r (w || (x == array_name)) ts
  of_form r w p (product ts) = of_types r w ts
  of_form r w p (arrow a b) = of_type r true a ++ of_type r w b

  pub of_types : Frame → Bool → TypeTrees → List Complaint
  of_types r w no_type_trees = []
  of_types r w (more_type_trees t ts) = of_type r w t ++ of_types r w ts

abbrev pub arity_of : Construct → Arity
arity_of c = defined c.name (count_of c.fields)

abbrev pub name_of : Arity → ℕ
name_of a = a.name

abbrev pub named_of : Construct → Named
named_of c = record { name = c.name; place = c.place }

-- the constructors of a datatype behind those that are defined
abbrev pub of_constructors : Frame → List Arity → List Construct → List Complaint
of_constructors r known [] = []
of_constructors r known (c ∷ cs) =
    again (map name_of known) (named_of c) ++ (of_types r false c.fields ++ of_constructors r (arity_of c ∷ known) cs)

-- the constructors that are defined behind a datatype's
abbrev pub with_constructors : List Arity → List Construct → List Arity
with_constructors known [] = known
with_constructors known (c ∷ cs) = with_constructors (arity_of c ∷ known) cs

abbrev pub parameter_name : Named → ℕ
parameter_name n = n.name

abbrev pub type_arity : Datatype → Arity
type_arity d = defined d.name (length d.parameters)

abbrev pub frame_of : Known → Datatype → Frame
frame_of k d = record { types = type_arity d ∷ k.types; parameters = reverse (map parameter_name d.parameters); itself = d.name }

abbrev pub of_datatype : Known → Datatype → List Complaint
of_datatype k d =
    again (map name_of k.types) (record { name = d.name; place = d.place })
    ++ (repeated [] d.parameters ++ of_constructors (frame_of k d) k.constructors d.constructors)

-- what is known behind a definition
abbrev pub with_datatype : Known → Datatype → Known
with_datatype k d =
    record { variables = k.variables; constructors = with_constructors k.constructors d.constructors; types = type_arity d ∷ k.types }
