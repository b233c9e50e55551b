-- What constructors stand for in a program: those that every program has, and those that it defines.
use Rattle.std.specs.Prelude.{ℕ, suc, ◌==◌, if◌then◌else◌, List, [], ◌∷◌, ◌++◌, length, map, Option, Some, None}
use Rattle.lq_text_tree.specs.MlType as ml
use Rattle.lq_text_tree.specs.MlType.{MlType, MlTypes}
use Rattle.lq_text_tree.specs.Items.{Named, Construct, ItemTree, ItemForm, type_of, let_of, let_rec_of}
use Rattle.lq_text_tree.specs.TypeTree.{TypeTree, type_tree, TypeForm, variable, apply, product, arrow, TypeTrees, no_type_trees, more_type_trees}
use Rattle.lq_text_tree.specs.Types.{type_at, Constructor, Signature, list_type}

-- the place of a name among the parameters
abbrev pub place_of : List Named → ℕ → ℕ
place_of [] x = 0
place_of (p ∷ ps) x = if p.name == x then 0 else suc (place_of ps x)

-- the type of this name with these arguments: int, bool, unit, array and map have the numbers 0, 1, 2, 3 and 6
abbrev pub type_named : ℕ → MlTypes → MlType
type_named d ts =
    if d == 0 then ml.int
    else if d == 1 then ml.bool
    else if d == 2 then ml.unit
    else if d == 3 then ml.array (type_at ts 0)
    else if d == 6 then ml.map_of (type_at ts 0)
    else ml.named d ts

-- the type that is written so, where these are the parameters
abbrev mutual
  pub written : List Named → TypeTree → MlType
  written ps (type_tree p f) = written_form ps f

  pub written_form : List Named → TypeForm → MlType
  written_form ps (variable x) = ml.var (place_of ps x)
  written_form ps (apply ts d p) = type_named d (all_written ps ts)
  written_form ps (product ts) = ml.tuple (all_written ps ts)
  written_form ps (arrow a b) = ml.arrow (written ps a) (written ps b)

  pub all_written : List Named → TypeTrees → MlTypes
  all_written ps no_type_trees = ml.no_types
  all_written ps (more_type_trees t ts) = ml.more_types (written ps t) (all_written ps ts)

-- `[]` and `::` of list, `None` and `Some` of option
abbrev pub predeclared : List (ℕ × Constructor)
predeclared =
    (7, record { datatype = 4; parameters = 1; fields = ml.no_types })
    ∷ (8, record { datatype = 4; parameters = 1; fields = ml.more_types (ml.var 0) (ml.more_types (list_type (ml.var 0)) ml.no_types) })
    ∷ (9, record { datatype = 5; parameters = 1; fields = ml.no_types })
    ∷ (10, record { datatype = 5; parameters = 1; fields = ml.more_types (ml.var 0) ml.no_types }) ∷ []

abbrev pub constructor_of : ℕ → List Named → Construct → ℕ × Constructor
constructor_of d ps c = (c.name, record { datatype = d; parameters = length ps; fields = all_written ps c.fields })

abbrev pub constructors_of : ItemForm → List (ℕ × Constructor)
constructors_of (type_of d) = map (constructor_of d.name d.parameters) d.constructors
constructors_of (let_of q e) = []
constructors_of (let_rec_of f r) = []

abbrev pub all_constructors : List ItemTree → List (ℕ × Constructor)
all_constructors [] = []
all_constructors (i ∷ is) = constructors_of i.form ++ all_constructors is

abbrev pub constructor_in : List (ℕ × Constructor) → ℕ → Option Constructor
constructor_in [] c = None
constructor_in (k ∷ ks) c = if k.0 == c then Some k.1 else constructor_in ks c

abbrev pub signature_of : List ItemTree → Signature
signature_of is = constructor_in (predeclared ++ all_constructors is)
