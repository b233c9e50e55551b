-- A program with a definition that is used at two types, and its annotation:
--   let id = fun x -> x
--   let p = (id 1, id true)
-- and one that is ill typed at the call:
--   let g = fun x -> x x
use Rattle.std.specs.Prelude.{ℕ, true, pos, [], ◌∷◌, Some, slice_index_or}
use Rattle.lq_base_names.specs.declared.place.Place.{Place}
use Rattle.lq_base_names.specs.declared.place.TextKind.TheVariants.{Program}
use Rattle.lq_text_tree.specs.MlType as ml
use Rattle.lq_text_tree.specs.MlType.{MlType}
use Rattle.lq_text_tree.specs.Items.{ItemTree, let_of}
use Rattle.lq_text_tree.specs.Pattern.{pattern, bind}
use Rattle.lq_text_tree.specs.Tree.{Tree, tree, whole, flag, use_of, fun, tuple, call, no_trees, more_trees}
use Rattle.lq_text_walk.specs.Scoped.Scoping.{Scoping, IsScoped}
use Rattle.lq_types_rules.specs.Typings.Inference.{typed, ill_typed, IsInference}

abbrev pub at : ℕ → ℕ → Place
at line column = record { text = Program; line = line; column = column }

-- id, x and p have the binders 0 to 2, and the nodes the numbers 0 to 8
abbrev pub function : Tree
function = tree 1 (at 1 10) (fun (pattern (at 1 14) (bind 1)) (tree 0 (at 1 19) (use_of 1)))

abbrev pub identity : ItemTree
identity = record { place = at 1 1; form = let_of (pattern (at 1 5) (bind 0)) function }

abbrev pub of_number : Tree
of_number = tree 4 (at 2 10) (call (tree 2 (at 2 10) (use_of 0)) (tree 3 (at 2 13) (whole (pos 1))))

abbrev pub of_flag : Tree
of_flag = tree 7 (at 2 16) (call (tree 5 (at 2 16) (use_of 0)) (tree 6 (at 2 19) (flag true)))

abbrev pub pair : ItemTree
pair = record { place = at 2 1; form = let_of (pattern (at 2 5) (bind 2)) (tree 8 (at 2 10) (tuple (more_trees of_number (more_trees of_flag no_trees)))) }

abbrev pub program : Scoping
program = record { items = identity ∷ pair ∷ []; datatypes = []; sources = Some 11 ∷ Some 12 ∷ Some 13 ∷ [] }

-- from a type to itself
abbrev pub to_itself : MlType → MlType
to_itself a = ml.arrow a a

abbrev pub both : MlType
both = ml.tuple (ml.more_types ml.int (ml.more_types ml.bool ml.no_types))

-- 'a, 'a -> 'a; int -> int, int, int, bool -> bool, bool, bool, int * bool; and of the binders 'a -> 'a, 'a, int * bool
abbrev pub types : ℕ → MlType
types k = slice_index_or (
    ml.var 0 ∷ to_itself (ml.var 0) ∷ to_itself ml.int ∷ ml.int ∷ ml.int ∷ to_itself ml.bool ∷ ml.bool ∷ ml.bool ∷ both ∷ to_itself (ml.var 0) ∷ ml.var 0 ∷ both ∷ []
    ) k ml.unit

abbrev pub self_call : ItemTree
self_call = record {
  place = at 1 1;
  form = let_of (pattern (at 1 5) (bind 0))
      (tree 3 (at 1 9) (fun (pattern (at 1 13) (bind 1)) (tree 2 (at 1 18) (call (tree 0 (at 1 18) (use_of 1)) (tree 1 (at 1 20) (use_of 1))))));
}

abbrev pub ill_program : Scoping
ill_program = record { items = self_call ∷ []; datatypes = []; sources = Some 11 ∷ Some 12 ∷ [] }

-- The programs are scoped, the annotation is the answer for the one, and the place of the call for the other.
pub record Examples : Type 0 where
  pub scoped : IsScoped program
  pub answered : IsInference program (typed types)
  pub also_scoped : IsScoped ill_program
  pub refused : IsInference ill_program (ill_typed (at 1 18))
