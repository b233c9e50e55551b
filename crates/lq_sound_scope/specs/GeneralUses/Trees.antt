-- Trees in which a name that has types for its type's variables is one that an earlier item defined.
use Rattle.std.specs.Prelude.{◌≡◌, ℕ, true, List, [], ◌∷◌, Option, Some, None}
use Rattle.lq_text_tree.specs.Items.{ItemTree, ItemForm, type_of, let_of, let_rec_of}
use Rattle.lq_text_tree.specs.MlType.{MlTypes}
use Rattle.lq_text_tree.specs.Pattern.{Pattern, pattern, bind}
use Rattle.lq_text_tree.specs.Tree.{Tree}
use Rattle.lq_text_walk.specs.Walk.Fold.{Algebra, fold}
use Rattle.lq_text_walk.specs.Walk.Shape as shape
use Rattle.lq_text_walk.specs.Walk.Shape.{Leaf}
use Rattle.lq_text_walk.specs.Scoped.Numbers.{number_of}
use Rattle.lq_meaning_normal_form.specs.Types.Written.{Each, EachBody}
use Rattle.lq_refined_types.specs.Types.Operations.{symbol_of}
use Rattle.lq_sound_values.specs.Inclusion.Symbols.{Symbols, with_symbol}
use Rattle.lq_refined_templates.specs.Points.Annotation.{Annotation, arguments_at}

-- a name with types for variables is one of these
abbrev pub IsInstanceOf : Symbols → ℕ → Option MlTypes → Type 0
IsInstanceOf G x None = Unit {0}
IsInstanceOf G x (Some ts) = G (symbol_of x) ≡ true

module _ (n : Annotation) where
  abbrev pub LeafIsOf : Symbols → ℕ → Leaf → Type 0
  LeafIsOf G i (shape.use_of x) = IsInstanceOf G x (arguments_at n i x)
  LeafIsOf G i h = Unit {0}

  abbrev pub using : Symbols → Algebra (Type 0)
  using G = record {
    leaf = λ t h. LeafIsOf G (number_of t) h;
    one = λ t h a. a;
    two = λ t h a b. a × b;
    three = λ t h a b c. a × b × c;
    row = λ t h as_. Each as_;
    function = λ t q b. b;
    let_in = λ t q e b. e × b;
    let_rec = λ t f i p q e b. e × b;
    match_on = λ t e as_. e × EachBody as_;
  }

  -- so is each use in a tree
  abbrev pub TreeUses : Symbols → Tree → Type 0
  TreeUses G = fold (using G)

  abbrev pub ItemUses : Symbols → ItemForm → Type 0
  ItemUses G (type_of d) = Unit {0}
  ItemUses G (let_of q e) = TreeUses G e
  ItemUses G (let_rec_of f r) = TreeUses G r.body

-- these names and the one that the pattern is, if it is one
abbrev pub with_pattern : Symbols → Pattern → Symbols
with_pattern G (pattern l (bind x)) = with_symbol G (symbol_of x)
with_pattern G (pattern l f) = G

-- these names and the one that the item defines, if it defines one
abbrev pub with_item : Symbols → ItemForm → Symbols
with_item G (type_of d) = G
with_item G (let_of q e) = with_pattern G q
with_item G (let_rec_of f r) = with_symbol G (symbol_of f)

-- item by item, with the names that were defined before
abbrev pub ItemsUseBefore : Annotation → Symbols → List ItemTree → Type 0
ItemsUseBefore n G [] = Unit {0}
ItemsUseBefore n G (i ∷ is) = ItemUses n G i.form × ItemsUseBefore n (with_item G i.form) is
