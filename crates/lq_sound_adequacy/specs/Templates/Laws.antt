-- The templates of points are well sorted.
use Rattle.std.specs.Prelude.{◌≡◌, ℕ, Bool, true, List, [], ◌∷◌}
use Rattle.lq_refined_rules.specs.Checks.Binders.{binders, block_binders}
use Rattle.lq_sound_scope.specs.Scopes.Over.{kind_of, unknown_in}
use Rattle.lq_meaning_normal_form.specs.Types.Programs.{NormalItemsAre}
use Rattle.lq_meaning_normal_form.specs.Types.Typing.{typing_of, used_by}
use Rattle.lq_refined_templates.specs.Points.Annotation.{Annotation}
use Rattle.lq_refined_templates.specs.Points.Point.{Point}
use Rattle.lq_refined_templates.specs.Points.Reading.{block_of, program_of}
use Rattle.lq_refined_templates.specs.Points.Seen.{Seen}
use Rattle.lq_refined_templates.specs.Points.Templates.{Datatypes, basis_of, unknowns_of}
use Rattle.lq_sound_readiness.specs.Reading.Laws.{types_of}
use Rattle.lq_sound_readiness.specs.Reading.Normal.{AreNormal, IsBlock}
use Rattle.lq_refined_types.specs.Types.Operations.{symbol_of}
use Rattle.lq_text_qualifiers.specs.Faults.Shapes.{shape_of}
use Rattle.lq_text_tree.specs.Items.{ItemTree}
use Rattle.lq_text_tree.specs.Tree.{Tree}
use Rattle.lq_text_tree.specs.Types.{Names}
use Rattle.lq_sound_scope.specs.Sorts.Sorts.{Sorts}
use Rattle.lq_sound_scope.specs.Sorts.Types.{TypeSorted, TypesSorted}
use Rattle.lq_sound_adequacy.specs.Templates.Points.{PointsSorted}

-- Where the scopes of points and their names of arguments have their sorts among names, the templates of the points, and the types for type variables,
-- are well sorted over the names.
abbrev pub TemplatesAreSorted : Type 0
TemplatesAreSorted =
    (D : Datatypes) (ps : List Point) (N : Sorts) → PointsSorted N ps → (k : ℕ)
    → let P = basis_of D ps in
    TypeSorted D.constructors (unknown_in (unknowns_of D ps)) N (P.template k) × TypesSorted D.constructors (unknown_in (unknowns_of D ps)) N (P.type_arguments k)

-- each of these names is so
abbrev pub EachName : (ℕ → Bool) → List ℕ → Type 0
EachName M [] = Unit {0}
EachName M (x ∷ xs) = (M x ≡ true) × EachName M xs

-- and so is each name that is visible
abbrev pub EachSeen : (ℕ → Bool) → List Seen → Type 0
EachSeen M [] = Unit {0}
EachSeen M (s ∷ Δ) = (M s.name ≡ true) × EachSeen M Δ

-- each name that is so stands for values of the kind of its type
abbrev pub HaveNameKinds : Annotation → (ℕ → Bool) → Sorts → Type 0
HaveNameKinds n M N = (x : ℕ) → M x ≡ true → N (kind_of (shape_of (n.names x))) (symbol_of x) ≡ true

-- The points of a block in normal form that obeys the rules of types are sorted among the names, where those that it binds, and those that are visible,
-- stand for values of the kinds of their types.
abbrev pub PointsAreSorted : Type 0
PointsAreSorted =
    (D : Datatypes) (n : Annotation) (M : ℕ → Bool) (N : Sorts) → HaveNameKinds n M N → (ns : Names) (e : Tree) → IsBlock e
    → (typing_of D.constructors (types_of n) (used_by (types_of n) ns) e).obeys
    → (g : Bool) (k : ℕ) (Δ : List Seen) → EachSeen M Δ → EachName M (block_binders (block_of n g k Δ e).read) → PointsSorted N (block_of n g k Δ e).points

-- So are the points of a program in normal form, where the names that it binds do.
abbrev pub ProgramPointsAreSorted : Type 0
ProgramPointsAreSorted =
    (D : Datatypes) (n : Annotation) (M : ℕ → Bool) (N : Sorts) → HaveNameKinds n M N → (is : List ItemTree) → AreNormal is
    → NormalItemsAre D.constructors (types_of n) [] is → EachName M (binders (program_of n is).read) → PointsSorted N (program_of n is).points
