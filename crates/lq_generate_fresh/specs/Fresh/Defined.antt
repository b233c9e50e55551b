-- The constructors of the predeclared datatypes and of those that a program defines.
use Rattle.std.specs.Prelude.{◌≡◌, ℕ, Bool, false, ◌==◌, List, [], ◌∷◌, ◌++◌, map}
use Rattle.std.specs.List.{filter, IsDistinct}
use Rattle.lq_text_walk.specs.Scoped.Signature.{DataTree, constructors_in}
use Rattle.lq_text_tree.specs.MlType as ml
use Rattle.lq_text_tree.specs.MlType.{MlType}
use Rattle.lq_text_tree.specs.Signatures.{predeclared}
use Rattle.lq_text_tree.specs.Types.{Constructor}
use Rattle.lq_generate_fresh.specs.Fresh.Fields.{AreFields, Field}
use Rattle.lq_generate_fresh.specs.Fresh.Views.{constructors_of}
use Rattle.lq_generate_fresh.specs.declared.fresh.fields.Datatypes.{Datatypes}

-- all constructors where these datatypes are defined, in the order of their definition
abbrev pub all_constructors : List DataTree → List (ℕ × Constructor)
all_constructors ds = predeclared ++ constructors_in ds

-- those of a datatype
abbrev pub made_by : ℕ → List (ℕ × Constructor) → List (ℕ × Constructor)
made_by d = filter (λ k. k.1.datatype == d)

abbrev pub names_of : List (ℕ × Constructor) → List ℕ
names_of = map (λ k. k.0)

-- the names of a datatype's constructors in the order of their definition
abbrev pub ordered_in : List DataTree → ℕ → List ℕ
ordered_in ds d = names_of (made_by d (all_constructors ds))

-- no two constructors have one name
abbrev pub ConstructorsDiffer : List DataTree → Type 0
ConstructorsDiffer ds = IsDistinct (λ a b. a == b) (names_of (all_constructors ds))

-- ---- what is known of constructors, whether their names differ or not

-- of the fields of these constructors of a datatype, in their order
abbrev pub AreKnown : ℕ → List (ℕ × Constructor) → List (ℕ × List Field) → Type 0
AreKnown d [] [] = Unit {0}
AreKnown d (k ∷ ks) (x ∷ xs) = (x.0 ≡ k.0) × AreFields d k.1.fields x.1 × AreKnown d ks xs
AreKnown d [] (x ∷ xs) = ⊥
AreKnown d (k ∷ ks) [] = ⊥

-- each datatype has its own among these constructors
abbrev pub Holds : Datatypes → List (ℕ × Constructor) → Type 0
Holds D ks = (d : ℕ) → AreKnown d (made_by d ks) (constructors_of D d)

-- the variable of this number
abbrev pub is_variable : ℕ → MlType → Bool
is_variable i (ml.var j) = i == j
is_variable i ml.int = false
is_variable i ml.bool = false
is_variable i ml.unit = false
is_variable i (ml.arrow a b) = false
is_variable i (ml.tuple ts) = false
is_variable i (ml.array a) = false
is_variable i (ml.named d ts) = false
is_variable i (ml.map_of a) = false
