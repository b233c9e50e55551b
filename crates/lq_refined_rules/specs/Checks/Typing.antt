-- When normal trees are simply typed, and when templates are of the points' simple types.
use Rattle.std.specs.Prelude.{◌≡◌, ℕ, ℤ, Bool, true, ◌==◌, cond, List, [], ◌∷◌, length, Option, Some, None}
use Rattle.lq_base_names.specs.declared.operation.CompareOp.{CompareOp}
use Rattle.lq_base_names.specs.declared.place.Place.{Place}
use Rattle.lq_refined_types.specs.Types.Refined.{erased, all_erased}
use Rattle.lq_text_tree.specs.MlType.{MlType, int, bool, unit, var, arrow, array, named, map_of, MlTypes, no_types, more_types}
use Rattle.lq_text_tree.specs.MlType as ml
use Rattle.lq_text_tree.specs.Types as types
use Rattle.lq_text_tree.specs.Types.{Constructor, put, put_all, count_types}
use Rattle.lq_refined_rules.specs.Checks.Basis.{Basis}
use Rattle.lq_refined_rules.specs.Checks.Tree as t
use Rattle.lq_refined_rules.specs.Checks.Tree.{has_template, Use, Pure, Pattern, pattern_any, pattern_name, pattern_unit, pattern_tuple, pattern_build, Operation, Block, Arms, no_arms, arm, Program}

-- the simple types of points, and those for the type variables of uses
pub record Points : Type 0 where
  pub point : ℕ → MlType
  pub type_arguments : ℕ → MlTypes

pub record AreTemplates (P : Basis) (Q : Points) : Type 0 where
  pub templates : (p : ℕ) → erased (P.template p) ≡ Q.point p
  pub type_arguments : (i : ℕ) → all_erased (P.type_arguments i) ≡ Q.type_arguments i

-- names with their types, in which the last comes first
abbrev pub Types : Type 0
Types = List (ℕ × MlType)

abbrev pub simple_type_in : Types → ℕ → MlType
simple_type_in [] x = unit
simple_type_in (n ∷ Δ) x = cond (n.0 == x) n.1 (simple_type_in Δ x)

abbrev pub instance_of : Points → Option ℕ → MlType → MlType
instance_of Q None a = a
instance_of Q (Some i) a = put (types.type_at (Q.type_arguments i)) a

abbrev pub type_of_use : Points → Types → Use → MlType
type_of_use Q Δ u = instance_of Q u.type_arguments (simple_type_in Δ u.name)

abbrev pub first_type : MlTypes → MlType
first_type no_types = unit
first_type (more_types a rest) = a

abbrev pub rest_types : MlTypes → MlTypes
rest_types no_types = no_types
rest_types (more_types a rest) = rest

abbrev pub with_types : List ℕ → MlTypes → Types → Types
with_types [] us Δ = Δ
with_types (x ∷ xs) us Δ = with_types xs (rest_types us) ((x, first_type us) ∷ Δ)

-- the types of a constructor's fields where its datatype has these arguments
abbrev pub fields_at : MlTypes → Constructor → MlTypes
fields_at us k = put_all (types.type_at us) k.fields

pub data HasPure (Q : Points) (Δ : Types) : Pure → MlType → Type 0 where
  has_whole : {n : ℤ} → HasPure Q Δ (t.whole n) int
  has_flag : {b : Bool} → HasPure Q Δ (t.flag b) bool
  has_unit : HasPure Q Δ t.unit unit
  has_use : {u : Use} → HasPure Q Δ (t.use_of u) (type_of_use Q Δ u)
  has_negated : {a : Pure} → HasPure Q Δ a int → HasPure Q Δ (t.negated a) int
  has_add : {a b : Pure} → HasPure Q Δ a int → HasPure Q Δ b int → HasPure Q Δ (t.add a b) int
  has_subtract : {a b : Pure} → HasPure Q Δ a int → HasPure Q Δ b int → HasPure Q Δ (t.subtract a b) int
  has_multiply : {a b : Pure} → HasPure Q Δ a int → HasPure Q Δ b int → HasPure Q Δ (t.multiply a b) int
  has_length : {a : Pure} {u : MlType} → HasPure Q Δ a (array u) → HasPure Q Δ (t.length_of a) int
  has_compare : {o : CompareOp} {a b : Pure} → HasPure Q Δ a int → HasPure Q Δ b int → HasPure Q Δ (t.compare o a b) bool
  has_not : {a : Pure} → HasPure Q Δ a bool → HasPure Q Δ (t.not_of a) bool
  has_and : {a b : Pure} → HasPure Q Δ a bool → HasPure Q Δ b bool → HasPure Q Δ (t.and_of a b) bool
  has_or : {a b : Pure} → HasPure Q Δ a bool → HasPure Q Δ b bool → HasPure Q Δ (t.or_of a b) bool

pub data HavePures (Q : Points) (Δ : Types) : List Pure → MlTypes → Type 0 where
  have_none : HavePures Q Δ [] no_types
  have_more : {e : Pure} {es : List Pure} {u : MlType} {us : MlTypes} → HasPure Q Δ e u → HavePures Q Δ es us
      → HavePures Q Δ (e ∷ es) (more_types u us)

-- a pattern takes values of the type, and its names have types so
pub data HasPattern (P : Basis) : Types → MlType → Pattern → Types → Type 0 where
  has_any : {Δ : Types} {a : MlType} → HasPattern P Δ a pattern_any Δ
  has_name : {Δ : Types} {a : MlType} {x : ℕ} → HasPattern P Δ a (pattern_name x) ((x, a) ∷ Δ)
  has_nothing : {Δ : Types} → HasPattern P Δ unit pattern_unit Δ
  has_components : {Δ : Types} {us : MlTypes} {xs : List ℕ} → length xs ≡ count_types us
      → HasPattern P Δ (ml.tuple us) (pattern_tuple xs) (with_types xs us Δ)
  has_fields : {Δ : Types} {c : ℕ} {k : Constructor} {us : MlTypes} {xs : List ℕ} → P.setting.constructors c ≡ Some k
      → count_types us ≡ k.parameters → length xs ≡ count_types k.fields
      → HasPattern P Δ (named k.datatype us) (pattern_build c xs) (with_types xs (fields_at us k) Δ)

-- a function, a conditional or a match that is bound, or of which no type is expected, has a template, and so a point of its type
abbrev pub IsPointed : Points → Operation → MlType → Type 0
IsPointed Q (t.fun p y b) a = Q.point p ≡ a
IsPointed Q (t.if_else p e b c) a = Q.point p ≡ a
IsPointed Q (t.match_on p u arms) a = Q.point p ≡ a
IsPointed Q _ a = Unit {0}

mutual
  pub data HasOperation (P : Basis) (Q : Points) : Types → Operation → MlType → Type 0 where
    has_pure : {Δ : Types} {e : Pure} {a : MlType} → HasPure Q Δ e a → HasOperation P Q Δ (t.pure e) a
    has_fun : {Δ : Types} {p y : ℕ} {b : Block} {a c : MlType} → HasBlock P Q ((y, a) ∷ Δ) b c
        → HasOperation P Q Δ (t.fun p y b) (arrow a c)
    has_if : {Δ : Types} {p : ℕ} {e : Pure} {b c : Block} {a : MlType} → HasPure Q Δ e bool → HasBlock P Q Δ b a
        → HasBlock P Q Δ c a → HasOperation P Q Δ (t.if_else p e b c) a
    has_match : {Δ : Types} {p : ℕ} {u : Use} {arms : Arms} {a : MlType}
        → HaveArms P Q Δ (type_of_use Q Δ u) arms a → HasOperation P Q Δ (t.match_on p u arms) a
    has_call : {Δ : Types} {f e : Pure} {a b : MlType} → HasPure Q Δ f (arrow a b) → HasPure Q Δ e a → HasOperation P Q Δ (t.call f e) b
    has_tuple : {Δ : Types} {es : List Pure} {us : MlTypes} → HavePures Q Δ es us → HasOperation P Q Δ (t.tuple es) (ml.tuple us)
    has_build : {Δ : Types} {p c : ℕ} {es : List Pure} {k : Constructor} {us : MlTypes} → P.setting.constructors c ≡ Some k
        → count_types us ≡ k.parameters → Q.point p ≡ named k.datatype us → HavePures Q Δ es (fields_at us k)
        → HasOperation P Q Δ (t.build p c es) (named k.datatype us)
    has_make : {Δ : Types} {p : ℕ} {n e : Pure} {a : MlType} → Q.point p ≡ a → HasPure Q Δ n int → HasPure Q Δ e a
        → HasOperation P Q Δ (t.make p n e) (array a)
    has_fetch : {Δ : Types} {u : Use} {i : Pure} {a : MlType} → type_of_use Q Δ u ≡ array a → HasPure Q Δ i int
        → HasOperation P Q Δ (t.fetch u i) a
    has_store : {Δ : Types} {u : Use} {i e : Pure} {a : MlType} → type_of_use Q Δ u ≡ array a → HasPure Q Δ i int → HasPure Q Δ e a
        → HasOperation P Q Δ (t.store u i e) unit
    has_divide : {Δ : Types} {x y : Pure} → HasPure Q Δ x int → HasPure Q Δ y int → HasOperation P Q Δ (t.divide x y) int
    has_remainder : {Δ : Types} {x y : Pure} → HasPure Q Δ x int → HasPure Q Δ y int → HasOperation P Q Δ (t.remainder x y) int
    has_assert : {Δ : Types} {e : Pure} → HasPure Q Δ e bool → HasOperation P Q Δ (t.assert e) unit
    has_assert_false : {Δ : Types} {p : ℕ} {a : MlType} → Q.point p ≡ a → HasOperation P Q Δ (t.assert_false p) a
    has_read : {Δ : Types} {e : Pure} → HasPure Q Δ e unit → HasOperation P Q Δ (t.read e) int
    has_print : {Δ : Types} {e : Pure} → HasPure Q Δ e int → HasOperation P Q Δ (t.print e) unit
    has_map_empty : {Δ : Types} {p : ℕ} {a : MlType} → Q.point p ≡ a → HasOperation P Q Δ (t.map_empty p) (map_of a)
    has_map_add : {Δ : Types} {p : ℕ} {k e m : Pure} {a : MlType} → Q.point p ≡ map_of a → HasPure Q Δ k int → HasPure Q Δ e a
        → HasPure Q Δ m (map_of a) → HasOperation P Q Δ (t.map_add p k e m) (map_of a)
    has_map_find : {Δ : Types} {k m : Pure} {a : MlType} → HasPure Q Δ k int → HasPure Q Δ m (map_of a)
        → HasOperation P Q Δ (t.map_find k m) (named 5 (more_types a no_types))

  pub data HasBlock (P : Basis) (Q : Points) : Types → Block → MlType → Type 0 where
    has_last : {Δ : Types} {l : Place} {o : Operation} {a : MlType} → HasOperation P Q Δ o a → HasBlock P Q Δ (t.last l o) a
    has_binding : {Δ : Types} {x : ℕ} {l : Place} {o : Operation} {b : Block} {a c : MlType} → HasOperation P Q Δ o a
        → IsPointed Q o a → HasBlock P Q ((x, a) ∷ Δ) b c → HasBlock P Q Δ (t.binding x l o b) c
    has_recursive : {Δ : Types} {g p y : ℕ} {b c : Block} {a : MlType} → HasRecursive P Q Δ g p y b
        → HasBlock P Q ((g, Q.point p) ∷ Δ) c a → HasBlock P Q Δ (t.recursive g p y b c) a

  pub data HasRecursive (P : Basis) (Q : Points) : Types → ℕ → ℕ → ℕ → Block → Type 0 where
    has_body : {Δ : Types} {g p y : ℕ} {b : Block} {a c : MlType} → Q.point p ≡ arrow a c
        → HasBlock P Q ((y, a) ∷ (g, Q.point p) ∷ Δ) b c → HasRecursive P Q Δ g p y b

  pub data HaveArms (P : Basis) (Q : Points) : Types → MlType → Arms → MlType → Type 0 where
    have_no_arms : {Δ : Types} {a c : MlType} → HaveArms P Q Δ a no_arms c
    have_arm : {Δ Θ : Types} {a c : MlType} {q : Pattern} {b : Block} {arms : Arms} → HasPattern P Δ a q Θ → HasBlock P Q Θ b c
        → HaveArms P Q Δ a arms c → HaveArms P Q Δ a (arm q b arms) c

-- a block with the types of the names at its end
pub data HasEnd (P : Basis) (Q : Points) : Types → Block → Types → MlType → Type 0 where
  end_last : {Δ : Types} {l : Place} {o : Operation} {a : MlType} → HasOperation P Q Δ o a → IsPointed Q o a
      → HasEnd P Q Δ (t.last l o) Δ a
  end_binding : {Δ Θ : Types} {x : ℕ} {l : Place} {o : Operation} {b : Block} {a c : MlType} → HasOperation P Q Δ o a
      → IsPointed Q o a → HasEnd P Q ((x, a) ∷ Δ) b Θ c → HasEnd P Q Δ (t.binding x l o b) Θ c
  end_recursive : {Δ Θ : Types} {g p y : ℕ} {b c : Block} {a : MlType} → HasRecursive P Q Δ g p y b
      → HasEnd P Q ((g, Q.point p) ∷ Δ) c Θ a → HasEnd P Q Δ (t.recursive g p y b c) Θ a

pub data HasProgram (P : Basis) (Q : Points) : Types → Program → Type 0 where
  has_no_items : {Δ : Types} → HasProgram P Q Δ t.no_items
  has_define : {Δ Θ : Types} {x k : ℕ} {l : Place} {b : Block} {rest : Program} {a : MlType}
      → (has_template b ≡ true → Q.point k ≡ a) → HasEnd P Q Δ b Θ a
      → HasProgram P Q ((x, a) ∷ Θ) rest → HasProgram P Q Δ (t.define x l k b rest)
  has_define_recursive : {Δ : Types} {g p y : ℕ} {b : Block} {rest : Program} → HasRecursive P Q Δ g p y b
      → HasProgram P Q ((g, Q.point p) ∷ Δ) rest → HasProgram P Q Δ (t.define_recursive g p y b rest)
  has_run_unit : {Δ : Types} {b : Block} {rest : Program} → HasBlock P Q Δ b unit → HasProgram P Q Δ rest
      → HasProgram P Q Δ (t.run_unit b rest)
  has_run_any : {Δ Θ : Types} {b : Block} {rest : Program} {a : MlType} → HasEnd P Q Δ b Θ a → HasProgram P Q Δ rest
      → HasProgram P Q Δ (t.run_any b rest)
