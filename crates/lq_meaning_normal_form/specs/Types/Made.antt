-- The types of made names by those of the nodes of the source: each made name with the type of what it is bound to, in their order.
use Rattle.std.specs.Prelude.{◌≡◌, ℕ, ◌+◌, ◌==◌, nat_lt, ◌&&◌, if◌then◌else◌, List, [], ◌∷◌, ◌++◌, Option, Some, None}
use Rattle.lq_text_tree.specs.MlType as ml
use Rattle.lq_text_tree.specs.MlType.{MlType, MlTypes}
use Rattle.lq_text_tree.specs.Pattern.{Pattern, pattern, PatternForm, any, bind, nothing, tuple_of, build_of, Patterns, no_patterns, more_patterns}
use Rattle.lq_text_tree.specs.Tree as form
use Rattle.lq_text_tree.specs.Tree.{Tree, tree, Form, Trees, no_trees, more_trees, Cases, no_cases, more_cases}
use Rattle.lq_text_tree.specs.Types.{Signature, Constructor, put_all, type_at}
use Rattle.lq_text_tree.specs.TypingRules.{Annotation}
use Rattle.lq_base_names.specs.declared.place.Place.{Place}
use Rattle.lq_meaning_normal_form.specs.Outcomes.Naming.{is_pure, stands, is_use, id_of, behind, named_part, named_pattern}
use Rattle.lq_meaning_normal_form.specs.Outcomes.OnePass.{Normal, as_operand, as_scrutinee, list_of_atoms, normal, all_items}

-- names with their types
abbrev pub Given : Type 0
Given = List (ℕ × MlType)

-- the annotation gives each name its type
abbrev pub Gives : Annotation → Given → Type 0
Gives n [] = Unit {0}
Gives n (x ∷ xs) = (n.binders x.0 ≡ x.1) × Gives n xs

-- the names are those from the one number on, in their order, up to the other
abbrev pub Runs : ℕ → Given → ℕ → Type 0
Runs k [] m = m ≡ k
Runs k (x ∷ xs) m = (x.0 ≡ k) × Runs (k + 1) xs m

-- the type of a name among these
abbrev pub look : Given → ℕ → MlType
look [] x = ml.unit
look (y ∷ ys) x = if y.0 == x then y.1 else look ys x

-- an annotation with these types for the names from a number on
abbrev pub with_made : ℕ → Given → Annotation → Annotation
with_made k xs n = record { nodes = n.nodes; binders = λ x. if nat_lt x k then n.binders x else look xs x }

-- ---- patterns

abbrev pub fields_of : Option Constructor → MlTypes → MlTypes
fields_of None us = ml.no_types
fields_of (Some k) us = put_all (type_at us) k.fields

-- the types of a value's components, and of the fields of a value that a constructor makes
abbrev pub components : MlType → MlTypes
components (ml.tuple ts) = ts
components _ = ml.no_types

abbrev pub fields_at : Option Constructor → MlType → MlTypes
fields_at k (ml.named d us) = fields_of k us
fields_at k _ = ml.no_types

module _ (g : Signature) where
  -- the made names of a pattern's parts for values of the type
  abbrev mutual
    pub part_made : ℕ → Pattern → MlType → Given
    part_made k (pattern p f) a = part_form_made k f a

    pub part_form_made : ℕ → PatternForm → MlType → Given
    part_form_made k any a = (k, a) ∷ []
    part_form_made k (bind x) a = []
    part_form_made k nothing a = []
    part_form_made k (tuple_of qs) a = parts_made k qs (components a)
    part_form_made k (build_of c m qs) a = parts_made k qs (fields_at (g c) a)

    pub parts_made : ℕ → Patterns → MlTypes → Given
    parts_made k no_patterns ts = []
    parts_made k (more_patterns q qs) ml.no_types = part_made k q ml.unit ++ parts_made (named_part k q).next qs ml.no_types
    parts_made k (more_patterns q qs) (ml.more_types a ts) = part_made k q a ++ parts_made (named_part k q).next qs ts

  -- those of an arm's pattern: a `_` that is the whole of it is none
  abbrev pub pattern_made : ℕ → Pattern → MlType → Given
  pattern_made k (pattern p any) a = []
  pattern_made k (pattern p f) a = part_form_made k f a

  -- a parameter that is no name
  abbrev pub parameter_made : ℕ → Pattern → MlType → Given
  parameter_made k (pattern p (bind x)) a = []
  parameter_made k (pattern p f) a = (k, a) ∷ pattern_made (k + 1) (pattern p f) a

-- ---- trees

-- the type of a function's argument
abbrev pub domain : MlType → MlType
domain (ml.arrow a b) = a
domain a = a

module _ (g : Signature) (nodes : ℕ → MlType) where
  -- what a tree became is bound to the next made name
  abbrev pub bound_made : Tree → Normal → Given
  bound_made t N = (N.next, nodes (id_of t)) ∷ []

  abbrev pub operand_made : Tree → Normal → Given
  operand_made t N = if stands t then [] else bound_made t N

  abbrev pub scrutinee_made : Tree → Normal → Given
  scrutinee_made t N = if is_use t then [] else bound_made t N

  -- the cells of a list literal
  abbrev pub cells_made : ℕ → Place → ℕ → Trees → Given
  cells_made i p k no_trees = []
  cells_made i p k (more_trees x xs) = cells_made i p k xs ++ ((list_of_atoms i p k xs).next, nodes i) ∷ []

  abbrev mutual
    pub made : ℕ → Tree → Given
    made k (tree i p f) = made_in k i p f

    -- a tree as an operand
    pub made_operand : ℕ → Tree → Given
    made_operand k (tree i p f) = made_in k i p f ++ operand_made (tree i p f) (normal k (tree i p f))

    pub made_in : ℕ → ℕ → Place → Form → Given
    made_in k i p (form.fun q b) = parameter_made g k q (domain (nodes i)) ++ made (behind k q) b
    made_in k i p (form.let_in q e b) =
        let E = normal k e in made k e ++ (parameter_made g E.next q (nodes (id_of e)) ++ made (behind E.next q) b)
    made_in k i p (form.let_rec f j r q b e) =
        parameter_made g k q (domain (nodes j)) ++ (made (behind k q) b ++ made (normal (behind k q) b).next e)
    made_in k i p (form.tuple es) = all_made k es
    made_in k i p (form.build c w es) = all_made k es
    made_in k i p (form.list_of es) = let Q = all_items k es in items_made k es ++ cells_made i p Q.next Q.atoms
    made_in k i p (form.negated e) = made_operand k e
    made_in k i p (form.not_of e) = made_operand k e
    made_in k i p (form.length_of e) = made_operand k e
    made_in k i p (form.assert e) = made_operand k e
    made_in k i p (form.print e) = made_operand k e
    made_in k i p (form.read e) = made_operand k e
    made_in k i p (form.call a b) = made_operand k a ++ made_operand (as_operand a (normal k a)).next b
    made_in k i p (form.arithmetic o a b) = made_operand k a ++ made_operand (as_operand a (normal k a)).next b
    made_in k i p (form.compare o a b) = made_operand k a ++ made_operand (as_operand a (normal k a)).next b
    made_in k i p (form.make a b) = made_operand k a ++ made_operand (as_operand a (normal k a)).next b
    made_in k i p (form.fetch a b) = made_operand k a ++ made_operand (as_operand a (normal k a)).next b
    made_in k i p (form.and_of a b) =
        if is_pure a && is_pure b then [] else made_operand k a ++ made (as_operand a (normal k a)).next b
    made_in k i p (form.or_of a b) =
        if is_pure a && is_pure b then [] else made_operand k a ++ made (as_operand a (normal k a)).next b
    made_in k i p (form.store a m e) =
        let A = as_operand a (normal k a) in let M = as_operand m (normal A.next m) in
        made_operand k a ++ (made_operand A.next m ++ made_operand M.next e)
    made_in k i p (form.if_else c a b) =
        let C = as_operand c (normal k c) in made_operand k c ++ (made C.next a ++ made (normal C.next a).next b)
    made_in k i p (form.match_on e cs) =
        let E = as_scrutinee e (normal k e) in
        (made k e ++ scrutinee_made e (normal k e)) ++ cases_made E.next (nodes (id_of e)) cs
    made_in k i p (form.chain (more_trees e es)) = made k e ++ rest_made (normal k e).next (nodes (id_of e)) es
    made_in k i p f = []

    pub all_made : ℕ → Trees → Given
    all_made k no_trees = []
    all_made k (more_trees e es) = made_operand k e ++ all_made (as_operand e (normal k e)).next es

    -- the items of a list literal, bound also where they are pure
    pub items_made : ℕ → Trees → Given
    items_made k no_trees = []
    items_made k (more_trees e es) = let E = normal k e in (made k e ++ bound_made e E) ++ items_made (E.next + 1) es

    -- what is left of a chain behind a part of this type, which is bound to this name
    pub rest_made : ℕ → MlType → Trees → Given
    rest_made k a no_trees = []
    rest_made k a (more_trees e es) = (k, a) ∷ (made (k + 1) e ++ rest_made (normal (k + 1) e).next (nodes (id_of e)) es)

    -- arms for values of the type
    pub cases_made : ℕ → MlType → Cases → Given
    cases_made k a no_cases = []
    cases_made k a (more_cases q b cs) =
        let Q = named_pattern k q in pattern_made g k q a ++ (made Q.next b ++ cases_made (normal Q.next b).next a cs)
