-- The templates of scalar types.
use Rattle.std.proofs.Common.{ℕ, suc, ◌+◌, Bool, true, false, cond, List, [], ◌∷◌, length, Some, None, refl, sym, subst}
use Rattle.lq_refined_rules.specs.Checks.Operation.{empty_type}
use Rattle.lq_refined_instances.specs.Scopes.{Scope}
use Rattle.lq_sound_values.specs.NewNames.NewNames.{HaveNoNames}
use Rattle.lq_refined_types.specs.Parts.Part.{Parts}
use Rattle.lq_refined_templates.specs.Points.Annotation.{Annotation, argument_name, is_spoken_of}
use Rattle.lq_refined_templates.specs.Points.Reading.{block_of, written_names}
use Rattle.lq_refined_templates.specs.Points.Seen.{Seen, seen}
use Rattle.lq_refined_templates.specs.Points.Templates.{Datatypes, all_emptied, all_plain, made_constant, plain}
use Rattle.lq_sound_readiness.specs.Reading.Normal.{is_name, IsPure, pure_whole, pure_flag, pure_unit, pure_use, pure_arithmetic, pure_negated, pure_compare, pure_not, pure_and, pure_or, pure_length, ring_add, ring_subtract, ring_multiply, IsBlock, block_let, block_let_rec, block_operation, IsOperation, is_pure, is_fun, is_if, is_match, is_tuple, is_build, is_call, is_quotient, is_remainder, is_assert, is_assert_false, is_make, is_fetch, is_store, is_print, is_read}
use Rattle.lq_refined_types.specs.Types.Refined.{Matrix, Refined, int_with, bool_with, unit_type, function, tuple_of, array_with, data_with, map_with, type_variable, with_top, all_erased}
use Rattle.lq_logic_predicates.specs.declared.symbol.Symbol.TheVariants.{Position}
use Rattle.lq_sound_scope.proofs.ScopesLemmas.Made.{arguments_erased}
use Rattle.lq_sound_scope.proofs.ScopesLemmas.Points.{all_emptied_erased}
use Rattle.lq_sound_scope.proofs.MatricesLemmas.Variables.{AreSpoken, Spoken, constructors_spoken, is_spoken, no_entry, own_spoken}
use Rattle.lq_refined_templates.specs.Templates.Cells.{constructor_cells, one_unknown}
use Rattle.lq_refined_templates.specs.Templates.Fresh.{Made, arguments, components, fresh, inside, topped}
use Rattle.lq_refined_templates.specs.Templates.Laws.{TemplatesErase}
use Rattle.lq_refined_templates.specs.Templates.Scopes as scopes
use Rattle.lq_refined_templates.specs.Templates.Scopes.{Unknown, with_argument, with_position}
use Rattle.lq_text_qualifiers.specs.Faults.Shapes.{Shape, int, bool, array, data_of, other, shape_of}
use Rattle.lq_text_tree.specs.MlType as ml
use Rattle.lq_text_tree.specs.MlType.{MlType, MlTypes}
use Rattle.lq_text_tree.specs.Tree.{Tree}
use Rattle.lq_text_tree.specs.Types.{Signature, type_at}
use Rattle.lq_sound_scope.specs.Scalars.Written.{AreScalar, IsNameless, IsNamedBy, IsFunctionFor, IsBlockFor, LackEntries}
use Rattle.lq_sound_scope.proofs.ScalarsLemmas.Fields.{no_entries}

named_by : (n : Annotation) (x : ℕ) → IsNamedBy x (argument_name n x)
named_by n x = by (is_spoken_of n x)
  where
    by : (b : Bool) → IsNamedBy x (cond b (Some x) None)
    by true = refl
    by false = tt

-- ---- matrices

-- an entry is made where predicates speak of the argument alone
lacking : (V : ℕ → Bool) (m : Matrix) → Spoken V m → (i : ℕ) (us : MlTypes) → AreSpoken V i us → LackEntries m i us
lacking V m s i ml.no_types h = tt
lacking V m s i (ml.more_types ml.int us) h = (tt, lacking V m s (suc i) us h.1)
lacking V m s i (ml.more_types ml.bool us) h = (tt, lacking V m s (suc i) us h.1)
lacking V m s i (ml.more_types ml.unit us) h = (tt, lacking V m s (suc i) us h.1)
lacking V m s i (ml.more_types (ml.var a) us) h = ((λ c j. no_entry V m c j i s h.0), lacking V m s (suc i) us h.1)
lacking V m s i (ml.more_types (ml.arrow a b) us) h = (tt, lacking V m s (suc i) us h.1)
lacking V m s i (ml.more_types (ml.tuple ts) us) h = (tt, lacking V m s (suc i) us h.1)
lacking V m s i (ml.more_types (ml.array a) us) h = (tt, lacking V m s (suc i) us h.1)
lacking V m s i (ml.more_types (ml.named d ts) us) h = (tt, lacking V m s (suc i) us h.1)
lacking V m s i (ml.more_types (ml.map_of a) us) h = (tt, lacking V m s (suc i) us h.1)

matrix_lacks : (g : Signature) (n d : ℕ) (us : MlTypes) (cs : List ℕ) → LackEntries (constructor_cells g n d us cs).matrix 0 us
matrix_lacks g n d us cs =
    let V = λ (i : ℕ). is_spoken (shape_of (type_at us i)) in
    lacking V (constructor_cells g n d us cs).matrix (constructors_spoken V g n d us cs (own_spoken us)) 0 us (own_spoken us)

nothing_known : ℕ → Unknown
nothing_known u = ([], other)

module _ (erases : TemplatesErase) where
  -- ---- tops

  nameless_with : (q : Parts) (t : Refined) → IsNameless t → IsNameless (with_top q t)
  nameless_with q (int_with p) h = h
  nameless_with q (bool_with p) h = h
  nameless_with q unit_type h = h
  nameless_with q (function x a b) h = h
  nameless_with q (tuple_of ts) h = h
  nameless_with q (array_with e p) h = h
  nameless_with q (data_with d ts m p) h = h
  nameless_with q (map_with e p) h = h
  nameless_with q (type_variable i) h = h

  topped_nameless : (n : ℕ) (Δ : Scope) (s : Shape) (m : Made) → IsNameless m.type → IsNameless (topped n Δ s m).type
  topped_nameless n Δ int m h = nameless_with (one_unknown (n + length m.unknowns)) m.type h
  topped_nameless n Δ bool m h = nameless_with (one_unknown (n + length m.unknowns)) m.type h
  topped_nameless n Δ array m h = nameless_with (one_unknown (n + length m.unknowns)) m.type h
  topped_nameless n Δ (data_of d) m h = nameless_with (one_unknown (n + length m.unknowns)) m.type h
  topped_nameless n Δ other m h = h

  -- ---- fresh templates

  module _ (g : Signature) (constructors : ℕ → List ℕ) where
    mutual
      inside_nameless : (m : ℕ) (Γ : Scope) (t : MlType) → IsNameless (inside g constructors m Γ [] t).type
      inside_nameless m Γ ml.int = (tt, tt)
      inside_nameless m Γ ml.bool = (tt, tt)
      inside_nameless m Γ ml.unit = (tt, tt)
      inside_nameless m Γ (ml.var i) = (tt, tt)
      inside_nameless m Γ (ml.arrow a b) =
          let k = m + length (topped m Γ (shape_of a) (inside g constructors m Γ [] a)).unknowns in
          let x = topped_nameless m Γ (shape_of a) (inside g constructors m Γ [] a) (inside_nameless m Γ a) in
          let y = topped_nameless k Γ (shape_of b) (inside g constructors k Γ [] b) (inside_nameless k Γ b) in
          ((x.0, x.1, y.0), (x.1, y.1))
      inside_nameless m Γ (ml.tuple ts) = components_nameless m Γ Γ 0 ts
      inside_nameless m Γ (ml.array a) =
          let x = topped_nameless m Γ (shape_of a) (inside g constructors m Γ [] a) (inside_nameless m Γ a) in ((x.0, x.1), x.1)
      inside_nameless m Γ (ml.named d ts) =
          let x = arguments_nameless m Γ ts in
          let M = arguments g constructors m Γ ts in
          let C = constructor_cells g (m + length M.unknowns) d ts (constructors d) in
          let l = subst (λ (us : MlTypes). LackEntries C.matrix 0 us) (sym (arguments_erased g nothing_known erases constructors m Γ ts))
          (matrix_lacks g (m + length M.unknowns) d ts (constructors d)) in
          ((x.0, x.1, l), x.1)
      inside_nameless m Γ (ml.map_of a) =
          let x = topped_nameless m (scopes.with_symbol (Position 0) int Γ) (shape_of a) (inside g constructors m Γ [] a) (inside_nameless m Γ a) in
          ((x.0, x.1), tt)

      components_nameless : (m : ℕ) (Γ Δ : Scope) (k : ℕ) (ts : MlTypes)
          → AreScalar (components g constructors m Γ Δ k ts).types × HaveNoNames (components g constructors m Γ Δ k ts).types
      components_nameless m Γ Δ k ml.no_types = (tt, tt)
      components_nameless m Γ Δ k (ml.more_types t ts) =
          let s = topped m Δ (shape_of t) (inside g constructors m Γ [] t) in
          let x = topped_nameless m Δ (shape_of t) (inside g constructors m Γ [] t) (inside_nameless m Γ t) in
          let y = components_nameless (m + length s.unknowns) Γ (with_position k (shape_of t) Δ) (suc k) ts in
          ((x.0, y.0), (x.1, y.1))

      arguments_nameless : (m : ℕ) (Γ : Scope) (ts : MlTypes)
          → AreScalar (arguments g constructors m Γ ts).types × HaveNoNames (arguments g constructors m Γ ts).types
      arguments_nameless m Γ ml.no_types = (tt, tt)
      arguments_nameless m Γ (ml.more_types t ts) =
          let s = topped m Γ (shape_of t) (inside g constructors m Γ [] t) in
          let x = topped_nameless m Γ (shape_of t) (inside g constructors m Γ [] t) (inside_nameless m Γ t) in
          let y = arguments_nameless (m + length s.unknowns) Γ ts in
          ((x.0, y.0), (x.1, y.1))

    pub nameless_made : (m : ℕ) (Γ : Scope) (t : MlType) → IsNameless (fresh g constructors m Γ [] t).type
    nameless_made m Γ t = topped_nameless m Γ (shape_of t) (inside g constructors m Γ [] t) (inside_nameless m Γ t)

    module _ (n : Annotation) where
      abbrev BlockMade : Tree → Bool → ℕ → List Seen → ℕ → Scope → MlType → Type 0
      BlockMade e b k Δ m Γ t = IsBlockFor (block_of n b k Δ e).read (fresh g constructors m Γ (written_names n e) t).type

      pure_made : {e : Tree} → IsPure e → (b : Bool) (k : ℕ) (Δ : List Seen) (m : ℕ) (Γ : Scope) (t : MlType) → BlockMade e b k Δ m Γ t
      pure_made pure_whole b k Δ m Γ t = nameless_made m Γ t
      pure_made pure_flag b k Δ m Γ t = nameless_made m Γ t
      pure_made pure_unit b k Δ m Γ t = nameless_made m Γ t
      pure_made pure_use b k Δ m Γ t = nameless_made m Γ t
      pure_made (pure_arithmetic ring_add p q) b k Δ m Γ t = nameless_made m Γ t
      pure_made (pure_arithmetic ring_subtract p q) b k Δ m Γ t = nameless_made m Γ t
      pure_made (pure_arithmetic ring_multiply p q) b k Δ m Γ t = nameless_made m Γ t
      pure_made (pure_negated p) b k Δ m Γ t = nameless_made m Γ t
      pure_made (pure_compare p q) b k Δ m Γ t = nameless_made m Γ t
      pure_made (pure_not p) b k Δ m Γ t = nameless_made m Γ t
      pure_made (pure_and p q) b k Δ m Γ t = nameless_made m Γ t
      pure_made (pure_or p q) b k Δ m Γ t = nameless_made m Γ t
      pure_made (pure_length p) b k Δ m Γ t = nameless_made m Γ t

      -- of a function with this parameter and this body, by what is made of the body
      abbrev BodyMade : Tree → Type 0
      BodyMade e = (b : Bool) (k : ℕ) (Δ : List Seen) (m : ℕ) (Γ : Scope) (t : MlType) → BlockMade e b k Δ m Γ t

      abbrev FunctionMade : Tree → ℕ → ℕ → List Seen → ℕ → Scope → MlType → Type 0
      FunctionMade e x k Δ m Γ t =
          IsFunctionFor x (block_of n true k Δ e).read (fresh g constructors m Γ (argument_name n x ∷ written_names n e) t).type

      function_by : (e : Tree) → BodyMade e → (x k : ℕ) (Δ : List Seen) (m : ℕ) (Γ : Scope) (t : MlType) → FunctionMade e x k Δ m Γ t
      function_by e body x k Δ m Γ (ml.arrow a r) =
          let s0 = topped m Γ (shape_of a) (inside g constructors m Γ [] a) in
          let Θ = with_argument (argument_name n x) (shape_of a) Γ in
          (named_by n x, nameless_made m Γ a, body true k Δ (m + length s0.unknowns) Θ r)
      function_by e body x k Δ m Γ ml.int = (tt, tt)
      function_by e body x k Δ m Γ ml.bool = (tt, tt)
      function_by e body x k Δ m Γ ml.unit = (tt, tt)
      function_by e body x k Δ m Γ (ml.var i) = (tt, tt)
      function_by e body x k Δ m Γ (ml.tuple ts) = nameless_made m Γ (ml.tuple ts)
      function_by e body x k Δ m Γ (ml.array a) = nameless_made m Γ (ml.array a)
      function_by e body x k Δ m Γ (ml.named d ts) = nameless_made m Γ (ml.named d ts)
      function_by e body x k Δ m Γ (ml.map_of a) = nameless_made m Γ (ml.map_of a)

      mutual
        block_made : {e : Tree} → IsBlock e → (b : Bool) (k : ℕ) (Δ : List Seen) (m : ℕ) (Γ : Scope) (t : MlType)
            → BlockMade e b k Δ m Γ t
        block_made (block_let p f r) b k Δ m Γ t = nameless_made m Γ t
        block_made (block_let_rec p f r) b k Δ m Γ t = nameless_made m Γ t
        block_made (block_operation f) b k Δ m Γ t = operation_made f b k Δ m Γ t

        operation_made : {e : Tree} → IsOperation e → (b : Bool) (k : ℕ) (Δ : List Seen) (m : ℕ) (Γ : Scope) (t : MlType)
            → BlockMade e b k Δ m Γ t
        operation_made (is_pure p) b k Δ m Γ t = pure_made p b k Δ m Γ t
        operation_made (is_fun {b = e} (is_name {x = x}) f) b k Δ m Γ t =
            function_by e (λ c j Θ i Ψ u. block_made f c j Θ i Ψ u) x (suc k) (seen x ∷ Δ) m Γ t
        operation_made (is_if p f r) b k Δ m Γ t = nameless_made m Γ t
        operation_made (is_match p f) b k Δ m Γ t = nameless_made m Γ t
        operation_made (is_tuple p) b k Δ m Γ t = nameless_made m Γ t
        operation_made (is_build p) b k Δ m Γ t = nameless_made m Γ t
        operation_made (is_call p q) b k Δ m Γ t = nameless_made m Γ t
        operation_made (is_quotient p q) b k Δ m Γ t = nameless_made m Γ t
        operation_made (is_remainder p q) b k Δ m Γ t = nameless_made m Γ t
        operation_made (is_assert p) b k Δ m Γ t = nameless_made m Γ t
        operation_made is_assert_false b k Δ m Γ t = nameless_made m Γ t
        operation_made (is_make p q) b k Δ m Γ t = nameless_made m Γ t
        operation_made (is_fetch p q) b k Δ m Γ t = nameless_made m Γ t
        operation_made (is_store p q r) b k Δ m Γ t = nameless_made m Γ t
        operation_made (is_print p) b k Δ m Γ t = nameless_made m Γ t
        operation_made (is_read p) b k Δ m Γ t = nameless_made m Γ t

      -- of such a function in normal form
      pub function_made : {e : Tree} → IsBlock e → (x k : ℕ) (Δ : List Seen) (m : ℕ) (Γ : Scope) (t : MlType) → FunctionMade e x k Δ m Γ t
      function_made {e = e} f x k Δ m Γ t = function_by e (λ c j Θ i Ψ u. block_made f c j Θ i Ψ u) x k Δ m Γ t

  -- ---- values of constructors, and where no rule takes a template

  nameless_empty : (t : Refined) → IsNameless t → IsNameless (empty_type t)
  nameless_empty (int_with p) h = h
  nameless_empty (bool_with p) h = h
  nameless_empty unit_type h = h
  nameless_empty (function x a b) h = h
  nameless_empty (tuple_of ts) h = h
  nameless_empty (array_with e p) h = h
  nameless_empty (data_with d ts m p) h = h
  nameless_empty (map_with e p) h = h
  nameless_empty (type_variable i) h = h

  module _ (D : Datatypes) where
    all_emptied_nameless : (m : ℕ) (Γ : Scope) (ts : MlTypes)
        → AreScalar (all_emptied D m Γ ts).types × HaveNoNames (all_emptied D m Γ ts).types
    all_emptied_nameless m Γ ml.no_types = (tt, tt)
    all_emptied_nameless m Γ (ml.more_types t ts) =
        let s = inside D.constructors D.ordered m Γ [] t in
        let x = nameless_empty s.type (inside_nameless D.constructors D.ordered m Γ t) in
        let y = all_emptied_nameless (m + length s.unknowns) Γ ts in
        ((x.0, y.0), (x.1, y.1))

    pub arguments_made : (m : ℕ) (Γ : Scope) (ts : MlTypes)
        → AreScalar (arguments D.constructors D.ordered m Γ ts).types × HaveNoNames (arguments D.constructors D.ordered m Γ ts).types
    arguments_made m Γ ts = arguments_nameless D.constructors D.ordered m Γ ts

    pub inner_nameless : (m : ℕ) (Γ : Scope) (t : MlType) → IsNameless (inside D.constructors D.ordered m Γ [] t).type
    inner_nameless m Γ t = inside_nameless D.constructors D.ordered m Γ t

    pub constant_nameless : (m : ℕ) (Γ : Scope) (t : MlType) → IsNameless (made_constant D m Γ t).type
    constant_nameless m Γ ml.int = inner_nameless m Γ ml.int
    constant_nameless m Γ ml.bool = inner_nameless m Γ ml.bool
    constant_nameless m Γ ml.unit = inner_nameless m Γ ml.unit
    constant_nameless m Γ (ml.var i) = inner_nameless m Γ (ml.var i)
    constant_nameless m Γ (ml.arrow a b) = inner_nameless m Γ (ml.arrow a b)
    constant_nameless m Γ (ml.tuple ts) = inner_nameless m Γ (ml.tuple ts)
    constant_nameless m Γ (ml.array a) = inner_nameless m Γ (ml.array a)
    constant_nameless m Γ (ml.named d ts) =
        let x = all_emptied_nameless m Γ ts in
        let M = all_emptied D m Γ ts in
        let C = constructor_cells D.constructors (m + length M.unknowns) d ts (D.ordered d) in
        let l = subst (λ (us : MlTypes). LackEntries C.matrix 0 us) (sym (all_emptied_erased erases D nothing_known m Γ ts))
        (matrix_lacks D.constructors (m + length M.unknowns) d ts (D.ordered d)) in
        ((x.0, x.1, l), x.1)
    constant_nameless m Γ (ml.map_of a) = inner_nameless m Γ (ml.map_of a)

  mutual
    pub plain_nameless : (t : MlType) → IsNameless (plain t)
    plain_nameless ml.int = (tt, tt)
    plain_nameless ml.bool = (tt, tt)
    plain_nameless ml.unit = (tt, tt)
    plain_nameless (ml.var i) = (tt, tt)
    plain_nameless (ml.arrow a b) =
        let x = plain_nameless a in
        let y = plain_nameless b in
        ((x.0, x.1, y.0), (x.1, y.1))
    plain_nameless (ml.tuple ts) = let x = all_plain_nameless ts in (x.0, x.1)
    plain_nameless (ml.array a) = let x = plain_nameless a in ((x.0, x.1), x.1)
    plain_nameless (ml.named d ts) =
        let x = all_plain_nameless ts in ((x.0, x.1, no_entries 0 (all_erased (all_plain ts))), x.1)
    plain_nameless (ml.map_of a) = let x = plain_nameless a in ((x.0, x.1), tt)

    pub all_plain_nameless : (ts : MlTypes)
        → AreScalar (all_plain ts) × HaveNoNames (all_plain ts)
    all_plain_nameless ml.no_types = (tt, tt)
    all_plain_nameless (ml.more_types t ts) =
        let x = plain_nameless t in
        let y = all_plain_nameless ts in
        ((x.0, y.0), (x.1, y.1))
