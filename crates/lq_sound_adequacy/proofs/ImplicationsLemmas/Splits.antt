-- Each implication of a subtyping of types in an environment is well sorted: by recursion over the simple type.
use Rattle.std.proofs.Common.{◌≡◌, ◌∙◌, ◌⊎◌, inl, inr, ℕ, suc, true, ◌||◌, cond, List, [], ◌∷◌, ◌++◌, Option, Some, None, refl, sym, ap, subst}
use Rattle.std.proofs.lemmas.Bool.{eq-eqb}
use Rattle.std.proofs.lemmas.List.Elements.{All-nil, All-append}
use Rattle.lq_logic_predicates.specs.declared.symbol.Symbol.TheVariants.{Position}
use Rattle.lq_refined_types.specs.Types.Context.{Context, name}
use Rattle.lq_refined_types.specs.Types.Operations.{applied, atom_of, renamed, symbol_of}
use Rattle.lq_refined_types.specs.Types.Refined.{Refined, Refineds, int_with, function, none, more, Kind, number, kind, argument_of, result_of, element_of, components_of, arguments_of, matrix_of, erased, all_erased}
use Rattle.lq_refined_types.specs.Subtyping.Implication.{Implication, Origin}
use Rattle.lq_refined_types.specs.Subtyping.Splitting.{arguments, cells, components, first_of, inside, left_result, rest_of, result_context, split, tops}
use Rattle.lq_refined_types.specs.Subtyping.Subtype.{Setting, facts, with_key}
use Rattle.lq_refined_templates.specs.Templates.Scopes.{Unknown, symbols_in}
use Rattle.lq_text_tree.specs.MlType as ml
use Rattle.lq_text_tree.specs.MlType.{MlType, MlTypes}
use Rattle.lq_sound_values.specs.Inclusion.Symbols.{Symbols}
use Rattle.lq_sound_scope.proofs.ScopesLemmas.Symbols.{or_left, or_right, same_refl}
use Rattle.lq_sound_scope.specs.Scopes.Over.{IsWithin}
use Rattle.lq_logic_predicates.specs.Sum.{same_symbol}
use Rattle.lq_sound_scope.specs.Splits.Bound.{nothing_more, HasNoBinders, HaveNoBinders, all_arguments_in, arguments_in, names_between}
use Rattle.lq_sound_scope.specs.Sorts.Sorts as sorts
use Rattle.lq_sound_scope.specs.Sorts.Sorts.{Sorts, with_kind}
use Rattle.lq_sound_scope.specs.Sorts.Types.{PartsSorted, TopSorted}
use Rattle.lq_sound_scope.proofs.SortsLemmas.Basics.{wider_kind, within_kind}
use Rattle.lq_sound_scope.proofs.SortsLemmas.Types.{top_within}
use Rattle.lq_sound_adequacy.specs.Implications.Sorted.{IsSortedFrom, sorts_of}
use Rattle.lq_sound_adequacy.proofs.ImplicationsLemmas.Entries.{cells_sorted}
use Rattle.lq_sound_adequacy.proofs.ImplicationsLemmas.Forms as forms
use Rattle.lq_sound_adequacy.proofs.ImplicationsLemmas.Forms.{IsFunction, is_function, see_function, either, same_kind, swapped}
use Rattle.lq_sound_adequacy.proofs.ImplicationsLemmas.Parts as parts
use Rattle.lq_sound_adequacy.proofs.ImplicationsLemmas.Parts.{LacksValue, tops_sorted, with_name}
use Rattle.lq_sound_adequacy.proofs.ImplicationsLemmas.Types.{ComponentsIn, InsideIn, TypeIn, TypesIn, inside_more, type_more}

-- Environments get more names: those that functions in the two types give to their arguments, and positions.
module _ (P : Setting) (unknowns : ℕ → Unknown) (agree : (u : ℕ) → P.scopes u ≡ symbols_in (unknowns u).0) (X : Symbols) (start : Context)
    (positions : (i : ℕ) → X (Position i) ≡ true) (o : Origin) where
  abbrev Inside : Sorts → Refined → Type 0
  Inside N t = InsideIn P.constructors unknowns N t

  abbrev Over : Sorts → Refined → Type 0
  Over N t = TypeIn P.constructors unknowns N t

  abbrev Environment : Context → Type 0
  Environment Γ = parts.IsEnvironment P unknowns agree X start Γ

  -- the names of arguments in the type are of these
  abbrev Among : Refined → Type 0
  Among t = IsWithin (arguments_in t) X

  abbrev Sorted : List Implication → Type 0
  Sorted is = parts.AllSorted P unknowns agree X start is

  both : (is js : List Implication) → Sorted is → Sorted js → Sorted (is ++ js)
  both is js a b = All-append (IsSortedFrom P unknowns X start) is js a b

  -- in one of two no function names its argument
  abbrev OneIsBare : Refined → Refined → Type 0
  OneIsBare l r = HasNoBinders l ⊎ HasNoBinders r

  over_wide : (N M : Sorts) → sorts.IsWithin N M → (t : Refined) → Over N t → Over M t
  over_wide N M w t h = type_more P.constructors unknowns N M w t h

  -- ---- functions

  -- the arguments and the results of two function types, these in the environment of the right argument
  record Sides (s u : MlType) (Γ : Context) (l r : Refined) : Type 0 where
    left_argument : Over (sorts_of Γ) (argument_of l)
    right_argument : Over (sorts_of Γ) (argument_of r)
    left_shape : erased (argument_of l) ≡ s
    right_shape : erased (argument_of r) ≡ s
    bare_argument : OneIsBare (argument_of r) (argument_of l)
    environment : Environment (result_context P o l r Γ)
    left : Over (sorts_of (result_context P o l r Γ)) (left_result P o l r)
    right : Over (sorts_of (result_context P o l r Γ)) (result_of r)
    left_is : erased (left_result P o l r) ≡ u
    right_is : erased (result_of r) ≡ u
    bare : OneIsBare (left_result P o l r) (result_of r)
    left_names : Among (argument_of l)
    right_names : Among (argument_of r)
    left_among : Among (left_result P o l r)
    right_among : Among (result_of r)

  -- what is named inside a function type
  own_argument : (x : Option ℕ) (a b : Refined) → Among (function x a b) → Among a
  own_argument None a b w y h = w y (or_left (arguments_in a y) (arguments_in b y) h)
  own_argument (Some x) a b w y h =
      w y (or_right (same_symbol (symbol_of x) y) (arguments_in a y || arguments_in b y) (or_left (arguments_in a y) (arguments_in b y) h))

  own_result : (x : Option ℕ) (a b : Refined) → Among (function x a b) → Among b
  own_result None a b w y h = w y (or_right (arguments_in a y) (arguments_in b y) h)
  own_result (Some x) a b w y h =
      w y (or_right (same_symbol (symbol_of x) y) (arguments_in a y || arguments_in b y) (or_right (arguments_in a y) (arguments_in b y) h))

  own_name : (x : ℕ) (a b : Refined) → Among (function (Some x) a b) → X (symbol_of x) ≡ true
  own_name x a b w = w (symbol_of x) (or_left (same_symbol (symbol_of x) (symbol_of x)) _ (same_refl (symbol_of x)))

  -- a name that stays
  same_name : (x : ℕ) (k : Kind) (b : Refined) → b ≡ renamed P.scopes (Some x) (Some x) k b
  same_name x k b = sym (ap (λ z. cond z b (applied P.scopes (Some x) (atom_of k (symbol_of x)) b)) (eq-eqb x x refl))

  -- one more name of an argument
  more_over : (Γ : Context) (x : ℕ) (c t : Refined) → Over (sorts_of Γ) t → Over (sorts_of (name (symbol_of x) c ∷ Γ)) t
  more_over Γ x c t h =
      over_wide (sorts_of Γ) (sorts_of (name (symbol_of x) c ∷ Γ)) (within_kind (sorts_of Γ) (kind c) (symbol_of x)) t h

  named_over : (Γ : Context) (x : ℕ) (k : Kind) (c t : Refined) → k ≡ kind c → Over (with_kind (sorts_of Γ) k (symbol_of x)) t
      → Over (sorts_of (name (symbol_of x) c ∷ Γ)) t
  named_over Γ x k c t e h = subst (λ (j : Kind). Over (with_kind (sorts_of Γ) j (symbol_of x)) t) e h

  sides : (s u : MlType) (Γ : Context) → Environment Γ → (x y : Option ℕ) (a b c d : Refined) → Inside (sorts_of Γ) (function x a b)
      → Inside (sorts_of Γ) (function y c d) → erased (function x a b) ≡ ml.arrow s u → erased (function y c d) ≡ ml.arrow s u
      → OneIsBare (function x a b) (function y c d) → Among (function x a b) → Among (function y c d)
      → Sides s u Γ (function x a b) (function y c d)
  sides s u Γ env None None a b c d h w e f n m q =
      record {
        left_argument = (h.0, h.1);
        right_argument = (w.0, w.1);
        left_shape = (let k : erased a ≡ s = cc in k);
        right_shape = (let k : erased c ≡ s = cc in k);
        bare_argument = swapped (either (λ z. z.0) (λ z. z.0) n);
        environment = env;
        left = (h.2, h.3);
        right = (w.2, w.3);
        left_is = (let k : erased b ≡ u = cc in k);
        right_is = (let k : erased d ≡ u = cc in k);
        bare = either (λ z. z.1) (λ z. z.1) n;
        left_names = own_argument None a b m;
        right_names = own_argument None c d q;
        left_among = own_result None a b m;
        right_among = own_result None c d q;
      }
  sides s u Γ env (Some x) None a b c d h w e f n m q =
      let bare_right = right_bare n in
      let own = same_name x (kind a) b in
      let left : erased a ≡ s = cc in
      let right : erased c ≡ s = cc in
      record {
        left_argument = (h.0, h.1);
        right_argument = (w.0, w.1);
        left_shape = (let k : erased a ≡ s = cc in k);
        right_shape = (let k : erased c ≡ s = cc in k);
        bare_argument = inl bare_right.0;
        environment = with_name P unknowns agree X start Γ (symbol_of x) c env (own_name x a b m) refl w.1;
        left = subst (λ (t : Refined). Over (sorts_of (name (symbol_of x) c ∷ Γ)) t) own (named_over Γ x (kind a) c b (same_kind a c (left ∙ sym right)) (h.2, h.3));
        right = more_over Γ x c d (w.2, w.3);
        left_is = subst (λ (t : Refined). erased t ≡ u) own (let k : erased b ≡ u = cc in k);
        right_is = (let k : erased d ≡ u = cc in k);
        bare = inr bare_right.1;
        left_names = own_argument (Some x) a b m;
        right_names = own_argument None c d q;
        left_among = subst (λ (t : Refined). Among t) own (own_result (Some x) a b m);
        right_among = own_result None c d q;
      }
    where
      right_bare : OneIsBare (function (Some x) a b) (function None c d) → HasNoBinders c × HasNoBinders d
      right_bare (inl q) = absurd q
      right_bare (inr q) = q
  sides s u Γ env None (Some y) a b c d h w e f n m q =
      let bare_left = left_bare n in
      record {
        left_argument = (h.0, h.1);
        right_argument = (w.0, w.1);
        left_shape = (let k : erased a ≡ s = cc in k);
        right_shape = (let k : erased c ≡ s = cc in k);
        bare_argument = inr bare_left.0;
        environment = with_name P unknowns agree X start Γ (symbol_of y) c env (own_name y c d q) refl w.1;
        left = more_over Γ y c b (h.2, h.3);
        right = named_over Γ y (kind c) c d refl (w.2, w.3);
        left_is = (let k : erased b ≡ u = cc in k);
        right_is = (let k : erased d ≡ u = cc in k);
        bare = inl bare_left.1;
        left_names = own_argument None a b m;
        right_names = own_argument (Some y) c d q;
        left_among = own_result None a b m;
        right_among = own_result (Some y) c d q;
      }
    where
      left_bare : OneIsBare (function None a b) (function (Some y) c d) → HasNoBinders a × HasNoBinders b
      left_bare (inl q) = q
      left_bare (inr q) = absurd q
  sides s u Γ env (Some x) (Some y) a b c d h w e f n m q = absurd (none n)
    where
      none : OneIsBare (function (Some x) a b) (function (Some y) c d) → ⊥
      none (inl q) = q
      none (inr q) = q

  sides_of : (s u : MlType) (Γ : Context) → Environment Γ → (l r : Refined) → IsFunction l → IsFunction r → Inside (sorts_of Γ) l → Inside (sorts_of Γ) r
      → erased l ≡ ml.arrow s u → erased r ≡ ml.arrow s u → OneIsBare l r → Among l → Among r → Sides s u Γ l r
  sides_of s u Γ env l r (is_function {x = x} {a = a} {b = b}) (is_function {x = y} {a = c} {b = d}) h w e f n m q =
      sides s u Γ env x y a b c d h w e f n m q

  -- a map's elements, where its key is bound
  value_over : (Γ : Context) (t : Refined) → Inside (sorts_of Γ) t → TopSorted unknowns (with_kind (sorts_of Γ) number (Position 0)) t
      → Over (sorts_of (with_key Γ)) t
  value_over Γ t h w =
      (inside_more P.constructors unknowns (sorts_of Γ) (sorts_of (with_key Γ)) (within_kind (sorts_of Γ) number (Position 0)) t h, w)

  -- ---- components

  -- two rows of components behind the first k: inside over the first names, their tops over the second ones
  record Rows (ss : MlTypes) (N M : Sorts) (k : ℕ) (ls rs : Refineds) : Type 0 where
    left : ComponentsIn P.constructors unknowns N M k ls
    right : ComponentsIn P.constructors unknowns N M k rs
    left_shape : all_erased ls ≡ ss
    right_shape : all_erased rs ≡ ss
    bare : HaveNoBinders ls ⊎ HaveNoBinders rs
    left_names : IsWithin (all_arguments_in ls) X
    right_names : IsWithin (all_arguments_in rs) X

  -- two types and what is behind them
  record FirstOf (s : MlType) (ss : MlTypes) (N M : Sorts) (k : ℕ) (ls rs : Refineds) : Type 0 where
    left : Inside N (first_of ls)
    left_top : TopSorted unknowns M (first_of ls)
    right : Inside N (first_of rs)
    right_top : TopSorted unknowns M (first_of rs)
    left_shape : erased (first_of ls) ≡ s
    right_shape : erased (first_of rs) ≡ s
    bare : OneIsBare (first_of ls) (first_of rs)
    left_among : Among (first_of ls)
    right_among : Among (first_of rs)
    rest : Rows ss N (with_kind M (kind (first_of ls)) (Position (suc k))) (suc k) (rest_of ls) (rest_of rs)

  first_row : (s : MlType) (ss : MlTypes) (N M : Sorts) (k : ℕ) (ls rs : Refineds) → Rows (ml.more_types s ss) N M k ls rs → FirstOf s ss N M k ls rs
  first_row s ss N M k none rs h = let e = h.left_shape in cc
  first_row s ss N M k (more l ls) none h = let e = h.right_shape in cc
  first_row s ss N M k (more l ls) (more r rs) h =
      let e = h.left_shape in
      let f = h.right_shape in
      let same : erased r ≡ erased l = cc in
      record {
        left = h.left.0;
        left_top = h.left.1;
        right = h.right.0;
        right_top = h.right.1;
        left_shape = (let z : erased l ≡ s = cc in z);
        right_shape = (let z : erased r ≡ s = cc in z);
        bare = either (λ q. q.0) (λ q. q.0) h.bare;
        left_among = λ y z. h.left_names y (or_left (arguments_in l y) (all_arguments_in ls y) z);
        right_among = λ y z. h.right_names y (or_left (arguments_in r y) (all_arguments_in rs y) z);
        rest = record {
          left = h.left.2;
          right = subst (λ (z : Kind). ComponentsIn P.constructors unknowns N (with_kind M z (Position (suc k))) (suc k) rs) (same_kind r l same) h.right.2;
          left_shape = (let z : all_erased ls ≡ ss = cc in z);
          right_shape = (let z : all_erased rs ≡ ss = cc in z);
          bare = either (λ q. q.1) (λ q. q.1) h.bare;
          left_names = λ y z. h.left_names y (or_right (arguments_in l y) (all_arguments_in ls y) z);
          right_names = λ y z. h.right_names y (or_right (arguments_in r y) (all_arguments_in rs y) z);
        };
      }

  -- ---- arguments

  record Lists (ss : MlTypes) (N : Sorts) (ls rs : Refineds) : Type 0 where
    left : TypesIn P.constructors unknowns N ls
    right : TypesIn P.constructors unknowns N rs
    left_shape : all_erased ls ≡ ss
    right_shape : all_erased rs ≡ ss
    bare : HaveNoBinders ls ⊎ HaveNoBinders rs
    left_names : IsWithin (all_arguments_in ls) X
    right_names : IsWithin (all_arguments_in rs) X

  record HeadOf (s : MlType) (ss : MlTypes) (N : Sorts) (ls rs : Refineds) : Type 0 where
    left : Over N (first_of ls)
    right : Over N (first_of rs)
    left_shape : erased (first_of ls) ≡ s
    right_shape : erased (first_of rs) ≡ s
    bare : OneIsBare (first_of ls) (first_of rs)
    left_among : Among (first_of ls)
    right_among : Among (first_of rs)
    rest : Lists ss N (rest_of ls) (rest_of rs)

  head_of : (s : MlType) (ss : MlTypes) (N : Sorts) (ls rs : Refineds) → Lists (ml.more_types s ss) N ls rs → HeadOf s ss N ls rs
  head_of s ss N none rs h = let e = h.left_shape in cc
  head_of s ss N (more l ls) none h = let e = h.right_shape in cc
  head_of s ss N (more l ls) (more r rs) h =
      let e = h.left_shape in
      let f = h.right_shape in
      record {
        left = (h.left.0, h.left.1);
        right = (h.right.0, h.right.1);
        left_shape = (let z : erased l ≡ s = cc in z);
        right_shape = (let z : erased r ≡ s = cc in z);
        bare = either (λ q. q.0) (λ q. q.0) h.bare;
        left_among = λ y z. h.left_names y (or_left (arguments_in l y) (all_arguments_in ls y) z);
        right_among = λ y z. h.right_names y (or_left (arguments_in r y) (all_arguments_in rs y) z);
        rest = record {
          left = h.left.2;
          right = h.right.2;
          left_shape = (let z : all_erased ls ≡ ss = cc in z);
          right_shape = (let z : all_erased rs ≡ ss = cc in z);
          bare = either (λ q. q.1) (λ q. q.1) h.bare;
          left_names = λ y z. h.left_names y (or_right (arguments_in l y) (all_arguments_in ls y) z);
          right_names = λ y z. h.right_names y (or_right (arguments_in r y) (all_arguments_in rs y) z);
        };
      }

  -- ---- subtypings

  -- the tops of two types, and with them what is inside
  whole : (s : MlType) (Γ : Context) (l r : Refined) → Environment Γ → Over (sorts_of Γ) l → Over (sorts_of Γ) r → erased l ≡ s → erased r ≡ s
      → Sorted (inside P o s Γ l r) → Sorted (tops P o Γ l r ++ inside P o s Γ l r)
  whole s Γ l r env h w e f rest =
      both (tops P o Γ l r) (inside P o s Γ l r) (tops_sorted P unknowns agree X start Γ o l r env h.1 w.1 (same_kind r l (f ∙ sym e))) rest

  mutual
    inside_sorted : (s : MlType) (Γ : Context) (l r : Refined) → Environment Γ → Inside (sorts_of Γ) l → Inside (sorts_of Γ) r → erased l ≡ s
        → erased r ≡ s → OneIsBare l r → Among l → Among r → Sorted (inside P o s Γ l r)
    inside_sorted ml.int Γ l r env h w e f n m k = All-nil (IsSortedFrom P unknowns X start)
    inside_sorted ml.bool Γ l r env h w e f n m k = All-nil (IsSortedFrom P unknowns X start)
    inside_sorted ml.unit Γ l r env h w e f n m k = All-nil (IsSortedFrom P unknowns X start)
    inside_sorted (ml.var i) Γ l r env h w e f n m k = All-nil (IsSortedFrom P unknowns X start)
    inside_sorted (ml.arrow s u) Γ l r env h w e f n m k =
        let q = sides_of s u Γ env l r (see_function l s u e) (see_function r s u f) h w e f n m k in
        let Λ = result_context P o l r Γ in
        let z = left_result P o l r in
        both (tops P o Γ (argument_of r) (argument_of l) ++ inside P o s Γ (argument_of r) (argument_of l))
        (tops P o Λ z (result_of r) ++ inside P o u Λ z (result_of r))
        (whole s Γ (argument_of r) (argument_of l) env q.right_argument q.left_argument q.right_shape q.left_shape
        (inside_sorted s Γ (argument_of r) (argument_of l) env q.right_argument.0 q.left_argument.0 q.right_shape q.left_shape q.bare_argument q.right_names q.left_names))
        (whole u Λ z (result_of r) q.environment q.left q.right q.left_is q.right_is
        (inside_sorted u Λ z (result_of r) q.environment q.left.0 q.right.0 q.left_is q.right_is q.bare q.left_among q.right_among))
    inside_sorted (ml.tuple ss) Γ l r env h w e f n m k =
        let a = forms.parts P.constructors unknowns (sorts_of Γ) l ss e h in
        let b = forms.parts P.constructors unknowns (sorts_of Γ) r ss f w in
        components_sorted ss Γ Γ 0 (components_of l) (components_of r) (sorts_of Γ) env env (λ i x z. z)
        (record {
          left = a.over;
          right = b.over;
          left_shape = a.shape;
          right_shape = b.shape;
          bare = either a.nameless b.nameless n;
          left_names = a.names X m;
          right_names = b.names X k;
        })
    inside_sorted (ml.array s) Γ l r env h w e f n m k =
        let a = forms.elements P.constructors unknowns (sorts_of Γ) l s e h in
        let b = forms.elements P.constructors unknowns (sorts_of Γ) r s f w in
        let one = either a.nameless b.nameless n in
        both (tops P o Γ (element_of l) (element_of r) ++ inside P o s Γ (element_of l) (element_of r))
        (tops P o Γ (element_of r) (element_of l) ++ inside P o s Γ (element_of r) (element_of l))
        (whole s Γ (element_of l) (element_of r) env a.over b.over a.shape b.shape
        (inside_sorted s Γ (element_of l) (element_of r) env a.over.0 b.over.0 a.shape b.shape one (a.names X m) (b.names X k)))
        (whole s Γ (element_of r) (element_of l) env b.over a.over b.shape a.shape
        (inside_sorted s Γ (element_of r) (element_of l) env b.over.0 a.over.0 b.shape a.shape (swapped one) (b.names X k) (a.names X m)))
    inside_sorted (ml.named d ss) Γ l r env h w e f n m k =
        let a = forms.arguments P.constructors unknowns (sorts_of Γ) l d ss e h in
        let b = forms.arguments P.constructors unknowns (sorts_of Γ) r d ss f w in
        both (arguments P o ss Γ (arguments_of l) (arguments_of r)) (cells P o Γ d (arguments_of l) (matrix_of l) (matrix_of r))
        (arguments_sorted ss Γ (arguments_of l) (arguments_of r) env
        (record {
          left = a.over;
          right = b.over;
          left_shape = a.shape;
          right_shape = b.shape;
          bare = either a.nameless b.nameless n;
          left_names = a.names X m;
          right_names = b.names X k;
        }))
        (cells_sorted P unknowns agree X start positions o Γ env d (arguments_of l) (arguments_of r) (matrix_of l) a.over a.cells (a.shape ∙ sym b.shape) (matrix_of r) b.cells)
    inside_sorted (ml.map_of s) Γ l r env h w e f n m k =
        let a = forms.values P.constructors unknowns (sorts_of Γ) l s e h in
        let b = forms.values P.constructors unknowns (sorts_of Γ) r s f w in
        let Λ = with_key Γ in
        let own = with_name P unknowns agree X start Γ (Position 0) (int_with []) env (positions 0) refl tt in
        let x = value_over Γ (element_of l) a.inside a.top in
        let y = value_over Γ (element_of r) b.inside b.top in
        whole s Λ (element_of l) (element_of r) own x y a.shape b.shape
        (inside_sorted s Λ (element_of l) (element_of r) own x.0 y.0 a.shape b.shape (either a.nameless b.nameless n) (a.names X m) (b.names X k))

    components_sorted : (ss : MlTypes) (Γ Δ : Context) (k : ℕ) (ls rs : Refineds) (M : Sorts) → Environment Γ → Environment Δ → sorts.IsWithin M (sorts_of Δ)
        → Rows ss (sorts_of Γ) M k ls rs → Sorted (components P o ss Γ Δ k ls rs)
    components_sorted ml.no_types Γ Δ k ls rs M env own w h = All-nil (IsSortedFrom P unknowns X start)
    components_sorted (ml.more_types s ss) Γ Δ k ls rs M env own w h =
        let q = first_row s ss (sorts_of Γ) M k ls rs h in
        let l = first_of ls in
        let r = first_of rs in
        let x = Position (suc k) in
        let Λ = name x l ∷ Δ in
        let left_top = top_within unknowns M (sorts_of Δ) w l q.left_top in
        let right_top = top_within unknowns M (sorts_of Δ) w r q.right_top in
        let more = wider_kind M (sorts_of Δ) w (kind l) x in
        both (tops P o Δ l r ++ inside P o s Γ l r) (components P o ss Γ Λ (suc k) (rest_of ls) (rest_of rs))
        (both (tops P o Δ l r) (inside P o s Γ l r)
        (tops_sorted P unknowns agree X start Δ o l r own left_top right_top (same_kind r l (q.right_shape ∙ sym q.left_shape)))
        (inside_sorted s Γ l r env q.left q.right q.left_shape q.right_shape q.bare q.left_among q.right_among))
        (components_sorted ss Γ Λ (suc k) (rest_of ls) (rest_of rs) (with_kind M (kind l) x) env (with_name P unknowns agree X start Δ x l own (positions (suc k)) refl left_top) more q.rest)

    arguments_sorted : (ss : MlTypes) (Γ : Context) (ls rs : Refineds) → Environment Γ → Lists ss (sorts_of Γ) ls rs → Sorted (arguments P o ss Γ ls rs)
    arguments_sorted ml.no_types Γ ls rs env h = All-nil (IsSortedFrom P unknowns X start)
    arguments_sorted (ml.more_types s ss) Γ ls rs env h =
        let q = head_of s ss (sorts_of Γ) ls rs h in
        let l = first_of ls in
        let r = first_of rs in
        both (tops P o Γ l r ++ inside P o s Γ l r) (arguments P o ss Γ (rest_of ls) (rest_of rs))
        (whole s Γ l r env q.left q.right q.left_shape q.right_shape (inside_sorted s Γ l r env q.left.0 q.right.0 q.left_shape q.right_shape q.bare q.left_among q.right_among))
        (arguments_sorted ss Γ (rest_of ls) (rest_of rs) env q.rest)

-- in an environment whose hypotheses are well sorted
module _ (P : Setting) (unknowns : ℕ → Unknown) (agree : (u : ℕ) → P.scopes u ≡ symbols_in (unknowns u).0) where
  pub split_sorted : (o : Origin) (Γ : Context) (l r : Refined) → PartsSorted unknowns (sorts_of Γ) (facts P Γ) → LacksValue (sorts_of Γ)
      → TypeIn P.constructors unknowns (sorts_of Γ) l → TypeIn P.constructors unknowns (sorts_of Γ) r → erased l ≡ erased r
      → HasNoBinders l ⊎ HasNoBinders r → parts.AllSorted P unknowns agree (names_between l r) Γ (split P o Γ l r)
  split_sorted o Γ l r known lacks h w e n =
      let X : Symbols = names_between l r in
      let both_names : Symbols = λ y. arguments_in l y || arguments_in r y in
      let positions : (i : ℕ) → X (Position i) ≡ true = λ i. or_right (both_names (Position i)) true refl in
      let own : parts.IsEnvironment P unknowns agree X Γ Γ = (nothing_more, known, lacks) in
      let left_names : IsWithin (arguments_in l) X = λ y z. or_left (both_names y) _ (or_left (arguments_in l y) (arguments_in r y) z) in
      let right_names : IsWithin (arguments_in r) X = λ y z. or_left (both_names y) _ (or_right (arguments_in l y) (arguments_in r y) z) in
      whole P unknowns agree X Γ positions o (erased r) Γ l r own h w e refl
      (inside_sorted P unknowns agree X Γ positions o (erased r) Γ l r own h.0 w.0 e refl n left_names right_names)
