-- The unknowns of points are numbered one after another.
use Rattle.std.proofs.Common.{◌≡◌, ◌∙◌, ℕ, zero, suc, ◌+◌, arith, List, [], ◌∷◌, ◌++◌, length, Option, refl, sym, ap, subst, append_assoc, append-nil}
use Rattle.lq_refined_instances.specs.Scopes.{Scope}
use Rattle.lq_text_qualifiers.specs.Faults.Shapes.{array, data_of}
use Rattle.lq_refined_templates.specs.Templates.Cells.{Cells, constructor_cells}
use Rattle.lq_refined_templates.specs.Templates.Fresh.{Made, AllMade, arguments, fresh, inside}
use Rattle.lq_refined_templates.specs.Templates.Laws.{TemplatesNumber, matrix_unknowns, numbers_from, type_unknowns, types_unknowns}
use Rattle.lq_refined_templates.specs.Templates.Scopes.{Unknown}
use Rattle.lq_text_tree.specs.MlType as ml
use Rattle.lq_text_tree.specs.MlType.{MlType, MlTypes}
use Rattle.lq_refined_templates.specs.Points.Laws.{numbers_in}
use Rattle.lq_refined_templates.specs.Points.Point.{Point, whole, inner, constant, empty, each, idle}
use Rattle.lq_refined_templates.specs.Points.Templates.{Datatypes, plain, all_plain, emptied, all_emptied, made_constant, made_at, templates_from, unknowns_from}
use Rattle.lq_refined_templates.proofs.PointsLemmas.Cells.{AreNumbered, both, constructors_numbered}

-- ---- all but the last one

but_last : List ℕ → List ℕ
but_last [] = []
but_last (x ∷ []) = []
but_last (x ∷ y ∷ l) = x ∷ but_last (y ∷ l)

behind_dropped : (l : List ℕ) (x : ℕ) → but_last (l ++ x ∷ []) ≡ l
unfolding but_last
behind_dropped [] x = refl
behind_dropped (y ∷ []) x = refl
behind_dropped (y ∷ z ∷ l) x = ap (λ k. y ∷ k) (behind_dropped (z ∷ l) x)

same_before : (l k : List ℕ) (x y : ℕ) → l ++ x ∷ [] ≡ k ++ y ∷ [] → l ≡ k
same_before l k x y e = sym (behind_dropped l x) ∙ (ap but_last e ∙ behind_dropped k y)

numbers_behind : (n k : ℕ) → numbers_from n (suc k) ≡ numbers_from n k ++ (n + k) ∷ []
numbers_behind n zero = ap (λ j. j ∷ []) (omega arith)
numbers_behind n (suc k) =
    let e : numbers_from (suc n) (suc k) ≡ numbers_from (suc n) k ++ (suc n + k) ∷ [] = numbers_behind (suc n) k in
    let f : suc n + k ≡ n + suc k = omega arith in
    ap (λ l. n ∷ l) (subst (λ j. numbers_from (suc n) (suc k) ≡ numbers_from (suc n) k ++ j ∷ []) f e)

length_behind : (us : List Unknown) (u : Unknown) → length (us ++ u ∷ []) ≡ suc (length us)
length_behind [] u = refl
length_behind (v ∷ us) u = ap suc (length_behind us u)

-- numbered with one more behind them, and so numbered
without_last : (n : ℕ) (us : List Unknown) (u : Unknown) (l : List ℕ) (x : ℕ) → AreNumbered n (us ++ u ∷ []) (l ++ x ∷ []) → AreNumbered n us l
without_last n us u l x a =
    same_before l (numbers_from n (length us)) x (n + length us) (a ∙ (ap (numbers_from n) (length_behind us u) ∙ numbers_behind n (length us)))

nothing_more : (n : ℕ) (us : List Unknown) (l : List ℕ) → AreNumbered n us l → AreNumbered n us (l ++ [])
nothing_more n us l a = subst (AreNumbered n us) (sym (append-nil l)) a

-- ---- templates

abbrev IsNumbered : ℕ → Made → Type 0
IsNumbered n m = AreNumbered n m.unknowns (type_unknowns m.type)

abbrev EachNumbered : ℕ → AllMade → Type 0
EachNumbered n m = AreNumbered n m.unknowns (types_unknowns m.types)

none_of_two : (l k : List ℕ) → l ≡ [] → k ≡ [] → l ++ k ≡ []
none_of_two l k e f = ap (λ m. m ++ k) e ∙ f

mutual
  plain_unknowns : (t : MlType) → type_unknowns (plain t) ≡ []
  plain_unknowns ml.int = refl
  plain_unknowns ml.bool = refl
  plain_unknowns ml.unit = refl
  plain_unknowns (ml.var i) = refl
  plain_unknowns (ml.arrow a b) = none_of_two (type_unknowns (plain a)) (type_unknowns (plain b)) (plain_unknowns a) (plain_unknowns b)
  plain_unknowns (ml.tuple ts) = all_plain_unknowns ts
  plain_unknowns (ml.array a) = none_of_two (type_unknowns (plain a)) [] (plain_unknowns a) refl
  plain_unknowns (ml.named d ts) = none_of_two (types_unknowns (all_plain ts)) [] (all_plain_unknowns ts) refl
  plain_unknowns (ml.map_of a) = none_of_two (type_unknowns (plain a)) [] (plain_unknowns a) refl

  all_plain_unknowns : (ts : MlTypes) → types_unknowns (all_plain ts) ≡ []
  all_plain_unknowns ml.no_types = refl
  all_plain_unknowns (ml.more_types t ts) =
      none_of_two (type_unknowns (plain t)) (types_unknowns (all_plain ts)) (plain_unknowns t) (all_plain_unknowns ts)

module _ (law : TemplatesNumber) (D : Datatypes) where
  fresh_numbered : (n : ℕ) (Γ : Scope) (xs : List (Option ℕ)) (t : MlType) → IsNumbered n (fresh D.constructors D.ordered n Γ xs t)
  fresh_numbered n Γ xs t = law D.constructors D.ordered n Γ xs t

  inside_numbered : (n : ℕ) (Γ : Scope) (t : MlType) → IsNumbered n (inside D.constructors D.ordered n Γ [] t)
  inside_numbered n Γ ml.int = refl
  inside_numbered n Γ ml.bool = refl
  inside_numbered n Γ ml.unit = refl
  inside_numbered n Γ (ml.var i) = refl
  inside_numbered n Γ (ml.arrow a b) = fresh_numbered n Γ [] (ml.arrow a b)
  inside_numbered n Γ (ml.tuple ts) = fresh_numbered n Γ [] (ml.tuple ts)
  inside_numbered n Γ (ml.array a) =
      let m : Made = fresh D.constructors D.ordered n Γ [] a in
      let l : List ℕ = type_unknowns m.type in
      nothing_more n m.unknowns l
      (without_last n m.unknowns (Γ, array) l (n + length m.unknowns) (fresh_numbered n Γ [] (ml.array a)))
  inside_numbered n Γ (ml.named d ts) =
      let m : AllMade = arguments D.constructors D.ordered n Γ ts in
      let c : Cells = constructor_cells D.constructors (n + length m.unknowns) d ts (D.ordered d) in
      let us : List Unknown = m.unknowns ++ c.unknowns in
      let l : List ℕ = types_unknowns m.types in
      let k : List ℕ = matrix_unknowns c.matrix in
      let x : List ℕ = (n + length us) ∷ [] in
      let a : AreNumbered n (us ++ (Γ, data_of d) ∷ []) ((l ++ k) ++ x) =
      subst (AreNumbered n (us ++ (Γ, data_of d) ∷ [])) (sym (append_assoc l k x)) (fresh_numbered n Γ [] (ml.named d ts)) in
      subst (AreNumbered n us) (append_assoc l k []) (nothing_more n us (l ++ k) (without_last n us (Γ, data_of d) (l ++ k) (n + length us) a))
  inside_numbered n Γ (ml.map_of a) = fresh_numbered n Γ [] (ml.map_of a)

  emptied_numbered : (n : ℕ) (Γ : Scope) (t : MlType) → IsNumbered n (emptied D n Γ t)
  emptied_numbered n Γ ml.int = inside_numbered n Γ ml.int
  emptied_numbered n Γ ml.bool = inside_numbered n Γ ml.bool
  emptied_numbered n Γ ml.unit = inside_numbered n Γ ml.unit
  emptied_numbered n Γ (ml.var i) = inside_numbered n Γ (ml.var i)
  emptied_numbered n Γ (ml.arrow a b) = inside_numbered n Γ (ml.arrow a b)
  emptied_numbered n Γ (ml.tuple ts) = inside_numbered n Γ (ml.tuple ts)
  emptied_numbered n Γ (ml.array a) = inside_numbered n Γ (ml.array a)
  emptied_numbered n Γ (ml.named d ts) = inside_numbered n Γ (ml.named d ts)
  emptied_numbered n Γ (ml.map_of a) = inside_numbered n Γ (ml.map_of a)

  followed_numbered : (n : ℕ) (m : Made) (rest : AllMade) → IsNumbered n m → EachNumbered (n + length m.unknowns) rest
      → AreNumbered n (m.unknowns ++ rest.unknowns) (type_unknowns m.type ++ types_unknowns rest.types)
  followed_numbered n m rest a b = both n m.unknowns rest.unknowns (type_unknowns m.type) (types_unknowns rest.types) a b

  arguments_numbered : (n : ℕ) (Γ : Scope) (ts : MlTypes) → EachNumbered n (arguments D.constructors D.ordered n Γ ts)
  arguments_numbered n Γ ml.no_types = refl
  arguments_numbered n Γ (ml.more_types t ts) =
      let m : Made = fresh D.constructors D.ordered n Γ [] t in
      followed_numbered n m (arguments D.constructors D.ordered (n + length m.unknowns) Γ ts) (fresh_numbered n Γ [] t)
      (arguments_numbered (n + length m.unknowns) Γ ts)

  all_emptied_numbered : (n : ℕ) (Γ : Scope) (ts : MlTypes) → EachNumbered n (all_emptied D n Γ ts)
  all_emptied_numbered n Γ ml.no_types = refl
  all_emptied_numbered n Γ (ml.more_types t ts) =
      let m : Made = emptied D n Γ t in
      followed_numbered n m (all_emptied D (n + length m.unknowns) Γ ts) (emptied_numbered n Γ t)
      (all_emptied_numbered (n + length m.unknowns) Γ ts)

  constant_numbered : (n : ℕ) (Γ : Scope) (t : MlType) → IsNumbered n (made_constant D n Γ t)
  constant_numbered n Γ (ml.named d ts) =
      let m : AllMade = all_emptied D n Γ ts in
      let c : Cells = constructor_cells D.constructors (n + length m.unknowns) d ts (D.ordered d) in
      let us : List Unknown = m.unknowns ++ c.unknowns in
      let l : List ℕ = types_unknowns m.types in
      let k : List ℕ = matrix_unknowns c.matrix in
      let a : AreNumbered n us (l ++ k) =
      both n m.unknowns c.unknowns l k (all_emptied_numbered n Γ ts) (constructors_numbered D.constructors (n + length m.unknowns) d ts (D.ordered d)) in
      subst (AreNumbered n us) (append_assoc l k []) (nothing_more n us (l ++ k) a)
  constant_numbered n Γ ml.int = inside_numbered n Γ ml.int
  constant_numbered n Γ ml.bool = inside_numbered n Γ ml.bool
  constant_numbered n Γ ml.unit = inside_numbered n Γ ml.unit
  constant_numbered n Γ (ml.var i) = inside_numbered n Γ (ml.var i)
  constant_numbered n Γ (ml.arrow a b) = inside_numbered n Γ (ml.arrow a b)
  constant_numbered n Γ (ml.tuple ts) = inside_numbered n Γ (ml.tuple ts)
  constant_numbered n Γ (ml.array a) = inside_numbered n Γ (ml.array a)
  constant_numbered n Γ (ml.map_of a) = inside_numbered n Γ (ml.map_of a)

  alone_numbered : (n : ℕ) (m : Made) → IsNumbered n m → AreNumbered n m.unknowns (type_unknowns m.type ++ [])
  alone_numbered n m a = nothing_more n m.unknowns (type_unknowns m.type) a

  point_numbered : (n : ℕ) (p : Point) → EachNumbered n (made_at D n p)
  point_numbered n (whole Γ xs t) = alone_numbered n (fresh D.constructors D.ordered n Γ xs t) (fresh_numbered n Γ xs t)
  point_numbered n (inner Γ t) = alone_numbered n (inside D.constructors D.ordered n Γ [] t) (inside_numbered n Γ t)
  point_numbered n (constant Γ t) = alone_numbered n (made_constant D n Γ t) (constant_numbered n Γ t)
  point_numbered n (empty Γ t) = alone_numbered n (emptied D n Γ t) (emptied_numbered n Γ t)
  point_numbered n (each Γ ts) = arguments_numbered n Γ ts
  point_numbered n (idle ts) = all_plain_unknowns ts

  pub points_numbered : (n : ℕ) (ps : List Point) → AreNumbered n (unknowns_from D n ps) (numbers_in (templates_from D n ps))
  points_numbered n [] = refl
  points_numbered n (p ∷ ps) =
      let m : AllMade = made_at D n p in
      both n m.unknowns (unknowns_from D (n + length m.unknowns) ps) (types_unknowns m.types)
      (numbers_in (templates_from D (n + length m.unknowns) ps)) (point_numbered n p) (points_numbered (n + length m.unknowns) ps)
