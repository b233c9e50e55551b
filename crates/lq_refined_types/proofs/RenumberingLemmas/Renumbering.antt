-- Types that are renumbered twice, and by nothing.
use Rattle.std.proofs.Common.{◌≡◌, ℕ, ◌+◌, arith, [], ◌∷◌, refl, ap}
use Rattle.lq_refined_types.specs.Parts.Part.{Part, Parts, known, unknown}
use Rattle.lq_refined_types.specs.Types.Refined.{Cell, Matrix, Refined, int_with, bool_with, unit_type, function, tuple_of, array_with, data_with, map_with, type_variable, Refineds, none, more, erased, all_erased, kind}
use Rattle.lq_refined_types.specs.Renumbering.Renumbered.{part_renumbered, parts_renumbered, cell_renumbered, matrix_renumbered, renumbered, all_renumbered}

pub same_kind : (n : ℕ) (t : Refined) → kind (renumbered n t) ≡ kind t
same_kind n (int_with p) = refl
same_kind n (bool_with p) = refl
same_kind n unit_type = refl
same_kind n (function x a b) = refl
same_kind n (tuple_of ts) = refl
same_kind n (array_with e p) = refl
same_kind n (data_with d ts m p) = refl
same_kind n (map_with e p) = refl
same_kind n (type_variable i) = refl

mutual
  pub same_simple : (n : ℕ) (t : Refined) → erased (renumbered n t) ≡ erased t
  same_simple n (int_with p) = refl
  same_simple n (bool_with p) = refl
  same_simple n unit_type = refl
  same_simple n (function x a b) = let e : erased (renumbered n a) ≡ erased a = same_simple n a in let f : erased (renumbered n b) ≡ erased b = same_simple n b in cc
  same_simple n (tuple_of ts) = let e : all_erased (all_renumbered n ts) ≡ all_erased ts = each_simple n ts in cc
  same_simple n (array_with t p) = let e : erased (renumbered n t) ≡ erased t = same_simple n t in cc
  same_simple n (data_with d ts m p) = let e : all_erased (all_renumbered n ts) ≡ all_erased ts = each_simple n ts in cc
  same_simple n (map_with t p) = let e : erased (renumbered n t) ≡ erased t = same_simple n t in cc
  same_simple n (type_variable i) = refl

  each_simple : (n : ℕ) (ts : Refineds) → all_erased (all_renumbered n ts) ≡ all_erased ts
  each_simple n none = refl
  each_simple n (more t ts) =
      let e : erased (renumbered n t) ≡ erased t = same_simple n t in let f : all_erased (all_renumbered n ts) ≡ all_erased ts = each_simple n ts in cc

-- ---- twice

part_twice : (m n : ℕ) (p : Part) → part_renumbered m (part_renumbered n p) ≡ part_renumbered (m + n) p
part_twice m n (known p) = refl
part_twice m n (unknown u σ) = let e : m + (n + u) ≡ m + n + u = omega arith in ap (λ k. unknown k σ) e

parts_twice : (m n : ℕ) (p : Parts) → parts_renumbered m (parts_renumbered n p) ≡ parts_renumbered (m + n) p
parts_twice m n [] = refl
parts_twice m n (p ∷ ps) =
    let e : part_renumbered m (part_renumbered n p) ≡ part_renumbered (m + n) p = part_twice m n p in
    let f : parts_renumbered m (parts_renumbered n ps) ≡ parts_renumbered (m + n) ps = parts_twice m n ps in
    cc

matrix_twice : (m n : ℕ) (c : Matrix) → matrix_renumbered m (matrix_renumbered n c) ≡ matrix_renumbered (m + n) c
matrix_twice m n [] = refl
matrix_twice m n (c ∷ cs) =
    let e : parts_renumbered m (parts_renumbered n c.parts) ≡ parts_renumbered (m + n) c.parts = parts_twice m n c.parts in
    let f : matrix_renumbered m (matrix_renumbered n cs) ≡ matrix_renumbered (m + n) cs = matrix_twice m n cs in
    cc

mutual
  pub twice : (m n : ℕ) (t : Refined) → renumbered m (renumbered n t) ≡ renumbered (m + n) t
  twice m n (int_with p) = ap int_with (parts_twice m n p)
  twice m n (bool_with p) = ap bool_with (parts_twice m n p)
  twice m n unit_type = refl
  twice m n (function x a b) =
      let e : renumbered m (renumbered n a) ≡ renumbered (m + n) a = twice m n a in
      let f : renumbered m (renumbered n b) ≡ renumbered (m + n) b = twice m n b in
      cc
  twice m n (tuple_of ts) = ap tuple_of (each_twice m n ts)
  twice m n (array_with t p) =
      let e : renumbered m (renumbered n t) ≡ renumbered (m + n) t = twice m n t in
      let f : parts_renumbered m (parts_renumbered n p) ≡ parts_renumbered (m + n) p = parts_twice m n p in
      cc
  twice m n (data_with d ts c p) =
      let e : all_renumbered m (all_renumbered n ts) ≡ all_renumbered (m + n) ts = each_twice m n ts in
      let f : matrix_renumbered m (matrix_renumbered n c) ≡ matrix_renumbered (m + n) c = matrix_twice m n c in
      let h : parts_renumbered m (parts_renumbered n p) ≡ parts_renumbered (m + n) p = parts_twice m n p in
      cc
  twice m n (map_with t p) =
      let e : renumbered m (renumbered n t) ≡ renumbered (m + n) t = twice m n t in
      let f : parts_renumbered m (parts_renumbered n p) ≡ parts_renumbered (m + n) p = parts_twice m n p in
      cc
  twice m n (type_variable i) = refl

  each_twice : (m n : ℕ) (ts : Refineds) → all_renumbered m (all_renumbered n ts) ≡ all_renumbered (m + n) ts
  each_twice m n none = refl
  each_twice m n (more t ts) =
      let e : renumbered m (renumbered n t) ≡ renumbered (m + n) t = twice m n t in
      let f : all_renumbered m (all_renumbered n ts) ≡ all_renumbered (m + n) ts = each_twice m n ts in
      cc

-- ---- by nothing

part_kept : (p : Part) → part_renumbered 0 p ≡ p
part_kept (known p) = refl
part_kept (unknown u σ) = let e : 0 + u ≡ u = omega arith in ap (λ k. unknown k σ) e

parts_kept : (p : Parts) → parts_renumbered 0 p ≡ p
parts_kept [] = refl
parts_kept (p ∷ ps) = let e : part_renumbered 0 p ≡ p = part_kept p in let f : parts_renumbered 0 ps ≡ ps = parts_kept ps in cc

cell_kept : (c : Cell) → cell_renumbered 0 c ≡ c
cell_kept c = ap (λ p. record { constructor = c.constructor; field = c.field; parameter = c.parameter; parts = p }) (parts_kept c.parts)

matrix_kept : (c : Matrix) → matrix_renumbered 0 c ≡ c
matrix_kept [] = refl
matrix_kept (c ∷ cs) = let e : cell_renumbered 0 c ≡ c = cell_kept c in let f : matrix_renumbered 0 cs ≡ cs = matrix_kept cs in cc

mutual
  pub kept : (t : Refined) → renumbered 0 t ≡ t
  kept (int_with p) = ap int_with (parts_kept p)
  kept (bool_with p) = ap bool_with (parts_kept p)
  kept unit_type = refl
  kept (function x a b) = let e : renumbered 0 a ≡ a = kept a in let f : renumbered 0 b ≡ b = kept b in cc
  kept (tuple_of ts) = ap tuple_of (each_kept ts)
  kept (array_with t p) = let e : renumbered 0 t ≡ t = kept t in let f : parts_renumbered 0 p ≡ p = parts_kept p in cc
  kept (data_with d ts c p) =
      let e : all_renumbered 0 ts ≡ ts = each_kept ts in let f : matrix_renumbered 0 c ≡ c = matrix_kept c in let h : parts_renumbered 0 p ≡ p = parts_kept p in cc
  kept (map_with t p) = let e : renumbered 0 t ≡ t = kept t in let f : parts_renumbered 0 p ≡ p = parts_kept p in cc
  kept (type_variable i) = refl

  each_kept : (ts : Refineds) → all_renumbered 0 ts ≡ ts
  each_kept none = refl
  each_kept (more t ts) = let e : renumbered 0 t ≡ t = kept t in let f : all_renumbered 0 ts ≡ ts = each_kept ts in cc
