-- What is on the stack once a type's work is done, and that the work ends.
use Rattle.std.proofs.Common.{◌≡◌, ℕ, zero, suc, ◌+◌, ◌<◌, List, [], ◌∷◌, ◌++◌, map, length, refl, sym, ap, ◌∙◌, arith}
use Rattle.std.proofs.lemmas.List.{append_assoc, append-nil, length-map}
use Rattle.lq_text_tree.specs.Items.{Named}
use Rattle.lq_text_tree.specs.MlType as ml
use Rattle.lq_text_tree.specs.MlType.{MlType, MlTypes, more_types}
use Rattle.lq_text_tree.specs.Signatures.{type_named, written, all_written}
use Rattle.lq_text_tree.specs.SimpleTypeView.{types_of}
use Rattle.lq_text_tree.specs.TypeTree.{TypeTree, type_tree, variable, apply, product, arrow, TypeTrees, no_type_trees, more_type_trees}
use Rattle.lq_text_datatypes.specs.Tasks.{Task, enter, make, listed, parts_of, last_types, types_below, made_of, made, done, size_of_all, work}

abbrev pushed : List MlType → List MlType → List MlType
pushed [] vs = vs
pushed (t ∷ ts) vs = pushed ts (t ∷ vs)

taken_back : (ws : List MlType) (k : ℕ) (vs : List MlType) → last_types (length ws + k) (pushed ws vs) ≡ last_types k vs ++ ws
taken_back [] k vs = let same : zero + k ≡ k = omega arith in ap (λ (n : ℕ). last_types n vs) same ∙ sym (append-nil (last_types k vs))
taken_back (w ∷ ws) k vs =
    let same : suc (length ws) + k ≡ length ws + suc k = omega arith in
    ap (λ (n : ℕ). last_types n (pushed ws (w ∷ vs))) same ∙ taken_back ws (suc k) (w ∷ vs) ∙ append_assoc (last_types k vs) (w ∷ []) ws

left_back : (ws : List MlType) (k : ℕ) (vs : List MlType) → types_below (length ws + k) (pushed ws vs) ≡ types_below k vs
left_back [] k vs = let same : zero + k ≡ k = omega arith in ap (λ (n : ℕ). types_below n vs) same
left_back (w ∷ ws) k vs =
    let same : suc (length ws) + k ≡ length ws + suc k = omega arith in
    ap (λ (n : ℕ). types_below n (pushed ws (w ∷ vs))) same ∙ left_back ws (suc k) (w ∷ vs)

all_is : (ps : List Named) (ts : TypeTrees) → types_of (map (written ps) (listed ts)) ≡ all_written ps ts
all_is ps no_type_trees = refl
all_is ps (more_type_trees t ts) = ap (λ (us : MlTypes). more_types (written ps t) us) (all_is ps ts)

-- a type is made of what its parts are
whole_is : (ps : List Named) (t : TypeTree) → made_of ps t (map (written ps) (parts_of t)) ≡ written ps t
whole_is ps (type_tree p (variable x)) = refl
whole_is ps (type_tree p (apply ts d q)) = ap (type_named d) (all_is ps ts)
whole_is ps (type_tree p (product ts)) = ap ml.tuple (all_is ps ts)
whole_is ps (type_tree p (arrow a b)) = refl

entering : (ps : List Named) (us : List TypeTree) (rest : List Task) (vs : List MlType) → done ps (map enter us ++ rest) vs ≡ done ps rest (pushed (map (written ps) us) vs)
entering ps [] rest vs = refl
entering ps (u ∷ us) rest vs = entering ps us rest (written ps u ∷ vs)

making : (ps : List Named) (t : TypeTree) (vs : List MlType) → made ps t (pushed (map (written ps) (parts_of t)) vs) ≡ written ps t ∷ vs
making ps t vs =
    let ws = map (written ps) (parts_of t) in
    let counted : length (parts_of t) ≡ length ws + 0 = (let count = length-map (parts_of t) (written ps) in omega (arith, count)) in
    ap (λ (n : ℕ). made_of ps t (last_types n (pushed ws vs)) ∷ types_below n (pushed ws vs)) counted
    ∙ ap (λ (us : List MlType). made_of ps t us ∷ types_below (length ws + 0) (pushed ws vs)) (taken_back ws 0 vs)
    ∙ ap (λ (us : List MlType). made_of ps t ws ∷ us) (left_back ws 0 vs) ∙ ap (λ (m : MlType). m ∷ vs) (whole_is ps t)

-- a type that is entered gives way to its parts, and to being made of them
pub entered : (ps : List Named) (t : TypeTree) (rest : List Task) (vs : List MlType) → done ps (map enter (parts_of t) ++ make t ∷ rest) vs ≡ done ps (enter t ∷ rest) vs
entered ps t rest vs = entering ps (parts_of t) (make t ∷ rest) vs ∙ ap (done ps rest) (making ps t vs)

row_work : (ts : TypeTrees) (rest : List Task) → work (map enter (listed ts) ++ rest) ≡ (size_of_all ts + size_of_all ts) + work rest
row_work no_type_trees rest = omega arith
row_work (more_type_trees t ts) rest = let more = row_work ts rest in omega (arith, more)

pub less_work : (t : TypeTree) (rest : List Task) → work (map enter (parts_of t) ++ make t ∷ rest) < work (enter t ∷ rest)
less_work (type_tree p (variable x)) rest = omega arith
less_work (type_tree p (apply ts d q)) rest = let is = row_work ts (make (type_tree p (apply ts d q)) ∷ rest) in omega (arith, is)
less_work (type_tree p (product ts)) rest = let is = row_work ts (make (type_tree p (product ts)) ∷ rest) in omega (arith, is)
less_work (type_tree p (arrow a b)) rest = omega arith
