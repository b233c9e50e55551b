-- What is on the stack once the work is done, and that the work ends.
use Rattle.std.proofs.Common.{◌≡◌, ℕ, ◌+◌, ◌-◌, ◌<◌, List, [], ◌∷◌, ◌++◌, map, take, drop, length, refl, sym, ap, ap₂, subst, ◌∙◌, arith, length-append}
use Rattle.std.proofs.lemmas.List.{append_assoc, append-nil, length-map}
use Rattle.std.proofs.Math.Seq.{take-append_seam, drop-append_seam}
use Rattle.lq_text_tree.specs.MlType as ml
use Rattle.lq_text_tree.specs.MlType.{MlType, MlTypes, more_types}
use Rattle.lq_text_tree.specs.Types.{put, put_all}
use Rattle.lq_text_tree.specs.SimpleTypeView.{types_of}
use Rattle.lq_types_rules.specs.Constructors.Tasks.{Task, enter, make, listed, parts_of, made_of, made, done, Suffices, size_of_all, work}

pub all_is : (by : ℕ → MlType) (ts : MlTypes) → types_of (map (put by) (listed ts)) ≡ put_all by ts
all_is by ml.no_types = refl
all_is by (more_types t ts) = ap (λ (us : MlTypes). more_types (put by t) us) (all_is by ts)

-- a type is made of what its parts are
whole_is : (by : ℕ → MlType) (t : MlType) → made_of by t (map (put by) (parts_of t)) ≡ put by t
whole_is by ml.int = refl
whole_is by ml.bool = refl
whole_is by ml.unit = refl
whole_is by (ml.var i) = refl
whole_is by (ml.arrow a b) = refl
whole_is by (ml.tuple ts) = ap ml.tuple (all_is by ts)
whole_is by (ml.array a) = refl
whole_is by (ml.named d ts) = ap (ml.named d) (all_is by ts)
whole_is by (ml.map_of a) = refl

entering : (by : ℕ → MlType) (us : List MlType) (rest : List Task) (vs : List MlType) → done by (map enter us ++ rest) vs ≡ done by rest (vs ++ map (put by) us)
entering by [] rest vs = ap (done by rest) (sym (append-nil vs))
entering by (u ∷ us) rest vs = entering by us rest (vs ++ put by u ∷ []) ∙ ap (done by rest) (append_assoc vs (put by u ∷ []) (map (put by) us))

making : (by : ℕ → MlType) (t : MlType) (vs : List MlType) → made by t (vs ++ map (put by) (parts_of t)) ≡ vs ++ put by t ∷ []
making by t vs =
    let ws = map (put by) (parts_of t) in
    let n : length (vs ++ map (put by) (parts_of t)) - length (parts_of t) ≡ length vs = omega (arith, length-append vs (map (put by) (parts_of t)), length-map (parts_of t) (put by)) in
    ap (λ (k : ℕ). take k (vs ++ ws) ++ made_of by t (drop k (vs ++ ws)) ∷ []) n
    ∙ ap₂ (λ (l m : List MlType). l ++ made_of by t m ∷ []) (take-append_seam vs ws) (drop-append_seam vs ws)
    ∙ ap (λ m. vs ++ m ∷ []) (whole_is by t)

-- a type that is entered gives way to its parts, and to being made of them
pub entered : (by : ℕ → MlType) (t : MlType) (rest : List Task) (vs : List MlType) → done by (map enter (parts_of t) ++ make t ∷ rest) vs ≡ done by (enter t ∷ rest) vs
entered by t rest vs = entering by (parts_of t) (make t ∷ rest) vs ∙ ap (done by rest) (making by t vs)

pub all_entered : (by : ℕ → MlType) (us : List MlType) (vs : List MlType) → done by (map enter us) vs ≡ vs ++ map (put by) us
all_entered by us vs = ap (λ ts. done by ts vs) (sym (append-nil (map enter us))) ∙ entering by us [] vs

suffices_entering : (us : List MlType) (rest : List Task) (n : ℕ) → Suffices rest (n + length us) → Suffices (map enter us ++ rest) n
suffices_entering [] rest n s = subst (Suffices rest) (omega arith) s
suffices_entering (u ∷ us) rest n s = suffices_entering us rest (n + 1) (subst (Suffices rest) (omega arith) s)

pub suffices_entered : (t : MlType) (rest : List Task) (n : ℕ) → Suffices rest (n + 1) → Suffices (map enter (parts_of t) ++ make t ∷ rest) n
suffices_entered t rest n s = suffices_entering (parts_of t) (make t ∷ rest) n (omega arith, subst (Suffices rest) (omega arith) s)

pub suffices_all : (us : List MlType) (n : ℕ) → Suffices (map enter us) n
suffices_all us n = subst (λ ts. Suffices ts n) (append-nil (map enter us)) (suffices_entering us [] n tt)

row_work : (ts : MlTypes) (rest : List Task) → work (map enter (listed ts) ++ rest) ≡ (size_of_all ts + size_of_all ts) + work rest
row_work ml.no_types rest = omega arith
row_work (more_types t ts) rest = let again = row_work ts rest in omega (arith, again)

pub less_work : (t : MlType) (rest : List Task) → work (map enter (parts_of t) ++ make t ∷ rest) < work (enter t ∷ rest)
less_work ml.int rest = omega arith
less_work ml.bool rest = omega arith
less_work ml.unit rest = omega arith
less_work (ml.var i) rest = omega arith
less_work (ml.arrow a b) rest = omega arith
less_work (ml.tuple ts) rest = let is = row_work ts (make (ml.tuple ts) ∷ rest) in omega (arith, is)
less_work (ml.array a) rest = omega arith
less_work (ml.named d ts) rest = let is = row_work ts (make (ml.named d ts) ∷ rest) in omega (arith, is)
less_work (ml.map_of a) rest = omega arith
