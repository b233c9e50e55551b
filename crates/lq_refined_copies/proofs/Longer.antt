-- Runs where there are more scopes and more patterns.
use Rattle.std.proofs.Common.{◌≡◌, ◌∙◌, ℕ, zero, suc, ◌+◌, ◌<◌, ◌≤◌, List, [], ◌∷◌, ◌++◌, All, get_or, take, Bool, true, false, if◌then◌else◌, length, map, slice_index_or, Result, Ok, Err, OnOk, OnErr, refl, sym, ap, ap₂, append_assoc, arith}
use Rattle.std.proofs.lemmas.List.{append-nil, flat_map_more, take_more, get_or_append_left, length-append, map_push}
use Rattle.std.proofs.lemmas.List.Elements.{All-head, All-tail, All-weaker}
use Rattle.std.specs.declared.alloc.AllocError.{AllocError}
use Rattle.lq_refined_instances.specs.Scopes.{Scope, scope_in}
use Rattle.lq_refined_instances.specs.Views.{unknown_view}
use Rattle.lq_refined_instances.specs.declared.unknowns.Unknown.{Unknown}
use Rattle.lq_text_qualifiers.specs.Sorting.Views.{shape_view}
use Rattle.lq_text_qualifiers.specs.Faults.Shapes.{Shape}
use Rattle.lq_refined_copies.specs.Completed.{all_completed}
use Rattle.lq_refined_copies.specs.Longer.{Longer}
use Rattle.lq_refined_copies.specs.Runs.{patterns_for, run_view, runs_view, scope_of, AreInside, IsInside}
use Rattle.lq_refined_copies.specs.declared.unknowns.Run.{Run}
use Rattle.lq_refined_copies.specs.declared.unknowns.Run.TheVariants.{One, Copies}

pub longer_same : {X : Type 0} (old : List X) → Longer old old
longer_same old = record { added = []; is = sym (append-nil old) }

pub longer_trans : {X : Type 0} (a b c : List X) → Longer a b → Longer b c → Longer a c
longer_trans {X} a b c l m =
    record { added = l.added ++ m.added; is = m.is ∙ ap (λ (xs : List X). xs ++ m.added) l.is ∙ append_assoc a l.added m.added }

-- whether there was memory or not
pub longer_either : {X : Type 0} (old new : List X) (x : X) (r : Result ℕ AllocError) → OnOk r (new ≡ old ++ x ∷ []) → OnErr r (new ≡ old) → Longer old new
longer_either old new x (Ok n) ok err = record { added = x ∷ []; is = ok }
longer_either old new x (Err e) ok err = record { added = []; is = err ∙ sym (append-nil old) }

-- the same where it is seen
pub longer_seen : {X Y : Type 0} (view : X → Y) (b : Bool) (old new : List X) (x : X) → new ≡ (if b then old ++ x ∷ [] else old) → Longer (map view old) (map view new)
longer_seen view true old new x h = record { added = view x ∷ []; is = ap (map view) h ∙ map_push view old x }
longer_seen view false old new x h = record { added = []; is = ap (map view) h ∙ sym (append-nil (map view old)) }

pub longer_there : {X : Type 0} (old new : List X) (n : ℕ) → Longer old new → n ≤ length old → n ≤ length new
longer_there old new n l h =
    let e : length new ≡ length (old ++ l.added) = ap length l.is in let k = length-append old l.added in omega (arith, e, k, h)

in_longer : (xs ys : List Scope) (i : ℕ) → i < length xs → scope_in (xs ++ ys) i ≡ scope_in xs i
in_longer [] ys i h = absurd (omega arith)
in_longer (x ∷ xs) ys zero h = refl
in_longer (x ∷ xs) ys (suc i) h = in_longer xs ys i (omega arith)

pub scope_kept : (old new : List Scope) (i : ℕ) → Longer old new → i < length old → scope_in new i ≡ scope_in old i
scope_kept old new i l h = ap (λ (all : List Scope). scope_in all i) l.is ∙ in_longer old l.added i h

pub there_kept : (old new : List Scope) (us : List Unknown) → Longer old new → All (λ u. u.scope < length old) us → All (λ u. u.scope < length new) us
there_kept old new us l h = All-weaker (λ u. u.scope < length old) (λ u. u.scope < length new) (λ u k. longer_there old new (suc u.scope) l k) us h

-- what unknowns are stays where there are more scopes
pub views_kept : (old new : List Scope) (us : List Unknown) → Longer old new → All (λ u. u.scope < length old) us → map (unknown_view new) us ≡ map (unknown_view old) us
views_kept old new [] l h = refl
views_kept old new (u ∷ us) l h =
    ap₂ (λ v vs. v ∷ vs) (ap (λ (Γ : Scope). (Γ, shape_view u.shape)) (scope_kept old new u.scope l (All-head (λ u. u.scope < length old) u us h)))
    (views_kept old new us l (All-tail (λ u. u.scope < length old) u us h))

module _ (Γs Δs : List Scope) (ps qs : List (List (Scope × Shape))) (scopes : Longer Γs Δs) (patterns : Longer ps qs) where
  pub inside_kept : (rs : List Run) → AreInside Γs ps rs → AreInside Δs qs rs
  inside_kept rs h =
      All-weaker (IsInside Γs ps) (IsInside Δs qs)
      (λ r k. (longer_there Γs Δs (suc (scope_of r)) scopes k.0, longer_there ps qs (patterns_for r) patterns k.1)) rs h

  pub run_kept : (r : Run) → IsInside Γs ps r → run_view Δs qs r ≡ run_view Γs ps r
  run_kept (One u) h = ap (λ (Γ : Scope). (Γ, shape_view u.shape) ∷ []) (scope_kept Γs Δs u.scope scopes h.0)
  run_kept (Copies p s) h =
      ap₂ all_completed (scope_kept Γs Δs s scopes h.0)
      (ap (λ (all : List (List (Scope × Shape))). slice_index_or all p []) patterns.is ∙ get_or_append_left ps patterns.added [] p (omega (arith, h.1)))

  pub runs_kept : (rs : List Run) → AreInside Γs ps rs → runs_view Δs qs rs ≡ runs_view Γs ps rs
  runs_kept [] h = refl
  runs_kept (r ∷ rs) h =
      ap₂ (λ xs ys. xs ++ ys) (run_kept r (All-head (IsInside Γs ps) r rs h)) (runs_kept rs (All-tail (IsInside Γs ps) r rs h))

-- one run more
pub runs_more : (Γs : List Scope) (ps : List (List (Scope × Shape))) (rs : List Run) (i : ℕ) (d : Run) → i < length rs
    → runs_view Γs ps (take (i + 1) rs) ≡ runs_view Γs ps (take i rs) ++ run_view Γs ps (get_or rs i d)
runs_more Γs ps rs i d h = ap (runs_view Γs ps) (take_more rs i d h) ∙ sym (flat_map_more (run_view Γs ps) [] (take i rs) (get_or rs i d))
