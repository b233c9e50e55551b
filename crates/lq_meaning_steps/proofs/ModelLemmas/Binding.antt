-- Values that are put for variables behind a closing that left them out.
use Rattle.std.proofs.Common.{◌≡◌, ℕ, Bool, true, false, ◌==◌, ◌||◌, if◌then◌else◌, List, [], ◌∷◌, ◌++◌, Option, Some, None, is_some, refl, sym, ap, ap₂, subst, ◌∙◌}
use Rattle.std.specs.List.{list_any}
use Rattle.std.proofs.lemmas.List.Folds.{list_any-append}
use Rattle.lq_meaning_steps.specs.Model.Core.{Pattern, any, bind, nothing, tuple_of, build_of, Patterns, no_patterns, more_patterns, variables_of, variables_of_all, Core, Value, v_unit, v_tuple, v_build, Values, no_values, more_values, Pairs, value_in, without, close}
use Rattle.lq_meaning_steps.specs.Model.Operations.{both_pairs, fits, fits_all}
use Rattle.lq_meaning_steps.specs.Model.Laws.{SameIn, ArePairsOf}
use Rattle.lq_meaning_steps.specs.Model.Leaving.{unless, value_in-without}
use Rattle.lq_meaning_steps.proofs.ModelLemmas.Substitution.{close-close, close-same}

abbrev pub or_else : Option Value → Option Value → Option Value
or_else (Some v) o = Some v
or_else None o = o

or_else_if : (b : Bool) (v : Value) (o r : Option Value) → (if b then Some v else or_else o r) ≡ or_else (if b then Some v else o) r
or_else_if true v o r = refl
or_else_if false v o r = refl

pub value_in-append : (ps env : Pairs) (k : ℕ) → value_in (ps ++ env) k ≡ or_else (value_in ps k) (value_in env k)
value_in-append [] env k = refl
value_in-append (p ∷ ps) env k =
    ap (λ o. if p.0 == k then Some p.1 else o) (value_in-append ps env k) ∙ or_else_if (p.0 == k) p.1 (value_in ps k) (value_in env k)

-- a value of the one or the other, where one of them is left out
turned : (b : Bool) (o r : Option Value) → is_some o ≡ b → or_else (unless b r) o ≡ or_else o r
turned true (Some v) r h = refl
turned true None r h = cc
turned false (Some v) r h = cc
turned false None (Some u) h = refl
turned false None None h = refl

pub same_behind : (xs : List ℕ) (ps env : Pairs) → ArePairsOf xs ps → SameIn (without xs env ++ ps) (ps ++ env)
same_behind xs ps env h k =
    value_in-append (without xs env) ps k ∙ ap (λ o. or_else o (value_in ps k)) (value_in-without xs env k)
    ∙ turned (list_any (λ y. y == k) xs) (value_in ps k) (value_in env k) (h k) ∙ sym (value_in-append ps env k)

pub close_behind : (xs : List ℕ) (ps env : Pairs) (e : Core) → ArePairsOf xs ps → close ps (close (without xs env) e) ≡ close (ps ++ env) e
close_behind xs ps env e h = close-close e (without xs env) ps ∙ close-same e (without xs env ++ ps) (ps ++ env) (same_behind xs ps env h)

some_if : (b : Bool) (v : Value) → is_some (if b then Some v else None) ≡ (b || false)
some_if true v = refl
some_if false v = refl

pub pair_of : (x : ℕ) (v : Value) → ArePairsOf (x ∷ []) ((x, v) ∷ [])
pair_of x v k = some_if (x == k) v

some_or : (o r : Option Value) → is_some (or_else o r) ≡ (is_some o || is_some r)
some_or (Some v) r = refl
some_or None r = refl

pub pairs_append : (xs ys : List ℕ) (ps qs : Pairs) → ArePairsOf xs ps → ArePairsOf ys qs → ArePairsOf (xs ++ ys) (ps ++ qs)
pairs_append xs ys ps qs h g k =
    ap is_some (value_in-append ps qs k) ∙ some_or (value_in ps k) (value_in qs k) ∙ ap₂ (λ a b. a || b) (h k) (g k)
    ∙ sym (list_any-append (λ y. y == k) xs ys)

both_from : (o r : Option Pairs) (ps : Pairs) → both_pairs o r ≡ Some ps → (qs : Pairs) × (rs : Pairs) × (o ≡ Some qs) × (r ≡ Some rs) × (ps ≡ qs ++ rs)
both_from None r ps h = cc
both_from (Some qs) None ps h = cc
both_from (Some qs) (Some rs) ps h = (qs, rs, refl, refl, cc)

at_some : (xs : List ℕ) (qs ps : Pairs) → Some qs ≡ Some ps → ArePairsOf xs qs → ArePairsOf xs ps
at_some xs qs ps h a = let e : qs ≡ ps = cc in subst (ArePairsOf xs) e a

none_of : (ps : Pairs) → Some [] ≡ Some ps → ArePairsOf [] ps
none_of ps h = at_some [] [] ps h (λ k. refl)

built : (b : Bool) (o : Option Pairs) (xs : List ℕ) (ps : Pairs) → (o ≡ Some ps → ArePairsOf xs ps) → (if b then o else None) ≡ Some ps → ArePairsOf xs ps
built true o xs ps go h = go h
built false o xs ps go h = cc

mutual
  pub fits_binds : (q : Pattern) (v : Value) (ps : Pairs) → fits q v ≡ Some ps → ArePairsOf (variables_of q) ps
  fits_binds any v ps h = none_of ps h
  fits_binds (bind x) v ps h = at_some (x ∷ []) ((x, v) ∷ []) ps h (pair_of x v)
  fits_binds nothing v_unit ps h = none_of ps h
  fits_binds nothing _ ps h = cc
  fits_binds (tuple_of qs) (v_tuple vs) ps h = all_bind qs vs ps h
  fits_binds (tuple_of qs) _ ps h = cc
  fits_binds (build_of c qs) (v_build d vs) ps h = built (c == d) (fits_all qs vs) (variables_of_all qs) ps (all_bind qs vs ps) h
  fits_binds (build_of c qs) _ ps h = cc

  all_bind : (qs : Patterns) (vs : Values) (ps : Pairs) → fits_all qs vs ≡ Some ps → ArePairsOf (variables_of_all qs) ps
  all_bind no_patterns no_values ps h = none_of ps h
  all_bind no_patterns (more_values v vs) ps h = cc
  all_bind (more_patterns q qs) no_values ps h = cc
  all_bind (more_patterns q qs) (more_values v vs) ps h =
      let b = both_from (fits q v) (fits_all qs vs) ps h in
      subst (ArePairsOf (variables_of q ++ variables_of_all qs)) (sym b.4)
      (pairs_append (variables_of q) (variables_of_all qs) b.0 b.1 (fits_binds q v b.0 b.2) (all_bind qs vs b.1 b.3))
