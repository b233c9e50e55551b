-- The patterns of a row in memory.
use Rattle.std.proofs.Common.{◌≡◌, ℕ, suc, List, [], ◌∷◌, ◌++◌, map, length, Option, refl, sym, ap, ◌∙◌, rules}
use Rattle.std.proofs.lemmas.List.{map-append, length-map}
use Rattle.lq_base_names.specs.declared.name.Name.{Name}
use Rattle.lq_base_names.specs.declared.place.Place.{Place}
use Rattle.lq_text_tree.specs.Pattern.{Pattern, PatternForm, Patterns, bound_in, bound_in_form, bound_in_all, pattern, any, bind, nothing, tuple_of, build_of, no_patterns, more_patterns}
use Rattle.lq_text_tree.specs.PatternView.{pat_view, pat_form_view, pats_view, pats_items, patterns_of, pat_node_step, pat_step, pats_step}
use Rattle.lq_text_tree.specs.declared.pattern.Pat.{Pat}
use Rattle.lq_text_tree.specs.declared.pattern.Pats.{Pats, fold_out-Pats}
use Rattle.lq_text_tree.specs.declared.pattern.PatNode.{Build, the_lemmas}
use Rattle.lq_text_scope.specs.Complaints.{Complaint, least_with, unknown}
use Rattle.lq_text_scope.specs.Known.{Arity, arity_in, counted}
use Rattle.lq_text_scope.specs.Datatypes.{parameter_name}
use Rattle.lq_text_scope.specs.Patterns.{count_of, binders_in, binders_in_form, binders_in_all, built_in, built_in_all}
use Rattle.lq_text_scope.proofs.Naming.{binders_more, built_more}

abbrev pub seen : Pat Name → Pattern
seen = pat_view Name (λ n. n.0)

abbrev pub row_of : Pats Name → List (Pat Name)
row_of = pats_items Name

pub listed : (ps : Pats Name) → pats_view Name (λ n. n.0) ps ≡ patterns_of (map seen (row_of ps))
listed ps = fold_out-Pats Name PatternForm Pattern Patterns (pat_node_step Name (λ n. n.0)) (pat_step Name (λ n. n.0)) (pats_step Name (λ n. n.0)) ps

counted_list : (ps : List Pattern) → count_of (patterns_of ps) ≡ length ps
counted_list [] = refl
counted_list (p ∷ ps) = ap suc (counted_list ps)

pub row_count : (ps : Pats Name) → count_of (pats_view Name (λ n. n.0) ps) ≡ length (row_of ps)
row_count ps = ap count_of (listed ps) ∙ counted_list (map seen (row_of ps)) ∙ length-map (row_of ps) seen

pub binders_join : (xs : List (Pat Name)) (x : Pat Name) → binders_in_all (patterns_of (map seen (xs ++ x ∷ []))) ≡ binders_in_all (patterns_of (map seen xs)) ++ binders_in (seen x)
binders_join xs x = ap (λ (l : List Pattern). binders_in_all (patterns_of l)) (map-append seen xs (x ∷ [])) ∙ binders_more (map seen xs) (seen x)

pub built_join : (known : List Arity) (xs : List (Pat Name)) (x : Pat Name)
    → built_in_all known (patterns_of (map seen (xs ++ x ∷ []))) ≡ built_in_all known (patterns_of (map seen xs)) ++ built_in known (seen x)
built_join known xs x = ap (λ (l : List Pattern). built_in_all known (patterns_of l)) (map-append seen xs (x ∷ [])) ∙ built_more known (map seen xs) (seen x)

pub built_view : (c : Name) (q : Place) (ps : Pats Name) → pat_form_view Name (λ n. n.0) (Build c q ps) ≡ build_of c.0 q (pats_view Name (λ n. n.0) ps)
built_view c q ps = search (rules, the_lemmas)

pub built_count : (known : List Arity) (best : Option Complaint) (c : ℕ) (q : Place) (ps : Pats Name) (wanted : Option ℕ) (found : ℕ) → wanted ≡ arity_in known c → found ≡ length (row_of ps)
    → least_with best (counted q wanted (unknown c) found) ≡ least_with best (counted q (arity_in known c) (unknown c) (count_of (pats_view Name (λ n. n.0) ps)))
built_count known best c q ps wanted found is count =
    ap (λ (o : Option ℕ). least_with best (counted q o (unknown c) found)) is
    ∙ ap (λ (n : ℕ). least_with best (counted q (arity_in known c) (unknown c) n)) (count ∙ sym (row_count ps))

-- the names that a pattern binds, without their places
mutual
  pub names_bound : (p : Pattern) → map parameter_name (binders_in p) ≡ bound_in p
  names_bound (pattern p f) = names_bound_form p f

  names_bound_form : (p : Place) (f : PatternForm) → map parameter_name (binders_in_form p f) ≡ bound_in_form f
  names_bound_form p any = refl
  names_bound_form p (bind x) = refl
  names_bound_form p nothing = refl
  names_bound_form p (tuple_of ps) = names_bound_all ps
  names_bound_form p (build_of c q ps) = names_bound_all ps

  names_bound_all : (ps : Patterns) → map parameter_name (binders_in_all ps) ≡ bound_in_all ps
  names_bound_all no_patterns = refl
  names_bound_all (more_patterns p ps) =
      map-append parameter_name (binders_in p) (binders_in_all ps) ∙ ap (λ (l : List ℕ). l ++ map parameter_name (binders_in_all ps)) (names_bound p)
      ∙ ap (λ (l : List ℕ). bound_in p ++ l) (names_bound_all ps)
