-- The patterns of fields in memory.
use Rattle.std.proofs.Common.{◌≡◌, ℕ, suc, ◌+◌, drop, arith, List, map, slice_get, Some, sym, ap, ◌∙◌, rules}
use Rattle.lq_base_names.specs.declared.name.Name.{Name}
use Rattle.lq_base_names.specs.declared.place.Place.{Place}
use Rattle.lq_text_tree.specs.Pattern.{Pattern, PatternForm, Patterns, build_of, pattern}
use Rattle.lq_text_tree.specs.PatternView.{pat_view, pat_form_view, pats_view, pats_items, patterns_of, pat_node_step, pat_step, pats_step}
use Rattle.lq_text_tree.specs.declared.pattern.Pat.{Pat, out-Pat}
use Rattle.lq_text_tree.specs.declared.pattern.PatNode.{PatNode, Build, the_lemmas}
use Rattle.lq_text_tree.specs.declared.pattern.Pats.{Pats, fold_out-Pats}
use Rattle.lq_text_qualifiers.specs.Faults.Lookups.{Lookup, or_else, first_in}
use Rattle.lq_text_qualifiers.specs.Sorting.Making.{bound_at, fields_from}
use Rattle.lq_text_qualifiers.specs.Sorting.Sorted.{Variable}
use Rattle.lq_text_qualifiers.proofs.SortingLemmas.Lookups.{some_less}
use Rattle.lq_text_qualifiers.proofs.SortingLemmas.Rows.{drop_at}

abbrev pub seen_pattern : Pat Name → Pattern
seen_pattern = pat_view Name (λ n. n.0)

abbrev pub row_of : Pats Name → List (Pat Name)
row_of = pats_items Name

pub patterns_listed : (ps : Pats Name) → pats_view Name (λ n. n.0) ps ≡ patterns_of (map seen_pattern (row_of ps))
patterns_listed ps = fold_out-Pats Name PatternForm Pattern Patterns (pat_node_step Name (λ n. n.0)) (pat_step Name (λ n. n.0)) (pats_step Name (λ n. n.0)) ps

pub pattern_seen : (p : Pat Name) → seen_pattern p ≡ pattern (out-Pat Name p).place (pat_form_view Name (λ n. n.0) (out-Pat Name p).node)
pattern_seen p = search (rules, the_lemmas)

pub built_seen : (n : PatNode Name) (c : Name) (q : Place) (ps : Pats Name) → n ≡ Build c q ps → pat_form_view Name (λ n. n.0) n ≡ build_of c.0 q (pats_view Name (λ n. n.0) ps)
built_seen n c q ps is = let it = is in search (rules, the_lemmas)

-- the pattern of the next field
pub next_field : (xs : List (Pat Name)) (at : ℕ) (p : Pat Name) (old new whole : Lookup Variable) → slice_get xs at ≡ Some p
    → ((x : ℕ) → new x ≡ or_else (old x) (first_in (bound_at (seen_pattern p) at) x))
    → ((x : ℕ) → or_else (old x) (first_in (fields_from at (patterns_of (map seen_pattern (drop at xs)))) x) ≡ whole x)
    → (x : ℕ) → or_else (new x) (first_in (fields_from (at + 1) (patterns_of (map seen_pattern (drop (at + 1) xs)))) x) ≡ whole x
next_field xs at p old new whole here more before x =
    let next : at + 1 ≡ suc at = omega arith in
    let rest = patterns_of (map seen_pattern (drop (at + 1) xs)) in
    ap (λ (n : ℕ). or_else (new x) (first_in (fields_from n rest) x)) next
    ∙ some_less old new (bound_at (seen_pattern p) at) (fields_from (suc at) rest) whole more
    (λ y. ap (λ (l : List (Pat Name)). or_else (old y) (first_in (fields_from at (patterns_of (map seen_pattern l))) y)) (sym (drop_at xs at p here)) ∙ before y) x
