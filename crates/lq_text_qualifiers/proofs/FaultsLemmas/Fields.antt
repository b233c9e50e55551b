-- The fields of constructors and the patterns of their variables, in memory.
use Rattle.std.proofs.Common.{◌≡◌, ℕ, zero, suc, ◌+◌, drop, arith, List, [], ◌∷◌, map, length, slice_get, Some, None, refl, sym, ap, ◌∙◌, rules}
use Rattle.std.proofs.lemmas.List.{length-map}
use Rattle.lq_base_names.specs.declared.name.Name.{Name}
use Rattle.lq_base_names.specs.declared.place.Place.{Place}
use Rattle.lq_text_scope.specs.Patterns.{count_of}
use Rattle.lq_text_tree.specs.MlType as ml
use Rattle.lq_text_tree.specs.MlType.{MlType, MlTypes}
use Rattle.lq_text_tree.specs.Pattern.{Pattern, PatternForm, Patterns, build_of, pattern}
use Rattle.lq_text_tree.specs.PatternView.{pat_view, pat_form_view, pats_view, pats_items, patterns_of, pat_node_step, pat_step, pats_step}
use Rattle.lq_text_tree.specs.SimpleTypeView.{types_of, simple_type_view, simple_types_view, simple_types_items, simple_type_step, simple_types_step}
use Rattle.lq_text_tree.specs.Types.{count_types, type_at}
use Rattle.lq_text_tree.specs.declared.pattern.Pat.{Pat, out-Pat}
use Rattle.lq_text_tree.specs.declared.pattern.PatNode.{PatNode, Build, the_lemmas}
use Rattle.lq_text_tree.specs.declared.pattern.Pats.{Pats, fold_out-Pats}
use Rattle.lq_text_tree.specs.declared.simple_type.SimpleType.{SimpleType}
use Rattle.lq_text_tree.specs.declared.simple_type.SimpleTypes.{SimpleTypes, fold_out-SimpleTypes}
use Rattle.lq_text_qualifiers.specs.Faults.Equations.{bound_at, fields_in}
use Rattle.lq_text_qualifiers.specs.Faults.Lookups.{Lookup, or_else, first_in}
use Rattle.lq_text_qualifiers.specs.Faults.Shapes.{Shape, shape_of}
use Rattle.lq_text_qualifiers.proofs.FaultsLemmas.Lookups.{some_less}
use Rattle.lq_text_qualifiers.proofs.FaultsLemmas.Rows.{drop_at}

types_listed : (ts : SimpleTypes) → simple_types_view ts ≡ types_of (map simple_type_view (simple_types_items ts))
types_listed ts = fold_out-SimpleTypes MlType MlTypes simple_type_step simple_types_step ts

counted_list : (ts : List MlType) → count_types (types_of ts) ≡ length ts
counted_list [] = refl
counted_list (t ∷ ts) = ap suc (counted_list ts)

pub types_count : (ts : SimpleTypes) → length (simple_types_items ts) ≡ count_types (simple_types_view ts)
types_count ts = sym (ap count_types (types_listed ts) ∙ counted_list (map simple_type_view (simple_types_items ts)) ∙ length-map (simple_types_items ts) simple_type_view)

at_list : (ts : List SimpleType) (i : ℕ) (t : SimpleType) → slice_get ts i ≡ Some t → simple_type_view t ≡ type_at (types_of (map simple_type_view ts)) i
at_list [] i t is = absurd (let e = is in cc)
at_list (u ∷ ts) zero t is = let same : u ≡ t = cc in ap simple_type_view (sym same)
at_list (u ∷ ts) (suc i) t is = at_list ts i t is

pub field_there : (ts : SimpleTypes) (i : ℕ) (t : SimpleType) → slice_get (simple_types_items ts) i ≡ Some t → simple_type_view t ≡ type_at (simple_types_view ts) i
field_there ts i t is = at_list (simple_types_items ts) i t is ∙ sym (ap (λ us. type_at us i) (types_listed ts))

none_list : (ts : List SimpleType) (i : ℕ) → slice_get ts i ≡ None → ml.unit ≡ type_at (types_of (map simple_type_view ts)) i
none_list [] i is = refl
none_list (u ∷ ts) zero is = absurd (let e = is in cc)
none_list (u ∷ ts) (suc i) is = none_list ts i is

pub field_lacking : (ts : SimpleTypes) (i : ℕ) → slice_get (simple_types_items ts) i ≡ None → ml.unit ≡ type_at (simple_types_view ts) i
field_lacking ts i is = none_list (simple_types_items ts) i is ∙ sym (ap (λ us. type_at us i) (types_listed ts))

-- patterns in a row
abbrev pub seen_pattern : Pat Name → Pattern
seen_pattern = pat_view Name (λ n. n.0)

abbrev pub row_of : Pats Name → List (Pat Name)
row_of = pats_items Name

pub patterns_listed : (ps : Pats Name) → pats_view Name (λ n. n.0) ps ≡ patterns_of (map seen_pattern (row_of ps))
patterns_listed ps = fold_out-Pats Name PatternForm Pattern Patterns (pat_node_step Name (λ n. n.0)) (pat_step Name (λ n. n.0)) (pats_step Name (λ n. n.0)) ps

counted_patterns : (ps : List Pattern) → count_of (patterns_of ps) ≡ length ps
counted_patterns [] = refl
counted_patterns (p ∷ ps) = ap suc (counted_patterns ps)

pub row_count : (ps : Pats Name) → length (row_of ps) ≡ count_of (pats_view Name (λ n. n.0) ps)
row_count ps = sym (ap count_of (patterns_listed ps) ∙ counted_patterns (map seen_pattern (row_of ps)) ∙ length-map (row_of ps) seen_pattern)

pub pattern_seen : (p : Pat Name) → seen_pattern p ≡ pattern (out-Pat Name p).place (pat_form_view Name (λ n. n.0) (out-Pat Name p).node)
pattern_seen p = search (rules, the_lemmas)

pub built_seen : (n : PatNode Name) (c : Name) (q : Place) (ps : Pats Name) → n ≡ Build c q ps → pat_form_view Name (λ n. n.0) n ≡ build_of c.0 q (pats_view Name (λ n. n.0) ps)
built_seen n c q ps is = let it = is in search (rules, the_lemmas)

-- the pattern of the next field
pub next_field : (ts : MlTypes) (xs : List (Pat Name)) (at : ℕ) (p : Pat Name) (old new whole : Lookup Shape) → slice_get xs at ≡ Some p
    → ((x : ℕ) → new x ≡ or_else (old x) (first_in (bound_at (seen_pattern p) (shape_of (type_at ts at))) x))
    → ((x : ℕ) → or_else (old x) (first_in (fields_in at ts (patterns_of (map seen_pattern (drop at xs)))) x) ≡ whole x)
    → (x : ℕ) → or_else (new x) (first_in (fields_in (at + 1) ts (patterns_of (map seen_pattern (drop (at + 1) xs)))) x) ≡ whole x
next_field ts xs at p old new whole here more before x =
    let next : at + 1 ≡ suc at = omega arith in
    let rest = patterns_of (map seen_pattern (drop (at + 1) xs)) in
    ap (λ (n : ℕ). or_else (new x) (first_in (fields_in n ts rest) x)) next
    ∙ some_less old new (bound_at (seen_pattern p) (shape_of (type_at ts at))) (fields_in (suc at) ts rest) whole more
    (λ y. ap (λ (l : List (Pat Name)). or_else (old y) (first_in (fields_in at ts (patterns_of (map seen_pattern l))) y)) (sym (drop_at xs at p here)) ∙ before y) x
