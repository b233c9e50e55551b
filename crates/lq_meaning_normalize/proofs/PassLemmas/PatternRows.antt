-- The parts of a pattern, one after another.
use Rattle.std.proofs.Common.{◌≡◌, ℕ, List, [], ◌∷◌, ◌++◌, map, drop, refl, sym, ap, ◌∙◌}
use Rattle.lq_text_tree.specs.Pattern.{Pattern, Patterns, no_patterns, more_patterns}
use Rattle.lq_text_tree.specs.PatternView.{patterns_of, pat_view, pats_view, pats_items}
use Rattle.lq_base_names.specs.declared.name.Binder.{Binder}
use Rattle.lq_text_tree.proofs.PatternViews.{pats_view-out}
use Rattle.lq_text_tree.specs.declared.pattern.Pat.{Pat}
use Rattle.lq_text_tree.specs.declared.pattern.Pats.{Pats}
use Rattle.std.proofs.lemmas.List.{map-append}
use Rattle.lq_meaning_normal_form.specs.Outcomes.Naming.{NamedPattern, NamedParts, named_part, named_parts}

abbrev pub the_parts : Patterns → ℕ → NamedParts
the_parts ps k = record { parts = ps; next = k }

abbrev pub patterns_before : List Pattern → Patterns → Patterns
patterns_before [] ps = ps
patterns_before (q ∷ qs) ps = more_patterns q (patterns_before qs ps)

-- parts that are done, before others
abbrev pub in_front : List Pattern → NamedParts → NamedParts
in_front done R = the_parts (patterns_before done R.parts) R.next

before_more : (done : List Pattern) (q : Pattern) (ps : Patterns) → patterns_before (done ++ q ∷ []) ps ≡ patterns_before done (more_patterns q ps)
before_more [] q ps = refl
before_more (d ∷ done) q ps = ap (more_patterns d) (before_more done q ps)

before_none : (done : List Pattern) → patterns_before done no_patterns ≡ patterns_of done
before_none [] = refl
before_none (d ∷ done) = ap (more_patterns d) (before_none done)

-- one more part is done
pub one_more : (done ps : List Pattern) (q x : Pattern) (k n : ℕ) → named_part k x ≡ record { pattern = q; next = n }
    → in_front (done ++ q ∷ []) (named_parts n (patterns_of ps)) ≡ in_front done (named_parts k (patterns_of (x ∷ ps)))
one_more done ps q x k n is =
    ap (λ t. the_parts t (named_parts n (patterns_of ps)).next) (before_more done q (named_parts n (patterns_of ps)).parts)
    ∙ ap (λ (Q : NamedPattern). the_parts (patterns_before done (more_patterns Q.pattern (named_parts Q.next (patterns_of ps)).parts)) (named_parts Q.next (patterns_of ps)).next) (sym is)

pub all_done : (done : List Pattern) (k : ℕ) → in_front done (named_parts k (patterns_of [])) ≡ the_parts (patterns_of done) k
all_done done k = ap (λ t. the_parts t k) (before_none done)

abbrev pub seen : Pat Binder → Pattern
seen = pat_view Binder (λ b. b.0)

-- a part is named, and put behind those that are
pub more_named : (old new : List (Pat Binder)) (ps : List (Pat Binder)) (q x : Pat Binder) (k n : ℕ) → new ≡ old ++ q ∷ [] → record { pattern = seen q; next = n } ≡ named_part k (seen x)
    → in_front (map seen new) (named_parts n (patterns_of (map seen ps))) ≡ in_front (map seen old) (named_parts k (patterns_of (map seen (x ∷ ps))))
more_named old new ps q x k n pushed is =
    ap (λ done. in_front done (named_parts n (patterns_of (map seen ps)))) (ap (map seen) pushed ∙ map-append seen old (q ∷ []))
    ∙ one_more (map seen old) (map seen ps) (seen q) (seen x) k n (sym is)

-- all parts are named
pub named_all : (ps row : Pats Binder) (at k n : ℕ) → drop at (pats_items Binder row) ≡ []
    → in_front (map seen (pats_items Binder ps)) (named_parts n (patterns_of (map seen (drop at (pats_items Binder row))))) ≡ named_parts k (patterns_of (map seen (pats_items Binder row)))
    → the_parts (pats_view Binder (λ b. b.0) ps) n ≡ named_parts k (pats_view Binder (λ b. b.0) row)
named_all ps row at k n none h =
    ap (λ t. the_parts t n) (pats_view-out Binder (λ b. b.0) ps)
    ∙ sym (all_done (map seen (pats_items Binder ps)) n)
    ∙ ap (λ (l : List (Pat Binder)). in_front (map seen (pats_items Binder ps)) (named_parts n (patterns_of (map seen l)))) (sym none)
    ∙ h ∙ ap (named_parts k) (sym (pats_view-out Binder (λ b. b.0) row))
