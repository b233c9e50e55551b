use Rattle.std.proofs.Common.{◌≡◌, ◌≤◌, map, drop}
use Rattle.lq_base_names.specs.declared.name.Binder.{Binder}
use Rattle.lq_text_tree.specs.PatternView.{pat_view, pats_items, patterns_of}
use Rattle.lq_meaning_normal_form.specs.Outcomes.Naming.{named_parts}
use Rattle.lq_meaning_normalize.specs.Pass.Views.{lets_of}
use Rattle.lq_meaning_normalize.proofs.PassLemmas.PatternRows.{in_front}
use Rattle.lq_meaning_normalize.proofs.pass.making.Pass.+name_patterns.Given as goal

-- the parts that are named, before the others named, are all parts named
abbrev pub invariant-name_parts-loop-at : goal.invariant-name_parts-loop-at
invariant-name_parts-loop-at l =
    (in_front (map (pat_view Binder (λ b. b.0)) (pats_items Binder l.named)) (named_parts l.self.next (patterns_of (map (pat_view Binder (λ b. b.0)) (drop l.at (pats_items Binder l.parts)))))
    ≡ named_parts l.initial.self.next (patterns_of (map (pat_view Binder (λ b. b.0)) (pats_items Binder l.parts))))
    × (lets_of l.self ≡ lets_of l.initial.self)
    × (l.initial.self.next ≤ l.self.next)
