use Rattle.std.proofs.Common.{ℕ, ◌+◌, ◌<◌, All, length, sym, ap, subst, ◌∙◌, arith}
use Rattle.lq_base_names.specs.declared.name.Binder.{Binder}
use Rattle.lq_text_tree.specs.Pattern.{bound_in, bound_in_all}
use Rattle.lq_text_tree.specs.PatternView.{pat_view, pats_view, pats_items}
use Rattle.lq_text_tree.specs.TypingRules.{PatternIs}
use Rattle.lq_types_rules.specs.Equations.Adding.{Adds, count_of}
use Rattle.lq_types_rules.specs.Equations.Rows.{annotation_of}
use Rattle.lq_types_rules.proofs.EquationsLemmas.Composing.{adds_nothing, longer_none, longer_after}
use Rattle.lq_types_rules.proofs.EquationsLemmas.Patterning.{names_of}
use Rattle.lq_types_rules.proofs.EquationsLemmas.PatternGoals.{IsStep, wider, any_goal, tuple_goal, build_goal, never_goal, row_goal}
use Rattle.lq_types_rules.proofs.EquationsLemmas.Seen.{form_binder, pattern_seen, tuple_names, listed_names, past}
use Rattle.lq_types_rules.proofs.EquationsLemmas.Sizes.{form_smaller, tuple_smaller, item_smaller}
use Rattle.lq_types_rules.proofs.equations.system.System.+patterns.Goals as goal
use Rattle.lq_types_rules.proofs.equations.system.System.+patterns.Goals.{add_row-in-Some+in_ok-add_pattern, add_row-in_default}

pub add_form-overflow_add-nodes : goal.add_form-overflow_add-nodes
add_form-overflow_add-nodes t c = let x = form_binder c.args.form.now c.in-Bind.x (λ x. c.args.nodes + x < count_of c.args.self.now) c.in-Bind.is c.requires.names in let y = c.requires.system.arena.small in omega arith

pub add_form-same-requires-clause-left : goal.add_form-same-requires-clause-left
add_form-same-requires-clause-left t c = form_binder c.args.form.now c.in-Bind.x (λ x. c.args.nodes + x < count_of c.args.self.now) c.in-Bind.is c.requires.names

pub add_form-add_row-requires : goal.add_form-add_row-requires
add_form-add_row-requires t c =
    let o = c.in_ok-roots-in-Tuple.ensures.offers in (
      tuple_smaller c.args.form.now c.in-Tuple.row t c.in-Tuple.is c.decreases,
      (
        o.grows.system,
        (
          c.requires.whole,
          (
            wider c.args.nodes (count_of c.args.self.now) (count_of c.opened.new.self) (bound_in_all (pats_view Binder (λ b. b.0) c.in-Tuple.row)) o.grows.longer
                (tuple_names c.args.form.now c.in-Tuple.row (λ x. c.args.nodes + x < count_of c.args.self.now) c.in-Tuple.is c.requires.names),
            (
              ap length c.deref.ensures.value ∙ c.in_ok-roots-in-Tuple.ensures.count ∙ c.len.ensures,
              subst (All (λ r. r < count_of c.opened.new.self)) (sym c.deref.ensures.value) o.inside,
            ),
          ),
        ),
      ),
    )

pub add_form-returns-in-Any-clause-adds : goal.add_form-returns-in-Any-clause-adds
add_form-returns-in-Any-clause-adds t c = λ g h. any_goal g c.args.nodes c.args.self.now c.args.form.now c.args.slot c.requires.system c.in-Any.is

pub add_form-returns-in_ok-add_row-in-Tuple-clause-adds : goal.add_form-returns-in_ok-add_row-in-Tuple-clause-adds
add_form-returns-in_ok-add_row-in-Tuple-clause-adds t c = λ g h.
    tuple_goal g c.args.nodes c.args.self.now c.opened.new.self c.add_row.new.self c.args.form.now c.in-Tuple.row c.in_ok-roots-in-Tuple.roots.items c.deref.result.now c.args.slot c.len.result c.in-Tuple.is c.len.ensures
    c.deref.ensures.value c.requires.names c.in_ok-roots-in-Tuple.ensures.offers (c.in_ok-add_row-in-Tuple.ensures.adds g h)

pub add_form-returns-in_ok-add_row-in-Some-clause-adds : goal.add_form-returns-in_ok-add_row-in-Some-clause-adds
add_form-returns-in_ok-add_row-in-Some-clause-adds t c = λ g h.
    build_goal g c.args.nodes c.args.self.now c.built.new.self c.add_row-in-Some.new.self c.args.form.now c.in-Build.name c.in-Build.field-1 c.in-Build.row c.in-Some.roots.items c.deref-in-Some.result.now c.args.slot c.in-Build.is
    c.deref-in-Some.ensures.value c.requires.names ((rw c.in-Some.is at c.in_ok-found-in-Build.ensures.offers) g h) (c.in_ok-add_row-in-Some.ensures.adds g h)

pub add_form-returns-in-None-clause-adds : goal.add_form-returns-in-None-clause-adds
add_form-returns-in-None-clause-adds t c = λ g h.
    never_goal g c.args.nodes c.args.self.now c.built.new.self c.args.form.now c.in-Build.name c.in-Build.field-1 c.in-Build.row c.args.slot _ c.in-Build.is c.len-in-Build.ensures
    ((rw c.in-None.is at c.in_ok-found-in-Build.ensures.none) g h) (rw c.in-None.is at c.in_ok-found-in-Build.ensures.never)

pub add_pattern-add_form-requires : goal.add_pattern-add_form-requires
add_pattern-add_form-requires t c =
    (form_smaller c.args.pattern.now t c.decreases, (c.requires.system, (c.requires.whole, (subst (λ q. All (λ x. c.args.nodes + x < count_of c.args.self.now) (bound_in q)) (pattern_seen c.args.pattern.now) c.requires.names, c.requires.slot))))

pub add_pattern-returns-clause-adds : goal.add_pattern-returns-clause-adds
add_pattern-returns-clause-adds t c = λ g h.
    subst (λ q. Adds c.args.self.now c.add_form.new.self (λ s. PatternIs g (annotation_of c.args.nodes s) q (s c.args.slot))) (sym (pattern_seen c.args.pattern.now)) (c.in_ok-add_form.ensures.adds g h)

pub add_row-loop-at-init : goal.add_row-loop-at-init
add_row-loop-at-init t c = record { longer = longer_none c.args.self.now c.requires.system; adds = λ g h. adds_nothing c.args.self.now c.requires.system }

pub add_row-add_pattern-requires : goal.add_row-add_pattern-requires
add_row-add_pattern-requires t c =
    let i = c.loop-at.invariant.longer in
    let P : ℕ → Type 0 = λ x. c.args.nodes + x < count_of c.args.self.now in (
      item_smaller c.args.row.now c.loop-at.at c.in-Some.pattern.now t c.decreases (sym c.in-Some.ensures),
      (
        i.system,
        (
          c.requires.whole,
          (
            wider c.args.nodes (count_of c.args.self.now) (count_of c.loop-at.self) (bound_in (pat_view Binder (λ b. b.0) c.in-Some.pattern.now)) i.longer
                (names_of P (pat_view Binder (λ b. b.0)) (pats_items Binder c.args.row.now) c.loop-at.at c.in-Some.pattern.now (sym c.in-Some.ensures) (listed_names c.args.row.now P c.requires.names)),
            (let x = c.requires.inside c.loop-at.at 0 c.loop-at-test.true in let y = i.longer in omega arith),
          ),
        ),
      ),
    )

pub add_row-loop-at-preserved : goal.add_row-loop-at-preserved
add_row-loop-at-preserved t c =
    let i = c.loop-at.invariant in
    let old = c.args.self.now in
    let P : ℕ → Type 0 = λ x. c.args.nodes + x < count_of c.args.self.now in
    elim c.match-get.branch [
      | add_row-in-Some+in_ok-add_pattern w ↦
          subst (λ s. IsStep old s c.args.constructors.now c.args.nodes c.args.row.now c.args.roots.now (c.loop-at.at + 1)) (sym w.self-is) (record {
            longer = longer_after old c.loop-at.self w.add_pattern.new.self i.longer w.in_ok-add_pattern.ensures.grows;
            adds = λ g h. row_goal g c.args.nodes old c.loop-at.self w.add_pattern.new.self (pats_items Binder c.args.row.now) c.args.roots.now c.loop-at.at w.in-Some.pattern.now (sym w.in-Some.ensures) c.loop-at-test.true c.requires.count
                (names_of P (pat_view Binder (λ b. b.0)) (pats_items Binder c.args.row.now) c.loop-at.at w.in-Some.pattern.now (sym w.in-Some.ensures) (listed_names c.args.row.now P c.requires.names))
                c.requires.inside (i.adds g h) (w.in_ok-add_pattern.ensures.adds g h);
          })
      | add_row-in_default w ↦ absurd {A = IsStep old c.match-get.self c.args.constructors.now c.args.nodes c.args.row.now c.args.roots.now (c.loop-at.at + 1)} (let far = past (pats_items Binder c.args.row.now) c.loop-at.at (sym w.in_default.ensures) in let a = c.loop-at-test.true in let b = c.requires.count in omega arith)
    ]
