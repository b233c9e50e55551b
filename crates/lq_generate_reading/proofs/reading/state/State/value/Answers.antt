use Rattle.std.proofs.Common.{◌≡◌, ◌∙◌, sym, ap, subst}
use Rattle.lq_meaning_normal_tree.specs.BlockView.{block_view}
use Rattle.lq_refined_rules.specs.Checks.Tree as t
use Rattle.lq_base_names.specs.declared.name.Binder.{Binder}
use Rattle.lq_refined_templates.specs.Programs.BlockView as made
use Rattle.lq_text_tree.specs.Items.{let_of}
use Rattle.lq_text_tree.specs.Pattern as p
use Rattle.lq_text_tree.specs.Pattern.{pattern}
use Rattle.lq_text_tree.specs.PatternView.{pat_form_view, pat_view, pats_view}
use Rattle.lq_generate_reading.specs.Reading.Items.{ItemReads}
use Rattle.lq_generate_reading.proofs.ReadingLemmas.ItemForms.{item_any, item_build, item_tuple, item_unit, pattern_seen, seen_any, seen_bind, seen_build, seen_tuple, seen_unit}
use Rattle.lq_generate_reading.proofs.reading.state.State.value.Goals as goal

pub returns-in_ok-item-in-Bind : goal.returns-in_ok-item-in-Bind
returns-in_ok-item-in-Bind c =
    let q = c.args.pattern.now in
    let x = c.in-Bind.name in
    let e : pat_view Binder (λ y. y.0) q ≡ pattern q.place (p.bind x.0) =
    pattern_seen q ∙ ap (pattern q.place) (ap (pat_form_view Binder (λ y. y.0)) c.in-Bind.is ∙ seen_bind x) in
    subst
    (λ (r : p.Pattern). ItemReads c.args.notes.now c.args.self.now c.defined.new.self (made.item_view c.in_ok-item-in-Bind.item) (let_of r (block_view c.args.block.now)))
    (sym e) c.in_ok-item-in-Bind.ensures

pub returns-in_ok-made-in-Unit : goal.returns-in_ok-made-in-Unit
returns-in_ok-made-in-Unit c =
    let q = c.args.pattern.now in
    let b = made.block_view c.in_ok-made-in-Unit.made in
    let e : pat_view Binder (λ y. y.0) q ≡ pattern q.place p.nothing =
    pattern_seen q ∙ ap (pattern q.place) (ap (pat_form_view Binder (λ y. y.0)) c.in-Unit.is ∙ seen_unit) in
    subst (λ (r : p.Pattern). ItemReads c.args.notes.now c.args.self.now c.block.new.self (λ rest. t.run_unit b rest) (let_of r (block_view c.args.block.now)))
    (sym e) (item_unit c.args.notes.now c.args.self.now c.block.new.self q.place (block_view c.args.block.now) b c.in_ok-made-in-Unit.ensures)

pub returns-in_ok-made-in-Any : goal.returns-in_ok-made-in-Any
returns-in_ok-made-in-Any c =
    let q = c.args.pattern.now in
    let b = made.block_view c.in_ok-made-in-Any.made in
    let e : pat_view Binder (λ y. y.0) q ≡ pattern q.place p.any =
    pattern_seen q ∙ ap (pattern q.place) (ap (pat_form_view Binder (λ y. y.0)) c.in-Any.is ∙ seen_any) in
    subst (λ (r : p.Pattern). ItemReads c.args.notes.now c.args.self.now c.block-in-Any.new.self (λ rest. t.run_any b rest) (let_of r (block_view c.args.block.now)))
    (sym e) (item_any c.args.notes.now c.args.self.now c.block-in-Any.new.self q.place (block_view c.args.block.now) b c.in_ok-made-in-Any.ensures)

pub returns-in_ok-made-in-Tuple : goal.returns-in_ok-made-in-Tuple
returns-in_ok-made-in-Tuple c =
    let m = c.args.notes.now in
    let old = c.args.self.now in
    let new = c.block-in-Tuple.new.self in
    let q = c.args.pattern.now in
    let b = made.block_view c.in_ok-made-in-Tuple.made in
    let qs = pats_view Binder (λ y. y.0) c.in-Tuple.field-0 in
    let e : pat_view Binder (λ y. y.0) q ≡ pattern q.place (p.tuple_of qs) =
    pattern_seen q ∙ ap (pattern q.place) (ap (pat_form_view Binder (λ y. y.0)) c.in-Tuple.is ∙ seen_tuple c.in-Tuple.field-0) in
    subst (λ (r : p.Pattern). ItemReads m old new (λ rest. t.run_any b rest) (let_of r (block_view c.args.block.now))) (sym e)
    (item_tuple m old new q.place qs (block_view c.args.block.now) b c.in_ok-made-in-Tuple.ensures)

pub returns-in_ok-made-in-Build : goal.returns-in_ok-made-in-Build
returns-in_ok-made-in-Build c =
    let m = c.args.notes.now in
    let old = c.args.self.now in
    let new = c.block-in-Build.new.self in
    let q = c.args.pattern.now in
    let b = made.block_view c.in_ok-made-in-Build.made in
    let x = c.in-Build.field-0 in
    let l = c.in-Build.field-1 in
    let qs = pats_view Binder (λ y. y.0) c.in-Build.field-2 in
    let e : pat_view Binder (λ y. y.0) q ≡ pattern q.place (p.build_of x.0 l qs) =
    pattern_seen q ∙ ap (pattern q.place) (ap (pat_form_view Binder (λ y. y.0)) c.in-Build.is ∙ seen_build x l c.in-Build.field-2) in
    subst (λ (r : p.Pattern). ItemReads m old new (λ rest. t.run_any b rest) (let_of r (block_view c.args.block.now))) (sym e)
    (item_build m old new q.place l x.0 qs (block_view c.args.block.now) b c.in_ok-made-in-Build.ensures)
