use Rattle.std.proofs.Common.{◌≡◌, ◌∙◌, ◌+◌, ◌-◌, [], ◌∷◌, ◌++◌, None, filter, length, reverse, take, get_or, sym, ap, ap₂, arith}
use Rattle.std.proofs.lemmas.List.{append-nil, take_all}
use Rattle.lq_refined_templates.specs.Points.Seen.{names_at}
use Rattle.lq_generate_reading.specs.Visibility.Notes.{annotation_view}
use Rattle.lq_generate_reading.specs.Visibility.Stack.{entry_view, names_view, stacked}
use Rattle.lq_generate_reading.specs.Visibility.Walking.{has_new_text}
use Rattle.lq_generate_reading.specs.declared.visibility.bound.Entry.{Entry}
use Rattle.lq_generate_reading.proofs.VisibilityLemmas.Names.{entry_more}
use Rattle.lq_generate_reading.proofs.VisibilityLemmas.Walks.{map-reverse, names_kept, walked_next}
use Rattle.lq_generate_reading.proofs.visibility.bound.names_at.Goals as goal

pub loop-at-init : goal.loop-at-init
loop-at-init c =
    let n = annotation_view c.args.notes.now in
    let es = c.args.entries.now in
    let W = names_at n (stacked [] es) c.args.node in
    record {
      within = omega arith;
      is = sym
          (ap₂ (λ l m. l ++ reverse (names_view m))
          (ap₂ (λ ts fs. filter (λ y. has_new_text ts (n.text y)) (names_at n (stacked [] fs) c.args.node)) c.new.ensures.empty (take_all (length es) es (omega arith))
          ∙ names_kept n c.args.node (stacked [] es))
          c.new-2.ensures.items
          ∙ append-nil W);
    }

pub loop-at-preserved : goal.loop-at-preserved
loop-at-preserved c =
    let n = annotation_view c.args.notes.now in
    let i = c.args.node in
    let es = c.args.entries.now in
    let k = c.loop-at.at in
    let none : Entry = record { name = record { 0 = 0 }; until = None } in
    let e = get_or es (k - 1) none in
    let ts = c.loop-at.walked.texts.keys in
    let ns = names_view c.loop-at.walked.names.items in
    let more : stacked [] (take (k - 1 + 1) es) ≡ entry_view e ∷ stacked [] (take (k - 1) es) =
    entry_more es (k - 1) none (let a = c.loop-at.invariant.within in let b = c.loop-at-test.true in omega arith) in
    let count : k ≡ k - 1 + 1 = (let b = c.loop-at-test.true in omega arith) in
    record {
      within = (let a = c.loop-at.invariant.within in omega arith);
      is = c.loop-at.invariant.is
          ∙ (ap (λ Δ. filter (λ y. has_new_text ts (n.text y)) (names_at n Δ i) ++ reverse ns) (ap (λ j. stacked [] (take j es)) count ∙ more)
          ∙ walked_next n i (entry_view e) (stacked [] (take (k - 1) es)) ts ns _ _ c.in_ok-take.ensures.texts c.in_ok-take.ensures.names);
    }

pub returns : goal.returns
returns c =
    let n = annotation_view c.args.notes.now in
    let ts = c.loop-at.walked.texts.keys in
    let es = c.args.entries.now in
    let ns = c.loop-at.walked.names.items in
    let done : c.loop-at.at ≡ 0 = (let b = c.loop-at-test.false in omega arith) in
    ap names_view c.reverse.ensures.items
    ∙ (map-reverse (λ x. x.0) ns
    ∙ sym (c.loop-at.invariant.is
    ∙ ap (λ j. filter (λ y. has_new_text ts (n.text y)) (names_at n (stacked [] (take j es)) c.args.node) ++ reverse (names_view ns)) done))
