use Rattle.std.specs.Prelude.{slice_get}
use Rattle.std.specs.Option.{option_map}
use Rattle.std.proofs.Common.{◌≡◌, ℕ, ◌+◌, List, None, Some, get_or, map, sym, ap, subst, ◌∙◌, arith}
use Rattle.std.proofs.lemmas.List.{length-map}
use Rattle.std.proofs.lemmas.Option.{slice_get-get_or, slice_get-map}
use Rattle.lq_logic_text.specs.Views.{source_view}
use Rattle.lq_top_answers.proofs.FailureLemmas.Counted.{CountedTo, counts_low, counted_more, all_counted}
use Rattle.lq_top_answers.proofs.failure.ordinal.ordinals.Goals as goal

pub next_ordinal-requires : goal.next_ordinal-requires
next_ordinal-requires c =
    let n = length-map c.args.sources.now source_view in
    record { low = counts_low (map source_view c.args.sources.now) c.loop-source.source-index c.loop-source.counts.items c.loop-source.numbers.items (omega (arith, n)) (omega (arith, n)) c.loop-source.invariant }

pub loop-source-preserved : goal.loop-source-preserved
loop-source-preserved c =
    let S = c.args.sources.now in
    let at = c.loop-source.source-index in
    let here : slice_get (map source_view S) at ≡ Some (source_view (get_or S at None)) =
    slice_get-map source_view S at ∙ ap (option_map source_view) (slice_get-get_or S at None c.loop-source-test.true) in
    subst (λ (l : List ℕ). CountedTo (map source_view S) (at + 1) c.next_ordinal.new.counts.items l) (sym c.in_ok-push.ensures.items)
    (counted_more (map source_view S) at c.in_ok-number.number (source_view (get_or S at None)) c.loop-source.counts.items c.next_ordinal.new.counts.items c.loop-source.numbers.items here c.in_ok-number.ensures c.loop-source.invariant)

pub returns : goal.returns
returns c =
    let n = length-map c.args.sources.now source_view in
    all_counted (map source_view c.args.sources.now) c.loop-source.source-index c.loop-source.counts.items c.loop-source.numbers.items (omega (arith, n)) c.loop-source.invariant
