use Rattle.std.proofs.Common.{None, map, refl, sym, ap, arith}
use Rattle.std.specs.Prelude.{slice_index_or}
use Rattle.std.proofs.lemmas.List.{get_or-map, length-map}
use Rattle.lq_base_names.specs.declared.name.Binder.{Binder}
use Rattle.lq_meaning_normalize.specs.MadeNames.Numbers.{binders_view, is_made, source_view}
use Rattle.lq_meaning_normalize.proofs.MadeNamesLemmas.Tables.{all_counted, counted_next}
use Rattle.lq_meaning_normalize.proofs.made_names.numbers.numbered.Goals as goal

pub loop-name-init : goal.loop-name-init
loop-name-init c = record {
  count = refl;
  few = omega arith;
  each = λ x. ap (λ ns. slice_index_or ns x None) c.new-numbers.ensures.items;
}

pub count-requires : goal.count-requires
count-requires c = let few = c.loop-name.invariant.few in let within = c.loop-name-test.true in omega (arith, few, within)

pub loop-name-preserved : goal.loop-name-preserved
loop-name-preserved c =
    let long = length-map c.args.names.now (λ b. b.0) in
    counted_next (is_made (map source_view c.args.sources.now)) (binders_view c.args.names.now) c.loop-name.name-index _ c.loop-name.made _ _ _
    (omega (arith, long)) (sym (get_or-map (λ (b : Binder). b.0) c.args.names.now c.loop-name.name-index (record { 0 = 0 }) _ c.loop-name-test.true)) c.in_ok-made.ensures c.loop-name.invariant

pub returns : goal.returns
returns c =
    let long = length-map c.args.names.now (λ b. b.0) in
    all_counted (is_made (map source_view c.args.sources.now)) (binders_view c.args.names.now) c.loop-name.name-index _ _ (omega (arith, long)) c.loop-name.invariant
