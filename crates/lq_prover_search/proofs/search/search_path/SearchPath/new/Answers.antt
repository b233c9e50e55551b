use Rattle.std.proofs.Common.{◌≡◌, ◌∙◌, ◌++◌, ◌∷◌, [], All, false, refl, sym, ap, subst}
use Rattle.std.proofs.lemmas.List.{map-append, take_all}
use Rattle.std.proofs.lemmas.List.Elements.{All-push}
use Rattle.lq_prover_case.proofs.EquationsLemmas.Sides.{seen-more}
use Rattle.lq_prover_search.specs.Path.SearchPath.{choices_of}
use Rattle.lq_prover_search.specs.declared.path.choice.Choice.{Choice}
use Rattle.lq_logic_predicates.specs.NnfView.{nnfs_view}
use Rattle.lq_prover_search.specs.Search.SearchPath.{ways_of}
use Rattle.lq_prover_search.specs.declared.search.pair.Pair.{Pair}
use Rattle.lq_prover_search.proofs.search.search_path.SearchPath.new.Goals as goal

pub loop-pair-preserved : goal.loop-pair-preserved
loop-pair-preserved c =
    let n = c.pair-item.result in
    record {
      members = ap choices_of c.in_ok-push.ensures.items ∙ map-append (λ (x : Choice). nnfs_view x.members.now) c.loop-pair.ways.items _
          ∙ ap (λ l. l ++ nnfs_view n.ways ∷ []) c.loop-pair.invariant.members
          ∙ sym (seen-more (λ (x : Pair). nnfs_view x.ways) c.args.pairs.now c.loop-pair.pair-index n n c.loop-pair-test.true c.pair-item.is);
      open_still = subst (All (λ (x : Choice). x.is_done ≡ false)) (sym c.in_ok-push.ensures.items)
          (All-push (λ (x : Choice). x.is_done ≡ false) c.loop-pair.ways.items _ c.loop-pair.invariant.open_still refl);
    }

pub returns-clause-pairs : goal.returns-clause-pairs
returns-clause-pairs c = c.loop-pair.invariant.members ∙ ap ways_of (take_all c.loop-pair.pair-index c.args.pairs.now c.loop-pair-test.false)
