use Rattle.lq_refined_types.proofs.TypesLemmas.Erasing.{with_top-erased, type_by-erased, instantiated-erased, self_type-erased, twin-erased, under-erased, unfolded-erased}
use Rattle.lq_refined_types.proofs.types.laws.simple_types_are_kept.Goals as goal

pub returns : goal.returns
returns c = record {
  strengthening = λ q t. with_top-erased _ t;
  putting = type_by-erased;
  instantiating = instantiated-erased;
  naming = self_type-erased;
  twinning = twin-erased;
  assigning = under-erased;
  fields = λ scopes θ d ts m c fs. unfolded-erased scopes θ d ts m c 0 fs;
}
