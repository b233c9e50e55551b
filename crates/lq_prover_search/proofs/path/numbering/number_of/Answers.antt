use Rattle.std.proofs.Common.{◌≡◌, ◌∙◌, ap, true, false, map, slice_get}
use Rattle.lq_logic_predicates.proofs.Keys.{list_any-keys, position-is, position_or_len-keys}
use Rattle.lq_logic_predicates.specs.Numbering.{slice_get-index_of}
use Rattle.lq_logic_predicates.specs.Sum.{same}
use Rattle.lq_logic_predicates.specs.TermView.{sum_of}
use Rattle.lq_prover_search.proofs.path.numbering.number_of.Goals as goal

pub unreachable-requires : goal.unreachable-requires
unreachable-requires c =
    let none : false ≡ true = c.in-None.ensures.found ∙ list_any-keys (sum_of c.args.object.now) c.args.objects.now.keys ∙ c.requires in cc

pub returns : goal.returns
returns c =
    let keys = c.args.objects.now.keys in
    ap (slice_get (map sum_of keys))
    (position-is (λ k. same (sum_of c.args.object.now) (sum_of k)) keys c.in-Some.at c.in-Some.ensures.index ∙ position_or_len-keys (sum_of c.args.object.now) keys)
    ∙ slice_get-index_of (map sum_of keys) (sum_of c.args.object.now) c.requires
