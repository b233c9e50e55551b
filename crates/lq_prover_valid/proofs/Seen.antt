-- What readings of the code are seen as.
use Rattle.std.proofs.Common.{◌≡◌, ◌∙◌, map, ap, rules}
use Rattle.lq_prover_search.proofs.PathLemmas.Readings.{view_items}
use Rattle.lq_logic_predicates.specs.NnfView.{nnf_items, nnf_view, nnfs_view, readings_of}
use Rattle.lq_logic_predicates.specs.Reading.{all_of}
use Rattle.lq_logic_predicates.specs.declared.nnf.Nnf as Nnf
use Rattle.lq_logic_predicates.specs.declared.nnf.Nnf.{the_lemmas}
use Rattle.lq_logic_predicates.specs.declared.nnf.Nnfs.{Nnfs}

all_view : (rs : Nnfs) → nnf_view (Nnf.All rs) ≡ all_of (nnfs_view rs)
all_view rs = search (rules, the_lemmas)

pub all_seen : (rs : Nnfs) → nnf_view (Nnf.All rs) ≡ all_of (readings_of (map nnf_view (nnf_items rs)))
all_seen rs = all_view rs ∙ ap all_of (view_items rs)
