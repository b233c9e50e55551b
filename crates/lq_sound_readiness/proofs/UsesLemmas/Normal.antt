-- The uses in the normal form of a scoped program whose uses fit.
use Rattle.std.proofs.Common.{[], length, arith}
use Rattle.lq_meaning_normal_form.specs.Types.Laws.{MadeNamesRun}
use Rattle.lq_meaning_normal_form.specs.Types.Programs.{items_made, next_items, normal_items}
use Rattle.lq_sound_readiness.specs.NormalScope.Laws.{NormalFormsAreScoped}
use Rattle.lq_sound_readiness.specs.Uses.Laws.{NormalUsesFit}
use Rattle.lq_sound_readiness.proofs.UsesLemmas.Trees.{source_fits}
use Rattle.lq_sound_readiness.proofs.UsesLemmas.Keeping.{are_made, items_keep}
use Rattle.lq_sound_readiness.proofs.UsesLemmas.Seen.{items_see}

pub uses_fit : NormalFormsAreScoped → MadeNamesRun → NormalUsesFit
uses_fit scopes runs g s n scoped plain fit none given =
    let k = length s.sources in let xs = items_made g n.types k s.items in
    let made = are_made n k k (next_items k s.items) xs (omega arith) none (runs g n.types k s.items) given in
    let fits = items_keep n g k s.items k plain (source_fits n s.items scoped.nodes fit) made in
    items_see n (normal_items k s.items) [] (scopes k s.items plain scoped.scoped) fits
