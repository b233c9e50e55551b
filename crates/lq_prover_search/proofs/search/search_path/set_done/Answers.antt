use Rattle.std.proofs.Common.{Some, refl, sym, ap, ◌∙◌}
use Rattle.std.proofs.lemmas.Option.{slice_get-get_or}
use Rattle.lq_prover_search.proofs.search.search_path.set_done.Goals as goal

pub returns : goal.returns
returns c = let choice = c.index.result.now in record {
  choice = choice;
  here = slice_get-get_or c.args.choices.now.items c.args.at choice c.requires ∙ ap Some (sym c.index.ensures);
  is = refl;
}
