use Rattle.std.proofs.Common.{◌≡◌, Bool, IsTrue, false, get_or, true, refl}
use Rattle.std.proofs.lemmas.Option.{slice_get-get_or}
use Rattle.lq_prover_search.proofs.search.choosing.is_open.Goals as goal

not_true : (b : Bool) → IsTrue (mathlib.Core.Bool.not b) → b ≡ false
not_true true h = cc
not_true false h = refl

pub returns : goal.returns
returns c h =
    let choices = c.args.choices.now in let choice = get_or choices c.args.at c.index-choices-at.result in record {
      choice = choice;
      here = slice_get-get_or choices c.args.at c.index-choices-at.result c.requires;
      open_still = not_true choice.is_done h;
    }
