use Rattle.std.proofs.Common.{◌≡◌, ◌∙◌, [], length, reverse, take, sym, ap, subst}
use Rattle.std.proofs.lemmas.List.{take-append-le}
use Rattle.lq_generate_reading.specs.Visibility.Latest.{latest_in}
use Rattle.lq_generate_reading.specs.Visibility.Levels.{AreLevels}
use Rattle.lq_generate_reading.specs.Visibility.Notes.{annotation_view}
use Rattle.lq_generate_reading.specs.Visibility.Stack.{stacked}
use Rattle.lq_generate_reading.proofs.VisibilityLemmas.LevelSteps.{levels_within}
use Rattle.lq_generate_reading.proofs.VisibilityLemmas.Names.{stacked-push}
use Rattle.lq_generate_reading.proofs.visibility.bound.Bound.bind.Goals as goal

pub returns-clause-bound : goal.returns-clause-bound
returns-clause-bound c =
    ap (stacked []) c.in_ok-push.ensures.items
    ∙ stacked-push [] c.args.self.now.entries.items record { name = c.args.name; until = c.args.until }

pub returns-clause-fits : goal.returns-clause-fits
returns-clause-fits c = λ m all h.
    let es = c.args.self.now.entries.items in
    let ls = c.args.self.now.levels.items in
    let f = latest_in c.args.self.now.latest.entries in
    let within = levels_within (annotation_view m) all ls es f h.levels in
    let same : take (length ls) c.push.new.self.items ≡ take (length ls) es =
    ap (take (length ls)) c.in_ok-push.ensures.items ∙ take-append-le (length ls) es _ within in
    record { levels = subst (λ ys. AreLevels (annotation_view m) all (reverse ls) (stacked [] ys) f) (sym same) h.levels }
