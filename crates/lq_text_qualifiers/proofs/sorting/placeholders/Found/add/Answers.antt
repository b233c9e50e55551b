use Rattle.std.proofs.Common.{◌≡◌, ℕ, ◌∷◌, [], map, length, sym, ap, ◌∙◌}
use Rattle.std.proofs.lemmas.List.{length-map, map-append}
use Rattle.lq_text_qualifiers.specs.Faults.Lookups.{first_in}
use Rattle.lq_text_qualifiers.specs.Faults.Shapes.{Shape}
use Rattle.lq_text_qualifiers.specs.Sorting.Placeholders.{numbered}
use Rattle.lq_text_qualifiers.specs.Sorting.Views.{held, shape_view}
use Rattle.lq_text_qualifiers.specs.Sorting.Walking.{found_uses, use_view}
use Rattle.lq_text_qualifiers.proofs.SortingLemmas.Looking.{numbered_more}
use Rattle.lq_text_qualifiers.proofs.sorting.placeholders.Found.add.Goals as goal

pub returns-in_ok-add-clause-numbered : goal.returns-in_ok-add-clause-numbered
returns-in_ok-add-clause-numbered c =
    let us = found_uses c.args.self.now in
    let u : ℕ × Shape = (c.args.name.0, shape_view c.args.shape) in
    let items = ap (map use_view) c.in_ok-push.ensures.items ∙ map-append use_view c.args.self.now.uses.items (_ ∷ []) in
    let count : c.len-number.result ≡ length us =
    let ok = c.args.self.now.uses.ok in let is = c.len-number.ensures in let mapped = length-map c.args.self.now.uses.items use_view in cc
    in
    λ x. numbered_more (held c.args.self.now.numbers) (held c.add.new.self) us u c.len-number.result count c.in_ok-add.ensures c.requires x
    ∙ ap (λ l. first_in (numbered 0 l) x) (sym items)
