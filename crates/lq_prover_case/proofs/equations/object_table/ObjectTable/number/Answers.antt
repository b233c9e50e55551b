use Rattle.std.proofs.Common.{◌≡◌, ◌∙◌, ap, true, false, slice_get}
use Rattle.lq_logic_predicates.proofs.Keys.{list_any-keys, position-is, position_or_len-keys}
use Rattle.lq_logic_predicates.specs.Numbering.{slice_get-index_of}
use Rattle.lq_logic_predicates.specs.Sum.{same}
use Rattle.lq_logic_predicates.specs.TermView.{sum_of}
use Rattle.lq_prover_case.specs.Equations.Naming.{objects_of}
use Rattle.lq_prover_case.proofs.equations.object_table.ObjectTable.number.Goals as goal

pub unreachable-requires : goal.unreachable-requires
unreachable-requires c =
    let none : false ≡ true = c.in-None.ensures.found ∙ list_any-keys (sum_of c.args.object.now) c.args.self.now.terms.keys ∙ c.requires in cc

pub returns : goal.returns
returns c =
    let keys = c.args.self.now.terms.keys in
    ap (slice_get (objects_of c.args.self.now))
    (position-is (λ k. same (sum_of c.args.object.now) (sum_of k)) keys c.in-Some.at c.in-Some.ensures.index ∙ position_or_len-keys (sum_of c.args.object.now) keys)
    ∙ slice_get-index_of (objects_of c.args.self.now) (sum_of c.args.object.now) c.requires
