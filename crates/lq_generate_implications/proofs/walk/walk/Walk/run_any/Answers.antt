use Rattle.std.proofs.Common.{refl}
use Rattle.lq_refined_rules.specs.Checks.Tree.{run_any}
use Rattle.lq_refined_rules.specs.Obligations.Obligations.{of_given}
use Rattle.lq_refined_templates.specs.Programs.BlockView.{block_view}
use Rattle.lq_generate_implications.proofs.WalkLemmas.Opening.{let-go, named}
use Rattle.lq_generate_implications.proofs.WalkLemmas.Stepping.{asks-ended, steps-asks}
use Rattle.lq_generate_implications.proofs.walk.walk.Walk.run_any.Goals as goal

pub returns : goal.returns
returns c =
    let b = c.args.basis.now in
    let w = c.args.self.now in
    let v = c.to_last.new.self in
    let n = c.back_to.new.self in
    let k = block_view c.args.block.now in
    let e = c.in_ok-_last.ensures in
    steps-asks b w c.args.env c.requires (named v n) (λ P Γ. of_given P Γ k) (λ rest. run_any k rest) (λ P Γ rest. refl)
    (asks-ended b w v n c.args.env c.in_ok-_last._last.env c.in_ok-_last._last.row k c.requires e
    (let-go w.names v.names v.names n c.len-mark.result e.opens.names refl c.len-mark.ensures c.back_to.ensures))
