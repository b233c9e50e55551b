use Rattle.lq_refined_types.specs.Types.Refined.{type_at}
use Rattle.lq_refined_subtyping.specs.Table.Forms.{each}
use Rattle.lq_generate_operations.specs.Basis.Basis.{scopes_of, types_in}
use Rattle.lq_generate_implications.proofs.WalkLemmas.Walks.{finds-types}
use Rattle.lq_generate_implications.proofs.walk.walk.Walk.row_at.Goals as goal

pub returns : goal.returns
returns c =
    let b = c.args.basis.now in
    let w = c.args.self.now in
    finds-types b w c.args.env c.requires.sound c.row_at.new.types c.in_ok-made.made (λ P Γ. type_at (each (types_in b w.types) c.args.rows.now) c.args.at)
    c.row_at.ensures.grows c.in_ok-made.ensures.there (λ P Γ s k. c.in_ok-made.ensures.refined (scopes_of b))
