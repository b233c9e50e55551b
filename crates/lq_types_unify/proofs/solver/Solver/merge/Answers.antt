use Rattle.std.proofs.Common.{◌≡◌, refl, rules}
use Rattle.std.specs.Vec.{with_items}
use Rattle.std.proofs.lemmas.List.{with_items_is}
use Rattle.lq_types_unify.proofs.Knowing.{merged, clashed}
use Rattle.lq_types_unify.proofs.Standing.{merged_between}
use Rattle.lq_types_unify.proofs.solver.Solver.merge.Goals as goal

pub returns-clause-knows : goal.returns-clause-knows
returns-clause-knows c = λ t.
    let p : (with_items c.args.self.now.parents c.merge.new.parents).items ≡ c.merge.new.parents = with_items_is c.args.self.now.parents c.merge.new.parents (search rules) in
    let q : (with_items c.args.self.now.shapes c.merge.new.shapes).items ≡ c.merge.new.shapes = with_items_is c.args.self.now.shapes c.merge.new.shapes (search rules) in
    merged c.args.arena.now c.args.equations.now c.args.from c.args.self.now _ _ c.merge.new.parents _ c.merge.new.shapes c.deref_mut.ensures.value c.deref_mut-2.ensures.value p q refl (c.in_ok-met.ensures.known t) c.requires.knows

pub returns-clause-none : goal.returns-clause-none
returns-clause-none c = λ t. clashed c.args.arena.now c.args.equations.now c.args.from c.args.self.now _ _ c.deref_mut.ensures.value c.deref_mut-2.ensures.value (c.in_ok-met.ensures.clash t) c.requires.knows

pub returns-in_err-met-clause-stands : goal.returns-in_err-met-clause-stands
returns-in_err-met-clause-stands c =
    let p : (with_items c.args.self.now.parents c.merge.new.parents).items ≡ c.merge.new.parents = with_items_is c.args.self.now.parents c.merge.new.parents (search rules) in
    let q : (with_items c.args.self.now.shapes c.merge.new.shapes).items ≡ c.merge.new.shapes = with_items_is c.args.self.now.shapes c.merge.new.shapes (search rules) in
    merged_between c.args.arena.now c.args.equations.now c.args.from c.args.self.now _ _ c.merge.new.parents _ c.merge.new.shapes c.deref_mut.ensures.value c.deref_mut-2.ensures.value p q refl c.merge.ensures.stands c.requires.knows

pub returns-clause-stands : goal.returns-clause-stands
returns-clause-stands c =
    let p : (with_items c.args.self.now.parents c.merge.new.parents).items ≡ c.merge.new.parents = with_items_is c.args.self.now.parents c.merge.new.parents (search rules) in
    let q : (with_items c.args.self.now.shapes c.merge.new.shapes).items ≡ c.merge.new.shapes = with_items_is c.args.self.now.shapes c.merge.new.shapes (search rules) in
    merged_between c.args.arena.now c.args.equations.now c.args.from c.args.self.now _ _ c.merge.new.parents _ c.merge.new.shapes c.deref_mut.ensures.value c.deref_mut-2.ensures.value p q refl c.merge.ensures.stands c.requires.knows
