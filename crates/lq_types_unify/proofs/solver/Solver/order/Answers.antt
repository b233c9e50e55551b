use Rattle.std.proofs.Common.{◌≡◌, ◌∙◌, ℕ, List, length, refl, sym, subst, rules}
use Rattle.std.specs.Vec.{with_items}
use Rattle.std.proofs.lemmas.List.{with_items_is}
use Rattle.lq_types_unify.specs.declared.arena.Equation.{Equation}
use Rattle.lq_types_unify.specs.Nodes.{form_at}
use Rattle.lq_types_unify.specs.Solution.{Fits, HasNoSolution}
use Rattle.lq_types_unify.specs.Simple.{Simple}
use Rattle.lq_types_unify.specs.Classes.{IsSame, AreShared}
use Rattle.lq_types_unify.specs.Knowing.{Knows}
use Rattle.lq_types_unify.proofs.Beginning.{no_cycle_solution, same_known}
use Rattle.lq_types_unify.proofs.Knowing.{known_same, none_by}
use Rattle.lq_types_unify.proofs.solver.Solver.order.Goals as goal

pub returns-clause-knows : goal.returns-clause-knows
returns-clause-knows c = λ equations k.
    let p : (with_items c.args.self.now.parents c.flatten.new.parents).items ≡ c.flatten.new.parents = with_items_is c.args.self.now.parents c.flatten.new.parents (search rules) in
    known_same c.args.arena.now equations c.args.self.now _
    (subst (IsSame c.args.self.now.parents.items) (sym p) (subst (λ l. IsSame l c.flatten.new.parents) c.deref_mut.ensures.value c.flatten.ensures.classes)) refl refl refl k

pub returns-in_err-found-clause-knows : goal.returns-in_err-found-clause-knows
returns-in_err-found-clause-knows c = λ equations k.
    let p : (with_items c.args.self.now.parents c.flatten.new.parents).items ≡ c.flatten.new.parents = with_items_is c.args.self.now.parents c.flatten.new.parents (search rules) in
    known_same c.args.arena.now equations c.args.self.now _
    (subst (IsSame c.args.self.now.parents.items) (sym p) (subst (λ l. IsSame l c.flatten.new.parents) c.deref_mut.ensures.value c.flatten.ensures.classes)) refl refl refl k

pub returns-clause-none : goal.returns-clause-none
returns-clause-none c =
    let forms = form_at c.args.arena.now in
    let p : (with_items c.args.self.now.parents c.flatten.new.parents).items ≡ c.flatten.new.parents = with_items_is c.args.self.now.parents c.flatten.new.parents (search rules) in
    let same = subst (λ l. IsSame l c.flatten.new.parents) c.deref_mut.ensures.value c.flatten.ensures.classes in
    none_by c.in_ok-found.found ((types : ℕ → Simple) → Fits forms types → AreShared c.deref.result.now types → ⊥)
    ((equations : List Equation) → Knows c.args.arena.now equations c.args.self.now → HasNoSolution forms equations)
    (λ h equations k. no_cycle_solution forms (length c.args.arena.now.nodes.items) c.flatten.new.parents c.args.self.now.shapes.items c.args.self.now.found.items equations
    (same_known forms (length c.args.arena.now.nodes.items) c.args.self.now.parents.items c.flatten.new.parents c.args.self.now.shapes.items c.args.self.now.found.items equations same k.known)
    (subst (λ l. (types : ℕ → Simple) → Fits forms types → AreShared l types → ⊥) (c.deref.ensures.value ∙ p) h)) c.in_ok-found.ensures.cycle
