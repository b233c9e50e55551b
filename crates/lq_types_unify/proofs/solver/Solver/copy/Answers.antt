use Rattle.std.proofs.Common.{◌≡◌, ◌<◌, length, refl, sym, ap, subst, ◌∙◌, rules}
use Rattle.std.specs.Vec.{with_items}
use Rattle.std.proofs.lemmas.List.{with_items_is}
use Rattle.lq_types_unify.specs.declared.solver.Solver.{Solver}
use Rattle.lq_types_unify.specs.Nodes.{form_at}
use Rattle.lq_types_unify.specs.Classes.{up, IsSame, IsKnown}
use Rattle.lq_types_unify.proofs.Beginning.{same_known}
use Rattle.lq_types_unify.proofs.Knowing.{copied_knows}
use Rattle.lq_types_unify.proofs.Standing.{kept_longer, keeps_then, same_keeps, widened_keeps}
use Rattle.lq_types_unify.proofs.solver.Solver.copy.Goals as goal

pub returns-clause-inside : goal.returns-clause-inside
returns-clause-inside c = c.in_ok-used.ensures.placed.inside

pub returns-clause-knows : goal.returns-clause-knows
returns-clause-knows c = λ equations k.
    let old = c.args.arena.now in
    let p : (with_items c.args.self.now.parents c.place.new.parents).items ≡ c.place.new.parents = with_items_is c.args.self.now.parents c.place.new.parents (search rules) in
    let q : (with_items c.args.self.now.copies c.place.new.copies).items ≡ c.place.new.copies = with_items_is c.args.self.now.copies c.place.new.copies (search rules) in
    let e : c.len.result ≡ length c.place.new.arena.nodes.items = search rules in
    let same = subst (λ l. IsSame l c.place.new.parents) c.deref_mut.ensures.value c.in_ok-used.ensures.classes in
    let known = same_known (form_at old) (length old.nodes.items) c.args.self.now.parents.items c.place.new.parents c.args.self.now.shapes.items c.args.self.now.found.items equations same k.known in
    let placed = c.in_ok-used.ensures.placed in
    copied_knows old c.place.new.arena equations (record { parents = with_items c.args.self.now.parents c.place.new.parents; shapes = c.args.self.now.shapes; found = c.args.self.now.found; copies = with_items c.args.self.now.copies c.place.new.copies })
    c.stretch.new.self c.len.result e placed.longer
    (subst (λ l. IsKnown (form_at old) (length old.nodes.items) l c.args.self.now.shapes.items c.args.self.now.found.items equations) (sym p) known)
    (ap length q ∙ c.in_ok-used.ensures.copies)
    (λ i h. subst (λ l. up l i < length c.place.new.arena.nodes.items) (sym q) (placed.low i h)) c.in_ok-stretch.ensures.stretched

pub returns-in_err-used-clause-arena : goal.returns-in_err-used-clause-arena
returns-in_err-used-clause-arena c = c.in_err-used.ensures.kept.arena

pub returns-in_err-used-clause-longer : goal.returns-in_err-used-clause-longer
returns-in_err-used-clause-longer c = kept_longer _ _ c.in_err-used.ensures.kept

pub returns-in_err-used-clause-stands : goal.returns-in_err-used-clause-stands
returns-in_err-used-clause-stands c =
    let p : (with_items c.args.self.now.parents c.place.new.parents).items ≡ c.place.new.parents = with_items_is c.args.self.now.parents c.place.new.parents (search rules) in
    let same = subst (IsSame c.args.self.now.parents.items) (sym p) (subst (λ l. IsSame l c.place.new.parents) c.deref_mut.ensures.value c.place.ensures.classes) in
    same_keeps c.args.self.now _ same refl refl

pub returns-in_err-stretch-clause-stands : goal.returns-in_err-stretch-clause-stands
returns-in_err-stretch-clause-stands c =
    let p : (with_items c.args.self.now.parents c.place.new.parents).items ≡ c.place.new.parents = with_items_is c.args.self.now.parents c.place.new.parents (search rules) in
    let same = subst (IsSame c.args.self.now.parents.items) (sym p) (subst (λ l. IsSame l c.place.new.parents) c.deref_mut.ensures.value c.place.ensures.classes) in
    let mid : Solver = record { parents = with_items c.args.self.now.parents c.place.new.parents; shapes = c.args.self.now.shapes; found = c.args.self.now.found; copies = with_items c.args.self.now.copies c.place.new.copies } in
    keeps_then c.args.self.now mid c.stretch.new.self (same_keeps c.args.self.now mid same refl refl) (widened_keeps mid c.stretch.new.self same.down c.stretch.ensures.widened)

pub returns-clause-stands : goal.returns-clause-stands
returns-clause-stands c =
    let p : (with_items c.args.self.now.parents c.place.new.parents).items ≡ c.place.new.parents = with_items_is c.args.self.now.parents c.place.new.parents (search rules) in
    let same = subst (IsSame c.args.self.now.parents.items) (sym p) (subst (λ l. IsSame l c.place.new.parents) c.deref_mut.ensures.value c.place.ensures.classes) in
    let mid : Solver = record { parents = with_items c.args.self.now.parents c.place.new.parents; shapes = c.args.self.now.shapes; found = c.args.self.now.found; copies = with_items c.args.self.now.copies c.place.new.copies } in
    keeps_then c.args.self.now mid c.stretch.new.self (same_keeps c.args.self.now mid same refl refl) (widened_keeps mid c.stretch.new.self same.down c.stretch.ensures.widened)
