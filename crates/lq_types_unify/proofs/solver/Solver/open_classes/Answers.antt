use Rattle.std.proofs.Common.{◌≡◌, ◌<◌, ℕ, [], length, refl, sym, ap, subst, ◌∙◌, rules}
use Rattle.std.specs.Vec.{with_items}
use Rattle.std.proofs.lemmas.List.{with_items_is}
use Rattle.lq_types_unify.specs.Nodes.{form_at}
use Rattle.lq_types_unify.specs.Classes.{up, IsSame, IsKnown}
use Rattle.lq_types_unify.specs.Reaching.{IsReached}
use Rattle.lq_types_unify.specs.Opens.{AreOpenOf, AreOpens}
use Rattle.lq_types_unify.proofs.Beginning.{same_known}
use Rattle.lq_types_unify.proofs.Opening.{opens, opens_in}
use Rattle.lq_types_unify.proofs.Standing.{same_keeps}
use Rattle.lq_types_unify.proofs.solver.Solver.open_classes.Goals as goal

pub returns-clause-open : goal.returns-clause-open
returns-clause-open c =
    let forms = form_at c.args.arena.now in
    let s = c.args.self.now in
    let found = subst (λ l. AreOpenOf forms l c.in_ok-classes.classes.items c.in_ok-all.all.items) c.deref-2.ensures.value (subst (λ l. AreOpenOf forms c.deref-2.result.now l c.in_ok-all.all.items) c.deref-3.ensures.value c.in_ok-all.ensures) in
    subst (λ l. AreOpens forms l s.shapes.items c.args.nodes.now c.in_ok-all.all.items) c.deref_mut.ensures.value
    (opens forms (length c.args.arena.now.nodes.items) c.deref_mut.result.now s.shapes.items c.reach.new.copies c.in_ok-classes.classes.items c.args.nodes.now c.in_ok-all.all.items
    (subst (λ l. IsReached forms (length c.args.arena.now.nodes.items) c.deref_mut.result.now l [] c.reach.new.copies c.in_ok-classes.classes.items c.args.nodes.now) c.deref.ensures.value c.in_ok-classes.ensures.reached) found)

pub returns-clause-knows : goal.returns-clause-knows
returns-clause-knows c = λ equations k.
    let a = c.args.arena.now in
    let s = c.args.self.now in
    let n = length a.nodes.items in
    let p : (with_items s.parents c.reach.new.parents).items ≡ c.reach.new.parents = with_items_is s.parents c.reach.new.parents (search rules) in
    let q : (with_items s.copies c.reach.new.copies).items ≡ c.reach.new.copies = with_items_is s.copies c.reach.new.copies (search rules) in
    let r : (with_items (with_items s.copies c.reach.new.copies) c.restore.new.copies).items ≡ c.restore.new.copies = with_items_is (with_items s.copies c.reach.new.copies) c.restore.new.copies (search rules) in
    let same = subst (λ l. IsSame l c.reach.new.parents) c.deref_mut.ensures.value c.reach.ensures.classes in
    let known = same_known (form_at a) n s.parents.items c.reach.new.parents s.shapes.items s.found.items equations same k.known in
    let long : length c.deref_mut-3.result.now ≡ n = ap length (c.deref_mut-3.ensures.value ∙ q) ∙ c.in_ok-classes.ensures.reached.listed.long in
    let low : (i : ℕ) → i < n → up c.restore.new.copies i < n = subst (λ m. (i : ℕ) → i < m → up c.restore.new.copies i < m) long c.restore.ensures.low in
    record {
      known = subst (λ l. IsKnown (form_at a) n l s.shapes.items s.found.items equations) (sym p) known;
      copies_length = ap length r ∙ c.restore.ensures.length ∙ long;
      copies_low = λ i h. subst (λ l. up l i < n) (sym r) (low i h);
    }

pub returns-clause-inside : goal.returns-clause-inside
returns-clause-inside c =
    let forms = form_at c.args.arena.now in
    let found = subst (λ l. AreOpenOf forms l c.in_ok-classes.classes.items c.in_ok-all.all.items) c.deref-2.ensures.value (subst (λ l. AreOpenOf forms c.deref-2.result.now l c.in_ok-all.all.items) c.deref-3.ensures.value c.in_ok-all.ensures) in
    opens_in forms (length c.args.arena.now.nodes.items) c.args.self.now.shapes.items c.in_ok-classes.classes.items c.in_ok-all.all.items found c.in_ok-classes.ensures.reached.listed.inside

pub returns-in_err-classes-clause-stands : goal.returns-in_err-classes-clause-stands
returns-in_err-classes-clause-stands c =
    let p : (with_items c.args.self.now.parents c.reach.new.parents).items ≡ c.reach.new.parents = with_items_is c.args.self.now.parents c.reach.new.parents (search rules) in
    same_keeps c.args.self.now _ (subst (IsSame c.args.self.now.parents.items) (sym p) (subst (λ l. IsSame l c.reach.new.parents) c.deref_mut.ensures.value c.reach.ensures.classes)) refl refl

pub returns-in_err-all-clause-stands : goal.returns-in_err-all-clause-stands
returns-in_err-all-clause-stands c =
    let p : (with_items c.args.self.now.parents c.reach.new.parents).items ≡ c.reach.new.parents = with_items_is c.args.self.now.parents c.reach.new.parents (search rules) in
    same_keeps c.args.self.now _ (subst (IsSame c.args.self.now.parents.items) (sym p) (subst (λ l. IsSame l c.reach.new.parents) c.deref_mut.ensures.value c.reach.ensures.classes)) refl refl

pub returns-clause-stands : goal.returns-clause-stands
returns-clause-stands c =
    let p : (with_items c.args.self.now.parents c.reach.new.parents).items ≡ c.reach.new.parents = with_items_is c.args.self.now.parents c.reach.new.parents (search rules) in
    same_keeps c.args.self.now _ (subst (IsSame c.args.self.now.parents.items) (sym p) (subst (λ l. IsSame l c.reach.new.parents) c.deref_mut.ensures.value c.reach.ensures.classes)) refl refl
