use Rattle.std.proofs.Common.{◌≡◌, ◌⊎◌, inl, inr, ℕ, ◌<◌, true, false, List, [], ◌∷◌, ◌++◌, All, length, slice_index_or, sym, subst, ◌∙◌, arith}
use Rattle.lq_types_unify.specs.Knowing.{Knows}
use Rattle.lq_types_unify.specs.Opens.{IsIn}
use Rattle.lq_types_rules.specs.Equations.Adding.{count_of}
use Rattle.lq_types_infer.specs.Inference.Copying.{AreMarked, IsDetermined, AddsUse}
use Rattle.lq_types_infer.proofs.InferenceLemmas.Sharing.{marked_determined, among_determined}
use Rattle.lq_types_infer.proofs.InferenceLemmas.Systems.{copied_system, lent_back, on_ok, on_oks}
use Rattle.lq_types_infer.proofs.inference.copies.add_use.Goals as goal

pub open_classes-requires-2-clause-knows : goal.open_classes-requires-2-clause-knows
open_classes-requires-2-clause-knows c = (c.args.system.now.equations.items, c.in_ok-varying.ensures.knows c.args.system.now.equations.items c.requires.knows)

pub returns-then-are_marked-clause-knows : goal.returns-then-are_marked-clause-knows
returns-then-are_marked-clause-knows c =
    let old = c.args.system.now in
    on_ok (c.add_same.new.system.arena ≡ old.arena) (Knows c.add_same.new.system.arena old.equations.items c.open_classes-2.new.self) c.add_same.result
    (λ e. subst (λ a. Knows a old.equations.items c.open_classes-2.new.self) (sym e)
    (c.in_ok-open.ensures.knows old.equations.items (c.in_ok-varying.ensures.knows old.equations.items c.requires.knows))) c.add_same.ensures.arena

pub returns-then-are_marked-clause-added : goal.returns-then-are_marked-clause-added
returns-then-are_marked-clause-added c =
    let old = c.args.system.now in
    let new = c.add_same.new.system in
    let long : length c.mark.new.weak ≡ c.widen.new.weak.len = omega (arith, c.mark.auto.weak, c.deref_mut.ensures.len) in
    let lent = c.deref-2.ensures.value ∙ lent_back c.widen.new.weak.len c.mark.new.weak c.widen.new.weak.items long in
    let all_ : All (λ r. slice_index_or c.mark.new.weak r false ≡ true) c.in_ok-varying.varying.items =
    subst (All (λ r. slice_index_or c.mark.new.weak r false ≡ true)) c.deref-3.ensures.value
    (subst (λ w. All (λ r. slice_index_or w r false ≡ true) c.deref-3.result.now) lent (c.are_marked.ensures.marked c.if-are_marked.true)) in
    on_oks (new.arena ≡ old.arena) (new.equations.items ≡ old.equations.items ++ (record { left = c.args.node; right = c.args.definition }) ∷ [])
    ((fixed : List ℕ) → All (λ i. i < count_of old) fixed → All (IsIn fixed) c.args.asked.now → All (λ i. IsIn c.args.asked.now i ⊎ IsDetermined old [] i) fixed
    → AddsUse old new fixed c.args.definition c.args.node) c.add_same.result
    (λ a e fixed fixed_in among others. inr (record {
      arena_is = a;
      definition_in = c.requires.definition;
      node_in = c.requires.node;
      equations_are = e;
      determined = among_determined old c.args.asked.now fixed c.args.definition among (marked_determined old c.requires.system c.args.asked.now c.args.definition c.args.solver.now.parents.items c.args.solver.now.shapes.items c.args.solver.now.found.items c.requires.knows.known
          c.in_ok-varying.varying.items c.in_ok-varying.ensures.open c.open_classes.new.self.parents.items c.open_classes.new.self.shapes.items c.open_classes.new.self.found.items
          (c.in_ok-varying.ensures.knows old.equations.items c.requires.knows).known c.in_ok-open.open.items c.in_ok-open.ensures.open c.mark.new.weak
          (subst (AreMarked c.mark.new.weak) c.deref.ensures.value c.mark.ensures.marked) all_);
    }))
    c.add_same.ensures.arena c.add_same.ensures.equations

pub copy-requires-clause-knows : goal.copy-requires-clause-knows
copy-requires-clause-knows c =
    (c.args.system.now.equations.items, c.in_ok-open.ensures.knows c.args.system.now.equations.items (c.in_ok-varying.ensures.knows c.args.system.now.equations.items c.requires.knows))

pub returns-clause-knows : goal.returns-clause-knows
returns-clause-knows c =
    let old = c.args.system.now in
    c.in_ok-used.ensures.knows old.equations.items (c.in_ok-open.ensures.knows old.equations.items (c.in_ok-varying.ensures.knows old.equations.items c.requires.knows))

pub returns-clause-added : goal.returns-clause-added
returns-clause-added c = λ fixed fixed_in among others.
    let old = c.args.system.now in
    let before = c.in_ok-varying.ensures.knows old.equations.items c.requires.knows in
    let known = c.in_ok-open.ensures.knows old.equations.items before in
    let long : length c.mark.new.weak ≡ c.widen.new.weak.len = omega (arith, c.mark.auto.weak, c.deref_mut.ensures.len) in
    let lent = c.deref-4.ensures.value ∙ lent_back c.widen.new.weak.len c.mark.new.weak c.widen.new.weak.items long in
    inl (record {
      system = copied_system old (record { arena = c.copy.new.arena; equations = c.push.new.self }) _ _ _ c.args.definition c.args.node c.in_ok-used.used c.requires.system c.in_ok-used.ensures.arena
          c.in_ok-used.ensures.longer.more c.in_ok-used.ensures.copy c.requires.node c.in_ok-used.ensures.inside c.in_ok-push.ensures.items;
      longer = c.in_ok-used.ensures.longer.more;
      definition_in = c.requires.definition;
      node_in = c.requires.node;
      fixed_in = fixed_in;
      used = c.in_ok-used.used;
      inside = c.in_ok-used.ensures.inside;
      equations_are = c.in_ok-push.ensures.items;
      asked = c.args.asked.now;
      among = among;
      others = others;
      open_ = c.in_ok-open.open.items;
      weak = c.deref-4.result.now;
      marked = subst (λ w. AreMarked w c.in_ok-open.open.items) (sym lent) (subst (AreMarked c.mark.new.weak) c.deref.ensures.value c.mark.ensures.marked);
      parents_before = c.open_classes.new.self.parents.items;
      shapes_before = c.open_classes.new.self.shapes.items;
      found_before = c.open_classes.new.self.found.items;
      known_before = before.known;
      opens = c.in_ok-open.ensures.open;
      parents = c.open_classes-2.new.self.parents.items;
      shapes = c.open_classes-2.new.self.shapes.items;
      found = c.open_classes-2.new.self.found.items;
      known = known.known;
      copy = c.in_ok-used.ensures.copy;
    })
