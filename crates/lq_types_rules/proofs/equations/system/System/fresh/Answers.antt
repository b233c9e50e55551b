use Rattle.std.proofs.Common.{◌≡◌, ◌+◌, [], ◌∷◌, length, refl, sym, ap, subst, arith, length-append}
use Rattle.lq_text_tree.specs.Types.{count_types}
use Rattle.lq_types_rules.specs.declared.equations.system.System.{System}
use Rattle.lq_types_rules.specs.Equations.Adding.{count_of, Offers}
use Rattle.lq_types_rules.proofs.EquationsLemmas.Opening.{IsOpened, opened_none, opened_more, opened_offers}
use Rattle.lq_types_rules.proofs.equations.system.System.fresh.Goals as goal

pub loop-init : goal.loop-init
loop-init c = record {
  opened = subst (λ xs. IsOpened c.args.self.now c.args.self.now (count_of c.args.self.now) 0 xs) (sym c.new-roots.ensures.items) (opened_none c.args.self.now c.requires);
  count = ap length c.new-roots.ensures.items;
}

pub loop-preserved : goal.loop-preserved
loop-preserved c =
    let new : System = record { arena = c.open.new.self; equations = c.loop.self.equations } in
    record {
      opened = subst (λ xs. IsOpened c.args.self.now new (count_of c.args.self.now) (c.loop.counter + 1) xs) (sym c.in_ok-push.ensures.items)
          (opened_more c.args.self.now c.loop.self new (count_of c.args.self.now) c.loop.counter c.in_ok-node.node c.loop.roots.items c.loop.invariant.opened c.in_ok-node.ensures.added refl);
      count = let e = ap length c.in_ok-push.ensures.items in let k = c.loop.invariant.count in omega (arith, e, length-append c.loop.roots.items (c.in_ok-node.node ∷ []));
    }

pub returns-clause-offers : goal.returns-clause-offers
returns-clause-offers c =
    let e : c.loop.counter ≡ c.args.count = let b = c.loop-test.false in let d = c.loop.auto.counter-end in omega arith in
    subst (λ n. Offers c.args.self.now c.loop.self c.loop.roots.items (λ t ts. count_types ts ≡ n)) e
    (opened_offers c.args.self.now c.loop.self (count_of c.args.self.now) c.loop.counter c.loop.roots.items c.requires c.loop.invariant.opened)
