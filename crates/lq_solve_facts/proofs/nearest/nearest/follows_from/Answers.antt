use Rattle.lq_solve_facts.proofs.nearest.nearest.follows_from.Goals as goal

pub loop-round-init : goal.loop-round-init
loop-round-init c = record { holds = λ p h m. h; less = λ p m. m }

pub loop-round-preserved : goal.loop-round-preserved
loop-round-preserved c =
    let before = c.loop-round.invariant in record {
      holds = λ p h m. c.in_ok-found.ensures.kept p (c.in_ok-more.ensures.holds p (before.holds p h m) (before.less p m));
      less = λ p m. c.in_ok-more.ensures.less c.if-not-more.false p (before.less p m);
    }

pub returns-then-found : goal.returns-then-found
returns-then-found c = λ _ p h m.
    let before = c.loop-round.invariant in c.in_ok-found.ensures.proved c.if-found.true p (c.in_ok-more.ensures.holds p (before.holds p h m) (before.less p m))
