use Rattle.std.proofs.Common.{◌∙◌, ◌+◌, ◌++◌, ◌∷◌, [], sym, ap, subst, map, take}
use Rattle.std.proofs.lemmas.List.{take_all}
use Rattle.lq_prover_decide.specs.Case.{fact_of}
use Rattle.lq_prover_decide.specs.Settled.{AgreeOnFlags, HasFlags}
use Rattle.lq_prover_decide.proofs.Reading.{agree_first, flags_push, flags_still, no_flag}
use Rattle.lq_prover_case.proofs.EquationsLemmas.Flags.{flags_updated}
use Rattle.lq_prover_case.proofs.EquationsLemmas.Sides.{seen-more}
use Rattle.lq_prover_decide.proofs.values.flag_values.Goals as goal
use Rattle.lq_prover_decide.proofs.values.flag_values.Goals.{in-Flag+in_ok-insert, in_default}

pub loop-fact-preserved : goal.loop-fact-preserved
loop-fact-preserved c =
    let facts = c.args.facts.now in
    let i = c.loop-fact.fact-index in
    let front = map fact_of (take i facts) in
    let f = c.fact-item.result in
    let more = seen-more fact_of facts i f f c.loop-fact-test.true c.fact-item.is in
    elim c.match-fact.branch [
      | in-Flag+in_ok-insert w ↦
          let x = w.in-Flag.flag in
          let b = w.in-Flag.value in
          let m = more ∙ ap (λ z. front ++ fact_of z ∷ []) w.in-Flag.is in
          rw w.flags-is (subst (λ l. HasFlags l w.insert.new.self.entries) (sym m)
          (flags_push front c.loop-fact.flags.entries w.insert.new.self.entries x b (subst AgreeOnFlags m (agree_first fact_of facts (i + 1) c.requires)) (flags_updated c.loop-fact.flags.entries w.insert.new.self.entries x b w.in_ok-insert.ensures.updates.0) c.loop-fact.invariant))
      | in_default w ↦
          rw w.flags-is (subst (λ l. HasFlags l c.loop-fact.flags.entries) (sym more) (flags_still front c.loop-fact.flags.entries (fact_of f) (no_flag f w.in_default.not-Flag) c.loop-fact.invariant))
    ]

pub returns : goal.returns
returns c = subst (λ l. HasFlags (map fact_of l) c.loop-fact.flags.entries) (take_all c.loop-fact.fact-index c.args.facts.now c.loop-fact-test.false) c.loop-fact.invariant
