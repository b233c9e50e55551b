use Rattle.std.proofs.Common.{subst}
use Rattle.lq_logic_predicates.specs.RowMeaning.{MeetsRows}
use Rattle.lq_solve_facts.specs.Facts.Known.{readings_of}
use Rattle.lq_solve_facts.specs.Facts.Read.{hypothesis_reading}
use Rattle.lq_solve_facts.specs.Facts.Values.{MeetsEachRow}
use Rattle.lq_solve_facts.proofs.FactsLemmas.Holding.{first_readings, more_readings}
use Rattle.lq_solve_facts.proofs.FactsLemmas.Members.{each_split, with_reading}
use Rattle.lq_solve_facts.proofs.facts.known.Known.add.Goals as goal

pub returns-clause-read : goal.returns-clause-read
returns-clause-read c = λ v p a m.
    let old = readings_of c.args.self.now in
    let r = c.in_ok-read.read in
    let e = with_reading c.take_facts-read.new.self.readings.items c.push.new.self.items r old (λ x. hypothesis_reading x.value) c.take_facts-read.ensures.same c.in_ok-push.ensures.items in
    let both = each_split v p old (hypothesis_reading r.value) (subst (MeetsEachRow v p) e m) in
    (both.0, c.take_facts-read.ensures.read v p a (subst (λ x. MeetsRows v p (hypothesis_reading x)) c.in_ok-read.ensures.ok both.1))

pub returns-clause-keeps : goal.returns-clause-keeps
returns-clause-keeps c =
    let old = readings_of c.args.self.now in
    let r = c.in_ok-read.read in
    let before = c.take_facts-read.ensures.keeps in
    let e = with_reading c.take_facts-read.new.self.readings.items c.push.new.self.items r old (λ x. hypothesis_reading x.value) c.take_facts-read.ensures.same c.in_ok-push.ensures.items in record {
      count = before.count;
      first = before.first;
      reading_count = more_readings old _ (hypothesis_reading r.value) e;
      readings = λ n w. first_readings old _ (hypothesis_reading r.value) n e w;
      terms = before.terms;
    }
