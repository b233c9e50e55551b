use Rattle.std.proofs.Common.{subst}
use Rattle.lq_logic_predicates.specs.RowMeaning.{MeetsRows}
use Rattle.lq_solve_facts.specs.Facts.Known.{readings_of}
use Rattle.lq_solve_facts.specs.Facts.Read.{hypothesis_reading}
use Rattle.lq_solve_facts.specs.Facts.Values.{MeetsEachRow}
use Rattle.lq_solve_facts.proofs.FactsLemmas.Holding.{first_readings, keeps_self, more_readings, read_kept}
use Rattle.lq_solve_facts.proofs.FactsLemmas.Members.{each_split, hypothesis_met, with_reading}
use Rattle.lq_solve_facts.proofs.facts.known.Known.add_read.Goals as goal

pub returns-clause-read : goal.returns-clause-read
returns-clause-read c = λ h i v p a m.
    let old = readings_of c.args.self.now in
    let r = c.in_ok-kept.kept in
    let e = with_reading c.take_read.new.self.readings.items c.push.new.self.items r old (λ x. hypothesis_reading x.value) c.take_read.ensures.same c.in_ok-push.ensures.items in
    let both = each_split v p old (hypothesis_reading r.value) (subst (MeetsEachRow v p) e m) in
    (both.0, hypothesis_met _ v p c.args.read.now.value h (read_kept c.args.self.now c.take_read.new.self c.args.read.now.value h c.take_read.ensures.keeps i) a (subst (λ x. MeetsRows v p (hypothesis_reading x)) c.in_ok-kept.ensures.cases both.1))

pub returns-clause-keeps : goal.returns-clause-keeps
returns-clause-keeps c =
    let old = readings_of c.args.self.now in
    let r = c.in_ok-kept.kept in
    let before = c.take_read.ensures.keeps in
    let e = with_reading c.take_read.new.self.readings.items c.push.new.self.items r old (λ x. hypothesis_reading x.value) c.take_read.ensures.same c.in_ok-push.ensures.items in record {
      count = before.count;
      first = before.first;
      reading_count = more_readings old _ (hypothesis_reading r.value) e;
      readings = λ n w. first_readings old _ (hypothesis_reading r.value) n e w;
      terms = before.terms;
    }

pub returns-in_err-kept-clause-keeps : goal.returns-in_err-kept-clause-keeps
returns-in_err-kept-clause-keeps c = keeps_self _
