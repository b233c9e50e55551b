use Rattle.std.specs.Prelude.{slice_index_or}
use Rattle.std.proofs.Common.{◌≡◌, ◌<◌, ℕ, Bool, true, List, false, length, refl, sym, ap, subst, ◌∙◌, rules}
use Rattle.std.proofs.lemmas.List.{length-set, get_or_read_under}
use Rattle.lq_types_table.specs.Nodes.{at}
use Rattle.lq_types_table.specs.Whole.{types_of}
use Rattle.lq_types_rules.specs.Typings.Principal.{variables_of}
use Rattle.lq_types_infer.specs.Annotation.Numbering.{numbers_of, AreDone}
use Rattle.lq_types_infer.proofs.AnnotationLemmas.Naming.{closed_slot, done_slot, done_next, room_next}
use Rattle.lq_types_infer.proofs.annotation.numbering.Naming.name_slot.Goals as goal

pub returns-then-not-open-row-clause-numbers : goal.returns-then-not-open-row-clause-numbers
returns-then-not-open-row-clause-numbers c =
    let h = c.if-not-open-row.true in
    let is : slice_index_or c.args.open.now c.args.row false ≡ false = search rules in
    closed_slot (types_of c.args.table.now) c.args.open.now c.args.row (numbers_of c.args.self.now) c.requires.row c.requires.open is

pub returns-then-index-clause-numbers : goal.returns-then-index-clause-numbers
returns-then-index-clause-numbers c =
    let done = c.args.self.now.done.items in
    let row = c.args.row in
    let low : row < length done = subst (λ (k : ℕ). row < k) (sym c.requires.naming.long) c.requires.row in
    let is : slice_index_or done row false ≡ true =
    sym (get_or_read_under done row (length done) c.index.result.now false c.index.ensures low refl) ∙ c.if-index.true in
    done_slot (at (types_of c.args.table.now) row) (numbers_of c.args.self.now) (c.requires.naming.done row is)

pub returns-clause-naming : goal.returns-clause-naming
returns-clause-naming c =
    let all = types_of c.args.table.now in
    let row = c.args.row in
    let old = c.args.self.now in
    let new = c.name_type.new.self in
    let same : new.done.items ≡ old.done.items = ap (λ d. d.items) c.in_ok-name_type.ensures.done in
    let long : length new.done.items ≡ length all = ap length same ∙ c.requires.naming.long in
    let before : AreDone all new.done.items old.names.items = subst (λ (ds : List Bool). AreDone all ds old.names.items) (sym same)
    c.requires.naming.done in
    record {
      long = length-set new.done.items row true ∙ long;
      room = room_next all (numbers_of old) (numbers_of new) (variables_of (at all row)) c.in_ok-name_type.ensures.numbers c.requires.naming.room;
      done = done_next all (numbers_of old) (numbers_of new) new.done.items row (subst (λ (k : ℕ). row < k) (sym long) c.requires.row)
          (c.requires.naming.room row c.requires.row) before c.in_ok-name_type.ensures.numbers;
    }
