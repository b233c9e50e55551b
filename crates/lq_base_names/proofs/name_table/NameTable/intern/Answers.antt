use Rattle.std.proofs.Common.{sym, subst, ◌<◌, ◌-◌, ◌^◌, length}
use Rattle.lq_base_names.specs.NameTable.{texts_of, IsNameTable}
use Rattle.lq_base_names.proofs.Texts.{IsNameTable-with_text}
use Rattle.lq_base_names.proofs.name_table.NameTable.intern.Goals as goal

table : (c : goal.In_ok-number) → IsNameTable (texts_of c.put.new.texts.items)
table c =
    IsNameTable-with_text (texts_of c.self.inside.texts.items) (texts_of c.put.new.texts.items) c.args.text.now c.self.invariant.0 c.in_ok-number.ensures.texts c.in_ok-number.ensures.distinct (subst (λ ts. length ts < 2 ^ 32 - 1) (sym c.self.view_is) c.requires)

pub invariant_of-self-2 : goal.invariant_of-self-2
invariant_of-self-2 c = (table c, c.in_ok-number.ensures.numbers)

pub returns-clause-table : goal.returns-clause-table
returns-clause-table c = table c
