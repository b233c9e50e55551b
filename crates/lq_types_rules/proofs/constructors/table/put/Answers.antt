use Rattle.std.proofs.Common.{None, Some, get_or, sym, ap, ◌∙◌, arith, get_or-set_same, get_or-set_other}
use Rattle.lq_types_rules.proofs.ConstructorsLemmas.Filing.{put_free, put_taken}
use Rattle.lq_types_rules.proofs.constructors.table.put.Goals as goal

pub returns-then-is_free : goal.returns-then-is_free
returns-then-is_free c = λ ks k is h.
    let n = c.args.name.0 in
    let wide = c.in_ok-widen.ensures in
    let free = ap (λ es. get_or es n None) (sym c.deref.ensures.value) ∙ c.is_free.ensures.yes c.if-is_free.true in
    put_free c.args.constructors.now _ ks n k c.args.template c.requires is (λ i q. get_or-set_other c.widen.new.entries.items n i (Some c.args.template) None q ∙ wide.same i) (get_or-set_same c.widen.new.entries.items n (Some c.args.template) None (let l = wide.length in omega arith)) (sym (wide.same n) ∙ free) h

pub returns-else-is_free : goal.returns-else-is_free
returns-else-is_free c = λ ks k is h.
    let n = c.args.name.0 in
    let wide = c.in_ok-widen.ensures in
    put_taken c.args.constructors.now _ ks n k wide.same (λ e. c.is_free.ensures.no c.if-is_free.false (ap (λ es. get_or es n None) c.deref.ensures.value ∙ wide.same n ∙ e)) h
