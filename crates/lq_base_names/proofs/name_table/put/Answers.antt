use Rattle.std.proofs.Common.{◌≡◌, sym, ap, subst, ◌∙◌, ◌∷◌, ◌++◌, [], Some, None, true, false, arith, length, slice_get, refl}
use Rattle.std.specs.BTreeMap.{get_by_text}
use Rattle.std.specs.List.{list_any}
use Rattle.std.specs.Map.{update}
use Rattle.std.specs.Str.{bytes_eq}
use Rattle.std.specs.String.{string_bytes}
use Rattle.std.proofs.lemmas.List.{length-map}
use Rattle.lq_base_names.specs.NameTable.{texts_of, with_text, AreNumbers, HasOneNumberEach}
use Rattle.lq_base_names.proofs.Texts.{there, with_text-there, with_text-new, one_number_each, more_numbers, at-last}
use Rattle.lq_base_names.proofs.name_table.put.Goals as goal

at : (c : goal.In-Some) → slice_get (texts_of c.args.texts.now.items) c.in-Some.number ≡ Some c.args.text.now
at c = c.requires.numbers.known c.args.text.now c.in-Some.number cc

pub returns-in-Some-clause-texts : goal.returns-in-Some-clause-texts
returns-in-Some-clause-texts c =
    sym (with_text-there (texts_of c.args.texts.now.items) c.args.text.now (there (texts_of c.args.texts.now.items) c.args.text.now c.in-Some.number (at c)))

pub returns-in-Some-clause-number : goal.returns-in-Some-clause-number
returns-in-Some-clause-number c = at c

new : (c : goal.In_ok-number-in-None) → list_any (bytes_eq c.args.text.now) (texts_of c.args.texts.now.items) ≡ false
new c = c.requires.numbers.others c.args.text.now cc

len : (c : goal.In_ok-number-in-None) → length (texts_of c.args.texts.now.items) ≡ length c.args.texts.now.items
len c = length-map c.args.texts.now.items string_bytes

pub returns-in_ok-number-in-None-clause-numbers : goal.returns-in_ok-number-in-None-clause-numbers
returns-in_ok-number-in-None-clause-numbers c =
    subst (λ ts. AreNumbers ts c.add.new.numbers) (sym c.in_ok-number-in-None.ensures.texts)
    (more_numbers (texts_of c.args.texts.now.items) c.args.text.now c.args.numbers.now c.add.new.numbers c.requires.numbers
    (λ q. c.in_ok-number-in-None.ensures.numbers q ∙ ap (λ n. update bytes_eq (get_by_text c.args.numbers.now) c.args.text.now (Some n) q) (sym (len c))))

pub returns-in_ok-number-in-None-clause-distinct : goal.returns-in_ok-number-in-None-clause-distinct
returns-in_ok-number-in-None-clause-distinct c =
    subst HasOneNumberEach (sym c.in_ok-number-in-None.ensures.texts)
    (one_number_each (texts_of c.args.texts.now.items) c.args.text.now (new c) c.requires.distinct)
