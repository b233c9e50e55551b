use Rattle.std.proofs.Common.{◌≡◌, ◌≤◌, [], map, fold, take, length}
use Rattle.lq_base_names.specs.NameTable.{with_text, texts_of, AreNumbers, HasOneNumberEach}
use Rattle.lq_base_names.proofs.name_table.NameTable.new.Given as goal

abbrev pub invariant-loop-text : goal.invariant-loop-text
invariant-loop-text l = record {
  texts : texts_of l.texts.items ≡ fold with_text [] (map (λ x. x.now) (take l.text-index l.text-items));
  numbers : AreNumbers (texts_of l.texts.items) l.numbers;
  distinct : HasOneNumberEach (texts_of l.texts.items);
  few : length l.texts.items ≤ l.text-index;
}
