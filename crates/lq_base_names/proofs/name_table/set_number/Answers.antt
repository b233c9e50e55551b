use Rattle.std.proofs.Common.{Some}
use Rattle.std.specs.String.{string_bytes}
use Rattle.std.proofs.lemmas.Map.Text.{btree_map_updates_text}
use Rattle.lq_base_names.proofs.name_table.set_number.Goals as goal

pub returns-clause-number : goal.returns-clause-number
returns-clause-number c =
    btree_map_updates_text (string_bytes c.args.text) c.args.numbers.now c.insert.new.self (Some c.args.number) c.in_ok-insert.ensures.updates
