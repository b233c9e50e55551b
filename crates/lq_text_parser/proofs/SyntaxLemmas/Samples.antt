-- Small texts with their trees.
use Rattle.std.proofs.Common.{◌<◌, refl, arith}
use Rattle.lq_base_names.specs.declared.limits.TheConstants.{LITERAL_LIMIT}
use Rattle.lq_text_parser.specs.Syntax.Examples.{DifferenceExample, BuildExample, QualifierExample}
use Rattle.lq_text_parser.specs.Syntax.Expressions.{an_or, an_and, a_comparison, a_cons, a_sum, a_factor, subtracts, other, plain, seq_one, expression_one, expression_tuple, members_end, tail_end, definition_name, binary_one, chain_of, chain_end, chain_more, negation_application, application_build, application_call, arguments_end, operand_of, atom_alone, atom_name, atom_inside}
use Rattle.lq_text_parser.specs.Syntax.Items.{item_let, items_end, items_more}
use Rattle.lq_text_parser.specs.Syntax.Predicates as pred
use Rattle.lq_text_parser.specs.Syntax.Tokens.{lacking}

pub difference : DifferenceExample
difference = (5, items_more (item_let refl (definition_name (refl, refl) (tail_end refl (seq_one (expression_one (binary_one an_or (binary_one an_and (binary_one a_comparison (binary_one a_cons (chain_of a_sum (chain_of a_factor (negation_application (application_call (other (refl, tt)) (operand_of (atom_name (refl, refl)) (atom_alone (refl, tt))) (arguments_end (refl, (refl, (refl, (refl, (refl, (refl, (refl, (refl, tt))))))))))) (chain_end a_factor (refl, (refl, (refl, tt))))) (chain_more a_sum (subtracts refl) (chain_of a_factor (negation_application (application_call (other (refl, tt)) (operand_of (atom_name (refl, refl)) (atom_alone (refl, tt))) (arguments_end (refl, (refl, (refl, (refl, (refl, (refl, (refl, (refl, tt))))))))))) (chain_end a_factor (refl, (refl, (refl, tt))))) (chain_more a_sum (subtracts refl) (chain_of a_factor (negation_application (application_call (other (refl, tt)) (operand_of (atom_name (refl, refl)) (atom_alone (tt, tt))) (arguments_end (tt, (tt, (tt, (tt, (tt, (tt, (tt, (tt, tt))))))))))) (chain_end a_factor (tt, (tt, (tt, tt))))) (chain_end a_sum (tt, (tt, tt)))))) (tt, tt)) (tt, (tt, (tt, (tt, (tt, (tt, tt))))))) (tt, tt)) (tt, tt)) (tt, tt)) (plain (tt, tt)))))) (lacking (tt, tt)) (items_end (tt, (tt, tt))))

pub build : BuildExample
build = (4, items_more (item_let refl (definition_name (refl, refl) (tail_end refl (seq_one (expression_one (binary_one an_or (binary_one an_and (binary_one a_comparison (binary_one a_cons (chain_of a_sum (chain_of a_factor (negation_application (application_build (refl, refl) (operand_of (atom_inside refl (seq_one (expression_tuple (binary_one an_or (binary_one an_and (binary_one a_comparison (binary_one a_cons (chain_of a_sum (chain_of a_factor (negation_application (application_call (other (refl, tt)) (operand_of (atom_name (refl, refl)) (atom_alone (refl, tt))) (arguments_end (refl, (refl, (refl, (refl, (refl, (refl, (refl, (refl, tt))))))))))) (chain_end a_factor (refl, (refl, (refl, tt))))) (chain_end a_sum (refl, (refl, tt)))) (refl, tt)) (refl, (refl, (refl, (refl, (refl, (refl, tt))))))) (refl, tt)) (refl, tt)) refl (binary_one an_or (binary_one an_and (binary_one a_comparison (binary_one a_cons (chain_of a_sum (chain_of a_factor (negation_application (application_call (other (refl, tt)) (operand_of (atom_name (refl, refl)) (atom_alone (refl, tt))) (arguments_end (refl, (refl, (refl, (refl, (refl, (refl, (refl, (refl, tt))))))))))) (chain_end a_factor (refl, (refl, (refl, tt))))) (chain_end a_sum (refl, (refl, tt)))) (refl, tt)) (refl, (refl, (refl, (refl, (refl, (refl, tt))))))) (refl, tt)) (refl, tt)) (members_end (refl, tt))) (plain (refl, tt))) refl) (atom_alone (tt, tt))))) (chain_end a_factor (tt, (tt, (tt, tt))))) (chain_end a_sum (tt, (tt, tt)))) (tt, tt)) (tt, (tt, (tt, (tt, (tt, (tt, tt))))))) (tt, tt)) (tt, tt)) (tt, tt)) (plain (tt, tt)))))) (lacking (tt, tt)) (items_end (tt, (tt, tt))))

small : 0 < LITERAL_LIMIT
small = omega arith

pub qualifier : QualifierExample
qualifier = pred.qualifiers_more refl (pred.an_upper (refl, refl)) refl (refl, refl) refl (refl, refl) refl refl (pred.binary_one pred.an_iff (pred.chain_of pred.an_or (pred.member_line (pred.chain_of pred.an_and (pred.negation_plain (pred.binary_two pred.a_comparison (pred.chain_of pred.a_sum (pred.member_line (pred.chain_of pred.a_product (pred.opposite_atom (pred.atom_number (refl, refl) small)) (pred.chain_end pred.a_product (refl, (refl, (refl, tt)))))) (pred.chain_end pred.a_sum (refl, (refl, tt)))) (pred.at_most refl) (pred.chain_of pred.a_sum (pred.member_line (pred.chain_of pred.a_product (pred.opposite_atom (pred.atom_name (refl, refl) (tt, (tt, (tt, (tt, (tt, (tt, tt)))))))) (pred.chain_end pred.a_product (tt, (tt, (tt, tt)))))) (pred.chain_end pred.a_sum (tt, (tt, tt)))))) (pred.chain_end pred.an_and (tt, tt)))) (pred.chain_end pred.an_or (tt, tt))) (tt, tt)) (pred.qualifiers_end (tt, tt))
