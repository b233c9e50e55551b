-- The reading of how two terms are to stand.
use Rattle.lq_logic_predicates.specs.Sum.{Sum}
use Rattle.lq_logic_predicates.specs.Comparison.{Comparison}
use Rattle.lq_logic_predicates.specs.Reading.{Reading, at_most, below, equal_to, apart}
use Rattle.lq_logic_predicates.specs.declared.tightening.Relation.{Relation}
use Rattle.lq_logic_predicates.specs.declared.tightening.Relation.TheVariants.{AtMost, AtLeast, Below, Above, Equal, Apart}

abbrev pub relation_reading : Relation → Sum → Sum → Reading Comparison
relation_reading AtMost a b = at_most a b
relation_reading AtLeast a b = at_most b a
relation_reading Below a b = below a b
relation_reading Above a b = below b a
relation_reading Equal a b = equal_to a b
relation_reading Apart a b = apart a b
