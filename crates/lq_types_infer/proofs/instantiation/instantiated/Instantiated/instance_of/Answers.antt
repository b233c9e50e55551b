use Rattle.std.proofs.Common.{◌≡◌, ◌+◌, length, refl, arith}
use Rattle.std.proofs.lemmas.List.{get_or_read_under}
use Rattle.lq_types_rules.specs.Typings.Principal.{node_count}
use Rattle.lq_types_infer.specs.Annotation.Whole.{program_of, table_of, types_of}
use Rattle.lq_types_infer.specs.Instantiation.Instances.{start_of}
use Rattle.lq_types_infer.specs.Instantiation.Uses.{uses_of}
use Rattle.lq_types_infer.proofs.InstantiationLemmas.Reading.{read_is, inside_is, counted_is, instance_is, unused_is}
use Rattle.lq_types_infer.proofs.instantiation.instantiated.Instantiated.instance_of.Goals as goal

pub returns-clause-inside : goal.returns-clause-inside
returns-clause-inside c =
    let a = c.args.self.now.annotated in
    let rows = c.args.self.now.rows.items in
    let starts = c.args.self.now.starts.items in
    let n = node_count (program_of a) in
    let i = c.args.id in
    let parts = c.args.self.now.parts in
    let h = c.requires in
    let long = parts.long in
    let from : c.index.result.now ≡ start_of starts i =
    get_or_read_under starts i (length starts) c.index.result.now 0 c.index.ensures (omega (arith, h, long)) refl in
    let to : c.index-2.result.now ≡ start_of starts (i + 1) =
    get_or_read_under starts (i + 1) (length starts) c.index-2.result.now 0 c.index-2.ensures (omega (arith, h, long)) refl in
    let same = read_is rows starts c.deref.result.now i c.index.result.now c.index-2.result.now c.deref.ensures.value from to in
    inside_is (table_of a) n (types_of a) (uses_of (program_of a)) rows starts n c.args.self.now.found i _ same

pub returns-clause-counted : goal.returns-clause-counted
returns-clause-counted c =
    let a = c.args.self.now.annotated in
    let rows = c.args.self.now.rows.items in
    let starts = c.args.self.now.starts.items in
    let n = node_count (program_of a) in
    let i = c.args.id in
    let parts = c.args.self.now.parts in
    let h = c.requires in
    let long = parts.long in
    let from : c.index.result.now ≡ start_of starts i =
    get_or_read_under starts i (length starts) c.index.result.now 0 c.index.ensures (omega (arith, h, long)) refl in
    let to : c.index-2.result.now ≡ start_of starts (i + 1) =
    get_or_read_under starts (i + 1) (length starts) c.index-2.result.now 0 c.index-2.ensures (omega (arith, h, long)) refl in
    let same = read_is rows starts c.deref.result.now i c.index.result.now c.index-2.result.now c.deref.ensures.value from to in
    counted_is (table_of a) n (types_of a) (uses_of (program_of a)) rows starts n c.args.self.now.found i _ same

pub returns-clause-instance : goal.returns-clause-instance
returns-clause-instance c =
    let a = c.args.self.now.annotated in
    let rows = c.args.self.now.rows.items in
    let starts = c.args.self.now.starts.items in
    let n = node_count (program_of a) in
    let i = c.args.id in
    let parts = c.args.self.now.parts in
    let h = c.requires in
    let long = parts.long in
    let from : c.index.result.now ≡ start_of starts i =
    get_or_read_under starts i (length starts) c.index.result.now 0 c.index.ensures (omega (arith, h, long)) refl in
    let to : c.index-2.result.now ≡ start_of starts (i + 1) =
    get_or_read_under starts (i + 1) (length starts) c.index-2.result.now 0 c.index-2.ensures (omega (arith, h, long)) refl in
    let same = read_is rows starts c.deref.result.now i c.index.result.now c.index-2.result.now c.deref.ensures.value from to in
    instance_is (table_of a) n (types_of a) (uses_of (program_of a)) rows starts n c.args.self.now.found i _ same

pub returns-clause-unused : goal.returns-clause-unused
returns-clause-unused c =
    let a = c.args.self.now.annotated in
    let rows = c.args.self.now.rows.items in
    let starts = c.args.self.now.starts.items in
    let n = node_count (program_of a) in
    let i = c.args.id in
    let parts = c.args.self.now.parts in
    let h = c.requires in
    let long = parts.long in
    let from : c.index.result.now ≡ start_of starts i =
    get_or_read_under starts i (length starts) c.index.result.now 0 c.index.ensures (omega (arith, h, long)) refl in
    let to : c.index-2.result.now ≡ start_of starts (i + 1) =
    get_or_read_under starts (i + 1) (length starts) c.index-2.result.now 0 c.index-2.ensures (omega (arith, h, long)) refl in
    let same = read_is rows starts c.deref.result.now i c.index.result.now c.index-2.result.now c.deref.ensures.value from to in
    unused_is (table_of a) n (types_of a) (uses_of (program_of a)) rows starts n c.args.self.now.found i _ same h
