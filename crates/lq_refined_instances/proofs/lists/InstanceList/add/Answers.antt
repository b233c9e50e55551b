use Rattle.lq_refined_instances.proofs.Keeping.{keys-with}
use Rattle.lq_refined_instances.specs.declared.instance.Instance.{Instance}
use Rattle.lq_refined_instances.proofs.lists.InstanceList.add.Goals as goal

pub returns : goal.returns
returns c =
    let made : Instance = record { predicate = c.args.predicate } in
    keys-with c.args.self.now.instances.keys c.insert.new.self.keys made c.in_ok-insert.ensures.keys
