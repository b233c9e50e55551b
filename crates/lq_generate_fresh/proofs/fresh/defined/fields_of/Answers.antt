use Rattle.std.proofs.Common.{◌∙◌, ◌+◌, ◌<◌, ◌≤◌, [], ◌∷◌, ◌++◌, length, map, take, sym, ap, arith, subst}
use Rattle.std.proofs.lemmas.List.{map-append}
use Rattle.lq_text_tree.specs.MlType.{MlTypes}
use Rattle.lq_text_tree.specs.SimpleTypeView.{simple_type_view, simple_types_items, types_of}
use Rattle.lq_generate_fresh.specs.Fresh.Fields.{AreFields}
use Rattle.lq_generate_fresh.specs.Fresh.Views.{field_view}
use Rattle.lq_generate_fresh.proofs.FreshLemmas.Known.{all_front, fields_more, found_front, is_found, row_seen}
use Rattle.lq_generate_fresh.proofs.fresh.defined.fields_of.Goals as goal
use Rattle.lq_generate_fresh.proofs.fresh.defined.fields_of.Goals.{in-Some+in_ok-field_of+in_ok-push, in_default}

pub loop-at-preserved : goal.loop-at-preserved
loop-at-preserved c =
    let i = c.loop-at.at in
    let items = simple_types_items c.args.row.now in
    let d = c.args.datatype.0 in
    elim c.match-get.branch [
      | in-Some+in_ok-field_of+in_ok-push w ↦
          subst (λ fs. AreFields d (types_of (take (i + 1) (map simple_type_view items))) (map field_view fs.items)) (sym w.fields-is)
          (subst (λ ts. AreFields d (types_of ts) (map field_view w.push.new.self.items))
          (sym (found_front simple_type_view items i w.in-Some.written.now (sym w.in-Some.ensures)))
          (subst (AreFields d (types_of (take i (map simple_type_view items) ++ simple_type_view w.in-Some.written.now ∷ [])))
          (sym (ap (map field_view) w.in_ok-push.ensures.items ∙ map-append field_view c.loop-at.fields.items _))
          (fields_more d (take i (map simple_type_view items)) (map field_view c.loop-at.fields.items) _ _ c.loop-at.invariant
          w.in_ok-field_of.ensures)))
      | in_default w ↦
          let inside : i < length items = (let t = c.loop-at-test.true in let l = c.len-at-end.ensures in omega arith) in
          absurd (is_found items i inside w.in_default.ensures)
    ]

pub returns : goal.returns
returns c =
    let i = c.loop-at.at in
    let items = simple_types_items c.args.row.now in
    let past : length items ≤ i = (let t = c.loop-at-test.false in let l = c.len-at-end.ensures in omega arith) in
    subst (λ (ts : MlTypes). AreFields c.args.datatype.0 ts (map field_view c.loop-at.fields.items))
    (ap types_of (all_front simple_type_view items i past) ∙ sym (row_seen c.args.row.now)) c.loop-at.invariant
