use Rattle.std.proofs.Common.{◌≡◌, ◌∙◌, ℕ, ◌+◌, ◌<◌, ◌≤◌, List, [], Some, length, get_or, slice_get, refl, sym, ap, subst, arith, rules}
use Rattle.std.proofs.lemmas.Option.{slice_get-get_or}
use Rattle.std.proofs.lemmas.Result.{err_from_is_err_and}
use Rattle.lq_prover_case.specs.State.PathState.{facts_in, objects_in}
use Rattle.lq_prover_case.specs.Equations.Equating.{Grows}
use Rattle.lq_prover_case.specs.Equations.Naming.{name_in, objects_of}
use Rattle.lq_prover_case.proofs.EquationsLemmas.Along.{along_skip, along_start, along_step, classes_one}
use Rattle.lq_prover_case.proofs.EquationsLemmas.Equated.{each_all}
use Rattle.lq_prover_case.proofs.EquationsLemmas.Equations.{adds_grows, adds_stops, adds_then}
use Rattle.lq_prover_proof_tree.specs.Literals.Parts.{places_from}
use Rattle.lq_logic_predicates.specs.TableView.{terms_of}
use Rattle.lq_prover_case.proofs.equations.equating.equate_all.Goals as goal
use Rattle.lq_prover_case.proofs.equations.equating.equate_all.Goals.{in-Some+in_ok-clash+else-is_some+in-Some+in-Rows-1, in-Some+in_ok-clash+else-is_some+in-Some+in-Merges-1, in-Some+in_ok-clash+else-is_some+in-Some+in-Flags-1, in-Some+in_ok-clash+else-is_some+in-None-1, in_default-application_at}

place_of : (all places : List ℕ) (n x : ℕ) → places ≡ all → n < length places → x ≡ get_or places n x → slice_get all n ≡ Some x
place_of all places n x e l is = subst (λ ps. slice_get ps n ≡ Some x) e (slice_get-get_or places n x l ∙ ap Some (sym is))

pub loop-index-init : goal.loop-index-init
loop-index-init c =
    let joints : c.new-2.result.items ≡ [] = search rules in
    along_start (objects_of c.args.objects.now) (terms_of c.args.table.now) c.in-Ok.classes.items c.args.state.now c.new-2.result.items c.new.result.entries joints c.new.ensures.empty

pub loop-index-preserved : goal.loop-index-preserved
loop-index-preserved c =
    let objects = objects_of c.args.objects.now in
    let terms = terms_of c.args.table.now in
    let classes = c.in-Ok.classes.items in
    let start = c.args.state.now in
    let s = c.loop-index.state in
    let joints = c.loop-index.equations.joints.items in
    let entries = c.loop-index.equations.firsts.entries in
    let n = c.loop-index.index in
    let invariant = c.loop-index.invariant in
    elim c.match-application_at.branch [
      | in-Some+in_ok-clash+else-is_some+in-Some+in-Rows-1 w ↦
          let e = w.in_ok-clash.ensures in
          let given : w.deref.result.now ≡ c.in-Ok.classes.items = search rules in
          rw (w.state-is, w.equations-is) (along_step objects terms classes w.deref.result.now start s w.equate_later.new.state joints w.equate_later.new.equations.joints.items entries
          w.equate_later.new.equations.firsts.entries w.in-Some.later.index n (n + 1) given w.in-Some.ensures.place.0 refl invariant
          (record { firsts = e.firsts; equated = e.equated; adds = e.adds; wraps = e.wraps; objects_are = e.objects; limits = e.limits; handed = w.equate_later.ensures.handed }))
      | in-Some+in_ok-clash+else-is_some+in-Some+in-Merges-1 w ↦
          let e = w.in_ok-clash.ensures in
          let given : w.deref.result.now ≡ c.in-Ok.classes.items = search rules in
          rw (w.state-is, w.equations-is) (along_step objects terms classes w.deref.result.now start s w.equate_later.new.state joints w.equate_later.new.equations.joints.items entries
          w.equate_later.new.equations.firsts.entries w.in-Some.later.index n (n + 1) given w.in-Some.ensures.place.0 refl invariant
          (record { firsts = e.firsts; equated = e.equated; adds = e.adds; wraps = e.wraps; objects_are = e.objects; limits = e.limits; handed = w.equate_later.ensures.handed }))
      | in-Some+in_ok-clash+else-is_some+in-Some+in-Flags-1 w ↦
          let e = w.in_ok-clash.ensures in
          let given : w.deref.result.now ≡ c.in-Ok.classes.items = search rules in
          rw (w.state-is, w.equations-is) (along_step objects terms classes w.deref.result.now start s w.equate_later.new.state joints w.equate_later.new.equations.joints.items entries
          w.equate_later.new.equations.firsts.entries w.in-Some.later.index n (n + 1) given w.in-Some.ensures.place.0 refl invariant
          (record { firsts = e.firsts; equated = e.equated; adds = e.adds; wraps = e.wraps; objects_are = e.objects; limits = e.limits; handed = w.equate_later.ensures.handed }))
      | in-Some+in_ok-clash+else-is_some+in-None-1 w ↦
          let e = w.in_ok-clash.ensures in
          let given : w.deref.result.now ≡ c.in-Ok.classes.items = search rules in
          rw (w.state-is, w.equations-is) (along_step objects terms classes w.deref.result.now start s w.equate_later.new.state joints w.equate_later.new.equations.joints.items entries
          w.equate_later.new.equations.firsts.entries w.in-Some.later.index n (n + 1) given w.in-Some.ensures.place.0 refl invariant
          (record { firsts = e.firsts; equated = e.equated; adds = e.adds; wraps = e.wraps; objects_are = e.objects; limits = e.limits; handed = w.equate_later.ensures.handed }))
      | in_default-application_at w ↦
          let at : c.index.result.now ≡ get_or c.in-Ok-applications.places.items n c.index.result.now = search rules in
          let within : n < length c.in-Ok-applications.places.items = (let m = c.loop-index-test.true in omega (arith, m)) in
          rw (w.state-is, w.equations-is) (along_skip objects terms classes start s joints entries n c.index.result.now
          (place_of (places_from 0 terms) c.in-Ok-applications.places.items n c.index.result.now c.in-Ok-applications.ensures within at)
          (rw w.in_default-application_at.is at c.application_at.ensures.none) invariant)
    ]

pub returns-in_err-clash-clause-stop : goal.returns-in_err-clash-clause-stop
returns-in_err-clash-clause-stop c =
    let name = name_in (objects_of c.args.objects.now) in
    let p = err_from_is_err_and c.from_residual.result c.from_residual.ensures.1 in
    rw (p.1, p.2) (adds_stops (terms_of c.args.table.now) (facts_in name c.args.state.now) (facts_in name c.loop-index.state) c.in_err-clash.field-0.0 (c.loop-index.invariant.adds name) c.in_err-clash.ensures.stop)

pub returns-then-is_some-clause-wraps : goal.returns-then-is_some-clause-wraps
returns-then-is_some-clause-wraps c = λ whole choices w. c.in_ok-clash.ensures.wraps whole choices (c.loop-index.invariant.wraps whole choices w)

pub returns-then-is_some-clause-adds : goal.returns-then-is_some-clause-adds
returns-then-is_some-clause-adds c = λ name.
    adds_then (terms_of c.args.table.now) (facts_in name c.args.state.now) (facts_in name c.loop-index.state) (facts_in name c.equate_later.new.state) (c.loop-index.invariant.adds name) (c.in_ok-clash.ensures.adds name)

pub returns-clause-equated : goal.returns-clause-equated
returns-clause-equated c =
    let objects = objects_of c.args.objects.now in
    let terms = terms_of c.args.table.now in
    let n = c.loop-index.index in
    let s = c.loop-index.state in
    let items : c.in-Ok.classes.items ≡ c.classes.result.now = search rules in
    let most : length (places_from 0 terms) ≤ n = subst (λ l. length l ≤ n) c.in-Ok-applications.ensures (let m = c.loop-index-test.false in omega (arith, m)) in
    each_all objects terms c.in-Ok.classes.items (objects_in s) n c.loop-index.equations.firsts.entries (facts_in (name_in objects) s) c.requires.different most
    (classes_one (length objects) c.args.state.now.objects.count c.in-Ok.classes.items c.classes.result.now (objects_in c.args.state.now) (objects_in s) c.requires.count items
    c.loop-index.invariant.objects_are c.classes.ensures.one) c.loop-index.invariant.equated

pub returns-in_err-clash-clause-refused : goal.returns-in_err-clash-clause-refused
returns-in_err-clash-clause-refused c =
    let p = err_from_is_err_and c.from_residual.result c.from_residual.ensures.1 in
    rw p.1 (λ name.
    subst (Grows (facts_in name c.args.state.now)) (sym (c.in_err-clash.ensures.refused name))
    (adds_grows (terms_of c.args.table.now) (facts_in name c.args.state.now) (facts_in name c.loop-index.state) (c.loop-index.invariant.adds name)))

pub returns-in_err-clash-clause-handed : goal.returns-in_err-clash-clause-handed
returns-in_err-clash-clause-handed c = λ ever h. c.equate_later.ensures.handed ever (c.loop-index.invariant.handed ever h)

pub returns-then-is_some-clause-handed : goal.returns-then-is_some-clause-handed
returns-then-is_some-clause-handed c = λ ever h. c.equate_later.ensures.handed ever (c.loop-index.invariant.handed ever h)
