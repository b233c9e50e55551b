use Rattle.std.proofs.Common.{◌≡◌, ◌∙◌, ◌+◌, arith, refl, length, ap, sym, subst, rules, ℕ, List, ◌++◌, ◌∷◌, [], FitsSigned, to_z, of_z, IsNone}
use Rattle.std.specs.Int.{w128}
use Rattle.std.proofs.lemmas.Int.{to_z-of_z}
use Rattle.lq_logic_rows.specs.Row.{Row}
use Rattle.lq_logic_rows.specs.Contradiction.{tagged}
use Rattle.lq_prover_differences.specs.declared.arc.Edge.{Edge}
use Rattle.lq_prover_differences.specs.Edges.{standing_of, row_of}
use Rattle.lq_prover_differences.specs.Stops.{PastBy}
use Rattle.lq_prover_differences.specs.Table.{TakesRow, constants}
use Rattle.lq_prover_differences.proofs.Rows.{standing_more, standing_length, fresh_tag, sizes_are, room_less, room_on, pushed_length}
use Rattle.lq_prover_differences.proofs.table.DistanceTableLinearEngine.assert_row.Goals as goal

pub stand-requires-clause-fresh : goal.stand-requires-clause-fresh
stand-requires-clause-fresh c =
    let fresh : IsNone (tagged (standing_of c.self.inside.edges.items) c.args.tag) = rw (← c.self.view_is) at c.requires.fresh in
    fresh_tag c.self.inside.edges.items c.args.tag fresh

pub returns-in-Ok-clause-stands : goal.returns-in-Ok-clause-stands
returns-in-Ok-clause-stands c =
    let fits : FitsSigned w128 c.constant.result = search rules in
    let w : to_z w128 (of_z w128 c.constant.result) ≡ c.args.row.now.constant = to_z-of_z w128 c.constant.result fits ∙ c.constant.ensures in
    let p = c.ends-from.ensures.parts ∙ c.parts.ensures.value in
    let q = c.equal.ensures in
    let edge : Edge = record { tag = c.args.tag; from = c.ends-from.result.0; to = c.ends-from.result.1; weight = to_z w128 (of_z w128 c.constant.result); equal = c.equal.result } in
    let row : row_of edge ≡ c.args.row.now = (λ i. record { parts = p i; constant = w i; equal = q i }) in
    rw (← c.self.view_is) (ap standing_of c.in-Ok.ensures.added ∙ standing_more c.self.inside.edges.items edge
    ∙ ap (λ (r : Row). standing_of c.self.inside.edges.items ++ (c.args.tag, r) ∷ []) row)

pub returns-in-Err-clause-stop : goal.returns-in-Err-clause-stop
returns-in-Err-clause-stop c =
    let fits : FitsSigned w128 c.constant.result = search rules in
    let w : to_z w128 (of_z w128 c.constant.result) ≡ c.args.row.now.constant = to_z-of_z w128 c.constant.result fits ∙ c.constant.ensures in
    let p = c.ends-from.ensures.parts ∙ c.parts.ensures.value in
    let q = c.equal.ensures in
    let edge : Edge = record { tag = c.args.tag; from = c.ends-from.result.0; to = c.ends-from.result.1; weight = to_z w128 (of_z w128 c.constant.result); equal = c.equal.result } in
    let row : row_of edge ≡ c.args.row.now = (λ i. record { parts = p i; constant = w i; equal = q i }) in
    let edges : List Edge = c.self.inside.edges.items ++ edge ∷ [] in
    let e : standing_of edges ≡ standing_of c.self.inside.edges.items ++ (c.args.tag, c.args.row.now) ∷ [] =
    standing_more c.self.inside.edges.items edge ∙ ap (λ (r : Row). standing_of c.self.inside.edges.items ++ (c.args.tag, r) ∷ []) row in
    rw (← c.self.view_is) (λ rows h. subst (λ (n : ℕ). PastBy n c.in-Err.stop) (sym (sizes_are edges) ∙ ap constants e) c.in-Err.ensures.stop)

pub stand-requires-clause-place : goal.stand-requires-clause-place
stand-requires-clause-place c =
    let takes : TakesRow (c.self.inside.terms ∷ c.self.inside.rows ∷ []) (standing_of c.self.inside.edges.items) c.args.row.now = rw (← c.self.view_is) at c.requires.takes in
    let few = takes.2 in let p = c.self.invariant.place in let n = standing_length c.self.inside.edges.items in omega arith

pub stand-requires-clause-room : goal.stand-requires-clause-room
stand-requires-clause-room c =
    let takes : TakesRow (c.self.inside.terms ∷ c.self.inside.rows ∷ []) (standing_of c.self.inside.edges.items) c.args.row.now = rw (← c.self.view_is) at c.requires.takes in
    room_less c.self.inside.graph (length c.self.inside.edges.items + 1) c.self.inside.rows (let few = takes.2 in let n = standing_length c.self.inside.edges.items in omega arith) c.self.invariant.room

pub invariant_of-self : goal.invariant_of-self
invariant_of-self c = record {
  fits = c.self.invariant.fits;
  same = refl;
  sized = c.stand.ensures.vertices ∙ c.self.invariant.sized;
  standing = c.stand.ensures.standing;
  decided = c.stand.ensures.decided;
  few =
      let takes : TakesRow (c.self.inside.terms ∷ c.self.inside.rows ∷ []) (standing_of c.self.inside.edges.items) c.args.row.now = rw (← c.self.view_is) at c.requires.takes in
      let few = takes.2 in let n = standing_length c.self.inside.edges.items in let m = pushed_length c.self.inside.edges.items c.stand.new.edges.items _ c.in-Ok.ensures.added in omega arith;
  place = let p = c.self.invariant.place in let e = c.stand.ensures.place in omega arith;
  room = room_on c.self.inside.graph c.stand.new.graph c.self.inside.rows c.stand.ensures.room c.stand.ensures.vertices c.self.invariant.room;
  steps = let s = c.self.invariant.steps in let e = c.stand.ensures.capacity in omega arith;
  all = λ e. absurd (cc);
  fit = λ e. absurd (cc);
  solved = λ e. absurd (cc);
  contradicted = λ e. absurd (cc);
}
