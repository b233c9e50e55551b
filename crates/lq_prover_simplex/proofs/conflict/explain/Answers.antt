use Rattle.std.proofs.Common.{◌≡◌, ◌∙◌, ◌+◌, ◌++◌, arith, rules, inl, inr, refl, Err, ◌∷◌, [], sym, ap, subst, Some, None, slice_get, List, ℕ, Vec, Global}
use Rattle.lq_prover_simplex.specs.declared.line.Entry.{Entry}
use Rattle.lq_base_numbers.specs.declared.fractions.frac.Frac.{Frac}
use Rattle.lq_base_numbers.specs.Fractions.Value.{value_of}
use Rattle.lq_logic_rows.specs.declared.bound.Side.{Side}
use Rattle.lq_prover_simplex.specs.Bounds.{limit_at, blocking_of}
use Rattle.lq_prover_simplex.proofs.Limiting.{blocked_at}
use Rattle.lq_prover_simplex.proofs.Explaining.{Explained, explained_start, explained_step, explained_end, given_some, limit_names, limit_divides, own_limit}
use Rattle.lq_base_numbers.specs.Rationals.Rational.{whole}
use Rattle.lq_prover_simplex.specs.declared.error.TableauError.TheVariants.{Past}
use Rattle.lq_prover_simplex.specs.Operations.{IsExplained, IsShared}
use Rattle.lq_prover_simplex.proofs.Operations.{stops_past, past_among}
use Rattle.lq_prover_simplex.proofs.conflict.explain.Goals as goal
use Rattle.lq_prover_simplex.proofs.conflict.explain.Goals.{in-Some+in_ok-other+in_ok-push-2, in_default}

pub share-requires-clause-given : goal.share-requires-clause-given
share-requires-clause-given c =
    let g = own_limit c.args.rows.now c.args.limits.now c.args.broken.now c.args.line.now c.requires in
    (g.standing.tag, limit_names c.args.rows.now c.args.broken.now.side c.args.broken.now.variable c.args.broken.now.limit g)

pub share-requires-clause-divides : goal.share-requires-clause-divides
share-requires-clause-divides c =
    limit_divides c.args.rows.now c.requires.forms c.args.broken.now.side c.args.broken.now.variable c.args.broken.now.limit c.requires.read
    (own_limit c.args.rows.now c.args.limits.now c.args.broken.now c.args.line.now c.requires)

pub loop-at-init : goal.loop-at-init
loop-at-init c = λ kept.
    subst (λ (found : List (ℕ × Frac)). Explained c.args.rows.now c.args.limits.now c.args.broken.now c.args.line.now kept 0 found)
    (sym (c.in_ok-push.ensures.items ∙ ap (λ (ms : List (ℕ × Frac)). ms ++ c.in_ok-own.own ∷ []) c.new-found.ensures.items))
    (explained_start c.args.rows.now c.args.limits.now c.args.broken.now c.args.line.now kept c.whole.result c.in_ok-own.own.1 c.in_ok-own.own.0 c.in_ok-own.ensures.names c.whole.ensures.value
    (rw (sym c.opposite.ensures) c.in_ok-own.ensures.exact))

pub share-requires-in-Some-clause-given : goal.share-requires-in-Some-clause-given
share-requires-in-Some-clause-given c =
    let at : limit_at c.args.limits.now c.blocking-side.result c.entry-entry.result.variable ≡ Some c.in-Some.limit = sym c.in-Some.ensures in
    let g = given_some c.args.rows.now c.args.limits.now c.blocking-side.result c.entry-entry.result.variable c.in-Some.limit c.requires.given at in
    (g.standing.tag, limit_names c.args.rows.now c.blocking-side.result c.entry-entry.result.variable c.in-Some.limit g)

pub share-requires-in-Some-clause-divides : goal.share-requires-in-Some-clause-divides
share-requires-in-Some-clause-divides c =
    let at : limit_at c.args.limits.now c.blocking-side.result c.entry-entry.result.variable ≡ Some c.in-Some.limit = sym c.in-Some.ensures in
    limit_divides c.args.rows.now c.requires.forms c.blocking-side.result c.entry-entry.result.variable c.in-Some.limit c.requires.read
    (given_some c.args.rows.now c.args.limits.now c.blocking-side.result c.entry-entry.result.variable c.in-Some.limit c.requires.given at)

pub loop-at-preserved : goal.loop-at-preserved
loop-at-preserved c = λ kept.
    let rows = c.args.rows.now in let limits = c.args.limits.now in let broken = c.args.broken.now in let line = c.args.line.now in let i = c.loop-at.at in
    let e : Entry = c.entry-entry.result in
    let here : slice_get line i ≡ Some e = c.entry-entry.ensures in
    elim c.match-at.branch [
      | in-Some+in_ok-other+in_ok-push-2 w ↦
          let at : limit_at limits (blocking_of broken.side (value_of e.factor)) e.variable ≡ Some w.in-Some.limit =
          ap (λ (s : Side). limit_at limits s e.variable) (sym c.blocking-side.ensures) ∙ sym c.at.ensures ∙ w.in-Some.is in
          let items : c.match-at.found.items ≡ c.loop-at.found.items ++ w.in_ok-other.other ∷ [] = ap (λ (v : Vec (ℕ × Frac) Global). v.items) w.found-is ∙ w.in_ok-push-2.ensures.items in
          subst (λ (found : List (ℕ × Frac)). Explained rows limits broken line kept (i + 1) found) (sym items)
          (explained_step rows limits broken line kept i c.loop-at.found.items e w.in-Some.limit w.in_ok-other.other.1 w.in_ok-other.other.0 (c.loop-at.invariant kept) here at
          w.in_ok-other.ensures.names w.in_ok-other.ensures.exact)
      | in_default w ↦
          let block = blocked_at limits broken.side kept.values line i e kept.blocked here in
          let none : Some block.limit ≡ None = sym block.is ∙ ap (λ (s : Side). limit_at limits s e.variable) (sym c.blocking-side.ensures) ∙ sym c.at.ensures ∙ w.in_default.is in
          absurd (let k : ⊥ = cc in k)
    ]

pub returns-clause-contradicts : goal.returns-clause-contradicts
returns-clause-contradicts c =
    explained_end c.args.rows.now c.args.limits.now c.args.broken.now c.args.line.now c.requires c.loop-at.at c.loop-at.found.items
    (let e = c.len-at-end.ensures in let h = c.loop-at-test.false in omega arith) (c.loop-at.invariant c.requires)

pub returns-in_err-own-clause-stop : goal.returns-in_err-own-clause-stop
returns-in_err-own-clause-stop c =
    let rows = c.args.rows.now in let line = c.args.line.now in let limit = c.args.broken.now.limit in
    let Is = IsExplained rows line in
    let e = c.in_err-own.field-0.0 in
    let was : c.from_residual.result ≡ Err (Past e) = search rules in
    let g = own_limit rows c.args.limits.now c.args.broken.now line c.requires in
    stops_past Is c.from_residual.result e was
    (past_among (IsShared (value_of c.whole.result) (whole limit.bound.divisor)) Is e
    (λ op x y h. record {
      place = limit.row;
      standing = g.standing;
      stands = g.stands;
      bound = limit.bound;
      gives = g.gives;
      factor = value_of c.whole.result;
      is = inl c.whole.ensures.value;
      shares = h;
    })
    c.in_err-own.ensures.stop)

pub returns-in_err-other-clause-stop : goal.returns-in_err-other-clause-stop
returns-in_err-other-clause-stop c =
    let rows = c.args.rows.now in let line = c.args.line.now in let limit = c.in-Some.limit in
    let Is = IsExplained rows line in
    let e = c.in_err-other.field-0.0 in
    let was : c.from_residual-in_err-other.result ≡ Err (Past e) = search rules in
    let at : limit_at c.args.limits.now c.blocking-side.result c.entry-entry.result.variable ≡ Some limit = sym c.in-Some.ensures in
    let g = given_some rows c.args.limits.now c.blocking-side.result c.entry-entry.result.variable limit c.requires.given at in
    stops_past Is c.from_residual-in_err-other.result e was
    (past_among (IsShared (value_of c.entry-entry.result.factor) (whole limit.bound.divisor)) Is e
    (λ op x y h. record {
      place = limit.row;
      standing = g.standing;
      stands = g.stands;
      bound = limit.bound;
      gives = g.gives;
      factor = value_of c.entry-entry.result.factor;
      is = inr (c.loop-at.at, c.entry-entry.result, c.entry-entry.ensures, refl);
      shares = h;
    })
    c.in_err-other.ensures.stop)
