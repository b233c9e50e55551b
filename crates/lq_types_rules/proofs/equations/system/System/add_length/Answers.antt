use Rattle.std.proofs.Common.{◌≡◌, ℕ, refl}
use Rattle.lq_text_tree.specs.MlType as ml
use Rattle.lq_text_tree.specs.MlType.{MlType, MlTypes}
use Rattle.lq_text_tree.specs.Types.{count_types, type_at}
use Rattle.lq_types_rules.specs.Equations.Adding.{count_of}
use Rattle.lq_types_rules.proofs.EquationsLemmas.Composing.{after, adds_as, close, depends_plain}
use Rattle.lq_types_rules.proofs.equations.system.System.add_length.Goals as goal

pub returns : goal.returns
returns c =
    let P : (ℕ → MlType) → MlTypes → Type 0 = λ t ts. (count_types ts ≡ 1) × (t c.args.a ≡ ml.array (type_at ts 0)) in
    adds_as c.args.self.now c.is.new.self (λ t. ((ts : MlTypes) × P t ts) × (t c.args.at ≡ ml.int)) (λ t. (element : MlType) × (t c.args.a ≡ ml.array element) × (t c.args.at ≡ ml.int))
    (after c.args.self.now c.opened.new.self c.is.new.self (λ t. (ts : MlTypes) × P t ts) (λ t. t c.args.at ≡ ml.int) (close c.args.self.now c.opened.new.self _ P c.in_ok-opened.ensures.offers) c.in_ok-is.ensures
    (depends_plain (count_of c.args.self.now) c.args.at ml.int c.requires.at))
    (λ t e. (type_at e.0.0 0, e.0.1.1, e.1)) (λ t e. ((ml.more_types e.0 ml.no_types, (refl, e.1)), e.2))
