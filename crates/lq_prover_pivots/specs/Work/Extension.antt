-- A configuration with one more form.
use Rattle.std.specs.Prelude.{◌≡◌, ◌==◌, if◌then◌else◌, ℕ, pos, ◌<◌, ◌≤◌, false, List, [], ◌∷◌, ◌++◌}
use Rattle.lq_logic_rows.specs.Difference.{TermsBelow}
use Rattle.lq_logic_rows.specs.Forms.{Parts}
use Rattle.lq_logic_rows.specs.Row.{Row, sum_at}
use Rattle.lq_prover_pivots.specs.Pivots.Rows.{Variables, size, form}
use Rattle.lq_prover_pivots.specs.Pivots.Configurations.{Configuration, IsConfiguration}
use Rattle.lq_prover_pivots.specs.Work.Work.{entry_of}

abbrev pub with_form : Variables → Parts → Variables
with_form vs f = record { terms = vs.terms; forms = vs.forms ++ f ∷ [] }

-- the form is no free variable; its entries and its value are its coefficients times those of its terms, summed
abbrev pub extended : Variables → Configuration → Parts → Configuration
extended vs c f = record {
  is_free = λ k. if k == size vs then false else c.is_free k;
  entry = λ k j. if k == size vs then sum_at (λ t. entry_of c t j) f else c.entry k j;
  value = λ k. if k == size vs then sum_at c.value f else c.value k;
}

-- the terms come first
pub record TermsFirst (vs : Variables) : Type 0 where
  pub terms_in : vs.terms ≤ size vs
  pub named : (t : ℕ) → t < vs.terms → form vs t ≡ (t, pos 1) ∷ []

-- where the terms come first, a configuration with one more form over the terms is one of these variables, also where more rows are listed
abbrev pub FormsCanBeAdded : Type 0
FormsCanBeAdded =
    (vs : Variables) (listed more : List Row) (c : Configuration) (f : Parts) → TermsFirst vs → TermsBelow vs.terms f → IsConfiguration vs listed c
    → IsConfiguration (with_form vs f) (listed ++ more) (extended vs c f)
