-- At most one status and one report are due.
use Rattle.std.proofs.Common.{◌≡◌, ◌⊎◌, inl, inr, ℕ, List, ◌++◌, Option, Some, None, Result, Ok, Err, refl, sym, ap, ◌∙◌, subst, append_assoc}
use Rattle.lq_text_front.specs.Bytes.Stages.{Bytes}
use Rattle.lq_top_words.specs.Command.Command.{Request, command_of, judge, sample}
use Rattle.lq_top_words.specs.declared.command.command.Mode.{Mode}
use Rattle.lq_top_words.specs.declared.command.command.Mode.TheVariants.{Check, Types, Explain}
use Rattle.lq_top_answers.specs.Failure.PointLines.{point_lines}
use Rattle.lq_top_words.specs.Inputs.Once.{FaultsAreOne, IsFaultOrHanded, HandedAreOne}
use Rattle.lq_top_words.specs.Inputs.Visits.{Visit}
use Rattle.lq_top_judge.specs.Judgement.Agreeing.{Agree, DifferAlike, IsOneJudgement, IsStopped}
use Rattle.lq_top_judge.specs.Verdict.Counting.{HasCounts}
use Rattle.lq_top_judge.specs.declared.verdict.counting.Counts.{Counts}
use Rattle.lq_top_judge.specs.declared.verdict.judgement.Judgement.{Judgement}
use Rattle.lq_top_judge.specs.declared.verdict.judgement.Judgement.TheVariants as judgement
use Rattle.lq_top_judge.specs.declared.verdict.judgement.Refusal.{Refusal}
use Rattle.lq_top_judge.specs.declared.verdict.judgement.Refusal.TheVariants as refusal
use Rattle.lq_top_pose.specs.Stages.{PosesTo, Typed}
use Rattle.lq_text_refusal.specs.Stages.{HasOneAnswer}
use Rattle.lq_top_words.specs.Sample.Sample.{counts_text}
use Rattle.lq_top_app.specs.Asked.{AreTexts, WasFileFault, limit_of, wanted}
use Rattle.lq_top_app.specs.Once.{IsKnown, SameReport, StopsHere, IsDetermined}
use Rattle.lq_top_app.specs.Report.{AreCounts, IsDueFor, IsPrinted, IsVerdict, rejected_text, status_of}
use Rattle.lq_top_app.specs.declared.status.Status.{Status}
use Rattle.lq_top_app.specs.declared.status.Status.TheVariants.{File, Usage}

-- the laws of the crates below
pub record Laws : Type 0 where
  pub judgements : IsOneJudgement
  pub posed : HasOneAnswer PosesTo
  pub faults : FaultsAreOne
  pub either : IsFaultOrHanded
  pub handed : HandedAreOne

-- ---- reports that tell alike

behind : (lines front middle back : List ℕ) → lines ++ (front ++ middle ++ back) ≡ lines ++ front ++ middle ++ back
behind lines front middle back = sym (append_assoc lines (front ++ middle) back) ∙ ap (λ (l : List ℕ). l ++ back) (sym (append_assoc lines front middle))

-- with the same lines in front they differ as they do without
differ_behind : (lines text other : List ℕ) → DifferAlike text other → DifferAlike (lines ++ text) (lines ++ other)
differ_behind lines text other d = (
  lines ++ d.0,
  d.1,
  record {
    lines = d.2.lines;
    other_lines = d.2.other_lines;
    same = d.2.same;
    written = ap (λ (l : List ℕ). lines ++ l) d.2.written ∙ behind lines d.0 (point_lines d.2.lines) d.1;
    other_written = ap (λ (l : List ℕ). lines ++ l) d.2.other_written ∙ behind lines d.0 (point_lines d.2.other_lines) d.1;
  },
)

same_differ : (r q text other : List ℕ) → r ≡ text → q ≡ other → DifferAlike text other → DifferAlike r q
same_differ r q text other e f d = subst (λ (l : List ℕ). DifferAlike l q) (sym e) (subst (λ (l : List ℕ). DifferAlike text l) (sym f) d)

by_mode : (mode : Mode) (failure explained other also : List ℕ) → DifferAlike failure other → DifferAlike explained also
    → DifferAlike (rejected_text mode failure explained) (rejected_text mode other also)
by_mode Check f e g h fs es = fs
by_mode Types f e g h fs es = fs
by_mode Explain f e g h fs es = es

-- by parts
counts_of : (count : ℕ) (t : Typed) (c d : Counts) → HasCounts t c → HasCounts t d
    → counts_text count c.unknowns c.instances c.implications ≡ counts_text count d.unknowns d.instances d.implications
counts_of count t c d h k =
    let u : c.unknowns ≡ d.unknowns = h.unknowns ∙ sym k.unknowns in
    let i : c.instances ≡ d.instances = h.instances ∙ sym k.instances in
    let p : c.implications ≡ d.implications = h.implications ∙ sym k.implications in
    ap (λ (n : ℕ). counts_text count n c.instances c.implications) u
    ∙ (ap (λ (n : ℕ). counts_text count d.unknowns n c.implications) i ∙ ap (λ (n : ℕ). counts_text count d.unknowns d.instances n) p)

bytes_same : (b d : Bytes) → b.program ≡ d.program → b.measures ≡ d.measures → b.qualifiers ≡ d.qualifiers → b ≡ d
bytes_same b d p m q =
    ap (λ (l : List ℕ). record { program = l; measures = b.measures; qualifiers = b.qualifiers }) p
    ∙ (ap (λ (l : List ℕ). record { program = d.program; measures = l; qualifiers = b.qualifiers }) m
    ∙ ap (λ (l : List ℕ). record { program = d.program; measures = d.measures; qualifiers = l }) q)

module _ (laws : Laws) where
  counts_once : (count : ℕ) (b : Bytes) (lines other : List ℕ) → AreCounts count b lines → AreCounts count b other → lines ≡ other
  counts_once count b lines other x y =
      let same : x.0 ≡ y.0 = (let e = laws.posed b (Ok x.0) (Ok y.0) x.1 y.1 in cc) in
      let has : HasCounts y.0 x.2.0 = subst (λ (t : Typed). HasCounts t x.2.0) same x.2.1 in
      x.2.2 ∙ (counts_of count y.0 x.2.0 y.2.0 has y.2.1 ∙ sym y.2.2)

  line_once : (e : Refusal) (r q : List ℕ) (b : Bytes) (request : Request) → IsPrinted request b (Err e) r → IsPrinted request b (Err e) q → r ≡ q
  line_once (refusal.Code code line) r q b (judge mode p m n k) x y = x ∙ sym y
  line_once (refusal.Code code line) r q b (sample count k) x y = x ∙ sym y
  line_once refusal.Memory r q b (judge mode p m n k) x y = absurd x
  line_once refusal.Memory r q b (sample count k) x y = absurd x

  -- one judgement is told by one report
  told_once : (request : Request) (b : Bytes) (j : Result Judgement Refusal) (r q : List ℕ) → IsPrinted request b j r → IsPrinted request b j q → r ≡ q
  told_once (judge mode p m n k) b (Ok j) r q x y = x ∙ sym y
  told_once (sample count k) b (Ok j) r q x y = x.2 ∙ (ap (λ (l : List ℕ). l ++ _) (counts_once count b x.0 y.0 x.1 y.1) ∙ sym y.2)
  told_once (judge mode p m n k) b (Err e) r q x y = line_once e r q b (judge mode p m n k) x y
  told_once (sample count k) b (Err e) r q x y = line_once e r q b (sample count k) x y

  -- rejections that agree are told alike
  rejections : (request : Request) (b : Bytes) (f e g h : List ℕ) (r q : List ℕ) → DifferAlike f g → DifferAlike e h
      → IsPrinted request b (Ok (judgement.Rejected f e)) r → IsPrinted request b (Ok (judgement.Rejected g h)) q → DifferAlike r q
  rejections (judge mode p m n k) b f e g h r q fs es x y =
      same_differ r q (rejected_text mode f e) (rejected_text mode g h) x y (by_mode mode f e g h fs es)
  rejections (sample count k) b f e g h r q fs es x y =
      same_differ r q (y.0 ++ f) (y.0 ++ g) (x.2 ∙ ap (λ (l : List ℕ). l ++ f) (counts_once count b x.0 y.0 x.1 y.1)) y.2 (differ_behind y.0 f g fs)

  module _ (request : Request) (b : Bytes) (r q : List ℕ) where
    same_judgement : (j k : Result Judgement Refusal) → j ≡ k → IsPrinted request b j r → IsPrinted request b k q → (status_of j ≡ status_of k) × (r ≡ q)
    same_judgement j k e x y = (ap status_of e, told_once request b j r q x (subst (λ (l : Result Judgement Refusal). IsPrinted request b l q) (sym e) y))

    -- judgements that agree have one status, and reports that are one but for the values at a point
    agreeing : (j k : Result Judgement Refusal) → Agree j k → IsPrinted request b j r → IsPrinted request b k q → (status_of j ≡ status_of k) × SameReport (status_of j) r q
    agreeing (Ok (judgement.Accepted a)) k e x y = same_judgement (Ok (judgement.Accepted a)) k e x y
    agreeing (Ok (judgement.Undecided a)) k e x y = same_judgement (Ok (judgement.Undecided a)) k e x y
    agreeing (Err (refusal.Code code line)) k e x y = same_judgement (Err (refusal.Code code line)) k e x y
    agreeing (Err refusal.Memory) k e x y = same_judgement (Err refusal.Memory) k e x y
    agreeing (Ok (judgement.Rejected f d)) (Ok (judgement.Rejected g h)) e x y = (refl, rejections request b f d g h r q e.0 e.1 x y)
    agreeing (Ok (judgement.Rejected f d)) (Ok (judgement.Accepted a)) e x y = absurd cc
    agreeing (Ok (judgement.Rejected f d)) (Ok (judgement.Undecided a)) e x y = absurd cc
    agreeing (Ok (judgement.Rejected f d)) (Err a) e x y = absurd cc

  -- ---- texts

  same_texts : (request : Request) (v : Visit) (b d : Bytes) → IsKnown (Some request) v → AreTexts request v b → AreTexts request v d → b ≡ d
  same_texts (judge mode p m q k) v b d known x y =
      let same = laws.handed v (wanted p m q) b.program b.measures b.qualifiers d.program d.measures d.qualifiers known x y in
      bytes_same b d same.0 same.1 same.2
  same_texts (sample count k) v b d known x y = x.1 ∙ sym y.1

  fault_once : (request : Request) (v : Visit) (r q : List ℕ) → IsKnown (Some request) v → WasFileFault request v r → WasFileFault request v q → r ≡ q
  fault_once (judge mode p m q k) v line other known x y = laws.faults v _ line other known x y
  fault_once (sample count k) v line other known x y = absurd x

  fault_or_judged : (request : Request) (v : Visit) (r : List ℕ) (b : Bytes) → IsKnown (Some request) v → WasFileFault request v r → AreTexts request v b → ⊥
  fault_or_judged (judge mode p m q k) v line b known x y = laws.either v (wanted p m q) line b.program b.measures b.qualifiers known x y
  fault_or_judged (sample count k) v line b known x y = x

  -- ---- what is due

  module _ (words : List (List ℕ)) (v : Visit) where
    abbrev SameDue : Status → Status → List ℕ → List ℕ → Type 0
    SameDue s t r q = (s ≡ t) × SameReport s r q

    abbrev Either : Status → Status → List ℕ → List ℕ → Type 0
    Either s t r q = SameDue s t r q ⊎ (StopsHere words v s r ⊎ StopsHere words v t q)

    stops : (request : Request) → command_of words ≡ Some request → (b : Bytes) → AreTexts request v b → (s : Status) (r : List ℕ) (j : Result Judgement Refusal)
        → IsStopped (limit_of request) b j → s ≡ status_of j → IsPrinted request b j r → StopsHere words v s r
    stops request is b are s r (Ok (judgement.Undecided cause)) stopped at told = record {
      asked = record { request = request; is = is; texts = b; are = are };
      cause = cause;
      stopped = stopped;
      status_is = at;
      tells = told;
    }
    stops request is b are s r (Ok (judgement.Accepted a)) stopped at told = absurd stopped
    stops request is b are s r (Ok (judgement.Rejected f e)) stopped at told = absurd stopped
    stops request is b are s r (Err e) stopped at told = absurd stopped

    verdicts : (request : Request) → command_of words ≡ Some request → (b : Bytes) → AreTexts request v b → (s t : Status) (r q : List ℕ)
        → IsVerdict request b s r → IsVerdict request b t q → Either s t r q
    verdicts request is b are s t r q x y = elim (laws.judgements (limit_of request) b x.judgement y.judgement x.due y.due) [
      | inl agree ↦
          let same = agreeing request b r q x.judgement y.judgement agree x.tells y.tells in
          inl (x.status_is ∙ (same.0 ∙ sym y.status_is), subst (λ (u : Status). SameReport u r q) (sym x.status_is) same.1)
      | inr (inl left) ↦ inr (inl (stops request is b are s r x.judgement left x.status_is x.tells))
      | inr (inr right) ↦ inr (inr (stops request is b are t q y.judgement right y.status_is y.tells))
    ]

    usage_once : (s t : Status) (r q : List ℕ) → s ≡ Usage → t ≡ Usage → r ≡ q → SameDue s t r q
    usage_once s t r q e f same = (e ∙ sym f, subst (λ (u : Status). SameReport u r q) (sym e) same)

    file_once : (s t : Status) (r q : List ℕ) → s ≡ File → t ≡ File → r ≡ q → SameDue s t r q
    file_once s t r q e f same = (e ∙ sym f, subst (λ (u : Status). SameReport u r q) (sym e) same)

    by_request : (request : Option Request) → command_of words ≡ request → (s t : Status) (r q : List ℕ) → IsKnown request v → IsDueFor request v s r
        → IsDueFor request v t q → Either s t r q
    by_request None is s t r q known x y = inl (usage_once s t r q x.0 y.0 (x.2 ∙ sym y.2))
    by_request (Some request) is s t r q known (inl x) (inl y) = inl (file_once s t r q x.0 y.0 (fault_once request v r q known x.1 y.1))
    by_request (Some request) is s t r q known (inl x) (inr y) = absurd (fault_or_judged request v r y.texts known x.1 y.are)
    by_request (Some request) is s t r q known (inr x) (inl y) = absurd (fault_or_judged request v q x.texts known y.1 x.are)
    by_request (Some request) is s t r q known (inr x) (inr y) =
        let same : y.texts ≡ x.texts = same_texts request v y.texts x.texts known y.are x.are in
        verdicts request is x.texts x.are s t r q x.verdict (subst (λ (b : Bytes). IsVerdict request b t q) same y.verdict)

  pub determined : IsDetermined
  determined words v s t r q known x y = by_request words v (command_of words) refl s t r q known x y
