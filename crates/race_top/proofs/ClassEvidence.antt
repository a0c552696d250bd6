-- The runs that show the class of a race of two recorded turns.
use Rattle.std.proofs.Common.{◌≡◌, ◌≢◌, ℕ, Bool, true, false, cond, List, [], ◌∷◌, refl, sym, ap, ◌∙◌, inl, inr, arith, rules}
use Rattle.std.specs.Bool.{Decides}
use Rattle.std.specs.Prelude.{◌&&◌, IsTrue}
use Rattle.std.proofs.lemmas.Bool.{false≢true}
use Rattle.std.proofs.lemmas.Bool.Decides.{Decides-and, Decides-eqb, Decides-like}
use Rattle.std.proofs.lemmas.Slice.Eq.{slice_eq-Decides}
use Rattle.std.proofs.lemmas.List.Elements.{All-cons, All-nil}
use denote.Enum.Bare.{same_true, sameb, true_same}
use Rattle.ir_types.specs.contracts.external.ItemKind as item_kind
use Rattle.ir_types.specs.declared.external.ItemKind.{ItemKind}
use Rattle.ir_types.specs.declared.input.Input.{Input}
use Rattle.ir_types.specs.declared.«module».Module.{Module}
use Rattle.run_types.specs.contracts.out_item.OutItemPartialEq.TheImpl as item
use Rattle.run_types.specs.declared.case.Case.{Case}
use Rattle.run_types.specs.declared.race.Race.{Race}
use Rattle.run_types.specs.declared.run.Outcome.{Outcome}
use Rattle.run_types.specs.declared.run.Outcome.TheVariants.{Exit, Trap, Deadlock, Repeats, Spent}
use Rattle.run_types.specs.declared.run.Reason.{Reason}
use Rattle.run_types.specs.declared.run.Run.{Run}
use Rattle.run_types.specs.declared.out_item.OutItem.{OutItem}
use Rattle.machine_model.specs.Job.{Alternate, AlternateJob, PrimaryJob}
use Rattle.machine_model.specs.Job.Alternate.{Ran, Not, Absent}
use Rattle.machine_model.specs.Reach.{Reaches}
use Rattle.race_verdict.specs.declared.result.JobKind.{JobKind}
use Rattle.race_verdict.specs.declared.result.JobKind.TheVariants as kinds
use Rattle.race_verdict.specs.declared.result.JobResult.{JobResult}
use Rattle.race_verdict.specs.declared.result.Judged.{Judged}
use Rattle.race_verdict.specs.declared.result.Judged.TheVariants.{Admitted, Never, NotJudged}
use Rattle.race_verdict.specs.declared.verdict.HarmlessRun.{HarmlessRun}
use Rattle.race_verdict.specs.declared.verdict.Verdict.{Verdict}
use Rattle.race_verdict.specs.declared.verdict.Verdict.TheVariants.{SpecViolated, SingleOrdering, OutputDiffers, Unresolved, Harmless}
use Rattle.race_verdict.specs.Verdict.{VerdictOf, difference, distinct, is_exit, violates}
use Rattle.race_top.specs.AnalyserPool.{job_numbers, jobs_of, judged_of, kind_of, results_of, same_output}
use Rattle.race_top.specs.Evidence.{BothExit, ClassesHaveEvidence, IsInputOf, IsRunOfJob, RaceHasEvidence, ShowsAdmitted}
use Rattle.race_top.proofs.JobResults.{jobs-asked}
use Rattle.race_top.proofs.RaceReached.{recorded-run-reaches}

-- outputs are one list where `==` says so
item_kind-decides : (x y : ItemKind) → Decides (sameb item_kind.the_type x y) (x ≡ y)
item_kind-decides x y = (same_true item_kind.the_type (search rules) x y, true_same item_kind.the_type x y)

item-decides : (x y : OutItem) → Decides ((item.ghosts).eq x y) (x ≡ y)
item-decides x y =
    Decides-like _ (λ p i. record { kind = p.0 i; bits = p.1 i })
    (λ e. (ap (λ z. z.kind) e, ap (λ z. z.bits) e))
    (Decides-and _ _ (item_kind-decides x.kind y.kind)
    (Decides-eqb x.bits y.bits))

output-decides : (one other : List OutItem) → Decides (same_output one other) (one ≡ other)
output-decides one other = slice_eq-Decides item-decides one other (same_output one other) refl

-- the results of a primary and of a job of this kind after it
abbrev results : Input → Run → JobKind → Judged → List JobResult
results input primary kind judged =
    record { path = 0; schedule = 0; input = input; kind = kinds.Ran primary; judged = NotJudged }
    ∷ record { path = 0; schedule = 1; input = input; kind = kind; judged = judged } ∷ []

-- a run that ends in this way
abbrev ending : Run → Outcome → Run
ending run outcome = record run { outcome = outcome }

-- how an alternate is judged: where both runs exit, by whether they print the same
abbrev judged_by : Input → Outcome → Outcome → Bool → Judged
judged_by input one two same =
    cond (is_exit one && is_exit two) (cond same (Admitted input) Never) NotJudged

module _ (code : Module) (case : Case) (race : Race) where
  -- the jobs of the recorded path are these
  abbrev IsPrimary : Run → Type 0
  IsPrimary primary = PrimaryJob code case case.input ≡ primary

  abbrev IsAlternate : Run → Type 0
  IsAlternate alternate = AlternateJob code case race case.input 1 ≡ Ran alternate

  abbrev Has : Verdict → Type 0
  Has = RaceHasEvidence code case race

  abbrev IsJob : ℕ → Run → Type 0
  IsJob schedule run =
      IsRunOfJob (jobs_of code case race) (IsInputOf case) job_numbers 0 schedule case.input run

  primary-job : {run : Run} → IsPrimary run → IsJob 0 run
  primary-job first = record { is_listed = (0, omega arith, refl); on_path = refl; either = inl (refl, first) }

  alternate-job : {run : Run} → IsAlternate run → IsJob 1 run
  alternate-job second =
      record { is_listed = (1, omega arith, refl); on_path = refl; either = inr (omega arith, second) }

  -- a job that violates, or spends its budget
  violated : (schedule : ℕ) (run : Run) (outcome : Outcome) →
      IsJob schedule (ending run outcome) → IsTrue (violates outcome) →
      Has (SpecViolated 0 schedule case.input run.turns outcome)
  violated schedule run outcome job ends =
      record { run = ending run outcome; job = job; turns_are = refl; ends = (refl, ends) }

  spent : (schedule : ℕ) (run : Run) → IsJob schedule (ending run Spent) →
      Has (Unresolved 0 schedule case.input run.turns)
  spent schedule run job = record { run = ending run Spent; job = job; turns_are = refl; ends = refl }

  -- both jobs exit
  both-exit : (primary alternate : Run) → IsPrimary primary → IsAlternate alternate →
      IsTrue (is_exit primary.outcome) → IsTrue (is_exit alternate.outcome) → BothExit (jobs_of code case race) 1 case.input alternate
  both-exit primary alternate first second one two = record {
    second = second;
    first_exits = ap (λ (run : Run). is_exit run.outcome) first ∙ one;
    second_exits = two;
  }

  differing : (primary alternate : Run) → IsPrimary primary → IsAlternate alternate →
      IsTrue (is_exit primary.outcome) → IsTrue (is_exit alternate.outcome) → alternate.output ≢ primary.output →
      Has
      (OutputDiffers 0 1 case.input primary.turns primary.output alternate.turns alternate.output)
  differing primary alternate first second one two differ = record {
    alternate = alternate;
    both = both-exit primary alternate first second one two;
    job = alternate-job second;
    is_alternate = omega arith;
    primary_turns = ap (λ (run : Run). run.turns) first;
    primary_prints = ap (λ (run : Run). run.output) first;
    alternate_turns = refl;
    alternate_prints = refl;
    differ = differ;
  }

  -- the one run of the second order
  abbrev one_run : Run → HarmlessRun
  one_run alternate = record {
    path = 0;
    schedule = 1;
    input = case.input;
    turns = alternate.turns;
    output = alternate.output;
    admitted = case.input;
  }

  same-turns : (one other : Run) → Ran one ≡ Ran other → one.turns ≡ other.turns
  same-turns one other same = let equal : one ≡ other = cc in ap (λ (run : Run). run.turns) equal

  admitted : (primary alternate : Run) → IsPrimary primary → IsAlternate alternate →
      IsTrue (is_exit primary.outcome) → IsTrue (is_exit alternate.outcome) → primary.output ≡ alternate.output →
      Has (Harmless (one_run alternate ∷ []))
  unfolding distinct
  admitted primary alternate first second one two same = record {
    some = λ none. let h : ⊥ = cc in h;
    shown = All-cons (ShowsAdmitted (jobs_of code case race) (IsInputOf case) job_numbers)
        (one_run alternate) []
        (record {
          alternate = alternate;
          both = both-exit primary alternate first second one two;
          job = alternate-job second;
          is_alternate = omega arith;
          turns_are = refl;
          prints = refl;
          admitted = refl;
          primary_prints = ap (λ (run : Run). run.output) first ∙ same;
        }) (All-nil (ShowsAdmitted (jobs_of code case race) (IsInputOf case) job_numbers));
    apart = refl;
    whole = λ path schedule among later. (
      case.input,
      refl,
      λ run is ends. (one_run alternate, (0, omega arith, refl), refl, same-turns alternate run (sym second ∙ is)),
    );
  }

  reasoned : (reason : Reason) (turns : List ℕ) → AlternateJob code case race case.input 1 ≡ Not reason turns →
      Has (SingleOrdering reason turns)
  reasoned reason turns second =
      record { input = case.input; is_listed = (1, omega arith, refl); on_path = refl; answers = second }

  -- where the hold gives a reason, the class is the primary's violation or that reason
  held : (primary : Run) (one : Outcome) (reason : Reason) (turns : List ℕ) → IsPrimary (ending primary one) →
      AlternateJob code case race case.input 1 ≡ Not reason turns →
      Has (VerdictOf (results case.input (ending primary one) (kinds.Not reason turns) NotJudged))
  unfolding VerdictOf
  held primary (Exit status) reason turns first second = reasoned reason turns second
  held primary (Trap trap thread site) reason turns first second =
      violated 0 primary (Trap trap thread site) (primary-job first) refl
  held primary Deadlock reason turns first second = violated 0 primary Deadlock (primary-job first) refl
  held primary (Repeats turn earlier) reason turns first second =
      violated 0 primary (Repeats turn earlier) (primary-job first) refl
  held primary Spent reason turns first second = reasoned reason turns second

  -- where both jobs run, by how they end
  ran : (primary alternate : Run) (one two : Outcome) (same : Bool) → IsPrimary (ending primary one) →
      IsAlternate (ending alternate two) → Decides same (primary.output ≡ alternate.output) →
      Has
      (VerdictOf
      (results case.input (ending primary one) (kinds.Ran (ending alternate two)) (judged_by case.input one two same)))
  unfolding VerdictOf difference distinct
  ran primary alternate (Trap trap thread site) two same first second prints =
      violated 0 primary (Trap trap thread site) (primary-job first) refl
  ran primary alternate Deadlock two same first second prints = violated 0 primary Deadlock (primary-job first) refl
  ran primary alternate (Repeats turn earlier) two same first second prints =
      violated 0 primary (Repeats turn earlier) (primary-job first) refl
  ran primary alternate (Exit status) (Exit other) true first second prints =
      admitted (ending primary (Exit status)) (ending alternate (Exit other)) first second refl refl (prints.0 refl)
  ran primary alternate (Exit status) (Exit other) false first second prints =
      differing (ending primary (Exit status)) (ending alternate (Exit other)) first second refl refl
      (λ equal. false≢true (prints.1 (sym equal)))
  ran primary alternate (Exit status) (Trap trap thread site) same first second prints =
      violated 1 alternate (Trap trap thread site) (alternate-job second) refl
  ran primary alternate (Exit status) Deadlock same first second prints =
      violated 1 alternate Deadlock (alternate-job second) refl
  ran primary alternate (Exit status) (Repeats turn earlier) same first second prints =
      violated 1 alternate (Repeats turn earlier) (alternate-job second) refl
  ran primary alternate (Exit status) Spent same first second prints = spent 1 alternate (alternate-job second)
  ran primary alternate Spent (Trap trap thread site) same first second prints =
      violated 1 alternate (Trap trap thread site) (alternate-job second) refl
  ran primary alternate Spent Deadlock same first second prints =
      violated 1 alternate Deadlock (alternate-job second) refl
  ran primary alternate Spent (Repeats turn earlier) same first second prints =
      violated 1 alternate (Repeats turn earlier) (alternate-job second) refl
  ran primary alternate Spent (Exit other) same first second prints = spent 0 primary (primary-job first)
  ran primary alternate Spent Spent same first second prints = spent 0 primary (primary-job first)

  -- an alternate of a race that the primary reaches is not absent
  present : Reaches code case race case.input ≡ true → kind_of (AlternateJob code case race case.input 1) ≢ kinds.Absent
  unfolding results_of
  present reaches = (jobs-asked code case race reaches).recorded
      (record {
        path = 0;
        schedule = 1;
        input = case.input;
        kind = kind_of (AlternateJob code case race case.input 1);
        judged = judged_of case.input (PrimaryJob code case case.input) (AlternateJob code case race case.input 1);
      }) (1, omega arith, refl) refl

  shown : (primary : Run) (alternate : Alternate) → IsPrimary primary →
      AlternateJob code case race case.input 1 ≡ alternate → kind_of alternate ≢ kinds.Absent →
      Has
      (VerdictOf (results case.input primary (kind_of alternate) (judged_of case.input primary alternate)))
  shown primary (Ran run) first second some =
      ran primary run primary.outcome run.outcome (same_output primary.output run.output) first second
      (output-decides primary.output run.output)
  shown primary (Not reason turns) first second some = held primary primary.outcome reason turns first second
  shown primary Absent first second some = absurd (some refl)

pub classes-shown : ClassesHaveEvidence
unfolding results_of
classes-shown code case pair race is =
    shown code case race (PrimaryJob code case case.input) (AlternateJob code case race case.input 1) refl refl
    (present code case race (recorded-run-reaches code case pair race is))
