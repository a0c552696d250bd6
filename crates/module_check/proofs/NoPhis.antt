-- A body of whose nodes none is the word of a phi lacks no edge.
use Rattle.std.proofs.Common.{◌≡◌, ◌∙◌, Bool, true, false, ◌||◌, if◌then◌else◌, List, [], ◌∷◌, ◌++◌, None, refl, subst, sym, ℕ}
use Rattle.std.specs.List.{AllByRecursion, list_any}
use Rattle.ir_read.specs.Node.{Told}
use Rattle.ir_items.specs.Laws.{nodes_of}
use Rattle.ir_items.specs.Segment.{Segment, is_equals, segments_of}
use Rattle.ir_items.specs.declared.segment.Cut.TheVariants as cuts
use Rattle.ir_items.specs.Statement.{Statement, is_label, named_if, statement_at, statements_in, statements_of}
use Rattle.instruction_check.specs.declared.scope.BodyNames.{BodyNames}
use Rattle.module_check.specs.declared.phis.Phis.{Phis}
use Rattle.module_check.specs.Phis.{behind_label, no_phis, phis_from, with_phi, with_statement}
use Rattle.module_check.specs.Shape.{is_phi, is_phi_by}

abbrev IsNoPhi : Told → Type 0
IsNoPhi node = is_phi_by node.terminal ≡ false

abbrev GivesNoPhi : Statement → Type 0
GivesNoPhi statement = is_phi statement ≡ false

-- ---- statements of such nodes

neither : (one other : Bool) → (one || other) ≡ false → (one ≡ false) × (other ≡ false)
neither true other is = absurd (cc)
neither false other is = (refl, is)

all_of : (nodes : List Told) → list_any (λ node. is_phi_by node.terminal) nodes ≡ false → AllByRecursion IsNoPhi nodes
all_of [] is = tt
all_of (node ∷ nodes) is =
    let both = neither (is_phi_by node.terminal) (list_any (λ node. is_phi_by node.terminal) nodes) is in
    (both.0, all_of nodes both.1)

front_of : (front back : List Told) → AllByRecursion IsNoPhi (front ++ back) → AllByRecursion IsNoPhi front
front_of [] back all = tt
front_of (node ∷ front) back all = (all.0, front_of front back all.1)

back_of : (front back : List Told) → AllByRecursion IsNoPhi (front ++ back) → AllByRecursion IsNoPhi back
back_of [] back all = all
back_of (node ∷ front) back all = back_of front back all.1

named_no_phi : (named : Bool) (first equals operation : Told) (operands : List Told) → IsNoPhi first → IsNoPhi operation →
    GivesNoPhi (named_if named first equals operation operands)
named_no_phi true first equals operation operands here there = there
named_no_phi false first equals operation operands here there = here

statement_no_phi : (first : Told) (rest : List Told) → IsNoPhi first → AllByRecursion IsNoPhi rest → GivesNoPhi (statement_at first rest)
statement_no_phi first [] here all = here
statement_no_phi first (equals ∷ []) here all = here
statement_no_phi first (equals ∷ operation ∷ operands) here all =
    named_no_phi (is_equals equals.rule) first equals operation operands here all.1.0

statements_no_phi : (segments : List Segment) → AllByRecursion IsNoPhi (nodes_of segments) → AllByRecursion GivesNoPhi (statements_in segments)
statements_no_phi [] all = tt
statements_no_phi (segment ∷ segments) all = (
  statement_no_phi segment.first segment.rest all.0 (front_of segment.rest (nodes_of segments) all.1),
  statements_no_phi segments (back_of segment.rest (nodes_of segments) all.1),
)

body_no_phi : (body : List Told) → nodes_of (segments_of cuts.Statements body) ≡ body → AllByRecursion IsNoPhi body →
    AllByRecursion GivesNoPhi (statements_of body)
body_no_phi body whole all =
    statements_no_phi (segments_of cuts.Statements body) (subst (AllByRecursion IsNoPhi) (sym whole) all)

-- ---- what is found of them

kept_by : (label phi : Bool) (names : BodyNames) (done : Phis) (statement : Statement) → phi ≡ false →
    (if label then behind_label done else if phi then with_phi names done statement else done).first ≡ done.first
kept_by true phi names done statement none = refl
kept_by false true names done statement none = absurd (cc)
kept_by false false names done statement none = refl

kept : (names : BodyNames) (done : Phis) (statements : List Statement) → AllByRecursion GivesNoPhi statements →
    (phis_from names done statements).first ≡ done.first
kept names done [] all = refl
kept names done (statement ∷ statements) all =
    kept names (with_statement names done statement) statements all.1
    ∙ kept_by (is_label statement) (is_phi statement) names done statement all.0

pub no_phi_lacks : (names : BodyNames) (blocks : ℕ) (body : List Told) → nodes_of (segments_of cuts.Statements body) ≡ body →
    list_any (λ node. is_phi_by node.terminal) body ≡ false →
    None ≡ (phis_from names (no_phis names blocks body) (statements_of body)).first
no_phi_lacks names blocks body whole none =
    sym (kept names (no_phis names blocks body) (statements_of body) (body_no_phi body whole (all_of body none)))
