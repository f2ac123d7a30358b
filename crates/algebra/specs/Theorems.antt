-- What is proved of scores. A kind is any model of one; a theorem that needs laws of the kind asks for just those.
use Rattle.std.specs.Prelude.{◌≡◌, ℕ, ◌+◌, ◌-◌, ◌*◌, ◌<◌, ◌≤◌, min, max, ◌↔◌, List, ◌++◌, map, length, Some, None, ◌≢◌}
use Rattle.algebra.specs.declared.node.Node.{Node}
use Rattle.algebra.specs.declared.numbers.Numbers.{Numbers}
use Rattle.algebra.specs.declared.rule.Rule.{Rule}
use Rattle.algebra.specs.declared.rule.Way.{Way}
use Rattle.algebra.specs.Bag.{ordered_after}
use Rattle.algebra.specs.Kind.{KindModel, OrderLaws, LengthLaws, ReverseLaws, CutLaws}
use Rattle.algebra.specs.Score.{Score, Score.sequence, Score.parallel, score_length, nodes, primitives, Legal, Placed, placed, same_placed, later}
use Rattle.algebra.specs.Layout.{preorder}
use Rattle.algebra.specs.Limits.{Fits}
use Rattle.algebra.specs.Meaning.{Means, SameMeaning}
use Rattle.algebra.specs.Rules.{Across, Step, Chain}
use Rattle.algebra.specs.Rewrite.{mapped, other_side, rewritten}
use Rattle.algebra.specs.Normal.{normal, normal_after, line, lines, same_line}
use Rattle.algebra.specs.Compare.{Answer, Answer.same, Says, compared}
use Rattle.algebra.specs.Cuts.{taken, taken_bag, dropped, dropped_bag, reversed, reversed_bag, uneven}

-- == Rules and meanings ==

-- A chain leads from one score to another exactly where lengths agree and every placed primitive occurs equally often in both.
abbrev pub SoundAndComplete : Type 0
SoundAndComplete = (K : KindModel) (s t : Score) → Chain K s t ↔ SameMeaning K s t

-- What one end of a chain means the other means too, whatever order the bag is written in.
abbrev pub ChainMeans : Type 0
ChainMeans = (K : KindModel) (s t : Score) (n : ℕ) (xs : List Placed) → Means K s n xs → Chain K s t → Means K t n xs

-- A step keeps the number of primitives and adds at most two nodes.
abbrev pub StepSize : Type 0
StepSize = (K : KindModel) (s t : Score) → Step K s t → (primitives t ≡ primitives s) × (nodes t ≤ nodes s + 2)

-- So a chain keeps the number of primitives.
abbrev pub ChainSize : Type 0
ChainSize = (K : KindModel) (s t : Score) → Chain K s t → primitives t ≡ primitives s

-- It leads from a score of legal primitives to another.
abbrev pub ChainLegal : Type 0
ChainLegal = (K : KindModel) (s t : Score) → Legal K s → Chain K s t → Legal K t

-- == Normal forms ==

-- A chain leads from every score to its normal form.
abbrev pub NormalReached : Type 0
NormalReached = (K : KindModel) (s : Score) → Chain K s (normal K s)

-- A chain leads from every score to its normal form after any model.
abbrev pub AfterReached : Type 0
AfterReached = (K : KindModel) (s model : Score) → Chain K s (normal_after K s model)

-- After itself a score has its own normal form.
abbrev pub SelfAfter : Type 0
SelfAfter = (K : KindModel) (s : Score) → normal_after K s s ≡ normal K s

-- After a model a score has the model's own normal form exactly where a chain leads from the score to the model.
abbrev pub AfterDecides : Type 0
AfterDecides = (K : KindModel) (s model : Score) → (normal_after K s model ≡ normal K model) ↔ Chain K s model

-- Likewise by the normal forms of both after the model.
abbrev pub BothAfterDecide : Type 0
BothAfterDecide = (K : KindModel) (s model : Score) → (normal_after K s model ≡ normal_after K model model) ↔ Chain K s model

-- A normal form has the score's primitives and six nodes for each of them, less one; for no primitive it is one rest.
abbrev pub NormalSize : Type 0
NormalSize =
    (K : KindModel) (s model : Score) →
    (primitives (normal_after K s model) ≡ primitives s) × (nodes (normal_after K s model) ≡ max 1 (6 * primitives s - 1))

-- So the normal form of a score of at most 170 primitives has at most 170 of them and 1,019 nodes, and there is room for it where there is for the score.
abbrev pub NormalFits : Type 0
NormalFits =
    (K : KindModel) (s model : Score) →
    (primitives s ≤ 170 → (primitives (normal_after K s model) ≤ 170) × (nodes (normal_after K s model) ≤ 1019)) × (Fits K s → Fits K (normal_after K s model))

-- For scores of one length a line is its placed primitive, so partners can be found among those.
abbrev pub AfterByPlaced : Type 0
AfterByPlaced =
    (K : KindModel) (s model : Score) → score_length K s ≡ score_length K model →
    ordered_after same_line (lines K s) (lines K model) ≡ map (line K (score_length K s)) (ordered_after same_placed (placed K s) (placed K model))

-- Between scores of two lengths no line has a partner.
abbrev pub AfterOtherLength : Type 0
AfterOtherLength =
    (K : KindModel) (s model : Score) → (score_length K s ≢ score_length K model) →
    ordered_after same_line (lines K s) (lines K model) ≡ lines K s

-- == Joins, cuts and reversal ==
-- What a score means gives what the score made of it means, whatever order the bag is written in.

-- A sequence has the sum of the lengths, and the second bag later by the first length; a parallel has the greater length and both bags.
abbrev pub JoinMeans : Type 0
JoinMeans =
    (K : KindModel) (a b : Score) (m n : ℕ) (xs ys : List Placed) → Means K a m xs → Means K b n ys →
    Means K (sequence a b) (m + n) (xs ++ map (later m) ys) × Means K (parallel a b) (max m n) (xs ++ ys)

-- Take t of a score of legal primitives is one too; its length is the smaller of the length and t, and its bag is by the bag rule of take.
abbrev pub TakeMeans : Type 0
TakeMeans =
    (K : KindModel) → LengthLaws K → CutLaws K → (t : ℕ) (s : Score) (n : ℕ) (xs : List Placed) → Legal K s → Means K s n xs →
    Legal K (taken K t s) × Means K (taken K t s) (min n t) (taken_bag K t xs)

-- Drop t of a score of legal primitives is one too; it is shorter by t, down to 0, and its bag is by the bag rule of drop.
abbrev pub DropMeans : Type 0
DropMeans =
    (K : KindModel) → LengthLaws K → CutLaws K → (t : ℕ) (s : Score) (n : ℕ) (xs : List Placed) → Legal K s → Means K s n xs →
    Legal K (dropped K t s) × Means K (dropped K t s) (n - t) (dropped_bag K t xs)

-- The reverse of a score of legal primitives is one too; it is as long, and its bag is by the bag rule of reversal.
abbrev pub ReverseMeans : Type 0
ReverseMeans =
    (K : KindModel) → ReverseLaws K → (s : Score) (n : ℕ) (xs : List Placed) → Legal K s → Means K s n xs →
    Legal K (reversed K s) × Means K (reversed K s) n (reversed_bag K n xs)

-- A join has the primitives of both parts, and one node more than both.
abbrev pub JoinSize : Type 0
JoinSize =
    (a b : Score) →
    (primitives (sequence a b) ≡ primitives a + primitives b) × (nodes (sequence a b) ≡ 1 + nodes a + nodes b) ×
    (primitives (parallel a b) ≡ primitives a + primitives b) × (nodes (parallel a b) ≡ 1 + nodes a + nodes b)

-- Take and drop make no score larger.
abbrev pub CutSize : Type 0
CutSize =
    (K : KindModel) (t : ℕ) (s : Score) →
    (primitives (taken K t s) ≤ primitives s) × (nodes (taken K t s) ≤ nodes s) ×
    (primitives (dropped K t s) ≤ primitives s) × (nodes (dropped K t s) ≤ nodes s)

-- So there is room for what they make where there is for the score.
abbrev pub CutFits : Type 0
CutFits =
    (K : KindModel) → LengthLaws K → CutLaws K → (t : ℕ) (s : Score) → Legal K s → Fits K s →
    Fits K (taken K t s) × Fits K (dropped K t s)

-- A reversal keeps the primitives, and adds two nodes for each parallel whose parts differ in length.
abbrev pub ReverseSize : Type 0
ReverseSize = (K : KindModel) (s : Score) → (primitives (reversed K s) ≡ primitives s) × (nodes (reversed K s) ≡ nodes s + 2 * uneven K s)

-- So there is room for the reverse of a score exactly where that count is at most 1,023.
abbrev pub ReverseFits : Type 0
ReverseFits =
    (K : KindModel) → ReverseLaws K → (s : Score) → Legal K s → Fits K s →
    Fits K (reversed K s) ↔ (nodes s + 2 * uneven K s ≤ 1023)

-- == Rewriting ==

-- A score is across from another by a rule and a way exactly where the other side is given as it, at some split.
abbrev pub OtherSides : Type 0
OtherSides =
    (K : KindModel) (rule : Rule) (way : Way) (s t : Score) →
    Across K rule way s t ↔ ((split : ℕ) × (other_side K rule way split s ≡ Some t))

-- The part of a score that begins at a node: in preorder as many nodes stand before it as the node's number says.
-- Put gives the score with another part in its place, where the nodes before and after it stay.
pub record PartAt (node : ℕ) (s : Score) : Type 0 where
  pub part : Score
  pub put : Score → Score
  pub before : List (Node Numbers)
  pub after : List (Node Numbers)
  pub here : length before ≡ node
  pub own : put part ≡ s
  pub lies : (x : Score) → preorder (put x) ≡ before ++ (preorder x ++ after)

-- Rewriting at a node puts the other side of the rule for the part there, or gives none where that part is no side of the rule.
abbrev pub RewritesThere : Type 0
RewritesThere =
    (K : KindModel) (rule : Rule) (way : Way) (split node : ℕ) (s : Score) → node < nodes s →
    (p : PartAt node s) × (rewritten K rule way split node s ≡ mapped p.put (other_side K rule way split p.part))

-- Past the last node there is nothing to rewrite.
abbrev pub RewritesNowhere : Type 0
RewritesNowhere = (K : KindModel) (rule : Rule) (way : Way) (split node : ℕ) (s : Score) → nodes s ≤ node → rewritten K rule way split node s ≡ None

-- What rewriting at a node does is a step.
abbrev pub RewritesStep : Type 0
RewritesStep = (K : KindModel) (rule : Rule) (way : Way) (split node : ℕ) (s t : Score) → rewritten K rule way split node s ≡ Some t → Step K s t

-- Every step is done by rewriting at some node, by some rule, way and split.
abbrev pub StepsRewrite : Type 0
StepsRewrite =
    (K : KindModel) (s t : Score) → Step K s t →
    (rule : Rule) × (way : Way) × (split : ℕ) × (node : ℕ) × (node < nodes s) × (rewritten K rule way split node s ≡ Some t)

-- So rewriting keeps the number of primitives and adds at most two nodes.
abbrev pub RewriteSize : Type 0
RewriteSize =
    (K : KindModel) (rule : Rule) (way : Way) (split node : ℕ) (s t : Score) → rewritten K rule way split node s ≡ Some t →
    (primitives t ≡ primitives s) × (nodes t ≤ nodes s + 2)

-- == Comparing ==

-- The answer of comparing is the one and only one that says what it means, where the kind keeps the laws of order.
abbrev pub CompareSays : Type 0
CompareSays =
    (K : KindModel) → OrderLaws K → (s t : Score) → Legal K s → Legal K t → (a : Answer) → Says K s t a ↔ (a ≡ compared K s t)

-- Comparing answers same exactly where a chain leads from one score to the other, whatever the kind.
abbrev pub CompareSame : Type 0
CompareSame = (K : KindModel) (s t : Score) → (compared K s t ≡ same) ↔ Chain K s t
