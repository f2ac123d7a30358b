-- What a text gives on a rack of a kind: a score, or one refusal.
use Rattle.std.specs.Prelude.{◌≡◌, ℕ, ◌-◌, ◌≤◌, Bool, true, false, cond, ◌&&◌, ◌||◌, List, [], ◌∷◌, length, Some, None, Ok, Err, Option, Result, ◌==◌, nat_le}
use Rattle.algebra.specs.declared.numbers.Numbers.{Numbers}
use Rattle.algebra.specs.declared.node.Node.{Node}
use Rattle.algebra.specs.declared.node.Node.TheVariants.{Rest, Primitive, Sequence, Parallel}
use Rattle.algebra.specs.Kind.{KindModel}
use Rattle.algebra.specs.Score.{Score, primitives, score_length}
use Rattle.refusals.specs.declared.refusal.Refusal.{Refusal}
use Rattle.refusals.specs.declared.refusal.Refusal.TheVariants.{TooManyInFile, IllegalNumbers, TooLongInFile, UntrueHead}
use Rattle.grammar.specs.declared.item.Item.{Item}
use Rattle.grammar.specs.Files.{File, GrammaticalFile, print_file, ticks_offset, count_offset, body_offset}
use Rattle.grammar.specs.Items.{items}
use Rattle.grammar.specs.Refusals.{Refused}

abbrev pub holds_primitive : Node Numbers → Bool
holds_primitive (Rest d) = false
holds_primitive (Primitive p) = true
holds_primitive Sequence = false
holds_primitive Parallel = false

-- Where the first node begins for which there is no room, where n more nodes may come and among them m more primitives.
abbrev pub excess : ℕ → ℕ → List Item → Option ℕ
excess n m [] = None
excess n m (i ∷ is) =
    cond (n == 0 || (holds_primitive i.node && m == 0)) (Some i.offset) (excess (n - 1) (cond (holds_primitive i.node) (m - 1) m) is)

-- Whether a node is none that the kind refuses.
abbrev pub legal_node : KindModel → Node Numbers → Bool
legal_node K (Rest d) = true
legal_node K (Primitive p) = K.legal p
legal_node K Sequence = true
legal_node K Parallel = true

-- Where the first primitive begins whose numbers the kind refuses.
abbrev pub illegal : KindModel → List Item → Option ℕ
illegal K [] = None
illegal K (i ∷ is) = cond (legal_node K i.node) (illegal K is) (Some i.offset)

-- A refusal at an offset, if there is one, and else what follows.
abbrev pub refused_at : Option ℕ → (ℕ → Refusal) → Result Score Refusal → Result Score Refusal
refused_at None e r = r
refused_at (Some offset) e r = Err (e offset)

abbrev pub provided : Bool → Refusal → Result Score Refusal → Result Score Refusal
provided b e r = cond b r (Err e)

-- What a file of the kind gives: its term, unless it has more than 1,023 nodes or 170 primitives, a primitive that the
-- kind refuses, a length past 16,777,215, or a head whose length or count is not that of the term. Tried in this order.
abbrev pub checked : KindModel → File → Result Score Refusal
checked K f =
    let is = items (body_offset f) f.body in
    let long = score_length K f.body in
    refused_at (excess 1023 170 is) TooManyInFile
    (refused_at (illegal K is) IllegalNumbers
    (provided (nat_le long 16777215) (TooLongInFile (body_offset f))
    (provided (f.ticks == long) (UntrueHead (ticks_offset f))
    (provided (f.count == primitives f.body) (UntrueHead (count_offset f))
    (Ok f.body)))))

-- What a text gives on a rack of a kind. It is refused as no file of the kind, or it is the printed form of a file of
-- the kind, of at most 16,384 bytes, and gives what that file gives.
pub data Loads (K : KindModel) (text : List ℕ) : Result Score Refusal → Type 0 where
  refused : {e : Refusal} → Refused K.name text e → Loads K text (Err e)
  file : (f : File) → GrammaticalFile f → length text ≤ 16384 → f.kind ≡ K.name → text ≡ print_file f → Loads K text (checked K f)

-- The file of a score, whose head is true.
abbrev pub file_of : KindModel → Score → File
file_of K s = record { kind = K.name; ticks = score_length K s; count = primitives s; body = s }

-- The one file that is read as a score.
abbrev pub file_bytes : KindModel → Score → List ℕ
file_bytes K s = print_file (file_of K s)
