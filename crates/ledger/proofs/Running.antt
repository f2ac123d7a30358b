-- Any calls, in any order.
use Rattle.std.proofs.Common.{◌≡◌, ℕ, zero, suc, ◌+◌, ◌-◌, ◌<◌, ◌≤◌, min, Bool, true, false, List, [], ◌∷◌, ◌++◌, length, get_or, take, drop, set, replicate, None, Ok, Err, Option, Result, sym, refl, ap, ◌∙◌, subst, arith}
use Rattle.std.proofs.lemmas.List.{take_more, length-replicate, length-take-le, drop-drop, drop-set-lt}
use Rattle.refusals.specs.declared.refusal.Refusal.{Refusal}
use Rattle.algebra.specs.Kind.{KindModel, KindLaws}
use Rattle.algebra.specs.Score.{Score}
use Rattle.grammar.specs.Loads.{Loads}
use Rattle.render.specs.declared.entry.Entry.{Entry}
use Rattle.rack.specs.Shelves.{Shelf}
use Rattle.rack.specs.Calls.{load_answer}
use Rattle.ledger.specs.declared.call.Call.{Call}
use Rattle.ledger.specs.declared.call.Call.TheVariants as call
use Rattle.ledger.specs.Answers.{Answer, refused, done_of}
use Rattle.ledger.specs.Ledgers.{Ledger, blank, Accepted, Entered, Kept}
use Rattle.ledger.specs.Runs.{RendererAt, renderer_at, State, Did, Ran}
use Rattle.ledger.specs.Stands.{Stands}
use Rattle.ledger.proofs.Standing.{agrees_by, step}

-- what stands behind a place in two rows stays equal further on
pub drop_behind : {X : Type 0} (xs ys : List X) (i j : ℕ) → i ≤ j → drop i xs ≡ drop i ys → drop j xs ≡ drop j ys
drop_behind xs ys i j h e =
    let n : i + (j - i) ≡ j = omega arith in
    subst (λ k. drop k xs ≡ drop k ys) n (sym (drop-drop (j - i) i xs) ∙ ap (drop (j - i)) e ∙ drop-drop (j - i) i ys)

-- and after a write at the place too
pub set_behind : {X : Type 0} (xs ys : List X) (i : ℕ) (x : X) → drop i xs ≡ drop i ys → drop (i + 1) (set xs i x) ≡ drop (i + 1) ys
set_behind xs ys i x e = drop-set-lt (i + 1) xs i x (omega arith) ∙ drop_behind xs ys i (i + 1) (omega arith) e

-- a call at settings that are still those of the start
pub did_at : (K : KindModel) {S P : Type 0} (blank : S → ℕ → P) (entered : S → Entry → P → P) (u v : S) → u ≡ v → (s t : State P) (c : Call) (a : Answer)
    → Did K (renderer_at blank entered u) s c a t → Did K (renderer_at blank entered v) s c a t
did_at K blank entered u v e s t c a d = subst (λ z. Did K (renderer_at blank entered z) s c a t) e d

module _ (K : KindModel) {P : Type 0} (R : RendererAt P) where
  -- some ledger is kept of a call that is accepted
  abbrev Writable : Call → Ledger → Type 0
  Writable c l = (m : Ledger) × Accepted K c l m

  entered : (c : Call) (l : Ledger) (b : Bool) → (b ≡ false → Writable c l) → (m : Ledger) × Entered K c b l m
  entered c l true w = (l, refl)
  entered c l false w = w refl

  -- a load that is accepted gave a score
  file_given : (text : List ℕ) (to : ℕ) (shelf : Shelf) (given : Result Score Refusal) → Loads K text given → refused (done_of (load_answer given shelf to)) ≡ false → (s : Score) × Loads K text (Ok s)
  file_given text to shelf (Ok s) g h = (s, g)
  file_given text to shelf (Err e) g h = absurd (grind arith)

  writable : (s t : State P) (a : Answer) (c : Call) (l : Ledger) → Did K R s c a t → refused a ≡ false → Writable c l
  writable s t a (call.Load to text) l (given, g, p) h =
      let f = file_given text.now to s.shelf given g (sym (ap refused p.answer_is) ∙ h) in
      (_, (f.0, f.1, refl))
  writable s t a (call.Rest to ticks) l d h = (_, refl)
  writable s t a (call.JoinSequence to x y) l d h = (_, refl)
  writable s t a (call.JoinParallel to x y) l d h = (_, refl)
  writable s t a (call.Reverse to x) l d h = (_, refl)
  writable s t a (call.Take to x ticks) l d h = (_, refl)
  writable s t a (call.Drop to x ticks) l d h = (_, refl)
  writable s t a (call.Normalise to x) l d h = (_, refl)
  writable s t a (call.Rewrite place node rule way split) l d h = (_, refl)
  writable s t a (call.Clear place) l d h = (_, refl)
  writable s t a (call.Tell place) l d h = (_, refl)
  writable s t a (call.Write place) l d h = (_, refl)
  writable s t a (call.Compare x y) l d h = (_, refl)
  writable s t a (call.WriteNormal place model) l d h = (_, refl)
  writable s t a (call.Draw place) l d h = (_, refl)

  -- some ledger is kept of every run
  pub keeps : (calls : List Call) (answers : List Answer) (s t : State P) (l : Ledger) → Ran K R s calls answers t → (m : Ledger) × Kept K calls answers l m
  keeps [] answers s t l r = (l, refl)
  keeps (c ∷ calls) [] s t l r = (l, refl)
  keeps (c ∷ calls) (a ∷ answers) s t l (next, d, r) =
      let e = entered c l (refused a) (writable s next a c l d) in
      let m = keeps calls answers next t e.0 r in
      (m.0, (e.0, e.1, m.1))

  -- and the rack is as it says
  pub run : KindLaws K → (calls : List Call) (answers : List Answer) (s t : State P) (l m : Ledger) → Stands K s.shelf l → Ran K R s calls answers t → Kept K calls answers l m → Stands K t.shelf m
  run laws [] answers s t l m st r k = subst (λ z. Stands K z.shelf m) (sym r) (subst (Stands K s.shelf) (sym k) st)
  run laws (c ∷ calls) [] s t l m st r k = subst (λ z. Stands K z.shelf m) (sym r) (subst (Stands K s.shelf) (sym k) st)
  run laws (c ∷ calls) (a ∷ answers) s t l m st (next, d, r) (n, e, k) = run laws calls answers next t n m (step K R laws s next a l n st c d e) r k

  -- one call more
  pub ran_more : (calls : List Call) (c : Call) (answers : List Answer) (a : Answer) (s t u : State P) → length calls < length answers → Ran K R s calls answers t → Did K R t c a u → Ran K R s (calls ++ (c ∷ [])) (set answers (length calls) a) u
  ran_more [] c [] a s t u h r d = absurd (omega arith)
  ran_more [] c (old ∷ answers) a s t u h r d = (u, subst (λ z. Did K R z c a u) r d, refl)
  ran_more (b ∷ calls) c [] a s t u h r d = absurd (omega arith)
  ran_more (b ∷ calls) c (old ∷ answers) a s t u h (next, e, r) d = (next, e, ran_more calls c answers a next t u (omega arith) r d)

  -- as many calls as the row of answers has room for
  pub ran_enough : (n : ℕ) (calls : List Call) (answers : List Answer) (s t : State P) → min (length calls) (length answers) ≤ n → Ran K R s (take n calls) answers t → Ran K R s calls answers t
  ran_enough zero [] answers s t h r = r
  ran_enough (suc n) [] answers s t h r = r
  ran_enough zero (c ∷ calls) [] s t h r = r
  ran_enough (suc n) (c ∷ calls) [] s t h r = r
  ran_enough zero (c ∷ calls) (a ∷ answers) s t h r = absurd (omega arith)
  ran_enough (suc n) (c ∷ calls) (a ∷ answers) s t h (next, d, r) = (next, d, ran_enough n calls answers next t (omega arith) r)

  -- one turn of the loop over calls
  pub turn : (calls : List Call) (i : ℕ) (c d : Call) (answers : List Answer) (a : Answer) (s t u : State P) → i < length calls → i < length answers → c ≡ get_or calls i d
      → Ran K R s (take i calls) answers t → Did K R t c a u → Ran K R s (take (i + 1) calls) (set answers i a) u
  turn calls i c d answers a s t u h k is r e =
      let long : length (take i calls) ≡ i = length-take-le i calls (omega arith) in
      let more : take i calls ++ (c ∷ []) ≡ take (i + 1) calls = ap (λ x. take i calls ++ (x ∷ [])) is ∙ sym (take_more calls i d h) in
      subst (λ n. Ran K R s (take (i + 1) calls) (set answers n a) u) long (subst (λ cs. Ran K R s cs (set answers (length (take i calls)) a) u) more (ran_more (take i calls) c answers a s t u (omega arith) r e))

module _ (K : KindModel) where
  each_empty : {X : Type 0} (n p : ℕ) → get_or (replicate {A = Option X} n None) p None ≡ None
  each_empty zero p = refl
  each_empty (suc n) zero = refl
  each_empty (suc n) (suc p) = each_empty n p

  -- a fresh rack and a blank ledger
  pub start : (n : ℕ) → Stands K (replicate n None) (blank n)
  start n = record { as_many = length-replicate n None ∙ sym (length-replicate n None); each = λ p. agrees_by K None _ None _ (each_empty n p) (each_empty n p) tt }
