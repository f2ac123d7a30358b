-- Each call leaves the rack as the ledger that is kept of it says.
use Rattle.std.proofs.Common.{◌≡◌, ℕ, ◌<◌, Bool, true, false, leb, List, [], ◌∷◌, length, set, is_some, Some, None, Ok, Err, Option, Result, sym, refl, ap, ◌∙◌, subst, inl, inr, arith}
use Rattle.std.proofs.lemmas.Bool.{cases_eq}
use Rattle.std.proofs.lemmas.List.{length-set, get_or-set_same, get_or-set_other}
use Rattle.refusals.specs.declared.refusal.Refusal.{Refusal}
use Rattle.algebra.specs.Kind.{KindModel, KindLaws}
use Rattle.algebra.specs.Score.{Score, Score.rest}
use Rattle.algebra.specs.Cuts.{taken, dropped, reversed}
use Rattle.algebra.specs.Normal.{normal}
use Rattle.algebra.specs.Limits.{Fits}
use Rattle.grammar.specs.Loads.{Loads}
use Rattle.grammar.proofs.Standing.{one_answer, read_exactly}
use Rattle.rack.specs.Shelves.{Shelf, at, score_held}
use Rattle.refusals.specs.Checks.{Check, passed, unless}
use Rattle.building.specs.Sizes.{limits}
use Rattle.rack.specs.Checks.{known, holding, vacant}
use Rattle.rack.specs.Calls.{put, cleared, clear_answer, file_check, score_read, load_answer}
use Rattle.rack.specs.Building.{rest_answer, joinable, joined_at, join_answer, makeable, make_answer}
use Rattle.building.specs.Rows.{score_in}
use Rattle.building.specs.Steps.{step_named, step_checks, stepped}
use Rattle.rack.specs.Steps.{stepped_at, rewritable, steppable, rewrite_answer}
use Rattle.nodes.specs.declared.join.Join.{Join}
use Rattle.nodes.specs.declared.join.Join.TheVariants as join
use Rattle.ledger.specs.declared.call.Call.{Call}
use Rattle.ledger.specs.declared.call.Call.TheVariants as call
use Rattle.ledger.specs.Answers.{Answer, refused, done_of}
use Rattle.ledger.specs.Ledgers.{Page, Ledger, page, load_page, rest_page, sequence_page, parallel_page, reverse_page, take_page, drop_page, normal_page, rescored, from_one, from_two, Accepted, Entered}
use Rattle.ledger.specs.Runs.{RendererAt, State, Gave, shelved, Puts, Did}
use Rattle.ledger.specs.Stands.{Holds, Agrees, Stands}
use Rattle.ledger.proofs.Passing.{all_split, all_parts, unless_true, known_below, holding_some, within_short, within_limits}
use Rattle.ledger.proofs.Pages.{load_holds, rest_holds, sequence_holds, parallel_holds, normal_holds, rewrite_agrees, reverse_holds, take_holds, drop_holds}

module _ (K : KindModel) where
  pub agrees_by : (o o' : Option Score) (q q' : Option Page) → o' ≡ o → q' ≡ q → Agrees K o q → Agrees K o' q'
  agrees_by o o' q q' e f h = subst (λ (x : Option Score). Agrees K x q') (sym e) (subst (λ (y : Option Page). Agrees K o y) (sym f) h)

  -- one place and its page written anew
  stands_set : (shelf : Shelf) (l : Ledger) → Stands K shelf l → (p : ℕ) (o : Option Score) (q : Option Page) → p < length shelf → Agrees K o q
      → Stands K (set shelf p o) (set l p q)
  stands_set shelf l st p o q h a = record {
    as_many = length-set l p q ∙ st.as_many ∙ sym (length-set shelf p o);
    each = λ k. elim (cases_eq k p) [
      | inl e ↦ subst (λ (n : ℕ). Agrees K (at (set shelf p o) n) (page (set l p q) n)) (sym e)
          (agrees_by o _ q _ (get_or-set_same shelf p o None h) (get_or-set_same l p q None (omega (arith, st.as_many))) a)
      | inr ne ↦ agrees_by (at shelf k) _ (page l k) _ (get_or-set_other shelf p k o None ne) (get_or-set_other l p k q None ne) (st.each k)
    ];
  }

  -- the page of a place that holds a score
  pub record Found (o : Option Score) (q : Option Page) : Type 0 where
    pub it : Page
    pub is : q ≡ Some it
    pub holds : Holds K (score_in o) it

  found : (o : Option Score) (q : Option Page) → Agrees K o q → is_some o ≡ true → Found o q
  found None q a h = absurd (grind arith)
  found (Some s) None a h = absurd a
  found (Some s) (Some p) a h = record { it = p; is = refl; holds = a }

  module _ (shelf : Shelf) (l : Ledger) (st : Stands K shelf l) where
    pub source : (p : ℕ) → holding shelf p ≡ passed → Found (at shelf p) (page l p)
    source p h = found (at shelf p) (page l p) (st.each p) (holding_some shelf p h)

    -- a call that puts a score at a place, where it is not refused
    placed_anew : (to : ℕ) (s : Score) (q : Option Page) (m : Ledger) → to < length shelf → Agrees K (Some s) q → m ≡ set l to q → Stands K (set shelf to (Some s)) m
    placed_anew to s q m h a e = subst (Stands K (set shelf to (Some s))) (sym e) (stands_set shelf l st to (Some s) q h a)

    load_step : (text : List ℕ) (given : Result Score Refusal) → Loads K text given → (to : ℕ) → load_answer given shelf to ≡ passed
        → (s : Score) → Loads K text (Ok s) → (m : Ledger) → m ≡ set l to (Some (load_page K s)) → Stands K (set shelf to (Some (score_read given))) m
    load_step text given g to h s k m e =
        let same = one_answer K text given (Ok s) g k in
        let a = all_split (file_check given) (known shelf to ∷ vacant shelf to ∷ []) h in
        let b = all_split (known shelf to) (vacant shelf to ∷ []) a.1 in
        subst (λ r. Stands K (set shelf to (Some (score_read r))) m) (sym same)
        (placed_anew to s (Some (load_page K s)) m (known_below shelf to b.0) (load_holds K s (read_exactly K text s k).0) e)

    rest_step : (to d : ℕ) → rest_answer shelf to d ≡ passed → (m : Ledger) → m ≡ set l to (Some (rest_page d)) → Stands K (set shelf to (Some (rest d))) m
    rest_step to d h m e =
        let a = all_split (unless (leb d 16777215) _) (known shelf to ∷ vacant shelf to ∷ []) h in
        let b = all_split (known shelf to) (vacant shelf to ∷ []) a.1 in
        placed_anew to (rest d) (Some (rest_page d)) m (known_below shelf to b.0)
        (rest_holds K d (record { few_nodes = omega arith; few_primitives = omega arith; short = within_short d _ a.0 })) e

    -- a join, by what its page is
    join_step : (j : Join) (make : Page → Page → Page) (to x y : ℕ)
        → ((p q : Page) → Holds K (score_held shelf x) p → Holds K (score_held shelf y) q → Fits K (joined_at j shelf x y) → Holds K (joined_at j shelf x y) (make p q))
        → join_answer K j shelf to x y ≡ passed → (m : Ledger) → m ≡ set l to (from_two make (page l x) (page l y)) → Stands K (set shelf to (Some (joined_at j shelf x y))) m
    join_step j make to x y holds h m e =
        let c = all_parts (joinable shelf to x y) (limits K (joined_at j shelf x y)) h in
        let u = all_split (known shelf to) _ c.0 in
        let v = all_split (known shelf x) _ u.1 in
        let w = all_split (known shelf y) _ v.1 in
        let a = all_split (holding shelf x) _ w.1 in
        let b = all_split (holding shelf y) _ a.1 in
        let p = source x a.0 in
        let q = source y b.0 in
        let is : from_two make (page l x) (page l y) ≡ Some (make p.it q.it) = ap (λ z. from_two make z (page l y)) p.is ∙ ap (from_one (λ z. Some (make p.it z))) q.is in
        placed_anew to (joined_at j shelf x y) (Some (make p.it q.it)) m (known_below shelf to u.0)
        (holds p.it q.it p.holds q.holds (within_limits K (joined_at j shelf x y) c.1)) (e ∙ ap (set l to) is)

    -- a score made of the one at a place, by what its page is
    make_step : (result : Score) (make : Page → Page) (to x : ℕ)
        → ((p : Page) → Holds K (score_held shelf x) p → Fits K result → Holds K result (make p))
        → make_answer K shelf to x result ≡ passed → (m : Ledger) → m ≡ set l to (from_one (λ p. Some (make p)) (page l x)) → Stands K (set shelf to (Some result)) m
    make_step result make to x holds h m e =
        let c = all_parts (makeable shelf to x) (limits K result) h in
        let u = all_split (known shelf to) _ c.0 in
        let v = all_split (known shelf x) _ u.1 in
        let a = all_split (holding shelf x) _ v.1 in
        let p = source x a.0 in
        placed_anew to result (Some (make p.it)) m (known_below shelf to u.0) (holds p.it p.holds (within_limits K result c.1))
        (e ∙ ap (λ z. set l to (from_one (λ p. Some (make p)) z)) p.is)

    some_score : (o : Option Score) → is_some o ≡ true → o ≡ Some (score_in o)
    some_score None h = absurd (grind arith)
    some_score (Some s) h = refl

    rewrite_step : (place node rule way split : ℕ) → rewrite_answer K shelf place node rule way split ≡ passed → (m : Ledger)
        → m ≡ set l place (from_one (λ p. rescored p (stepped K (step_named rule way split) node p.score)) (page l place))
        → Stands K (set shelf place (Some (score_in (stepped_at K shelf place node (step_named rule way split))))) m
    rewrite_step place node rule way split h m e =
        let step = step_named rule way split in
        let result = stepped_at K shelf place node step in
        let c = all_parts (step_checks rule way split) _ h in
        let d = all_parts (rewritable shelf place node) (steppable K node result) c.1 in
        let u = all_split (known shelf place) _ d.0 in
        let a = all_split (holding shelf place) _ u.1 in
        let f = all_split (unless (is_some result) _) (limits K (score_in result)) d.1 in
        let p = source place a.0 in
        let is = some_score result (unless_true (is_some result) _ f.0) in
        placed_anew place (score_in result) (rescored p.it (stepped K step node p.it.score)) m (known_below shelf place u.0)
        (rewrite_agrees K step node (score_held shelf place) (score_in result) p.it p.holds is (within_limits K (score_in result) f.1))
        (e ∙ ap (λ z. set l place (from_one (λ p. rescored p (stepped K step node p.score)) z)) p.is)

    clear_step : (p : ℕ) → clear_answer shelf p ≡ passed → (m : Ledger) → m ≡ set l p None → Stands K (set shelf p None) m
    clear_step p h m e =
        let a = all_split (known shelf p) (holding shelf p ∷ []) h in
        subst (Stands K (set shelf p None)) (sym e) (stands_set shelf l st p None None (known_below shelf p a.0) tt)

  -- a call that puts a score at a place, refused or not
  module _ {P : Type 0} (call : Call) (s t : State P) (a : Answer) (l m : Ledger) (st : Stands K s.shelf l) where
    by_check : (r : Check) (shelf : Shelf) → shelf ≡ t.shelf → a ≡ done_of r → (r ≡ passed → Accepted K call l m → Stands K shelf m) → ((e : Refusal) → r ≡ Err e → shelf ≡ s.shelf)
        → Entered K call (refused a) l m → Stands K t.shelf m
    by_check (Ok u) shelf is e f g h = subst (λ z. Stands K z m) is (f refl (subst (λ z. Entered K call (refused z) l m) e h))
    by_check (Err why) shelf is e f g h =
        let same : m ≡ l = subst (λ z. Entered K call (refused z) l m) e h in
        subst (λ z. Stands K z m) is (subst (λ z. Stands K z m) (sym (g why refl)) (subst (Stands K s.shelf) (sym same) st))

    puts : (r : Check) (to : ℕ) (score : Score) → Puts s r to score a t → (r ≡ passed → Accepted K call l m → Stands K (set s.shelf to (Some score)) m) → Entered K call (refused a) l m → Stands K t.shelf m
    puts r to score p f h = by_check r (put r s.shelf to score) (sym (ap (λ z. z.shelf) p.state_is)) p.answer_is (λ e k. subst (λ z. Stands K (put z s.shelf to score) m) (sym e) (f e k)) (λ e k. ap (λ z. put z s.shelf to score) k) h

    clears : (r : Check) (place : ℕ) → Gave (done_of r) (shelved s (cleared r s.shelf place)) a t → (r ≡ passed → Accepted K call l m → Stands K (set s.shelf place None) m) → Entered K call (refused a) l m → Stands K t.shelf m
    clears r place p f h = by_check r (cleared r s.shelf place) (sym (ap (λ z. z.shelf) p.state_is)) p.answer_is (λ e k. subst (λ z. Stands K (cleared z s.shelf place) m) (sym e) (f e k)) (λ e k. ap (λ z. cleared z s.shelf place) k) h

    -- a call that alters no page and no place
    looks : (b : Bool) → t.shelf ≡ s.shelf → (Accepted K call l m → m ≡ l) → Entered K call b l m → Stands K t.shelf m
    looks true e f h = subst (λ z. Stands K z m) (sym e) (subst (Stands K s.shelf) (sym h) st)
    looks false e f h = subst (λ z. Stands K z m) (sym e) (subst (Stands K s.shelf) (sym (f h)) st)

  module _ {P : Type 0} (R : RendererAt P) (laws : KindLaws K) (s t : State P) (a : Answer) (l m : Ledger) (st : Stands K s.shelf l) where
    pub step : (c : Call) → Did K R s c a t → Entered K c (refused a) l m → Stands K t.shelf m
    step (call.Load to text) (given, g, p) h =
        puts (call.Load to text) s t a l m st (load_answer given s.shelf to) to (score_read given) p (λ e k. load_step s.shelf l st text.now given g to e k.0 k.1 m k.2) h
    step (call.Rest to ticks) p h = puts (call.Rest to ticks) s t a l m st (rest_answer s.shelf to ticks) to (rest ticks) p (λ e k. rest_step s.shelf l st to ticks e m k) h
    step (call.JoinSequence to x y) p h =
        puts (call.JoinSequence to x y) s t a l m st (join_answer K join.Sequence s.shelf to x y) to (joined_at join.Sequence s.shelf x y) p
        (λ e k. join_step s.shelf l st join.Sequence sequence_page to x y (λ p q. sequence_holds K (score_held s.shelf x) (score_held s.shelf y) p q) e m k) h
    step (call.JoinParallel to x y) p h =
        puts (call.JoinParallel to x y) s t a l m st (join_answer K join.Parallel s.shelf to x y) to (joined_at join.Parallel s.shelf x y) p
        (λ e k. join_step s.shelf l st join.Parallel parallel_page to x y (λ p q. parallel_holds K (score_held s.shelf x) (score_held s.shelf y) p q) e m k) h
    step (call.Reverse to x) p h =
        let r = reversed K (score_held s.shelf x) in
        puts (call.Reverse to x) s t a l m st (make_answer K s.shelf to x r) to r p (λ e k. make_step s.shelf l st r (reverse_page K) to x (reverse_holds K laws (score_held s.shelf x)) e m k) h
    step (call.Take to x ticks) p h =
        let r = taken K ticks (score_held s.shelf x) in
        puts (call.Take to x ticks) s t a l m st (make_answer K s.shelf to x r) to r p (λ e k. make_step s.shelf l st r (take_page K ticks) to x (take_holds K laws ticks (score_held s.shelf x)) e m k) h
    step (call.Drop to x ticks) p h =
        let r = dropped K ticks (score_held s.shelf x) in
        puts (call.Drop to x ticks) s t a l m st (make_answer K s.shelf to x r) to r p (λ e k. make_step s.shelf l st r (drop_page K ticks) to x (drop_holds K laws ticks (score_held s.shelf x)) e m k) h
    step (call.Normalise to x) p h =
        let r = normal K (score_held s.shelf x) in
        puts (call.Normalise to x) s t a l m st (make_answer K s.shelf to x r) to r p (λ e k. make_step s.shelf l st r (normal_page K) to x (normal_holds K (score_held s.shelf x)) e m k) h
    step (call.Rewrite place node rule way split) p h =
        puts (call.Rewrite place node rule way split) s t a l m st (rewrite_answer K s.shelf place node rule way split) place (score_in (stepped_at K s.shelf place node (step_named rule way split))) p
        (λ e k. rewrite_step s.shelf l st place node rule way split e m k) h
    step (call.Clear place) p h = clears (call.Clear place) s t a l m st (clear_answer s.shelf place) place p (λ e k. clear_step s.shelf l st place e m k) h
    step (call.Tell place) p h = looks (call.Tell place) s t a l m st (refused a) (ap (λ z. z.shelf) p.state_is) (λ k. k) h
    step (call.Write place) p h = looks (call.Write place) s t a l m st (refused a) (ap (λ z. z.shelf) p.state_is) (λ k. k) h
    step (call.Compare x y) p h = looks (call.Compare x y) s t a l m st (refused a) (ap (λ z. z.shelf) p.state_is) (λ k. k) h
    step (call.WriteNormal place model) p h = looks (call.WriteNormal place model) s t a l m st (refused a) (ap (λ z. z.shelf) p.state_is) (λ k. k) h
    step (call.Draw place) p h = looks (call.Draw place) s t a l m st (refused a) (ap (λ z. z.shelf) p.state_is) (λ k. k) h
