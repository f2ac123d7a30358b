-- Numbers in base ten.
use Rattle.std.proofs.Common.{◌≡◌, ℕ, ◌+◌, ◌-◌, ◌*◌, ◌/◌, ◌%◌, ◌^◌, ◌<◌, ◌≤◌, List, [], ◌∷◌, ◌++◌, map, length, get_or, take, drop, decimal, sym, refl, ap, ◌∙◌, subst, ⊎_elim, append_assoc, append-nil, arith}
use mathlib.Core.List.{map-append, append_cancel_left}
use Rattle.std.specs.Char.{digit_value}
use Rattle.std.specs.Int.Digits.{number_from_digits, number_from_digits_after}
use Rattle.std.specs.List.{AllByRecursion}
use Rattle.std.proofs.ByRecursion.{All-append, All-get_or}
use Rattle.std.proofs.lemmas.Grind.{common_steps}
use Rattle.std.proofs.lemmas.Fmt.{decimal_by_steps, decimal_is_IsNumeral, decimal_digit, decimal_step, decimal_nonempty, first_decimal}
use Rattle.std.proofs.lemmas.Int.Digits.{digits_value_is, number_after_append, number_after_ge}
use Rattle.std.proofs.lemmas.List.{take_more, drop_more, drop-drop, drop-append-le, get_or_append_left}
use Rattle.std.proofs.str.Laws.{order}
use Rattle.reading.specs.Languages.{Numeral, Digit, Digits}
use Rattle.reading.proofs.Composition.{opens_agrees}
use Rattle.refusals.specs.declared.refusal.Refusal.{Refusal}
use Rattle.refusals.specs.declared.refusal.Section.{Section}
use Rattle.reading.specs.Taking.{BadDigit}
use Rattle.reading.proofs.Steps.{stopped_here}
use Rattle.reading.proofs.Runs.{same_run, front_run}
use Rattle.reading.specs.Passing.{Opens, NoDigit, Sure, Stuck, Passed, Stopped, Faulty}

pub digits_decimal : (n : ℕ) → n < 2 ^ 64 → AllByRecursion Digit (decimal n)
digits_decimal n h =
    decimal_by_steps (λ n ds. AllByRecursion Digit ds)
    (λ n l. ((omega arith, omega arith), tt))
    (λ n ds l a. All-append Digit ds _ a ((omega arith, omega arith), tt))
    n h

module _ (limit : ℕ) (small : limit < 2 ^ 64) where
  pub numeral_digits : (w : List ℕ) → Numeral limit w → AllByRecursion Digit w
  numeral_digits w h = subst (AllByRecursion Digit) (sym h.2) (digits_decimal h.0 (omega (arith, h.1)))

  -- a run that no digit follows is the only number that the text begins with
  pub numeral_sure : (w t : List ℕ) → Numeral limit w → Opens NoDigit t → Sure (Numeral limit) NoDigit w t
  numeral_sure w t is o = λ v z x a n oz e. same_run Digit w x v z (numeral_digits w is) (numeral_digits v n) (opens_agrees NoDigit t x a o) oz e

-- more digits make no smaller number
pub front_le : (m n : ℕ) (x : List ℕ) → m < 2 ^ 64 → n < 2 ^ 64 → decimal n ≡ decimal m ++ x → m ≤ n
front_le m n x a b e =
    let at : (k : ℕ) → k < 2 ^ 64 → number_from_digits 10 (map digit_value (decimal k)) ≡ k = λ k h. sym (digits_value_is 10 (decimal k)) ∙ (decimal_is_IsNumeral k h).1 in
    let long : number_from_digits 10 (map digit_value (decimal n)) ≡ number_from_digits_after 10 (number_from_digits 10 (map digit_value (decimal m))) (map digit_value x) =
    ap (λ l. number_from_digits 10 (map digit_value l)) e ∙ ap (number_from_digits 10) (map-append digit_value (decimal m) x) ∙ number_after_append 10 0 (map digit_value (decimal m)) (map digit_value x) in
    omega (arith, at m a, at n b, long, number_after_ge 10 (number_from_digits 10 (map digit_value (decimal m))) (map digit_value x) (omega arith))

-- the first i digits are read, and make v
pub record Sofar (limit : ℕ) (ds : List ℕ) (i v : ℕ) : Type 0 where
  pub none : i ≡ 0 → v ≡ 0
  pub some : 0 < i → take i ds ≡ decimal v
  pub below : v ≤ limit

pub start : (limit : ℕ) (ds : List ℕ) → Sofar limit ds 0 0
start limit ds = record { none = λ e. refl; some = λ h. absurd (omega arith); below = omega arith }

module _ (limit : ℕ) (small : limit < 2 ^ 32) (ds : List ℕ) (digits : AllByRecursion Digit ds) (i v : ℕ) (in' : i < length ds) (so : Sofar limit ds i v) where
  digit_here : Digit (get_or ds i 0)
  digit_here = All-get_or Digit ds i 0 in' digits

  -- one digit more, where the number so far is not 0
  pub grown : (0 < i → 0 < v) → take (i + 1) ds ≡ decimal (v * 10 + (get_or ds i 0 - 48))
  grown h =
      let d = digit_here in
      ⊎_elim
      (λ pos.
      let some : 0 < v = h pos in
      let big : 10 ≤ v * 10 + (get_or ds i 0 - 48) = omega arith in
      let quotient : (v * 10 + (get_or ds i 0 - 48)) / 10 ≡ v = omega arith in
      let digit : 48 + (v * 10 + (get_or ds i 0 - 48)) % 10 ≡ get_or ds i 0 = omega arith in
      take_more ds i 0 in' ∙ (λ k. so.some pos k ++ (get_or ds i 0 ∷ [])) ∙
      sym (decimal_step _ big (omega (arith, so.below)) ∙ (λ k. decimal (quotient k) ++ (digit k ∷ []))))
      (λ zero.
      let v0 : v ≡ 0 = so.none (omega arith) in
      let i0 : i ≡ 0 = omega arith in
      let digit : 48 + (v * 10 + (get_or ds i 0 - 48)) ≡ get_or ds i 0 = omega arith in
      take_more ds i 0 in' ∙ (λ k. take (i0 k) ds ++ (get_or ds i 0 ∷ [])) ∙
      sym (decimal_digit _ (omega arith) ∙ (λ k. digit k ∷ [])))
      (order 0 i)

  pub step : (0 < i → 0 < v) → (w : ℕ) → w ≡ v * 10 + (get_or ds i 0 - 48) → w ≤ limit → Sofar limit ds (i + 1) w
  step h w e le = record { none = λ e. absurd (omega arith); some = λ _. grown h ∙ ap decimal (sym e); below = le }

  refuse : (more : List ℕ) → Numeral limit (take i ds ++ more) → ((u z x : List ℕ) → Numeral limit u → Opens NoDigit z → take i ds ++ (get_or ds i 0 ∷ x) ≡ u ++ z → ⊥) → Stopped (Numeral limit) NoDigit ds 0 i
  refuse more begun stuck = grind (arith, common_steps)

  begun : (more : List ℕ) × Numeral limit (take i ds ++ more)
  begun =
      ⊎_elim
      (λ pos. ([], (v, so.below, append-nil (take i ds) ∙ so.some pos)))
      (λ zero. let i0 : i ≡ 0 = omega arith in (decimal 0, (0, omega arith, λ k. take (i0 k) ds ++ decimal 0)))
      (order 0 i)

  pub past_limit : (0 < i → 0 < v) → limit < v * 10 + (get_or ds i 0 - 48) → Stopped (Numeral limit) NoDigit ds 0 i
  past_limit h gt =
      let d = digit_here in
      refuse begun.0 begun.1 (λ u z more n oz e.
      let next : take i ds ++ (get_or ds i 0 ∷ []) ≡ decimal (v * 10 + (get_or ds i 0 - 48)) = sym (take_more ds i 0 in') ∙ grown h in
      let e' : decimal (v * 10 + (get_or ds i 0 - 48)) ++ more ≡ decimal n.0 ++ z =
      ap (λ l. l ++ more) (sym next) ∙ append_assoc (take i ds) (get_or ds i 0 ∷ []) more ∙ e ∙ ap (λ l. l ++ z) n.2 in
      let fits : v * 10 + (get_or ds i 0 - 48) < 2 ^ 64 = omega (arith, so.below) in
      let r = front_run Digit _ more (decimal n.0) z (digits_decimal _ fits) oz e' in
      omega (arith, n.1, front_le _ n.0 r.0 fits (omega (arith, n.1)) r.1))

  pub leading_zero : 0 < i → v ≡ 0 → Stopped (Numeral limit) NoDigit ds 0 i
  leading_zero pos v0 =
      let zero : take i ds ≡ 48 ∷ [] = so.some pos ∙ ap decimal v0 ∙ decimal_digit 0 (omega arith) in
      refuse begun.0 begun.1 (λ u z more n oz e.
      let e' : 48 ∷ (get_or ds i 0 ∷ more) ≡ decimal n.0 ++ z =
      ap (λ l. l ++ (get_or ds i 0 ∷ more)) (sym zero) ∙ e ∙ ap (λ l. l ++ z) n.2 in
      let n64 : n.0 < 2 ^ 64 = omega (arith, n.1) in
      let first : 48 ≡ get_or (decimal n.0) 0 0 = ap (λ l. get_or l 0 0) e' ∙ get_or_append_left (decimal n.0) z 0 0 (decimal_nonempty n.0 n64) in
      ⊎_elim
      (λ p. omega (arith, first, first_decimal n.0 p n64))
      (λ q.
      let n0 : n.0 ≡ 0 = omega arith in
      let rest : get_or ds i 0 ∷ more ≡ z = append_cancel_left (48 ∷ []) _ _ (e' ∙ ap (λ k. decimal k ++ z) n0 ∙ ap (λ l. l ++ z) (decimal_digit 0 (omega arith))) in
      subst (Opens NoDigit) (sym rest) oz digit_here)
      (order 0 n.0))

-- what a run of digits says of the text that it stands in
module _ (limit : ℕ) (small : limit < 2 ^ 32) {ds text : List ℕ} {from to : ℕ} (run : Passed Digits NoDigit ds text from to) (ends : Opens NoDigit (drop to text)) where
  pub number_passed : (n : ℕ) → n ≤ limit → ds ≡ decimal n → Passed (Numeral limit) NoDigit (decimal n) text from to
  number_passed n le e =
      subst (λ w. Passed (Numeral limit) NoDigit w text from to) e (record {
        moved = run.moved;
        within = run.within;
        is = (n, le, e);
        split = run.split;
        sure = numeral_sure limit (omega arith) ds (drop to text) (n, le, e) ends;
      })

  pub number_stopped : (k : ℕ) → k < length ds → Stopped (Numeral limit) NoDigit ds 0 k → Stopped (Numeral limit) NoDigit text from (from + k)
  number_stopped k lt r =
      let at : drop (from + k) text ≡ drop k ds ++ drop to text =
      sym (drop-drop k from text) ∙ ap (drop k) run.split ∙ drop-append-le k ds (drop to text) (omega arith) in
      let next : drop k ds ≡ get_or ds k 0 ∷ drop (k + 1) ds = drop_more ds k 0 lt in
      record {
        after = omega arith;
        within = omega (arith, run.moved, run.within);
        front = r.front;
        split = run.split ∙ ap (λ l. l ++ drop to text) r.split ∙ append_assoc r.front (drop k ds) (drop to text) ∙ ap (λ l. r.front ++ l) (sym at);
        more = r.more;
        begun = r.begun;
        stuck = subst (Stuck (Numeral limit) NoDigit r.front) (ap (λ l. l ++ drop to text) (sym next) ∙ sym at) (subst (Stuck (Numeral limit) NoDigit r.front) next r.stuck);
      }

  pub number_none : length ds ≡ 0 → Stopped (Numeral limit) NoDigit text from from
  number_none none =
      let same : to ≡ from = omega (arith, run.moved) in
      stopped_here (Numeral limit) NoDigit text from (omega (arith, run.within)) (decimal 0) (0, omega arith, refl) (λ n. omega (arith, ap length n.2, decimal_nonempty n.0 (omega (arith, n.1))))
      (λ lt u z more n oz e.
      let n64 : n.0 < 2 ^ 64 = omega (arith, n.1) in
      let here : get_or text from 0 ≡ get_or (decimal n.0) 0 0 =
      ap (λ l. get_or l 0 0) (e ∙ ap (λ l. l ++ z) n.2) ∙ get_or_append_left (decimal n.0) z 0 0 (decimal_nonempty n.0 n64) in
      let digit : Digit (get_or text from 0) =
      subst Digit (sym here) (All-get_or Digit (decimal n.0) 0 0 (decimal_nonempty n.0 n64) (digits_decimal n.0 n64)) in
      subst (Opens NoDigit) (ap (λ i. drop i text) same ∙ drop_more text from 0 lt) ends digit)

  pub number_fault : (section : Section) (e : Refusal) → BadDigit limit ds from section e → Faulty (Numeral limit) NoDigit text from section e
  number_fault section e b = record { offset = from + b.index; is = b.is; stopped = number_stopped b.index b.inside b.stopped }
