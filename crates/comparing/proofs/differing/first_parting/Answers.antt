use Rattle.std.proofs.Common.{◌≡◌, drop, sym, ap, ◌∙◌, arith, rules}
use Rattle.std.specs.Iterator.Adapters.{zip_first, zip_second}
use Rattle.std.specs.List.{slice_get}
use Rattle.std.specs.Option.{option_or, option_copied}
use Rattle.std.specs.Slice.Iter.{iter_rest}
use Rattle.std.proofs.lemmas.Grind.{common_steps}
use Rattle.std.proofs.lemmas.Option.{gets}
use Rattle.std.proofs.lemmas.Slice.Zip.{zip_end, Zip-so_far}
use Rattle.normal.specs.Placing.{all_placed}
use Rattle.comparing.specs.Comparisons.{found, parting}
use Rattle.comparing.proofs.Ends.{copied_or, ended}
use Rattle.comparing.proofs.differing.first_parting.Goals as goal

pub returns : goal.returns
returns g c =
    let K = g.K.Kind.model in
    let left = c.items-left.result.now in
    let right = c.items-right.result.now in
    let n = c.min-shared.result in
    let s = c.into_iter-x-iterator.result in
    let t = c.loop-x.x-iterator in
    let first : iter_rest (zip_first s) ≡ left = search rules in
    let second : iter_rest (zip_second s) ≡ right = search rules in
    let so_far = Zip-so_far c.loop-x.yielded s t c.loop-x.yielded_by in
    let long = zip_end left right c.loop-x.yielded s t c.next.new.self c.next.result first second c.loop-x.yielded_by c.in-None.is c.next.ensures.steps in
    let same = long ∙ sym c.min-shared.ensures in
    let a : option_copied c.get.result ≡ slice_get left n = grind (arith, common_steps, gets) in
    let b : option_copied c.get-2.result ≡ slice_get right n = grind (arith, common_steps, gets) in
    let there = ap found (c.copied.ensures ∙ ap option_copied c.or.ensures ∙ copied_or c.get.result c.get-2.result ∙ (λ i. option_or (a i) (b i))) in
    let x = so_far.0 ∙ (λ i. drop (same i) (first i)) in
    let y = so_far.1 ∙ (λ i. drop (same i) (second i)) in
    there ∙ ended K n left right c.min-shared.ensures ∙ (λ i. parting K (all_placed (sym x i)) (all_placed (sym y i))) ∙ c.loop-x.invariant.same
