use Rattle.std.proofs.Common.{◌≡◌, [], ◌++◌, length, sym, ap, ◌∙◌, subst, rules}
use Rattle.std.specs.Ordering.{is_lt}
use Rattle.std.proofs.lemmas.Fn.{always_returns_same}
use Rattle.std.proofs.lemmas.List.MinMax.{ranks_by}
use Rattle.arrayvec.proofs.ArrayVecLemmas.{items-with_items}
use Rattle.algebra.specs.Bag.{count}
use Rattle.algebra.specs.Score.{same_placed}
use Rattle.normal.specs.Placing.{all_placed, AllLegal}
use Rattle.comparing.specs.Order.{any_order, InOrder}
use Rattle.comparing.proofs.AnyOrder.{any_total}
use Rattle.comparing.proofs.Sorts.{bag_sorted, put_alone, in_order}
use Rattle.comparing.proofs.sorted.SortedList.fill.Goals as goal

pub invariant_of-self : goal.invariant_of-self
invariant_of-self g c =
    let K = g.K.Kind.model in
    let order = g.met.K.Kind.lawful.order in
    let none : all_placed c.self.inside.items.items ≡ [] = cc in
    let copied : c.try_extend_from_slice.new.self.items ≡ c.self.inside.items.items ++ c.items.result.now = search rules in
    let given = put_alone c.self.inside.items.items c.items.result.now none (c.deref_mut.ensures.value ∙ copied) in
    let legal = subst (AllLegal K) (sym given) c.items.ensures.legal in
    let up = c.sort_unstable_by.ensures.sorted (λ x y. is_lt (any_order K x y)) (ranks_by (any_total K order) (λ x. x)) (always_returns_same _ _ _ (λ a r f k. search rules)) in
    let kept = items-with_items c.try_extend_from_slice.new.self c.sort_unstable_by.new.self (c.sort_unstable_by.ensures.len ∙ ap length c.deref_mut.ensures.value) in
    subst (λ xs. InOrder K (all_placed xs)) (sym kept) (in_order K order _ _ c.sort_unstable_by.ensures.permutation legal up)

pub returns-clause-bag : goal.returns-clause-bag
returns-clause-bag g c =
    let none : all_placed c.self.inside.items.items ≡ [] = cc in
    let copied : c.try_extend_from_slice.new.self.items ≡ c.self.inside.items.items ++ c.items.result.now = search rules in
    let given = put_alone c.self.inside.items.items c.items.result.now none (c.deref_mut.ensures.value ∙ copied) in
    let kept = items-with_items c.try_extend_from_slice.new.self c.sort_unstable_by.new.self (c.sort_unstable_by.ensures.len ∙ ap length c.deref_mut.ensures.value) in
    λ x. ap (λ xs. count same_placed x (all_placed xs)) kept ∙ bag_sorted _ _ c.sort_unstable_by.ensures.permutation x ∙ ap (count same_placed x) (given ∙ c.items.ensures.placed)

pub returns-clause-order : goal.returns-clause-order
returns-clause-order g c = invariant_of-self g c
