use Rattle.std.proofs.Common.{◌≡◌, ◌∙◌, rules, take, map, filter, slice_get}
use Rattle.std.specs.Option.{option_or}
use Rattle.std.proofs.lemmas.Iterator.{YieldsList-from_slice, YieldsList-from_take, YieldsList-from_map}
use Rattle.std.proofs.lemmas.Iterator.Adapters.{option_map_id}
use Rattle.std.proofs.lemmas.Iterator.Consumers.{YieldsList-from_filter, nth_from_yields_List}
use Rattle.loading.proofs.Firsts.{is_primitive, offset_of, excess_first}
use Rattle.loading.proofs.counting.first_excess.Goals as goal

pub returns : goal.returns
returns c =
    let is = c.args.items.now in
    let primitive : c.nth-primitive.result ≡ slice_get (map offset_of (filter is_primitive (take 1023 is))) 170 =
    rw (← option_map_id c.nth-primitive.result) (nth_from_yields_List _ _ 170 c.nth-primitive.ensures.ran
    (YieldsList-from_map _ offset_of (YieldsList-from_filter _ is_primitive (YieldsList-from_take 1023 (YieldsList-from_slice is (cc)) (cc)) (cc) (λ x b q k. search rules)) (cc) (λ x r q k. search rules))) in
    let node : c.nth-node.result ≡ slice_get (map offset_of is) 1023 =
    rw (← option_map_id c.nth-node.result) (nth_from_yields_List _ _ 1023 c.nth-node.ensures.ran
    (YieldsList-from_map _ offset_of (YieldsList-from_slice is (cc)) (cc) (λ x r q k. search rules))) in
    c.or.ensures ∙ (λ i. option_or (primitive i) (node i)) ∙ excess_first 1023 170 is
