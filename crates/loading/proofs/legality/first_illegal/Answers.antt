use Rattle.std.proofs.Common.{◌≡◌, ap, ◌∙◌, rules}
use Rattle.std.specs.Option.{option_map, option_copied}
use Rattle.std.specs.List.{find}
use Rattle.std.proofs.lemmas.Iterator.{YieldsList-from_slice}
use Rattle.std.proofs.lemmas.Iterator.Search.{find_from_yields_List}
use Rattle.loading.proofs.Firsts.{is_illegal, illegal_first, offset_of}
use Rattle.loading.proofs.legality.first_illegal.Goals as goal

pub returns : goal.returns
returns g c =
    let found : option_copied c.find.result ≡ find (is_illegal g.K.Kind.model) c.args.items.now =
    find_from_yields_List (is_illegal g.K.Kind.model) _ _ c.find.result c.find.ensures.ran (YieldsList-from_slice c.args.items.now (cc)) (λ x b q k. search rules) in
    let mapped : c.map.result ≡ option_map offset_of (option_copied c.find.result) = search rules in
    mapped ∙ ap (option_map offset_of) found ∙ illegal_first g.K.Kind.model c.args.items.now
