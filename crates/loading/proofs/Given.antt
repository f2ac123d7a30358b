-- What a text gives, from how it is read and what its file gives.
use Rattle.std.proofs.Common.{◌≡◌, ℕ, List, Ok, Err, Result, ◌∙◌, subst}
use Rattle.algebra.specs.Kind.{KindModel}
use Rattle.refusals.specs.declared.refusal.Refusal.{Refusal}
use Rattle.grammar.specs.declared.head.Head.{Head}
use Rattle.grammar.specs.declared.item.Item.{Item}
use Rattle.grammar.specs.Described.{ReadAs}
use Rattle.grammar.specs.Refusals.{Refused}
use Rattle.grammar.specs.Loads.{Loads, file, refused}
use Rattle.loading.specs.declared.checking.Loaded.{Loaded}
use Rattle.loading.specs.Checks.{Checks}
use Rattle.loading.specs.Gives.{Gives}

module _ (K : KindModel) (text : List ℕ) where
  -- the text is refused as no file of the kind
  pub gives_refused : (is : List Item) (name : List ℕ) → name ≡ K.name → (e : Refusal) → Refused name text e → Gives K text is (Err e)
  gives_refused is name named e q = refused (subst (λ n. Refused n text e) named q)

  -- the text is a file of the kind
  pub gives_checked : (name : List ℕ) → name ≡ K.name → (head : Head) (is : List Item) (d : ReadAs name text head is) (r : Result Loaded Refusal) → Checks K d.file is r → Gives K text is r
  gives_checked name named head is d (Ok l) c = record {
    score = d.file.body;
    loads = subst (Loads K text) c.answer (file d.file d.describes.within d.small (d.kind_is ∙ named) d.printed);
    nodes_are = c.nodes_are;
    primitives_are = c.primitives_are;
    laid = c.laid;
    legal = c.legal;
  }
  gives_checked name named head is d (Err e) c = subst (Loads K text) c (file d.file d.describes.within d.small (d.kind_is ∙ named) d.printed)
