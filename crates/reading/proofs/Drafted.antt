-- What stands in a draft after a pair.
use Rattle.std.proofs.Common.{◌≡◌, ℕ, zero, suc, List, [], ◌∷◌, ◌++◌, length, take, refl, ap, ◌∙◌, append_assoc}
use Rattle.algebra.specs.declared.numbers.Numbers.{Numbers}
use Rattle.algebra.specs.declared.node.Node.{Node}
use Rattle.algebra.specs.declared.node.Node.TheVariants.{Sequence}
use Rattle.grammar.specs.declared.item.Item.{Item}
use Rattle.grammar.specs.Items.{item}
use Rattle.grammar.specs.Drafts.{with_node}

-- what is past the room does not matter
pub take_join : {X : Type 0} (n : ℕ) (xs ys : List X) → take n (take n xs ++ ys) ≡ take n (xs ++ ys)
take_join zero xs ys = refl
take_join (suc n) [] ys = refl
take_join (suc n) (x ∷ xs) ys = ap (λ l. x ∷ l) (take_join n xs ys)

pub node_set : (n : ℕ) (xs : List Item) (x : Item) (ys : List Item) (node : Node Numbers) → with_node (take n (xs ++ (x ∷ ys))) (length xs) node ≡ take n (xs ++ (item node x.offset ∷ ys))
node_set zero [] x ys node = refl
node_set zero (y ∷ xs) x ys node = refl
node_set (suc n) [] x ys node = refl
node_set (suc n) (y ∷ xs) x ys node = ap (λ l. y ∷ l) (node_set n xs x ys node)

-- the items of a pair, which are put in one after the other
pub pair_drafted : (n : ℕ) (d₀ d₁ d₂ d₃ d₄ left right : List Item) (offset : ℕ) (node : Node Numbers) → d₁ ≡ take n (d₀ ++ (item Sequence offset ∷ [])) → d₂ ≡ take n (d₁ ++ left) → d₃ ≡ with_node d₂ (length d₀) node → d₄ ≡ take n (d₃ ++ right) → d₄ ≡ take n (d₀ ++ (item node offset ∷ (left ++ right)))
pair_drafted n d₀ d₁ d₂ d₃ d₄ left right offset node e₁ e₂ e₃ e₄ =
    let x = item Sequence offset in
    let y = item node offset in
    let two : d₂ ≡ take n (d₀ ++ (x ∷ left)) =
    e₂ ∙ ap (λ l. take n (l ++ left)) e₁ ∙ take_join n (d₀ ++ (x ∷ [])) left ∙ ap (take n) (append_assoc d₀ (x ∷ []) left) in
    let three : d₃ ≡ take n (d₀ ++ (y ∷ left)) = e₃ ∙ ap (λ l. with_node l (length d₀) node) two ∙ node_set n d₀ x left node in
    e₄ ∙ ap (λ l. take n (l ++ right)) three ∙ take_join n (d₀ ++ (y ∷ left)) right ∙ ap (take n) (append_assoc d₀ (y ∷ left) right)
